-- A place in a table's sequence of codes, as the code keeps it, and the codes that are to come from there.
use Rattle.std.specs.Prelude.{◌≡◌, List, [], ◌++◌, ℕ, ◌+◌, ◌-◌, ◌≤◌, min, ltb, eqb, length, get_or, replicate, ℤ}
use Rattle.base.specs.Pick.{pick}
use Rattle.base.specs.InTurn.{in_turn}
use Rattle.waveform.specs.declared.Group.{Group}
use Rattle.waveform.specs.declared.Place.{Place}
use Rattle.waveform.specs.declared.Supply.{Supply}
use Rattle.waveform.specs.Tables.{running}
use Rattle.waveform.specs.Frames.{blank, phase_codes, round_codes, group_codes, beside_frames}

-- the frames of a table under a supply, by rule 2
abbrev pub beside_under : Supply → List Group → List Group → List ℤ
beside_under s table vcom = beside_frames s.levels s.frame_ns s.positive_drives_black table vcom

-- group k of those that run
abbrev pub group_at : List Group → ℕ → Group
group_at table k = get_or (running table) k blank

-- ---- places
-- a phase of group k at its start, with so many rounds of the group after this one
abbrev pub place_at : List Group → ℕ → ℕ → ℕ → Place
place_at table k rounds phase = record {
  group = k;
  rounds = rounds;
  phase = phase;
  code = get_or (group_at table k).codes phase 0;
  left = get_or (group_at table k).frames phase 0;
}

-- the first phase of group k, or the table's end
unfoldable pub start_at : List Group → ℕ → Place
start_at table k =
    pick (ltb k (length (running table))) (place_at table k ((group_at table k).repeats - 1) 0)
    (record { group = k; rounds = 0; phase = 4; code = 0; left = 0 })

-- the phase after a place's
unfoldable pub next_place : List Group → Place → Place
next_place table p =
    pick (ltb p.phase 3) (place_at table p.group p.rounds (p.phase + 1))
    (pick (ltb 0 p.rounds) (place_at table p.group (p.rounds - 1) 0) (start_at table (p.group + 1)))

-- ---- codes
-- list k, then the next, up to list n - 1
abbrev pub turns_from : {A : Type 0} → ℕ → ℕ → (ℕ → List A) → List A
turns_from k n f = in_turn (n - k) (λ i. f (k + i))

-- those of the phases, the rounds and the groups after a place's phase
abbrev pub codes_after : List Group → Place → List ℕ
codes_after table p =
    turns_from (p.phase + 1) 4 (phase_codes (group_at table p.group)) ++
    (in_turn p.rounds (λ i. round_codes (group_at table p.group)) ++
    turns_from (p.group + 1) (length (running table)) (λ k. group_codes (group_at table k)))

-- and before them what is left of the phase
abbrev pub codes_from : List Group → Place → List ℕ
codes_from table p = replicate p.left p.code ++ codes_after table p

-- no code is to come, and the level is 0
abbrev pub AtEnd : List Group → Place → Type 0
AtEnd table p = (p.code ≡ 0) × (codes_from table p ≡ [])

-- past the groups that run is the table's end
abbrev pub Placed : List Group → Place → Type 0
Placed table p = length (running table) ≤ p.group → AtEnd table p

-- p stands before the codes xs, in a phase that has a frame to come unless the table has ended
pub record Stands (table : List Group) (p : Place) (xs : List ℕ) : Type 0 where
  pub codes : codes_from table p ≡ xs
  pub placed : Placed table p
  pub settled : p.left ≡ 0 → AtEnd table p

-- the frames over which neither of two codes changes, the second of which may have ended
unfoldable pub common_run : Place → Place → ℕ
common_run p v = pick (eqb v.left 0) p.left (min p.left v.left)

-- Demand 3: lists of calls after an accepted making, their places, what the walk is fed of them, and the claim.
use Rattle.std.specs.Prelude.{◌≡◌, Bool, true, false, not, ◌||◌, List, [], ◌∷◌, ◌↔◌, ℕ, ◌*◌, ◌-◌, ◌≤◌, ◌<◌, eqb, ℤ, pos, ◌-ℤ◌, ◌≤ℤ◌, length, get_or, take, drop}
use Rattle.base.specs.Integer.{up}
use Rattle.base.specs.Pick.{pick}
use Rattle.config.specs.declared.Uc8253Config.{Uc8253Config}
use Rattle.glass.specs.Walk.{walk, highest, lowest, Coalesces}
use Rattle.controller.specs.World.{World, Buffers, world}
use Rattle.controller.specs.TurnedBack.{making_refused}
use Rattle.controller.specs.Calls.{made}
use Rattle.walk.specs.Machine.{Fed, fresh, ran, frames_fed}
use Rattle.controller.specs.Ask.{Ask, IsByte, did, refused_by, writes}

-- a call of the list: its kind and arguments, and the buffers that it is lent
pub record Call : Type 0 where
  pub ask : Ask
  pub lent : Buffers

-- a place: the record last given back, and what the making's buffers hold
-- the call there gets that record, and whatever it is lent
abbrev pub handed : World → Call → World
handed at c = world at.chip c.lent

unfoldable pub result : World → Call → World
result at c = did c.ask (handed at c)

unfoldable pub turned : World → Call → Bool
turned at c = not (eqb (refused_by c.ask (handed at c)) 0)

-- the place after it: the record given back; and the making's buffers as the call leaves them,
-- if it was accepted and may change them (it was lent them), else as they were
-- (whatever was lent, such a call changes no lent entry, and nobody else writes these)
unfoldable pub next : World → Call → World
next at c = world (result at c).chip (pick (turned at c || not (writes c.ask)) at.lent (result at c).lent)

unfoldable pub after : World → List Call → World
after at [] = at
after at (c ∷ cs) = after (next at c) cs

-- an accepted call that may change a lent entry is lent the making's buffers, in the same roles, as they were left
abbrev pub OwnFor : Bool → World → Call → Type 0
OwnFor true at c = turned at c ≡ false → c.lent ≡ at.lent
OwnFor false at c = Unit {0}

abbrev pub OwnBuffers : World → List Call → Type 0
OwnBuffers at [] = Unit {0}
OwnBuffers at (c ∷ cs) = OwnFor (writes c.ask) at c × OwnBuffers (next at c) cs

-- command and data bytes are bytes
abbrev pub Bytes : List Call → Type 0
Bytes [] = Unit {0}
Bytes (c ∷ cs) = IsByte c.ask × Bytes cs

-- what the walk is fed: each call's kind and arguments, and whether it was turned back
abbrev pub fed_at : World → Call → Fed
fed_at at c = record { ask = c.ask; back = turned at c }

unfoldable pub fed_by : World → List Call → List Fed
fed_by at [] = []
fed_by at (c ∷ cs) = fed_at at c ∷ fed_by (next at c) cs

-- the place after making, and the one after the first i calls
abbrev pub start : Uc8253Config → Buffers → World
start g b = made g b

unfoldable pub place : Uc8253Config → Buffers → List Call → ℕ → World
place g b cs i = after (start g b) (take i cs)

unfoldable pub state_at : ℕ → World → ℤ
state_at p at = get_or at.lent.states p (pos 0)

-- pixel p's whole frames of the refreshes ended between places i and j, by the walk's own machine, which runs from making on
unfoldable pub frames_between : Uc8253Config → Buffers → List Call → ℕ → ℕ → ℕ → List ℤ
frames_between g b cs i j p =
    let fs = fed_by (start g b) cs in
    frames_fed g (ran g (fresh g) (take i fs)) (take (j - i) (drop i fs)) p

-- the claim about two places and a pixel: its state moves as the walk does; and the walk ends in the same state from every start
-- exactly when its highest and lowest running sums lie at least the full swing apart
pub record Walked (g : Uc8253Config) (b : Buffers) (cs : List Call) (i j p : ℕ) : Type 0 where
  pub moves :
      state_at p (place g b cs j) ≡ pos (walk g.optics.full_swing (up (state_at p (place g b cs i))) (frames_between g b cs i j p))
  pub same : Coalesces g.optics.full_swing (frames_between g b cs i j p)
      ↔ (pos g.optics.full_swing ≤ℤ (highest (pos 0) (frames_between g b cs i j p) -ℤ lowest (pos 0) (frames_between g b cs i j p)))

abbrev pub Demand3 : Type 0
Demand3 =
    (g : Uc8253Config) (b : Buffers) (cs : List Call) → g.optics.initial_gray < 256 → making_refused g b ≡ 0
    → Bytes cs → OwnBuffers (start g b) cs
    → (i j : ℕ) → i ≤ j → j ≤ length cs → (p : ℕ) → p < g.panel.sources * g.panel.gates → Walked g b cs i j p

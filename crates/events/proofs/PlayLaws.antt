-- The two ways of a making with its events: refused, with zeros and nothing changed; or made and run, and then no event is turned back.
use mathlib.Core.Path.{◌≡◌, ap, ◌∙◌}
use mathlib.Core.Bool.{true, false}
use mathlib.Core.List.{List}
use Prim.Native.Nat.{ℕ, ◌<◌}
use lib.Dec.{eqb}
use Rattle.config.specs.declared.Uc8253Config.{Uc8253Config}
use Rattle.controller.specs.World.{World, Buffers}
use Rattle.controller.specs.TurnedBack.{making_refused}
use Rattle.controller.specs.Calls.{made}
use Rattle.controller.proofs.Sound.{sound_made}
use Rattle.event.specs.Events.{events_in, ran_to, answers_to, refused_in}
use Rattle.events.specs.Played.{played, answers_played}
use Rattle.event.proofs.RunLaws.{Bytes, run_taken}

module _ (c : Uc8253Config) (events : List ℕ) (b : Buffers) where
  module _ (h : eqb (making_refused c b) 0 ≡ false) where
    pub making_no : (v : World) → v ≡ made c b → v ≡ played c events b
    unfolding played made
    making_no v q = q ∙ rw h

    pub answers_no : (l : List ℕ) → l ≡ answers_played c events b l
    unfolding answers_played
    answers_no l = rw h

  module _ (h : eqb (making_refused c b) 0 ≡ true) (w : World) (q : w ≡ made c b) where
    pub making_yes : (v : World) → v ≡ ran_to events (events_in events) w → v ≡ played c events b
    unfolding played
    making_yes v r = r ∙ ap (λ (u : World). ran_to events (events_in events) u) q ∙ rw h

    pub answers_yes : (l l' : List ℕ) → l' ≡ answers_to events (events_in events) w l → l' ≡ answers_played c events b l
    unfolding answers_played
    answers_yes l l' r = r ∙ ap (λ (u : World). answers_to events (events_in events) u l) q ∙ rw h

-- ---- every event after a making that is accepted is accepted
pub play_taken : (c : Uc8253Config) (events : List ℕ) (b : Buffers) → c.optics.initial_gray < 256 → Bytes events
    → making_refused c b ≡ 0 → refused_in events (events_in events) (made c b) ≡ 0
play_taken c events b g h e = run_taken events h (events_in events) (made c b) (sound_made c b g e)

-- Request 2026-05: a capture with 312 configuration bytes runs exactly as before there was a rate. Its rate is 1 GHz, and what is played is
-- what is played with identities in place of the two conversions.
use mathlib.Core.Path.{◌≡◌, ap}
use mathlib.Core.Bool.{true}
use mathlib.Core.List.{List}
use Prim.Native.Nat.{ℕ, ◌+◌}
use lib.Dec.{eqb, lit≤}
use lib.ListN.{length}
use Rattle.base.specs.Pick.{pick}
use Rattle.base.proofs.Cases.{by_cases}
use Rattle.clock.specs.Clock.{billion}
use Rattle.config.specs.declared.Uc8253Config.{Uc8253Config}
use Rattle.capture.specs.Layout.{offset_of, config_in}
use Rattle.capture.specs.Reading.{events_end, events_of}
use Rattle.capture.proofs.RateLaws.{rate_none}
use Rattle.controller.specs.World.{World, Buffers, world}
use Rattle.controller.specs.Counting.{same}
use Rattle.controller.specs.Calls.{zeros, first_chip, made}
use Rattle.controller.specs.TurnedBack.{making_refused}
use Rattle.controller.proofs.OneGigahertz.{Ready}
use Rattle.event.specs.Events.{events_in}
use Rattle.event.proofs.RunLaws.{Bytes, front_byte}
use Rattle.event.proofs.OneGigahertz.{ran_same, answers_same}
use Rattle.events.specs.Played.{played, played_by, answers_played, answers_played_by}

ready_made : (c : Uc8253Config) (b : Buffers) → c.timing.rate ≡ billion → eqb (making_refused c b) 0 ≡ true → Ready (made c b)
unfolding made first_chip
ready_made c b r e = rw e (record { rate = r; clock = lit≤ tt })

pub played_same : (c : Uc8253Config) (events : List ℕ) (b : Buffers) → c.timing.rate ≡ billion → Bytes events
    → played c events b ≡ played_by same c events b
unfolding played played_by
played_same c events b r h =
    by_cases (eqb (making_refused c b) 0)
    (λ e. ap (λ (w : World). pick (eqb (making_refused c b) 0) w (world zeros b)) (ran_same events h (events_in events) (made c b) (ready_made c b r e)))
    (λ e. rw e)

answers_played_same : (c : Uc8253Config) (events : List ℕ) (b : Buffers) (answers : List ℕ) → c.timing.rate ≡ billion → Bytes events
    → answers_played c events b answers ≡ answers_played_by same c events b answers
unfolding answers_played answers_played_by
answers_played_same c events b answers r h =
    by_cases (eqb (making_refused c b) 0)
    (λ e. ap (λ (l : List ℕ). pick (eqb (making_refused c b) 0) l answers) (answers_same events h (events_in events) (made c b) answers (ready_made c b r e)))
    (λ e. rw e)

-- whatever its events and its 312 bytes are, refused ones included
pub old_capture : (file : List ℕ) → Bytes file → length file ≡ offset_of file + 320 → (b : Buffers)
    → played (config_in file) (events_of file) b ≡ played_by same (config_in file) (events_of file) b
unfolding config_in
old_capture file h e b = played_same (config_in file) (events_of file) b (rate_none file e) (front_byte (events_end file) file h)

-- and what its reads give
pub old_answers : (file : List ℕ) → Bytes file → length file ≡ offset_of file + 320 → (b : Buffers) (answers : List ℕ)
    → answers_played (config_in file) (events_of file) b answers ≡ answers_played_by same (config_in file) (events_of file) b answers
unfolding config_in
old_answers file h e b answers =
    answers_played_same (config_in file) (events_of file) b answers (rate_none file e) (front_byte (events_end file) file h)

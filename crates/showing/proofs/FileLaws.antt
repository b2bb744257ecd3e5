-- The two ways of a capture that was read: refused, with zeros and nothing changed; or made and run, and then no event is turned back.
use mathlib.Core.Path.{◌≡◌, refl, ◌∙◌}
use mathlib.Core.Bool.{Bool, true, false}
use mathlib.Core.List.{List}
use Prim.Native.Nat.{ℕ, ◌+◌, ◌<◌}
use lib.Dec.{eqb}
use lib.ListN.{take}
use borrow.Author.Tests.{eqb-false}
use Rattle.base.specs.RefusalNumbers.{number_of}
use Rattle.capture.specs.declared.reading.Capture.{Capture}
use Rattle.capture.specs.Layout.{offset_of, config_in}
use Rattle.capture.specs.Refused.{capture_refused}
use Rattle.capture.specs.Reading.{events_end, events_of, Reads}
use Rattle.controller.specs.World.{World, Buffers, world}
use Rattle.controller.specs.TurnedBack.{making_refused}
use Rattle.controller.specs.Calls.{made, zeros}
use Rattle.event.specs.Events.{events_in, refused_in}
use Rattle.events.specs.Played as events
use Rattle.event.proofs.RunLaws.{Bytes, byte_anywhere, front_byte}
use Rattle.events.proofs.PlayLaws.{play_taken}
use Rattle.output.specs.declared.Form.{Form}
use Rattle.output.specs.declared.Form.TheVariants as form
use Rattle.showing.specs.Played.{number_for, tested_by, play_refused, played, answers_played}

-- ---- what was read, and what the file's definitions say
module _ (file : List ℕ) (c : Capture) (t : Reads file c) where
  pub program_number : (f : Form) (m : ℕ) → m ≡ number_for f (number_of c.refused) c.config → m ≡ tested_by f file
  unfolding tested_by
  program_number f m e = e ∙ (λ i. number_for f (t.number_is i) (t.config_is i))

  module _ (f : Form) (b : Buffers) (h : eqb (tested_by f file) 0 ≡ true) where
    pub play_yes : (v : World) → v ≡ events.played c.config (take c.end file) b → v ≡ played f file b
    unfolding played
    play_yes v q = q ∙ (λ i. events.played (t.config_is i) (take (t.end_is i) file) b) ∙ rw h

    pub play_yes_answers : (l l' : List ℕ) → l' ≡ events.answers_played c.config (take c.end file) b l → l' ≡ answers_played f file b l
    unfolding answers_played
    play_yes_answers l l' q = q ∙ (λ i. events.answers_played (t.config_is i) (take (t.end_is i) file) b l) ∙ rw h

    pub play_yes_number : (m : ℕ) → m ≡ making_refused c.config b → m ≡ play_refused f file b
    unfolding play_refused
    play_yes_number m q = q ∙ (λ i. making_refused (t.config_is i) b) ∙ rw h

module _ (f : Form) (file : List ℕ) (b : Buffers) (h : eqb (tested_by f file) 0 ≡ false) where
  pub play_no : (v : World) → v ≡ world zeros b → v ≡ played f file b
  unfolding played
  play_no v q = q ∙ rw h

  pub play_no_answers : (l : List ℕ) → l ≡ answers_played f file b l
  unfolding answers_played
  play_no_answers l = rw h

  pub play_no_number : (m : ℕ) → m ≡ tested_by f file → m ≡ play_refused f file b
  unfolding play_refused
  play_no_number m q = q ∙ rw h

-- ---- every event of a capture that is played is accepted
making_taken : (f : Form) (file : List ℕ) (b : Buffers) → play_refused f file b ≡ 0 → making_refused (config_in file) b ≡ 0
unfolding play_refused
making_taken f file b e = go (eqb (tested_by f file) 0) refl
  where
    go : (t : Bool) → eqb (tested_by f file) 0 ≡ t → making_refused (config_in file) b ≡ 0
    go true q = rw q at e
    go false q = absurd (eqb-false (tested_by f file) 0 q (rw q at e))

gray_byte : (file : List ℕ) → Bytes file → (config_in file).optics.initial_gray < 256
unfolding config_in
gray_byte file h = byte_anywhere file h (offset_of file + 6)

pub every_event_accepted : (f : Form) (file : List ℕ) (b : Buffers) → Bytes file → play_refused f file b ≡ 0
    → refused_in (events_of file) (events_in (events_of file)) (made (config_in file) b) ≡ 0
every_event_accepted f file b h e =
    play_taken (config_in file) (events_of file) b (gray_byte file h) (front_byte (events_end file) file h) (making_taken f file b e)

-- ---- the program's tests are those of document 01
pub panel_tested : (file : List ℕ) → tested_by form.Panel file ≡ capture_refused file
unfolding tested_by capture_refused
panel_tested file = refl

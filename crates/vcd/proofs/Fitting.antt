-- Every event of a dump is one that a capture can hold: its numbers fit ten bytes, and it is listed.
use mathlib.Core.Path.{◌≡◌, refl}
use mathlib.Core.Bool.{Bool, true, false, ◌&&◌}
use mathlib.Core.List.{List, [], ◌∷◌}
use Prim.Native.Nat.{ℕ, ◌+◌, ◌*◌, ◌%◌, ◌<◌}
use native.Mathlib.Omega.{arith}
use lib.Dec.{eqb, ltb}
use lib.ListN.{get_or}
use Rattle.base.proofs.Cases.{both}
use Rattle.text.specs.Text.{ascii}
use Rattle.capture.specs.Refused.{listed}
use Rattle.vcd_words.specs.Words.{words, alike, among}
use Rattle.vcd_values.specs.Numbers.{time_of}
use Rattle.vcd_values.specs.Levels.{level, unknown}
use Rattle.std.specs.Prelude.{Option, Some, None}
use Rattle.vcd_values.proofs.ReadBack.{time_fits}
use Rattle.vcd_declarations.specs.Declarations.{is_end}
use Rattle.vcd_bus.specs.declared.Bus.{Bus}
use Rattle.vcd_simulation.specs.declared.body.Wanted.{Wanted}
use Rattle.vcd_simulation.specs.declared.body.Wanted.TheVariants as want
use Rattle.vcd_simulation.specs.declared.body.Body.{Body}
use Rattle.vcd_bus.specs.Signals.{takes, shifted, byte_events, reset_events}
use Rattle.vcd_simulation.specs.Coded.{after_code, code_makes}
use Rattle.vcd_simulation.specs.Simulation.{Codes, Went, changes, is_code, code_word, next_of, joined, apart_level, apart, value_word, timed, key_word, command_word, word_by, word_done, words_done}
use Rattle.vcd_simulation.proofs.Making.{two_make}
use Rattle.vcd.proofs.Calls.{AllFit, fit_join}

abbrev limit : ℕ
limit = 0x1_0000_0000_0000_0000

-- a word went so that the time and its events fit
abbrev Well : Went → Type 0
Well w = (w.body.now < limit) × AllFit w.events

remainder : (x : ℕ) → x % 256 < 256
remainder x = omega arith

byte_fits : (t v : ℕ) (b : Bus) → t < limit → AllFit (byte_events t v b)
unfolding listed
byte_fits t v b h =
    both AllFit (takes v b && eqb b.bits 7)
    (AllFit.one_more (record {
      time_fits = h;
      kind_fits = both (λ k. k < 256) (eqb b.dc 0) (omega arith) (omega arith);
      value_fits = remainder (2 * b.byte + b.mosi);
      listed_fits = both (λ k. listed k (shifted b) ≡ true) (eqb b.dc 0) refl refl;
    }) AllFit.no_event)
    AllFit.no_event

reset_fits : (t v : ℕ) (b : Bus) → t < limit → AllFit (reset_events t v b)
unfolding listed
reset_fits t v b h =
    both AllFit (eqb b.rst v) AllFit.no_event
    (AllFit.one_more (record {
      time_fits = h;
      kind_fits = omega arith;
      value_fits = both (λ k. k < 256) (eqb v 0) (omega arith) (omega arith);
      listed_fits = both (λ k. listed 4 k ≡ true) (eqb v 0) refl refl;
    }) AllFit.no_event)

code_fits : (codes : List (List ℕ)) (code : List ℕ) (t v : ℕ) (b : Bus) → t < limit → AllFit (code_makes codes code 5 t v b)
code_fits codes code t v b h =
    rw (two_make codes code t v b)
    (fit_join _ _
    (both AllFit (alike (get_or codes 2 []) code) (byte_fits t v (after_code codes code 2 v b) h) AllFit.no_event)
    (both AllFit (alike (get_or codes 4 []) code) (reset_fits t v (after_code codes code 4 v b) h) AllFit.no_event))

module _ (codes : Codes) where
  changes_fit : (next : Wanted) (code : List ℕ) (v : ℕ) (b : Body) → b.now < limit → Well (changes codes next code v b)
  unfolding changes
  changes_fit next code v b h =
      both Well (eqb v unknown) (both Well (among codes.all code) (h, AllFit.no_event) (h, AllFit.no_event))
      (h, code_fits codes.five code b.now v b.bus h)

  word_fit : (next : Wanted) (code : List ℕ) (v : ℕ) (b : Body) → b.now < limit → Well (code_word codes next code v b)
  word_fit next code v b h = both Well (is_code code) (changes_fit next code v b h) (h, AllFit.no_event)

  apart_fit : (section : Bool) (v : Option ℕ) (b : Body) → b.now < limit → Well (apart section v b)
  apart_fit section (Some v) b h = (h, AllFit.no_event)
  apart_fit section None b h = (h, AllFit.no_event)

  joined_fit : (section : Bool) (c : ℕ) (w : List ℕ) (b : Body) (v : Option ℕ) → b.now < limit → Well (joined codes section c w b v)
  joined_fit section c w b (Some v) h = word_fit (next_of section) w v b h
  joined_fit section c w b None h = apart_fit section (apart_level c w) b h

  value_fit : (section : Bool) (w : List ℕ) (b : Body) → b.now < limit → Well (value_word codes section w b)
  unfolding value_word
  value_fit section [] b h = (h, AllFit.no_event)
  value_fit section (c ∷ w) b h = joined_fit section c w b (level c) h

  timed_fit : (t : Option ℕ) (b : Body) → ((n : ℕ) → t ≡ Some n → n < limit) → b.now < limit → Well (timed t b)
  timed_fit None b f h = (h, AllFit.no_event)
  timed_fit (Some n) b f h = both Well (ltb n b.now) (h, AllFit.no_event) (f n refl, AllFit.no_event)

  command_fit : (w : List ℕ) (b : Body) → b.now < limit → Well (command_word codes w b)
  unfolding command_word key_word
  command_fit [] b h = (h, AllFit.no_event)
  command_fit (c ∷ w) b h =
      both Well (eqb c 0x23) (timed_fit (time_of w) b (λ n e. time_fits w n e) h)
      (both Well (eqb c 0x24)
      (both Well (alike (c ∷ w) (ascii "$comment")) (h, AllFit.no_event)
      (both Well (among (words (ascii "$dumpall $dumpoff $dumpon $dumpvars")) (c ∷ w)) (h, AllFit.no_event) (h, AllFit.no_event)))
      (value_fit false (c ∷ w) b h))

  by_fit : (x : Wanted) (w : List ℕ) (b : Body) → b.now < limit → Well (word_by x codes w b)
  by_fit want.Command w b h = command_fit w b h
  by_fit want.Section w b h = both Well (is_end w) (h, AllFit.no_event) (value_fit true w b h)
  by_fit want.Text w b h = both Well (is_end w) (h, AllFit.no_event) (h, AllFit.no_event)
  by_fit (want.Code v) w b h = word_fit want.Command w v b h
  by_fit (want.SectionCode v) w b h = word_fit want.Section w v b h
  by_fit want.Broken w b h = (h, AllFit.no_event)

  done_fit : (w : List ℕ) (b : Body) → b.now < limit → Well (word_done codes w b)
  unfolding word_done
  done_fit w b h = by_fit b.wanted w b h

  pub words_fit : (ws : List (List ℕ)) (b : Body) → b.now < limit → Well (words_done codes ws b)
  words_fit [] b h = (h, AllFit.no_event)
  words_fit (w ∷ ws) b h =
      let one = done_fit w b h in
      let rest = words_fit ws (word_done codes w b).body one.0 in
      (rest.0, fit_join (word_done codes w b).events (words_done codes ws (word_done codes w b).body).events one.1 rest.1)

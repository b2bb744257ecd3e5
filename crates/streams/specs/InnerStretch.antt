-- How the code goes: some events at once, from event i on; and a run of pixel bytes by what it changes,
-- which is a plane, the cursor, the count and the clock.
use Rattle.std.specs.Prelude.{◌≡◌, Bool, true, false, ◌&&◌, not, List, ℕ, ◌+◌, ◌≤◌, ◌<◌, max, eqb, set}
use Rattle.base.specs.Pick.{pick}
use Rattle.base.specs.Turns.{turns}
use Rattle.command.specs.declared.kinds.Kind.{Kind}
use Rattle.command.specs.declared.kinds.Kind.TheVariants as kind
use Rattle.command.specs.declared.kinds.Params.{Params}
use Rattle.command.specs.declared.kinds.Params.TheVariants as params
use Rattle.registers.specs.declared.Area.{Area}
use Rattle.registers.specs.Written.{written_of}
use Rattle.ram.specs.declared.Cursor.{Cursor}
use Rattle.ram.specs.Write.{next_of}
use Rattle.controller.specs.declared.Active.{Active}
use Rattle.controller.specs.declared.Current.{Current}
use Rattle.controller.specs.declared.Current.TheVariants as current
use Rattle.controller.specs.declared.Work.{Work}
use Rattle.controller.specs.declared.Work.TheVariants as work
use Rattle.controller.specs.declared.Uc8253.{Uc8253}
use Rattle.controller.specs.World.{World}
use Rattle.controller.specs.Setters.{with_current, with_now}
use Rattle.controller.specs.TurnedBack.{foreign_record}
use Rattle.controller.specs.DataByte.{counted_of, past_row, put_at}
use Rattle.streams.specs.declared.Flowed.{Flowed}
use Rattle.streams.specs.declared.Target.{Target}
use Rattle.streams.specs.declared.Target.TheVariants as target
use Rattle.event.specs.Events.{events_in, event_at, event_done, event_refused, event_answer, earlier}

-- k events from event i on
unfoldable pub ran_on : List ℕ → ℕ → ℕ → World → World
ran_on bytes i k w = turns k (λ j v. event_done (event_at bytes (i + j)) v) w

unfoldable pub answers_on : List ℕ → ℕ → ℕ → World → List ℕ → List ℕ
answers_on bytes i k w answers = turns k (λ j l. set l (i + j) (event_answer (event_at bytes (i + j)) (ran_on bytes i j w))) answers

unfoldable pub refused_on : List ℕ → ℕ → ℕ → World → ℕ
refused_on bytes i k w = turns k (λ j r. earlier r (event_refused (event_at bytes (i + j)) (ran_on bytes i j w))) 0

-- k events that are taken and read nothing lead from w to v
pub record Stretch (bytes : List ℕ) (i k : ℕ) (w v : World) : Type 0 where
  pub within : i ≤ events_in bytes → i + k ≤ events_in bytes
  pub is : v ≡ ran_on bytes i k w
  pub taken : (j : ℕ) → j < k → event_refused (event_at bytes (i + j)) (ran_on bytes i j w) ≡ 0
  pub silent : (j : ℕ) → j < k → event_answer (event_at bytes (i + j)) (ran_on bytes i j w) ≡ 257

-- entries from place i on, each 257
abbrev pub marked : ℕ → ℕ → List ℕ → List ℕ
marked i k answers = turns k (λ j l. set l (i + j) 257) answers

-- ---- pixel bytes: past the last row of the area the cursor stays
unfoldable pub on_from : Area → Cursor → Cursor
on_from a c = pick (past_row a c) c (next_of a c)

-- after k pixel bytes from event i on
abbrev pub cursor_to : Area → ℕ → Cursor → Cursor
cursor_to a k c = turns k (λ j d. on_from a d) c

abbrev pub count_to : ℕ → ℕ → ℕ
count_to k n = turns k (λ j m. counted_of m) n

abbrev pub clock_to : List ℕ → ℕ → ℕ → ℕ → ℕ
clock_to bytes i k t = turns k (λ j u. max u (event_at bytes (i + j)).time) t

abbrev pub plane_to : List ℕ → ℕ → ℕ → Area → Cursor → List ℕ → List ℕ
plane_to bytes i k a c l = turns k (λ j m. put_at a (cursor_to a j c) (event_at bytes (i + j)).value m) l

-- a data byte, and none that is to be reported as past the window
unfoldable pub flows_by : ℕ → Area → Cursor → Bool → Bool
flows_by k a c reported = eqb k 2 && pick (past_row a c) reported true

abbrev pub AllFlow : List ℕ → ℕ → ℕ → Area → Cursor → Bool → Type 0
AllFlow bytes i k a c reported = (j : ℕ) → j < k → flows_by (event_at bytes (i + j)).kind a (cursor_to a j c) reported ≡ true

-- the record after it
abbrev pub flowed_chip : Uc8253 → Active → Cursor → ℕ → ℕ → Uc8253
flowed_chip p a c n t =
    with_now t
    (with_current (current.Active (record {
      command = a.command;
      kind = a.kind;
      received = n;
      read = a.read;
      cursor = c;
      extra_reported = a.extra_reported;
      past_reported = a.past_reported;
    })) p)

-- what a run of pixel bytes from event i on hands back
pub record FlowsInto (bytes : List ℕ) (i : ℕ) (p : Uc8253) (a : Active) (l m : List ℕ) (f : Flowed) : Type 0 where
  pub within : i + f.done ≤ events_in bytes
  pub all : AllFlow bytes i f.done (written_of p.regs) a.cursor a.past_reported
  pub chip :
      f.chip ≡ flowed_chip p a
      (cursor_to (written_of p.regs) f.done a.cursor) (count_to f.done a.received) (clock_to bytes i f.done p.now)
  pub plane : m ≡ plane_to bytes i f.done (written_of p.regs) a.cursor l

-- nothing runs
abbrev pub rests_by : Work → Bool
rests_by work.Nothing = true
rests_by work.PowerOn = false
rests_by work.PowerOff = false
rests_by work.DeepSleep = false
rests_by work.SoftReset = false
rests_by work.HardwareReset = false
rests_by (work.Refresh r) = false

-- and no data byte is turned back
unfoldable pub calm_with : Uc8253 → Bool → Bool
calm_with p fits = rests_by p.operation.work && (fits && not (foreign_record p))

-- as many bytes as are written
abbrev pub endless_by : Params → Bool
endless_by (params.Exactly n) = false
endless_by (params.Between m n) = false
endless_by params.Stream = true

abbrev pub pixels_by : Kind → Bool
pixels_by (kind.Write n) = endless_by n
pixels_by kind.Read = false
pixels_by (kind.Unsupported n) = false
pixels_by kind.Unknown = false

abbrev pub under : Active → Current
under a = current.Active a

-- the command under way is one that takes pixel bytes
pub record Aimed (c : Current) (a : Active) (command : ℕ) : Type 0 where
  pub active : c ≡ current.Active a
  pub pixels : pixels_by a.kind ≡ true
  pub is : a.command ≡ command

-- 10 goes to the old plane, 13 to the new one
abbrev pub Aims : Target → Current → Type 0
Aims target.Nowhere c = Unit
Aims (target.Older a) c = Aimed c a 0x10
Aims (target.Newer a) c = Aimed c a 0x13

-- ---- some events from event i on, at least one
pub record Goes (bytes : List ℕ) (i k : ℕ) (w v : World) (answers more : List ℕ) (refused : ℕ) : Type 0 where
  pub some : 0 < k
  pub within : i + k ≤ events_in bytes
  pub is : v ≡ ran_on bytes i k w
  pub gave : more ≡ answers_on bytes i k w answers
  pub turned : refused ≡ refused_on bytes i k w

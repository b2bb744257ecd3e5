-- What a contract says of a call over what it is lent. Each name is an `abbrev`, so a contract that cites it says what it stands for.
use Rattle.std.specs.Prelude.{◌≡◌, List, ℕ, ℤ, Result}
use Rattle.std.specs.Borrow.{Bor, MutBor}
use denote.Triple.Both.{Both}
use Rattle.controller.specs.declared.Uc8253.{Uc8253}
use Rattle.controller.specs.declared.lent.Lent.{Lent}
use Rattle.base.specs.declared.refusals.Refusal.{Refusal}
use Rattle.base.specs.RefusalNumbers.{number_in, given}
use Rattle.controller.specs.Ask.{Ask, Answer, did, refused_by, answered}
use Rattle.controller.specs.World.{World, Buffers, buffers, world}
use Rattle.controller.specs.Setters.{with_rows}
use Rattle.controller.specs.Calls.{zeros}

-- the old plane, the new, the states, the picture and the rows, as they stand
abbrev pub held : Lent → Buffers
held l = buffers l.old.now l.new.now l.states.now l.picture.now l.rows.now

-- of what is lent, by what it holds before the call and after it
abbrev pub Over {ℓ} : Type ℓ → Type ℓ
Over A = Both (MutBor Lent) (MutBor Lent) → A

abbrev pub before : Over Buffers
before lent = held lent.entry.now

abbrev pub after : Over Buffers
after lent = held lent.exit.now

-- the slices are the same, whatever is left in them
pub record Same (l m : Lent) : Type 0 where
  pub same_old : m.old.ghost_name ≡ l.old.ghost_name
  pub same_new : m.new.ghost_name ≡ l.new.ghost_name
  pub same_states : m.states.ghost_name ≡ l.states.ghost_name
  pub same_picture : m.picture.ghost_name ≡ l.picture.ghost_name
  pub same_rows : m.rows.ghost_name ≡ l.rows.ghost_name

abbrev pub Keeps : Over (Type 0)
Keeps lent = Same lent.entry.now lent.exit.now

-- the record p becomes q, and what is lent what is left, as f has it
abbrev pub Turns : (World → World) → Uc8253 → Uc8253 → Over (Type 0)
Turns f p q lent =
    world q (after lent) ≡ f (world p (before lent))

-- x is what g says of the record p and what is lent
abbrev pub Gives : {A : Type 0} → (World → A) → Uc8253 → A → Over (Type 0)
Gives g p x lent = x ≡ g (world p (before lent))

-- what is done to the record and what is lent, and the number of the refusal by which it is turned back
abbrev pub Done : (World → World) → (World → ℕ) → Uc8253 → Uc8253 → ℕ → Over (Type 0)
Done f number p q n lent =
    Turns f p q lent × Gives number p n lent

-- a call of demand 3's lists, whose record is the chip of what it gives; one that is turned back gives none, and the record stands
abbrev pub CalledFor : {A : Type 0} → (A → Uc8253) → Ask → Uc8253 → Result A Refusal → Over (Type 0)
CalledFor chip a p r = Done (did a) (refused_by a) p (given chip p r) (number_in r)

abbrev pub Called : Ask → Uc8253 → Result Uc8253 Refusal → Over (Type 0)
Called = CalledFor (λ q. q)

-- what it answers
abbrev pub Answers : Ask → Uc8253 → Answer → Over (Type 0)
Answers a = Gives (answered a)

-- a question, which gives back no record: the number of its refusal, and its answer
abbrev pub Asked : Ask → Uc8253 → Buffers → ℕ → Answer → Type 0
Asked a p b n x = (n ≡ refused_by a (world p b)) × (x ≡ answered a (world p b))

-- the same of a making, which is given no record: the record of zeros stands for one that is turned back
abbrev pub Makes : (Buffers → World) → (Buffers → ℕ) → Result Uc8253 Refusal → Over (Type 0)
Makes f number r lent =
    (world (given (λ q. q) zeros r) (after lent) ≡ f (before lent))
    × (number_in r ≡ number (before lent))

-- the rows alone, which are only read, whatever else is lent
abbrev pub TurnsRows : (World → World) → Uc8253 → Uc8253 → Both (Bor (List ℕ)) (Bor (List ℕ)) → Type 0
TurnsRows f p q rows = (b : Buffers) → world q (with_rows rows.exit.now b) ≡ f (world p (with_rows rows.entry.now b))

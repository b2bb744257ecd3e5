-- A cut anywhere in some bytes: the words that are closed before it, and those of the open one and what follows.
use mathlib.Core.Path.{◌≡◌, refl, sym, ap, ◌∙◌}
use mathlib.Core.Bool.{Bool, true, false, ◌&&◌, not, false≢true}
use mathlib.Core.List.{List, [], ◌∷◌, ◌++◌, append_assoc, append-nil}
use Prim.Native.Nat.{ℕ, suc, ◌<◌}
use native.Mathlib.Omega.{arith}
use lib.ListN.{length}
use Rattle.base.specs.Pick.{pick}
use Rattle.base.proofs.Cases.{by_cases}
use Rattle.vcd_words.specs.Words.{is_blank, shut, closed_from, open_from, closed, opened, words, every}
use Rattle.vcd_words.specs.Places.{front, is_solid}

-- ---- two parts, the first behind an open word
cut_closed : (w a b : List ℕ) → closed_from w (a ++ b) ≡ closed_from w a ++ closed_from (open_from w a) b
cut_closed w [] b = refl
cut_closed w (x ∷ a) b =
    by_cases (is_blank x)
    (λ e. rw e (ap (shut w) (cut_closed [] a b) ∙ shut_join w (closed_from [] a) (closed_from (open_from [] a) b)))
    (λ e. rw e (cut_closed (w ++ x ∷ []) a b))
  where
    shut_join : (v : List ℕ) (us vs : List (List ℕ)) → shut v (us ++ vs) ≡ shut v us ++ vs
    shut_join [] us vs = refl
    shut_join (y ∷ v) us vs = refl

cut_open : (w a b : List ℕ) → open_from w (a ++ b) ≡ open_from (open_from w a) b
cut_open w [] b = refl
cut_open w (x ∷ a) b = by_cases (is_blank x) (λ e. rw e (cut_open [] a b)) (λ e. rw e (cut_open (w ++ x ∷ []) a b))

-- ---- an open word has no blank, so it may stand before what follows it
and_split : (s t : Bool) → (s && t) ≡ true → (s ≡ true) × (t ≡ true)
and_split true t e = (refl, e)
and_split false t e = absurd (false≢true e)

not_blank : (t : Bool) → not t ≡ true → t ≡ false
not_blank true e = absurd (false≢true e)
not_blank false e = refl

solid_first : (x : ℕ) (w : List ℕ) → every is_solid (x ∷ w) ≡ true → is_blank x ≡ false
solid_first x w e = not_blank (is_blank x) (and_split (is_solid x) (every is_solid w) e).0

solid_rest : (x : ℕ) (w : List ℕ) → every is_solid (x ∷ w) ≡ true → every is_solid w ≡ true
solid_rest x w e = (and_split (is_solid x) (every is_solid w) e).1

again_closed : (v w b : List ℕ) → every is_solid w ≡ true → closed_from v (w ++ b) ≡ closed_from (v ++ w) b
again_closed v [] b e = ap (λ (u : List ℕ). closed_from u b) (sym (append-nil v))
again_closed v (x ∷ w) b e =
    rw (solid_first x w e)
    (again_closed (v ++ x ∷ []) w b (solid_rest x w e) ∙ ap (λ (u : List ℕ). closed_from u b) (append_assoc v (x ∷ []) w))

again_open : (v w b : List ℕ) → every is_solid w ≡ true → open_from v (w ++ b) ≡ open_from (v ++ w) b
again_open v [] b e = ap (λ (u : List ℕ). open_from u b) (sym (append-nil v))
again_open v (x ∷ w) b e =
    rw (solid_first x w e)
    (again_open (v ++ x ∷ []) w b (solid_rest x w e) ∙ ap (λ (u : List ℕ). open_from u b) (append_assoc v (x ∷ []) w))

solid_more : (w : List ℕ) (x : ℕ) → every is_solid w ≡ true → is_blank x ≡ false → every is_solid (w ++ x ∷ []) ≡ true
solid_more [] x e t = rw t
solid_more (y ∷ w) x e t = rw (solid_first y w e, solid_more w x (solid_rest y w e) t)

open_solid : (w a : List ℕ) → every is_solid w ≡ true → every is_solid (open_from w a) ≡ true
open_solid w [] e = e
open_solid w (x ∷ a) e =
    by_cases (is_blank x)
    (λ t. rw t (open_solid [] a refl))
    (λ t. rw t (open_solid (w ++ x ∷ []) a (solid_more w x e t)))

-- ---- any cut: the words that are closed before it, then those of the open word and what follows
pub closed_cut : (a b : List ℕ) → closed (a ++ b) ≡ closed a ++ closed (opened a ++ b)
unfolding closed opened
closed_cut a b =
    cut_closed [] a b
    ∙ ap (λ (l : List (List ℕ)). closed_from [] a ++ l) (sym (again_closed [] (open_from [] a) b (open_solid [] a refl)))

pub opened_cut : (a b : List ℕ) → opened (a ++ b) ≡ opened (opened a ++ b)
unfolding opened
opened_cut a b = cut_open [] a b ∙ sym (again_open [] (open_from [] a) b (open_solid [] a refl))

pub words_cut : (a b : List ℕ) → words (a ++ b) ≡ closed a ++ words (opened a ++ b)
unfolding words
words_cut a b =
    rw (closed_cut a b, opened_cut a b) (append_assoc (closed a) (closed (opened a ++ b)) (shut (opened (opened a ++ b)) []))

-- ---- a cut behind a word, before a blank or the end
shut_then : (w : List ℕ) (ws : List (List ℕ)) → shut w ws ≡ shut w [] ++ ws
shut_then [] ws = refl
shut_then (x ∷ w) ws = refl

blank_here : (x : ℕ) (b : List ℕ) → front is_solid (x ∷ b) ≡ 0 → is_blank x ≡ true
blank_here x b h =
    by_cases (is_blank x)
    (λ e. e)
    (λ e. absurd (omega (arith, sym (ap (λ (t : Bool). pick (not t) (suc (front is_solid b)) 0) e) ∙ h)))

pub words_join : (a b : List ℕ) → front is_solid b ≡ 0 → words (a ++ b) ≡ words a ++ words b
unfolding words closed opened
words_join a [] h = rw (append-nil a) (sym (append-nil _))
words_join a (x ∷ b) h =
    let t = blank_here x b h in
    rw (cut_closed [] a (x ∷ b), cut_open [] a (x ∷ b), t)
    (ap (λ (l : List (List ℕ)). (closed_from [] a ++ l) ++ shut (open_from [] b) []) (shut_then (open_from [] a) (closed_from [] b))
    ∙ ap (λ (l : List (List ℕ)). l ++ shut (open_from [] b) []) (sym (append_assoc (closed_from [] a) (shut (open_from [] a) []) (closed_from [] b)))
    ∙ append_assoc (closed_from [] a ++ shut (open_from [] a) []) (closed_from [] b) (shut (open_from [] b) []))

-- the word that is open behind the blank, and the words that are closed up to there
pub opened_join : (a b : List ℕ) → front is_solid b ≡ 0 → 0 < length b → opened (a ++ b) ≡ opened b
unfolding opened
opened_join a [] h k = absurd (omega (arith, k))
opened_join a (x ∷ b) h k = rw (cut_open [] a (x ∷ b), blank_here x b h)

pub closed_join : (a b : List ℕ) → front is_solid b ≡ 0 → 0 < length b → closed (a ++ b) ≡ words a ++ closed b
unfolding words closed opened
closed_join a [] h k = absurd (omega (arith, k))
closed_join a (x ∷ b) h k =
    rw (cut_closed [] a (x ∷ b), blank_here x b h)
    (ap (λ (l : List (List ℕ)). closed_from [] a ++ l) (shut_then (open_from [] a) (closed_from [] b))
    ∙ sym (append_assoc (closed_from [] a) (shut (open_from [] a) []) (closed_from [] b)))

-- ---- where a word is closed in the second part, the first has no say in the one that is open at the end
late_open : (u v w b : List ℕ) → 0 < length (closed_from u b) → open_from v b ≡ open_from w b
late_open u v w [] k = absurd (omega (arith, k))
late_open u v w (x ∷ b) k =
    by_cases (is_blank x)
    (λ e. rw e)
    (λ e. rw e (late_open (u ++ x ∷ []) (v ++ x ∷ []) (w ++ x ∷ []) b (on e)))
  where
    on : is_blank x ≡ false → 0 < length (closed_from (u ++ x ∷ []) b)
    on e = omega (arith, k, ap (λ (t : Bool). length (pick t (shut u (closed_from [] b)) (closed_from (u ++ x ∷ []) b))) e)

pub opened_late : (a b : List ℕ) → 0 < length (closed b) → opened (a ++ b) ≡ opened b
unfolding closed opened
opened_late a b k = cut_open [] a b ∙ late_open [] (open_from [] a) [] b k

-- ---- without a blank the word stays open
solid_both : (x : ℕ) (b : List ℕ) → front is_solid (x ∷ b) ≡ suc (length b) → (is_blank x ≡ false) × (front is_solid b ≡ length b)
solid_both x b h =
    by_cases (is_blank x)
    (λ e. absurd (omega (arith, sym (ap (λ (t : Bool). pick (not t) (suc (front is_solid b)) 0) e) ∙ h)))
    (λ e. (e, omega (arith, sym (ap (λ (t : Bool). pick (not t) (suc (front is_solid b)) 0) e) ∙ h)))

none_closed : (w b : List ℕ) → front is_solid b ≡ length b → closed_from w b ≡ []
none_closed w [] h = refl
none_closed w (x ∷ b) h = let s = solid_both x b h in rw s.0 (none_closed (w ++ x ∷ []) b s.1)

all_open : (w b : List ℕ) → front is_solid b ≡ length b → open_from w b ≡ w ++ b
all_open w [] h = sym (append-nil w)
all_open w (x ∷ b) h = let s = solid_both x b h in rw s.0 (all_open (w ++ x ∷ []) b s.1 ∙ append_assoc w (x ∷ []) b)

pub stays_closed : (a b : List ℕ) → front is_solid b ≡ length b → closed (a ++ b) ≡ closed a
unfolding closed
stays_closed a b h = cut_closed [] a b ∙ ap (λ (l : List (List ℕ)). closed_from [] a ++ l) (none_closed (open_from [] a) b h) ∙ append-nil (closed_from [] a)

pub stays_open : (a b : List ℕ) → front is_solid b ≡ length b → opened (a ++ b) ≡ opened a ++ b
unfolding opened
stays_open a b h = cut_open [] a b ∙ all_open (open_from [] a) b h

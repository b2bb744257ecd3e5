-- Bytes put behind those of a word that are carried, if there is room for all of them: how many there are then.
use Rattle.std.specs.Prelude.{◌≡◌, List, ◌++◌, ℕ, ◌+◌, ◌≤◌, ◌<◌, length, take, Option, MatchOption}

pub record Carries (more : List ℕ) (carried : ℕ) (r : Option ℕ) (word word' : List ℕ) : Type 0 where
  pub size : length word' ≡ length word
  pub cases : MatchOption r (length word < carried + length more)
      (λ n. (n ≤ length word') × (take n word' ≡ take carried word ++ more))

-- Checks in the order in which they are made, each with the refusal number that is the answer where it fails.
use Rattle.std.specs.Prelude.{ℕ, zero, suc, cond, List, [], ◌∷◌, leb, eqb}

pub data Check : Type 0 where
  -- a is at most b, or else n
  at_most : ℕ → ℕ → ℕ → Check
  -- a is b, or else n
  equal : ℕ → ℕ → ℕ → Check

-- the number of the first check that fails, 0 if none does
unfoldable pub fault : List Check → ℕ
fault [] = 0
fault (at_most a b n ∷ l) = cond (leb a b) (fault l) n
fault (equal a b n ∷ l) = cond (eqb a b) (fault l) n

-- the first of two faults, 0 being none
unfoldable pub first_fault : ℕ → ℕ → ℕ
first_fault zero m = m
first_fault (suc n) m = suc n

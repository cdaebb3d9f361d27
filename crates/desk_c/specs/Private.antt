-- Serves contracts of functions inside the library only: what is promised does not rest on it.
-- Parts of an image, by where they start, and what a comparison returns and leaves.
use Rattle.std.specs.Prelude.{ℕ, cond, List, eqb}
use Rattle.pooled_place.specs.Words.{pooled_place_size}
use Rattle.cutoff.specs.declared.Verdict.{Verdict}
use Rattle.refusals.specs.Answers.{Answer, accepted, refused}
use Rattle.desk_c.specs.Numbers.{verdict_numbers}

-- how many numbers an image has
abbrev pub desk_size : ℕ
desk_size = 484

-- where the words of place i start
abbrev pub start_of : ℕ → ℕ
start_of i = cond (eqb i 1) 0 pooled_place_size

-- the numbers of a verdict, or what was there
abbrev pub verdict_left : Answer Verdict → List ℕ → List ℕ
verdict_left (accepted v) old = verdict_numbers v
verdict_left (refused n) old = old

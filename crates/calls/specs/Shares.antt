-- The comparison on shares (R-6), which asks two places as compare does: its checks, and what it may answer.
use Rattle.std.specs.Prelude.{ℕ, List, [], ◌∷◌}
use Rattle.table.specs.Table.{Table, defaults_in, survivors_in, obligors_in}
use Rattle.table.specs.Place.{table_of}
use Rattle.table.specs.declared.Place.{Place}
use Rattle.book.specs.Checks.{Check, at_most, fault, first_fault}
use Rattle.cutoff.specs.declared.Verdict.{Verdict}
use Rattle.shares.specs.Verdict.{IsVerdictByShares}
use Rattle.refusals.specs.Answers.{Answer, Limited}
use Rattle.calls.specs.Calls.{empty_fault}

-- 23 for either, 24 for either, 35 for either
unfoldable pub shares_checks : Table → Table → List Check
shares_checks t₁ t₂ =
    at_most 1 (defaults_in t₁) 23
    ∷ at_most 1 (defaults_in t₂) 23
    ∷ at_most 1 (survivors_in t₁) 24
    ∷ at_most 1 (survivors_in t₂) 24
    ∷ at_most (obligors_in t₁) 100_000 35
    ∷ at_most (obligors_in t₂) 100_000 35
    ∷ []

-- "It takes tables of at most 100,000 obligors and tests 22, 23 and 24 as the first does. A larger table is refused with 35 after 24, and 25
-- has no use here."
unfoldable pub shares_fault : Place → Place → ℕ
shares_fault p q = first_fault (empty_fault p) (first_fault (empty_fault q) (fault (shares_checks (table_of p) (table_of q))))

-- What it may answer. Refusals and the kind of verdict are given; the price pairs are limited only: "The pairs carried have prices up to
-- 2,500,000,000".
abbrev pub ComparedByShares : Place → Place → Answer Verdict → Type 0
ComparedByShares p q r = Limited (shares_fault p q) (IsVerdictByShares (table_of p) (table_of q)) r

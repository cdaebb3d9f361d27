-- `brier` meets its contract.
use Prim.Native.Nat.{ℕ}
use mathlib.Core.Path.{◌≡◌}
use Rattle.table.specs.declared.Place.{Place}
use Rattle.table.specs.Place.{table_of}
use Rattle.measures.specs.Brier.{brier_of}
use Rattle.refusals.specs.Answers.{answer, says}
use Rattle.calls.specs.Calls.{brier, question_fault}
use Rattle.desk.proofs.Number.{on_said, missing}
use Rattle.desk.proofs.Asked.{on_place}
use Rattle.desk.proofs.Desk.brier.Goals as goal

pub returns-in_err-check_place-clause-value : goal.returns-in_err-check_place-clause-value
returns-in_err-check_place-clause-value c = on_said _ _ c.from_residual.ensures.1 (missing _ _ _ c.in_err-check_place.ensures) _

pub returns-clause-value : goal.returns-clause-value
returns-clause-value c =
    on_place _ c.words.ensures.value c.in_ok-check_place.ensures (λ (p : Place). question_fault p brier)
    (λ (n : ℕ) (p : Place). says c.brier.result ≡ answer n (brier_of (table_of p))) c.brier.ensures

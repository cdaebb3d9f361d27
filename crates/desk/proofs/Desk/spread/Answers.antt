-- `spread` meets its contract.
use Prim.Native.Nat.{ℕ}
use Rattle.table.specs.declared.Place.{Place}
use Rattle.table.specs.Place.{table_of}
use Rattle.spread.specs.Spread.{IsSpread}
use Rattle.refusals.specs.Answers.{Limited, says}
use Rattle.calls.specs.Calls.{spread, question_fault}
use Rattle.desk.proofs.Number.{on_limited, missing}
use Rattle.desk.proofs.Asked.{on_place}
use Rattle.desk.proofs.Desk.spread.Goals as goal

pub returns-in_err-check_place-clause-spreads : goal.returns-in_err-check_place-clause-spreads
returns-in_err-check_place-clause-spreads c = on_limited _ _ c.from_residual.ensures.1 (missing _ _ _ c.in_err-check_place.ensures) _

pub returns-clause-spreads : goal.returns-clause-spreads
returns-clause-spreads c =
    on_place _ c.pooled_words.ensures.value c.in_ok-check_place.ensures (λ (p : Place). question_fault p spread)
    (λ (n : ℕ) (p : Place). Limited n (IsSpread (table_of p)) (says c.spread.result)) c.spread.ensures

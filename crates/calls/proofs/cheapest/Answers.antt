-- `cheapest` meets its contract.
use native.Mathlib.Omega.{arith}
use Rattle.table.proofs.Words.{long_words}
use Rattle.book.proofs.Checks.{none, pass, over, over_or}
use Rattle.calls.specs.Calls.{cheapest}
use Rattle.calls.proofs.Answered.{refuses, accepts}
use Rattle.calls.proofs.Asked.{asked_empty, ready, asked}
use Rattle.calls.proofs.cheapest.Goals as goal

pub is_loaded-requires : goal.is_loaded-requires
is_loaded-requires c = omega (arith, long_words c.requires)

pub returns-then-not-is_loaded : goal.returns-then-not-is_loaded
returns-then-not-is_loaded c = asked_empty _ (cheapest _ _) _ _ c.is_loaded.ensures c.if-not-is_loaded.true

pub returns-then-u-gt-PRICE : goal.returns-then-u-gt-PRICE
returns-then-u-gt-PRICE c =
    let r = ready _ c.requires c.is_loaded.ensures c.if-not-is_loaded.false in
    refuses 12 _ (asked (cheapest _ _) r (over_or (λ h. over (omega arith)))) (λ z. omega arith)

pub cheapest-requires-clause-holds_table : goal.cheapest-requires-clause-holds_table
cheapest-requires-clause-holds_table c = (ready _ c.requires c.is_loaded.ensures c.if-not-is_loaded.false).holds

pub returns : goal.returns
returns c =
    let r = ready _ c.requires c.is_loaded.ensures c.if-not-is_loaded.false in
    accepts (asked (cheapest _ _) r (pass (omega arith) (pass (omega arith) none))) c.cheapest.ensures

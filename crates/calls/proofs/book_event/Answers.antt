-- `book_event` meets its contract.
use native.Mathlib.Omega.{arith}
use Rattle.book.proofs.Checks.{go, stop}
use Rattle.pooled_place.proofs.Words.{long_pooled}
use Rattle.calls.specs.Calls.{change_fault}
use Rattle.calls.proofs.Asked.{empty_at, ready_pooled}
use Rattle.calls.proofs.book_event.Goals as goal

pub is_loaded-requires : goal.is_loaded-requires
is_loaded-requires c = omega (arith, long_pooled c.requires)

pub returns-then-not-is_loaded-clause-value : goal.returns-then-not-is_loaded-clause-value
unfolding change_fault
returns-then-not-is_loaded-clause-value c = stop _ (empty_at _ _ c.is_loaded.ensures c.if-not-is_loaded.true) (λ z. omega arith)

pub book_event-requires : goal.book_event-requires
book_event-requires c = (ready_pooled _ c.requires c.is_loaded.ensures c.if-not-is_loaded.false).holds

pub returns-clause-value : goal.returns-clause-value
unfolding change_fault
returns-clause-value c = go (ready_pooled _ c.requires c.is_loaded.ensures c.if-not-is_loaded.false).loaded c.book_event.ensures.value

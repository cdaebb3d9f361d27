-- `spread` meets its contract.
use mathlib.Core.Path.{sym}
use native.Mathlib.Omega.{arith}
use Rattle.book.proofs.Checks.{none, stop}
use Rattle.pooled_place.proofs.Words.{long_pooled}
use Rattle.calls.specs.Calls.{spread, question_fault}
use Rattle.calls.proofs.Asked.{empty_at, ready_pooled, asked_pooled}
use Rattle.calls.proofs.spread.Goals as goal

pub is_loaded-requires : goal.is_loaded-requires
is_loaded-requires c = omega (arith, long_pooled c.requires)

pub returns-then-not-is_loaded : goal.returns-then-not-is_loaded
unfolding question_fault
returns-then-not-is_loaded c = (sym (stop _ (empty_at _ _ c.is_loaded.ensures c.if-not-is_loaded.true) (λ z. omega arith)), λ z. omega arith)

pub spread_of-requires : goal.spread_of-requires
spread_of-requires c = (ready_pooled _ c.requires c.is_loaded.ensures c.if-not-is_loaded.false).holds

pub returns : goal.returns
returns c = (sym (asked_pooled spread (ready_pooled _ c.requires c.is_loaded.ensures c.if-not-is_loaded.false) none), c.spread_of.ensures)

-- `brier` meets its contract.
use native.Mathlib.Omega.{arith}
use Rattle.table.proofs.Words.{long_words}
use Rattle.book.proofs.Checks.{none}
use Rattle.calls.specs.Calls.{brier}
use Rattle.calls.proofs.Answered.{accepts}
use Rattle.calls.proofs.Asked.{asked_empty, ready, asked}
use Rattle.calls.proofs.brier.Goals as goal

pub is_loaded-requires : goal.is_loaded-requires
is_loaded-requires c = omega (arith, long_words c.requires)

pub returns-then-not-is_loaded : goal.returns-then-not-is_loaded
returns-then-not-is_loaded c = asked_empty _ brier _ _ c.is_loaded.ensures c.if-not-is_loaded.true

pub brier-requires : goal.brier-requires
brier-requires c = (ready _ c.requires c.is_loaded.ensures c.if-not-is_loaded.false).holds

pub returns : goal.returns
returns c = accepts (asked brier (ready _ c.requires c.is_loaded.ensures c.if-not-is_loaded.false) none) c.brier.ensures

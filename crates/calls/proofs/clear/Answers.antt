-- `clear` meets its contract.
use Rattle.calls.specs.Calls.{change_fault}
use Rattle.calls.proofs.Asked.{empty_at, loaded_at}
use Rattle.calls.proofs.clear.Goals as goal

pub returns-then-not-is_loaded-clause-value : goal.returns-then-not-is_loaded-clause-value
unfolding change_fault
returns-then-not-is_loaded-clause-value c = empty_at _ _ c.is_loaded.ensures c.if-not-is_loaded.true

pub returns-clause-value : goal.returns-clause-value
unfolding change_fault
returns-clause-value c = loaded_at _ _ c.is_loaded.ensures c.if-not-is_loaded.false

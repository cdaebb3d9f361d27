-- `compare` meets its contract.
use Rattle.refusals.specs.Answers.{says}
use Rattle.calls.specs.Calls.{Compared}
use Rattle.desk.proofs.Asked.{on_both}
use Rattle.desk.proofs.Desk.compare.Goals as goal

pub returns-clause-compares : goal.returns-clause-compares
returns-clause-compares c = on_both c.pooled_words.ensures.value c.pooled_words-2.ensures.value (λ p q. Compared p q (says c.compare.result)) c.compare.ensures

-- `compare_shares` meets its contract.
use Rattle.refusals.specs.Answers.{says}
use Rattle.calls.specs.Shares.{ComparedByShares}
use Rattle.desk.proofs.Asked.{on_both}
use Rattle.desk.proofs.Desk.compare_shares.Goals as goal

pub returns-clause-compares_by_shares : goal.returns-clause-compares_by_shares
returns-clause-compares_by_shares c =
    on_both c.pooled_words.ensures.value c.pooled_words-2.ensures.value (λ p q. ComparedByShares p q (says c.compare_shares.result)) c.compare_shares.ensures

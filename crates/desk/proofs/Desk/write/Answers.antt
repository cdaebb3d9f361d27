-- `write` meets its contract.
use mathlib.Core.Path.{◌≡◌}
use lib.ListN.{length}
use Rattle.book.specs.Writing.{tables_of, write_answer, buffer_after}
use Rattle.book.proofs.Books.{writable}
use Rattle.refusals.specs.Answers.{says}
use Rattle.desk.proofs.Asked.{on_both}
use Rattle.desk.proofs.Desk.write.Goals as goal

pub write-requires : goal.write-requires
write-requires c = (writable c.words.ensures.holds, writable c.words-2.ensures.holds)

pub returns-clause-out_after : goal.returns-clause-out_after
returns-clause-out_after c =
    on_both c.words.ensures.value c.words-2.ensures.value (λ p q. c.write.new.out ≡ buffer_after (tables_of p q) c.args.out.now) c.write.ensures.out_after

pub returns-clause-returns : goal.returns-clause-returns
returns-clause-returns c =
    on_both c.words.ensures.value c.words-2.ensures.value (λ p q. says c.write.result ≡ write_answer (tables_of p q) (length c.args.out.now))
    c.write.ensures.value

-- `desk_write` meets its contract.
use mathlib.Core.Path.{◌≡◌, refl, sym, ap, ◌∙◌}
use lib.ListN.{length}
use Rattle.book.specs.Writing.{tables_of, write_answer, buffer_after}
use Rattle.book.proofs.Books.{writable}
use Rattle.refusals.specs.Answers.{says}
use Rattle.refusals.proofs.Refused.{accepted_by, refused_by}
use Rattle.desk_c.proofs.Asked.{counts_place, on_both_counts}
use Rattle.desk_c.proofs.desk_write.Goals as goal

pub write-requires : goal.write-requires
write-requires c = (writable (counts_place c.requires 1 refl c.counts_at.ensures), writable (counts_place c.requires 2 refl c.counts_at-2.ensures))

pub returns-in-Ok : goal.returns-in-Ok
returns-in-Ok c =
    let s = c.write.ensures in
    let first = c.counts_at.ensures in
    let second = c.counts_at-2.ensures in
    let said = on_both_counts c.requires (λ p q. says c.write.result ≡ write_answer (tables_of p q) (length c.args.book.now)) s.value first second in
    let is = accepted_by _ _ (ap says (sym c.in-Ok.is) ∙ said) in record {
      desk = c.requires.exact;
      value = sym is.0;
      book_after = on_both_counts c.requires (λ p q. c.write.new.out ≡ buffer_after (tables_of p q) c.args.book.now) s.out_after first second;
      written_after = is.1;
    }

pub returns-in-Err-clause-value : goal.returns-in-Err-clause-value
returns-in-Err-clause-value c =
    let said = on_both_counts c.requires (λ p q. says c.write.result ≡ write_answer (tables_of p q) (length c.args.book.now)) c.write.ensures.value c.counts_at.ensures c.counts_at-2.ensures in
    c.number.ensures ∙ refused_by _ _ (ap says (sym c.in-Err.is) ∙ said)

pub returns-in-Err-clause-book_after : goal.returns-in-Err-clause-book_after
returns-in-Err-clause-book_after c =
    on_both_counts c.requires (λ p q. c.write.new.out ≡ buffer_after (tables_of p q) c.args.book.now) c.write.ensures.out_after c.counts_at.ensures c.counts_at-2.ensures

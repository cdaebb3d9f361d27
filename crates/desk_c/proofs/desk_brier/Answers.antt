-- `desk_brier` meets its contract.
use Prim.Native.Nat.{ℕ}
use mathlib.Core.Path.{◌≡◌, ap, sym, ◌∙◌}
use mathlib.Core.List.{List}
use native.Mathlib.Omega.{arith}
use Rattle.table.proofs.Signed.{count_back}
use Rattle.measures.specs.declared.Fraction.{Fraction}
use Rattle.measures.specs.Brier.{brier_of}
use Rattle.measures.proofs.Sizes.{FewBrier, few_brier}
use Rattle.refusals.specs.Answers.{accepted, answer, says}
use Rattle.refusals.proofs.Refused.{accepted_by, refused_by}
use Rattle.calls.specs.Calls.{brier}
use Rattle.desk.specs.Calls.{ask, number_of}
use Rattle.desk.proofs.Asked.{asked_sound}
use Rattle.desk_c.specs.Image.{desk_in, table_on, IsImage}
use Rattle.desk_c.specs.Numbers.{fraction_numbers}
use Rattle.desk_c.proofs.desk_brier.Goals as goal

few : {w : List ℕ} (i : IsImage w) (k : ℕ) {f : Fraction ℕ} → accepted f ≡ answer (number_of (desk_in w) (ask k brier)) (brier_of (table_on w k)) → FewBrier f
few i k e = let a = accepted_by _ _ e in rw a.1 (few_brier (asked_sound _ i.sound k brier a.0))

pub overflow_cast-answer : goal.overflow_cast-answer
overflow_cast-answer c =
    let f = few c.requires c.args.place (ap says (sym c.in-Ok.is) ∙ c.brier_at.ensures) in
    record { sfits = omega arith }

pub overflow_cast-answer-in-Ok : goal.overflow_cast-answer-in-Ok
overflow_cast-answer-in-Ok c =
    let f = few c.requires c.args.place (ap says (sym c.in-Ok.is) ∙ c.brier_at.ensures) in
    record { sfits = omega arith }

pub returns-in-Ok : goal.returns-in-Ok
returns-in-Ok c =
    let e = ap says (sym c.in-Ok.is) ∙ c.brier_at.ensures in
    let is = accepted_by _ _ e in
    let f = few c.requires c.args.place e in record {
      desk = c.requires.exact;
      value = sym is.0;
      answer_after = rw (count_back _ f.numerator, count_back _ f.denominator) (ap fraction_numbers is.1);
    }

pub returns-in-Err-clause-value : goal.returns-in-Err-clause-value
returns-in-Err-clause-value c = c.number.ensures ∙ refused_by _ _ (ap says (sym c.in-Err.is) ∙ c.brier_at.ensures)

-- `desk_measures` meets its contract.
use Prim.Native.Nat.{ℕ}
use mathlib.Core.Path.{◌≡◌, ap, sym, ◌∙◌}
use mathlib.Core.List.{List}
use native.Mathlib.Omega.{arith}
use borrow.Author.Rules.{rules}
use mir.Syntax.{w64}
use mir.Val.{SFits}
use Rattle.measures.specs.declared.Measures.{Measures}
use Rattle.measures.specs.Measures.{measures_of}
use Rattle.measures.proofs.Sizes.{FewPairs, few_measures}
use Rattle.refusals.specs.Answers.{accepted, answer, says}
use Rattle.refusals.proofs.Refused.{accepted_by, refused_by}
use Rattle.calls.specs.Calls.{measures}
use Rattle.desk.specs.Calls.{ask, number_of}
use Rattle.desk.proofs.Asked.{asked_sound}
use Rattle.desk_c.specs.Image.{desk_in, table_on, IsImage}
use Rattle.desk_c.specs.Numbers.{measures_numbers}
use Rattle.desk_c.proofs.Signed.{stores_numbers}
use Rattle.desk_c.proofs.desk_measures.Goals as goal

few : {w : List ℕ} (i : IsImage w) (k : ℕ) {m : Measures} → accepted m ≡ answer (number_of (desk_in w) (ask k measures)) (measures_of (table_on w k)) → FewPairs m
few i k e = let a = accepted_by _ _ e in rw a.1 (few_measures (asked_sound _ i.sound k measures a.0))

pub overflow_cast-answer-in-Ok-2 : goal.overflow_cast-answer-in-Ok-2
overflow_cast-answer-in-Ok-2 c =
    let f = few c.requires c.args.place (ap says (sym c.in-Ok.is) ∙ c.measures_at.ensures) in
    record { sfits = omega arith }

pub overflow_cast-answer-in-Ok-3 : goal.overflow_cast-answer-in-Ok-3
overflow_cast-answer-in-Ok-3 c =
    let f = few c.requires c.args.place (ap says (sym c.in-Ok.is) ∙ c.measures_at.ensures) in
    record { sfits = omega arith }

pub overflow_cast-answer-in-Ok-4 : goal.overflow_cast-answer-in-Ok-4
overflow_cast-answer-in-Ok-4 c =
    let f = few c.requires c.args.place (ap says (sym c.in-Ok.is) ∙ c.measures_at.ensures) in
    record { sfits = omega arith }

pub overflow_cast-answer-in-Ok-5 : goal.overflow_cast-answer-in-Ok-5
overflow_cast-answer-in-Ok-5 c =
    let f = few c.requires c.args.place (ap says (sym c.in-Ok.is) ∙ c.measures_at.ensures) in
    record { sfits = omega arith }

pub overflow_cast-answer-in-Ok-6 : goal.overflow_cast-answer-in-Ok-6
overflow_cast-answer-in-Ok-6 c =
    let f = few c.requires c.args.place (ap says (sym c.in-Ok.is) ∙ c.measures_at.ensures) in
    record { sfits = omega arith }

pub overflow_cast-answer-in-Ok-7 : goal.overflow_cast-answer-in-Ok-7
overflow_cast-answer-in-Ok-7 c =
    let f = few c.requires c.args.place (ap says (sym c.in-Ok.is) ∙ c.measures_at.ensures) in
    record { sfits = omega arith }

pub returns-in-Ok-clause-value : goal.returns-in-Ok-clause-value
returns-in-Ok-clause-value c = sym (accepted_by _ _ (ap says (sym c.in-Ok.is) ∙ c.measures_at.ensures)).0

pub returns-in-Ok-clause-answer_after : goal.returns-in-Ok-clause-answer_after
returns-in-Ok-clause-answer_after c =
    let m : Measures = c.in-Ok.m in
    let e = ap says (sym c.in-Ok.is) ∙ c.measures_at.ensures in
    let gini : SFits w64 m.gini.numerator = search rules in
    let pietra : SFits w64 m.pietra.numerator = search rules in
    stores_numbers m (record { gini = gini; pietra = pietra; few = few c.requires c.args.place e }) ∙ ap measures_numbers (accepted_by _ _ e).1

pub returns-in-Err-clause-value : goal.returns-in-Err-clause-value
returns-in-Err-clause-value c = c.number.ensures ∙ refused_by _ _ (ap says (sym c.in-Err.is) ∙ c.measures_at.ensures)

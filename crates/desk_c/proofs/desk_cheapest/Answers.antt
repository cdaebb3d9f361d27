-- `desk_cheapest` meets its contract.
use Prim.Native.Nat.{ℕ, ◌≤◌}
use mathlib.Core.Path.{◌≡◌, ap, sym, ◌∙◌}
use mathlib.Core.List.{List}
use native.Mathlib.Omega.{arith}
use Rattle.book.proofs.Checks.{held, held_first}
use Rattle.cutoff.specs.declared.CheapestCutoff.{CheapestCutoff}
use Rattle.cutoff.specs.Cutoff.{cheapest_of}
use Rattle.refusals.specs.Answers.{accepted, answer, says}
use Rattle.refusals.proofs.Refused.{accepted_by, refused_by}
use Rattle.calls.specs.Calls.{cheapest, question_fault}
use Rattle.desk.specs.declared.Desk.{Desk}
use Rattle.desk.specs.Calls.{ask, number_of}
use Rattle.desk.proofs.Asked.{asked_sound}
use Rattle.desk_c.specs.Image.{desk_in, table_on, IsImage}
use Rattle.desk_c.specs.Numbers.{cutoff_numbers}
use Rattle.desk_c.proofs.Signed.{FewCosts, few_costs, stores_cutoff}
use Rattle.desk_c.proofs.desk_cheapest.Goals as goal

priced : (d : Desk) (i u v : ℕ) → number_of d (ask i (cheapest u v)) ≡ 0 → v ≤ 1_000_000
unfolding question_fault
priced d i u v e = (held _ (held_first _ _ (held_first _ _ e).1).1).1.0

few : {w : List ℕ} (i : IsImage w) (k u v : ℕ) {x : CheapestCutoff}
    → accepted x ≡ answer (number_of (desk_in w) (ask k (cheapest u v))) (cheapest_of (table_on w k) u v) → FewCosts x
few i k u v e = let a = accepted_by _ _ e in rw a.1 (few_costs u v (asked_sound _ i.sound k _ a.0) (priced _ k u v a.0))

pub overflow_cast-answer-in-Ok : goal.overflow_cast-answer-in-Ok
overflow_cast-answer-in-Ok c =
    let a = c.args in
    let f = few c.requires a.place a.u a.v (ap says (sym c.in-Ok.is) ∙ c.cheapest_at.ensures) in
    record { sfits = omega arith }

pub returns-in-Ok : goal.returns-in-Ok
returns-in-Ok c =
    let a = c.args in
    let e = ap says (sym c.in-Ok.is) ∙ c.cheapest_at.ensures in
    let is = accepted_by _ _ e in record {
      desk = c.requires.exact;
      value = sym is.0;
      answer_after = stores_cutoff c.in-Ok.c (few c.requires a.place a.u a.v e) ∙ ap cutoff_numbers is.1;
    }

pub returns-in-Err-clause-value : goal.returns-in-Err-clause-value
returns-in-Err-clause-value c = c.number.ensures ∙ refused_by _ _ (ap says (sym c.in-Err.is) ∙ c.cheapest_at.ensures)

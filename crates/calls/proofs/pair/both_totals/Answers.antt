-- `both_totals` meets its contract: each place answers with its totals, or its refusal is handed back; then the checks of both, one by one.
use Prim.Native.Nat.{ℕ}
use mathlib.Core.Path.{◌≡◌, refl, sym, ap, ◌∙◌}
use mathlib.Core.List.{List}
use native.Mathlib.Omega.{arith}
use Rattle.std.specs.Prelude.{Result, Err}
use Rattle.table.specs.declared.Totals.{Totals}
use Rattle.table.specs.Counts.{totals_of_lem}
use Rattle.table.specs.Words.{place_in, table_in}
use Rattle.book.proofs.Checks.{Finds, found, none, pass, over, over_or, stop, go}
use Rattle.refusals.specs.declared.Refusal.{Refusal}
use Rattle.refusals.specs.Numbers.{number_of, number_in}
use Rattle.refusals.specs.Answers.{Answer, accepted, refused, answer, says}
use Rattle.refusals.proofs.Refused.{never_0, number_given}
use Rattle.calls.specs.Calls.{empty_fault}
use Rattle.calls.specs.Private.{mixed_checks, mixed_fault, pair_totals}
use Rattle.calls.proofs.Answered.{refuses, accepts}
use Rattle.calls.proofs.Compared.{HasTotals, totals_taken}
use Rattle.calls.proofs.pair.both_totals.Goals.{In-Ok, In-Ok-second_answer}
use Rattle.calls.proofs.pair.both_totals.Goals as goal

-- What the places answered.

ours : (c : In-Ok) → HasTotals c.args.first.now c.in-Ok.ours
ours c = totals_taken c.requires.0 c.in-Ok.ensures

theirs : (c : In-Ok-second_answer) → HasTotals c.args.second.now c.in-Ok-second_answer.theirs
theirs c = totals_taken c.requires.1 c.in-Ok-second_answer.ensures

-- What a place refused is its fault.
handed_back : (w : List ℕ) (r : Result Totals Refusal) (e : Refusal) → r ≡ Err e → says r ≡ answer (empty_fault (place_in w)) (totals_of_lem (table_in w))
    → number_of e ≡ empty_fault (place_in w)
handed_back w r e h s = sym (ap number_in h) ∙ number_given r _ (totals_of_lem (table_in w)) s

pub returns-in_default : goal.returns-in_default
returns-in_default c =
    let n = handed_back c.args.first.now _ _ c.unwrap_err.ensures c.totals-first_answer.ensures in
    refuses _ _ (stop _ n (never_0 _)) (never_0 _)

pub returns-in_default-second_answer : goal.returns-in_default-second_answer
returns-in_default-second_answer c =
    let s = ours (goal.at.returns-in_default-second_answer c).In-Ok in
    let n = handed_back c.args.second.now _ _ c.unwrap_err-in_default-second_answer.ensures c.totals-second_answer.ensures in
    refuses _ _ (go s.ready.loaded (stop _ n (never_0 _))) (never_0 _)

-- The checks of both.

module _ {v w : List ℕ} {a b : Totals} (s : HasTotals v a) (t : HasTotals w b) where
  pair_refuses : (n : ℕ) → Finds (mixed_checks (table_in v) (table_in w)) n → (n ≡ 0 → ⊥)
      → refused n ≡ answer (mixed_fault (place_in v) (place_in w)) (pair_totals (place_in v) (place_in w))
  pair_refuses n f z = refuses n (pair_totals (place_in v) (place_in w)) (go s.ready.loaded (go t.ready.loaded (found f))) z

  pair_accepts : Finds (mixed_checks (table_in v) (table_in w)) 0
      → ◌≡◌ {A = Answer (Totals × Totals)} (accepted (a, b)) (answer (mixed_fault (place_in v) (place_in w)) (pair_totals (place_in v) (place_in w)))
  pair_accepts f = accepts (go s.ready.loaded (go t.ready.loaded (found f))) (rw (s.totals, t.totals) refl)

pub returns-then-ours-eq0 : goal.returns-then-ours-eq0
returns-then-ours-eq0 c =
    let at = goal.at.returns-then-ours-eq0 c in
    let s = ours at.In-Ok in
    let t = theirs at.In-Ok-second_answer in
    pair_refuses s t 23 (over_or (λ h. over (omega (arith, s.defaults, t.defaults)))) (λ z. omega arith)

pub returns-then-ours-eq0-2 : goal.returns-then-ours-eq0-2
returns-then-ours-eq0-2 c =
    let at = goal.at.returns-then-ours-eq0-2 c in
    let s = ours at.In-Ok in
    let t = theirs at.In-Ok-second_answer in
    pair_refuses s t 24
    (pass (omega (arith, s.defaults))
    (pass (omega (arith, t.defaults)) (over_or (λ h. over (omega (arith, s.survivors, t.survivors))))))
    (λ z. omega arith)

pub returns : goal.returns
returns c =
    let at = goal.at.returns c in
    let s = ours at.In-Ok in
    let t = theirs at.In-Ok-second_answer in
    pair_accepts s t
    (pass (omega (arith, s.defaults))
    (pass (omega (arith, t.defaults))
    (pass (omega (arith, s.survivors))
    (pass (omega (arith, t.survivors)) none))))

-- `compare` meets its contract: both places answer with their totals, or their refusal is passed on; then the totals are compared.
use mathlib.Core.List.{List, [], ◌∷◌}
use native.Mathlib.Omega.{arith}
use Rattle.table.specs.Table.{Table, defaults_in, survivors_in}
use Rattle.table.specs.Words.{table_in}
use Rattle.book.specs.Checks.{Check, equal}
use Rattle.book.proofs.Checks.{none, same, other, other_or}
use Rattle.cutoff.specs.Verdict.{IsVerdict}
use Rattle.calls.specs.Calls.{compare_fault, pair_checks}
use Rattle.calls.proofs.Compared.{Taken, pair_refused, pair_taken, further}
use Rattle.calls.proofs.pair.compare.Goals.{In_ok-ours}
use Rattle.calls.proofs.pair.compare.Goals as goal

-- 25, behind the checks of both comparisons
abbrev rest : Table → Table → List Check
rest t₁ t₂ = equal (defaults_in t₁) (defaults_in t₂) 25 ∷ equal (survivors_in t₁) (survivors_in t₂) 25 ∷ []

pub returns-in_err-ours : goal.returns-in_err-ours
unfolding compare_fault pair_checks
returns-in_err-ours c =
    let v = c.args.first.now in
    let w = c.args.second.now in
    pair_refused v w _ _ (IsVerdict (table_in v) (table_in w)) (rest (table_in v) (table_in w)) c.from_residual.ensures.1 c.in_err-ours.ensures

taken : (c : In_ok-ours) → Taken c.args.first.now c.in_ok-ours.ours × Taken c.args.second.now c.in_ok-ours.theirs
taken c = pair_taken _ _ c.requires.0 c.requires.1 c.in_ok-ours.ensures

pub returns-then-ours-theirs : goal.returns-then-ours-theirs
unfolding compare_fault pair_checks
returns-then-ours-theirs c =
    let (s, t) = taken (goal.at.returns-then-ours-theirs c).In_ok-ours in
    let a = s.answered in
    let b = t.answered in
    (further s t (other_or (λ h. other (λ e. omega (arith, a.defaults, b.defaults, a.survivors, b.survivors)))), λ z. omega arith)

pub judge-requires-clause-tables : goal.judge-requires-clause-tables
judge-requires-clause-tables c =
    let (s, t) = taken (goal.at.judge-requires-clause-tables c).In_ok-ours in (s.answered.ready.holds, t.answered.ready.holds)

pub judge-requires-clause-defaults : goal.judge-requires-clause-defaults
judge-requires-clause-defaults c =
    let (s, t) = taken (goal.at.judge-requires-clause-defaults c).In_ok-ours in omega (arith, s.answered.defaults, t.answered.defaults)

pub judge-requires-clause-survivors : goal.judge-requires-clause-survivors
judge-requires-clause-survivors c =
    let (s, t) = taken (goal.at.judge-requires-clause-survivors c).In_ok-ours in omega (arith, s.answered.survivors, t.answered.survivors)

pub returns : goal.returns
unfolding compare_fault pair_checks
returns c =
    let (s, t) = taken (goal.at.returns c).In_ok-ours in (
      further s t
          (same (omega (arith, s.answered.defaults, t.answered.defaults)) (same (omega (arith, s.answered.survivors, t.answered.survivors)) none)),
      c.judge.ensures,
    )

-- `compare_shares` meets its contract: both places answer with their totals, or their refusal is passed on; then the sizes are tested.
use Prim.Native.Nat.{ℕ, ◌≤◌}
use mathlib.Core.List.{List, [], ◌∷◌}
use native.Mathlib.Omega.{arith}
use Rattle.table.specs.Table.{Table, obligors_in}
use Rattle.table.specs.declared.Totals.{Totals}
use Rattle.table.specs.Words.{table_in}
use Rattle.book.specs.Checks.{Check, at_most}
use Rattle.book.proofs.Checks.{none, pass, over, over_or}
use Rattle.shares.specs.Verdict.{IsVerdictByShares}
use Rattle.shares.specs.Judge.{Shareable}
use Rattle.calls.specs.Shares.{shares_fault, shares_checks}
use Rattle.calls.proofs.Compared.{Taken, pair_refused, pair_taken, further}
use Rattle.calls.proofs.pair.compare_shares.Goals.{In_ok-ours}
use Rattle.calls.proofs.pair.compare_shares.Goals as goal

-- 35, behind the checks of both comparisons
abbrev rest : Table → Table → List Check
rest t₁ t₂ = at_most (obligors_in t₁) 100_000 35 ∷ at_most (obligors_in t₂) 100_000 35 ∷ []

shareable : {w : List ℕ} {n : Totals} → Taken w n → obligors_in (table_in w) ≤ 100_000 → Shareable (table_in w)
shareable t few = let sound = t.answered.ready.holds.sound in
    record { sound = sound; mixed = record { counted = sound.counted; defaulted = t.defaulted; survived = t.survived }; few = few }

pub returns-in_err-ours : goal.returns-in_err-ours
unfolding shares_fault shares_checks
returns-in_err-ours c =
    let v = c.args.first.now in
    let w = c.args.second.now in
    pair_refused v w _ _ (IsVerdictByShares (table_in v) (table_in w)) (rest (table_in v) (table_in w)) c.from_residual.ensures.1 c.in_err-ours.ensures

taken : (c : In_ok-ours) → Taken c.args.first.now c.in_ok-ours.ours × Taken c.args.second.now c.in_ok-ours.theirs
taken c = pair_taken _ _ c.requires.0 c.requires.1 c.in_ok-ours.ensures

pub returns-then-ours-gt-OBLIGORS_ON_SHARES : goal.returns-then-ours-gt-OBLIGORS_ON_SHARES
unfolding shares_fault shares_checks
returns-then-ours-gt-OBLIGORS_ON_SHARES c =
    let (s, t) = taken (goal.at.returns-then-ours-gt-OBLIGORS_ON_SHARES c).In_ok-ours in
    (further s t (over_or (λ h. over (omega (arith, s.answered.obligors, t.answered.obligors)))), λ z. omega arith)

pub judge-requires-clause-tables : goal.judge-requires-clause-tables
judge-requires-clause-tables c =
    let (s, t) = taken (goal.at.judge-requires-clause-tables c).In_ok-ours in (s.answered.ready.holds, t.answered.ready.holds)

-- Both tables are small enough, which `omega` reads off the tests.
pub judge-requires-clause-shareable : goal.judge-requires-clause-shareable
judge-requires-clause-shareable c =
    let (s, t) = taken (goal.at.judge-requires-clause-shareable c).In_ok-ours in
    (shareable s (omega (arith, s.answered.obligors)), shareable t (omega (arith, t.answered.obligors)))

pub judge-requires-clause-totals : goal.judge-requires-clause-totals
judge-requires-clause-totals c =
    let (s, t) = taken (goal.at.judge-requires-clause-totals c).In_ok-ours in (s.answered.totals, t.answered.totals)

pub returns : goal.returns
unfolding shares_fault shares_checks
returns c =
    let (s, t) = taken (goal.at.returns c).In_ok-ours in
    (further s t (pass (omega (arith, s.answered.obligors)) (pass (omega (arith, t.answered.obligors)) none)), c.judge.ensures)

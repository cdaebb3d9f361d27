-- `added` meets its contract: the run's survivors are at most 1,000,000, its defaults with those behind it at most twice that.
use Prim.Native.Nat.{ℕ, ◌+◌, ◌-◌, ◌≤◌}
use mathlib.Core.List.{List}
use native.Mathlib.Nat.{mul-le-mul}
use native.Mathlib.Omega.{arith}
use Rattle.shorter.specs.declared.Sums.{Sums}
use Rattle.shorter.specs.Private.{survived_from, defaulted_from, gain, Priced}
use Rattle.shorter.proofs.added.Goals as goal

few : {w : List Sums} {v : List ℕ} {i e : ℕ} → Priced w v i e → gain w i e ≤ 2_000_000_000_000
few {w} {v} {i} {e} p = let n : survived_from w i - survived_from w e ≤ 1_000_000 = omega (arith, p.survived) in
    let m : defaulted_from w i + defaulted_from w e ≤ 2_000_000 = omega (arith, p.defaulted, p.defaults) in
    mul-le-mul n m

pub overflow_sub-result : goal.overflow_sub-result
overflow_sub-result c = c.requires.2.survivors

pub overflow_add-result : goal.overflow_add-result
overflow_add-result c = let p = c.requires.2 in omega (arith, p.defaulted, p.defaults)

pub overflow_mul-result : goal.overflow_mul-result
overflow_mul-result c = omega (arith, few c.requires.2)

pub overflow_add-result-2 : goal.overflow_add-result-2
overflow_add-result-2 c = let p = c.requires.2 in omega (arith, few p, p.behind)

-- `squares` meets its contract: at most 10^12 for each of at most 1,000,000 obligors.
use Prim.Native.Nat.{ℕ, ◌-◌, ◌*◌, ◌≤◌}
use native.Mathlib.Nat.{mul-le-mul_left}
use native.Mathlib.Omega.{arith}
use Rattle.table.proofs.Arithmetic.{counts_le}
use Rattle.measures.proofs.squares.Goals as goal

of_defaults : (n rate : ℕ) → n * ((1_000_000 - rate) * (1_000_000 - rate)) ≤ n * 1_000_000_000_000
of_defaults n rate = let q : 1_000_000 - rate ≤ 1_000_000 = omega arith in mul-le-mul_left n (counts_le q q)

of_survivors : (n rate : ℕ) → rate ≤ 1_000_000 → n * (rate * rate) ≤ n * 1_000_000_000_000
of_survivors n rate h = mul-le-mul_left n (counts_le h h)

pub overflow_mul-result : goal.overflow_mul-result
overflow_mul-result c =
    let a = c.args in
    rw c.square.ensures (omega (arith, c.requires.0, of_defaults a.defaults a.rate))

pub overflow_mul-result-2 : goal.overflow_mul-result-2
overflow_mul-result-2 c = rw c.square-2.ensures (omega (arith, c.requires.0, of_survivors c.args.survivors.0 c.args.rate c.requires.1))

pub overflow_add-result : goal.overflow_add-result
overflow_add-result c =
    let a = c.args in
    rw (c.square.ensures, c.square-2.ensures)
    (omega (arith, c.requires.0, of_defaults a.defaults a.rate, of_survivors a.survivors.0 a.rate c.requires.1))

pub returns : goal.returns
returns c = rw (c.square.ensures, c.square-2.ensures)

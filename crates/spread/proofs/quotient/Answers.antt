-- `quotient` meets its contract: an f64 holds both operands, so that only the quotient is rounded, and it is below 2^18.
use Prim.Native.Nat.{ℕ, ◌+◌, ◌*◌, ◌^◌, ◌≤◌}
use mathlib.Core.Path.{◌≡◌, refl, sym, subst}
use mathlib.Core.Bool.{false}
use native.Mathlib.Omega.{arith}
use lib.Dec.{T, le→leb}
use lib.IntN.{ℤ, pos}
use lib.Ieee.{binary64, in_float, of_int}
use lib.Ieee.Exact.{HasValue}
use mir.Syntax.{w64}
use mir.Val.{to_z}
use Rattle.table.proofs.Arithmetic.{counts_le}
use Rattle.table.proofs.Signed.{count_back}
use Rattle.spread.proofs.Quarter.{product_le}
use Rattle.spread.proofs.Operations.{whole_value, div_near}
use Rattle.spread.proofs.quotient.Goals as goal

in-float : (n : ℕ) → n ≤ 2 ^ 53 → T (in_float binary64 (pos n))
unfolding in_float
in-float n h = le→leb n (2 ^ 53) h

pub overflow_mul-result : goal.overflow_mul-result
overflow_mul-result c =
    let product_small : c.args.defaults * c.survivors-survivors.result.0 ≤ 1_000_000_000_000 = counts_le {a = c.args.defaults} {b = c.survivors-survivors.result.0} (omega arith) (omega (arith, c.survivors-survivors.ensures)) in
    omega (arith, product_small)

pub overflow_cast-result-3 : goal.overflow_cast-result-3
overflow_cast-result-3 c =
    let product_small : c.args.defaults * c.survivors-survivors.result.0 ≤ 1_000_000_000_000 = counts_le {a = c.args.defaults} {b = c.survivors-survivors.result.0} (omega arith) (omega (arith, c.survivors-survivors.ensures)) in
    omega (arith, product_small)

pub int_to_float-result : goal.int_to_float-result
int_to_float-result c =
    let product_small : c.args.defaults * c.survivors-survivors.result.0 ≤ 1_000_000_000_000 = counts_le {a = c.args.defaults} {b = c.survivors-survivors.result.0} (omega arith) (omega (arith, c.survivors-survivors.ensures)) in
    let product-back : let n = c.args.defaults * c.survivors-survivors.result.0 in to_z w64 n ≡ pos n = count_back (c.args.defaults * c.survivors-survivors.result.0) (omega (arith, product_small)) in
    subst (λ (z : ℤ). T (in_float binary64 z)) (sym product-back) (in-float _ (omega (arith, product_small)))

pub returns : goal.returns
returns c =
    let product_small : c.args.defaults * c.survivors-survivors.result.0 ≤ 1_000_000_000_000 = counts_le {a = c.args.defaults} {b = c.survivors-survivors.result.0} (omega arith) (omega (arith, c.survivors-survivors.ensures)) in
    let product-back : let n = c.args.defaults * c.survivors-survivors.result.0 in to_z w64 n ≡ pos n = count_back (c.args.defaults * c.survivors-survivors.result.0) (omega (arith, product_small)) in
    let d = c.args.defaults in
    let s = c.survivors-survivors.result.0 in
    let all : d + s ≡ c.args.obligors.0 = omega (arith, c.survivors-survivors.ensures) in
    let product = product_le d s 1_000_000 (omega arith) in
    let above = subst (λ (z : ℤ). HasValue (of_int binary64 z) false (d * s) 1) (sym product-back) (whole_value binary64 (d * s) (omega arith)) in
    let below = whole_value binary64 (d + s) (omega arith) in
    rw (← c.survivors-survivors.ensures, ← all) (div_near binary64 18 36 refl _ _ (d * s) (d + s) above below (omega arith) (omega arith))

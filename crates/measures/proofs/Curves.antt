-- Gini, ROC and CAP are what is published of them: areas, ratios of areas and probabilities.
use Prim.Native.Nat.{ℕ, ◌+◌, ◌*◌, ◌≤◌}
use mathlib.Core.Path.{◌≡◌}
use native.Mathlib.Nat.{mul-pos}
use native.Mathlib.Omega.{arith}
use Rattle.table.specs.Table.{Table, Mixed, defaults_in, survivors_in, obligors_in}
use Rattle.table.proofs.Arithmetic.{times_eq}
use Rattle.table.proofs.Sums.{obligors_split}
use Rattle.pooling.specs.Fraction.{Equal, ratio, sum, difference, product}
use Rattle.pooling.proofs.Scaled.{Over, over-sum, over-difference, equal, over-ratio, over_own, over-product}
use Rattle.measures.specs.Pairs.{is_concordant, is_discordant, concordant, discordant}
use Rattle.measures.specs.Measures.{pairs, measures_of}
use Rattle.measures.specs.Published.{value, signed_value, roc_area, cap_area, probability}
use Rattle.measures.proofs.Pairs.{every_pair}
use Rattle.measures.proofs.Counted.{pairs_are_counted}
use Rattle.measures.proofs.Fractions.{over_signed, over_wider}
use Rattle.measures.proofs.Areas.{roc_over, cap_over}

-- a fraction with the denominator of an area
over_area : (d k l : ℕ) → Over (k * (2 * l)) 0 (ratio d (2 * (l * k))) d
over_area d k l = over-ratio d (2 * (l * k)) (omega arith)

gini_over : (t : Table) → Over (pairs t) (discordant t) (signed_value (measures_of t).gini) (concordant t)
unfolding measures_of
gini_over t = over_signed (concordant t) (discordant t) (pairs t)

module _ (t : Table) (mixed : Mixed t) where
  some_pairs : 1 ≤ pairs t
  some_pairs = mul-pos mixed.defaulted mixed.survived

  twice_pairs : 1 ≤ survivors_in t * (2 * defaults_in t)
  twice_pairs = omega (arith, some_pairs)

  twice_profile : 1 ≤ obligors_in t * (2 * defaults_in t)
  twice_profile =
      let n : 1 ≤ obligors_in t = omega (arith, obligors_split t mixed.counted, mixed.survived) in
      omega (arith, mul-pos n mixed.defaulted)

  -- N D is D D and the pairs
  profile : obligors_in t * defaults_in t ≡ defaults_in t * defaults_in t + pairs t
  profile = omega (arith, times_eq (defaults_in t) (obligors_split t mixed.counted))

  pub roc_is_area : Equal (value (measures_of t).roc) (roc_area t)
  unfolding measures_of
  roc_is_area = equal (over_area _ (survivors_in t) (defaults_in t)) (roc_over t) twice_pairs (omega arith)

  pub cap_is_area : Equal (value (measures_of t).cap) (cap_area t)
  unfolding measures_of
  cap_is_area = equal (over_area _ (obligors_in t) (defaults_in t)) (cap_over t) twice_profile (omega (arith, every_pair t, profile))

  pub gini_is_difference : Equal (signed_value (measures_of t).gini) (difference (probability is_concordant t) (probability is_discordant t))
  gini_is_difference =
      let (c, x, _, all) = pairs_are_counted t in
      rw (c, x, all) (equal (gini_over t) (over-difference (over_own _ _) (over_own _ _)) some_pairs (omega arith))

  pub roc_is_half : Equal (value (measures_of t).roc) (product (ratio 1 2) (sum (signed_value (measures_of t).gini) (ratio 1 1)))
  unfolding measures_of
  roc_is_half =
      let one : Over (pairs t) 0 (ratio 1 1) (pairs t) = over-ratio 1 1 (omega arith) in
      equal (over_own _ (2 * pairs t)) (over-product (over_own 1 2) (over-sum (gini_over t) one)) (omega (arith, some_pairs)) (omega (arith, every_pair t))

  pub gini_is_ratio : Equal
      (product (signed_value (measures_of t).gini) (difference (ratio 1 2) (product (ratio 1 2) (ratio (defaults_in t) (obligors_in t)))))
      (difference (cap_area t) (ratio 1 2))
  gini_is_ratio =
      let n = obligors_in t in
      let d = defaults_in t in
      let s = survivors_in t in
      let half : Over (n * (2 * d)) 0 (ratio 1 2) (n * d) = over-ratio 1 2 (omega arith) in
      let perfect = over-difference (over-ratio {m = 2 * n} {a = n} 1 2 (omega arith)) (over-product (over_own 1 2) (over_own d n)) in
      let common : s * (n * (2 * d)) ≡ pairs t * (2 * n) = omega arith in
      let all = obligors_split t mixed.counted in
      equal (over-product (gini_over t) perfect) (rw common at (over_wider s (over-difference (cap_over t) half)))
      (omega (arith, common, mul-pos mixed.survived twice_profile))
      (omega (arith, times_eq (concordant t) all, times_eq (discordant t) all, times_eq s profile, times_eq s (every_pair t)))

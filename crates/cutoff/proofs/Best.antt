-- The best of finitely many: what `best` finds, for values in any strict order, and which values have their best at the same place.
use Prim.Native.Nat.{ℕ, zero, suc, ◌≤◌, ◌<◌}
use mathlib.Core.Path.{◌≡◌, refl}
use mathlib.Core.Bool.{Bool, not, cond}
use native.Mathlib.Omega.{arith}
use native.Mathlib.Decide.{dec_le}
use lib.Dec.{T, T_not, not_T, ltb, lt→ltb, ltb→lt, nltb→le}
use Rattle.table.proofs.Test.{by-test}
use Rattle.cutoff.specs.Best.{best}

-- What is asked of `better`: of two values at most one is better, and what is better than y is better than all that are not.
pub record StrictOrder {A : Type 0} (better : A → A → Bool) : Type 0 where
  pub asymmetric : (x y : A) → T (better x y) → T (not (better y x))
  pub beats : (x y z : A) → T (better x y) → T (not (better z y)) → T (better x z)

-- g is the number from 0 to k with the best value, the smallest of equals.
pub record IsBest {A : Type 0} (better : A → A → Bool) (f : ℕ → A) (k g : ℕ) : Type 0 where
  pub within : g ≤ k
  pub none_better : (h : ℕ) → h ≤ k → T (not (better (f h) (f g)))
  pub smaller_worse : (h : ℕ) → h < g → T (better (f g) (f h))

-- What holds up to k, and of the next, holds up to the next.
up_to : {P : ℕ → Type 0} (k : ℕ) → ((h : ℕ) → h ≤ k → P h) → P (suc k) → (h : ℕ) → h ≤ suc k → P h
up_to k all next h l = elim (dec_le h k) [ yes le ↦ all h le | no gt ↦ let e : h ≡ suc k = omega arith in rw e next ]

module _ {A : Type 0} (better : A → A → Bool) (order : StrictOrder better) where
  not_itself : (x : A) → T (not (better x x))
  not_itself x = not_T (better x x) (λ b. T_not (better x x) (order.asymmetric x x b) b)

  pub is_best : (f : ℕ → A) (k : ℕ) → IsBest better f k (best better f k)
  unfolding best
  is_best f zero =
      record {
        within = omega arith;
        none_better = λ h l. let e : h ≡ 0 = omega arith in rw e (not_itself (f 0));
        smaller_worse = λ h l. absurd (omega arith);
      }
  is_best f (suc k) = next (is_best f k)
    where
      g : ℕ
      g = best better f k

      next : IsBest better f k g → IsBest better f (suc k) (cond (better (f (suc k)) (f g)) (suc k) g)
      next b =
          by-test (IsBest better f (suc k)) (better (f (suc k)) (f g))
          (λ x.
          let beaten : (h : ℕ) → h ≤ k → T (better (f (suc k)) (f h)) = λ h l. order.beats _ (f g) (f h) x (b.none_better h l) in
          record {
            within = omega arith;
            none_better = up_to k (λ h l. order.asymmetric _ _ (beaten h l)) (not_itself _);
            smaller_worse = λ h l. beaten h (omega arith);
          })
          (λ x. record { within = omega (arith, b.within); none_better = up_to k b.none_better x; smaller_worse = b.smaller_worse })

  -- Values that compare alike have their best at the same place.
  pub best_alike : (f f' : ℕ → A) (k : ℕ) → ((i j : ℕ) → i ≤ k → j ≤ k → better (f i) (f j) ≡ better (f' i) (f' j))
      → best better f k ≡ best better f' k
  unfolding best
  best_alike f f' zero e = refl
  best_alike f f' (suc k) e =
      let rest = best_alike f f' k (λ i j p q. e i j (omega arith) (omega arith)) in
      rw (rest, e (suc k) (best better f' k) (omega arith) (omega (arith, (is_best f' k).within)))

-- Of numbers, the least.

pub ltb_order : StrictOrder ltb
ltb_order =
    record {
      asymmetric = λ x y h. not_T (ltb y x) (λ k. omega (arith, ltb→lt x y h, ltb→lt y x k));
      beats = λ x y z h k. lt→ltb x z (omega (arith, ltb→lt x y h, nltb→le z y k));
    }

-- The obligors of a table are listed in grade order, as many of each grade as the table has.
use Prim.Native.Nat.{ℕ, zero, suc, ◌+◌, ◌*◌, ◌≤◌}
use mathlib.Core.Path.{◌≡◌, refl}
use mathlib.Core.Bool.{Bool, true, false, not, ◌&&◌}
use mathlib.Core.List.{List, [], ◌∷◌, ◌++◌}
use native.Mathlib.Omega.{arith}
use lib.Dec.{eqb, eqb_refl}
use lib.ListN.{get_or, replicate}
use Rattle.table.specs.Table.{Table, Grade, Every, survivors}
use Rattle.table.specs.Place.{blank}
use Rattle.table.proofs.Every.{every_append, every_replicate}
use Rattle.measures.specs.Pairs.{those, number, Obligor, obligors_from, obligors_of_lem, InGradeOrder, IsListOf}
use Rattle.measures.proofs.Counted.{one, bad, good, number_append, number-replicate, passes, unlike}

-- In grade order.

order_replicate : (k : ℕ) (o : Obligor) (l : List Obligor) → Every (λ later. o.grade ≤ later.grade) l → InGradeOrder l
    → InGradeOrder (replicate k o ++ l)
unfolding InGradeOrder
order_replicate zero o l h order = order
order_replicate (suc k) o l h order = (
  every_append (λ later. o.grade ≤ later.grade) (replicate k o) l (every_replicate _ k o (omega arith)) h,
  order_replicate k o l h order,
)

from : (a g : ℕ) (t : Table) → a ≤ g → Every (λ o. a ≤ o.grade) (obligors_from g t)
unfolding obligors_from
from a g [] h = tt
from a g (r ∷ t) h =
    let s = survivors r in
    every_append (λ o. a ≤ o.grade) (replicate r.defaults (bad g)) _ (every_replicate _ r.defaults (bad g) h)
    (every_append _ (replicate s (good g)) (obligors_from (suc g) t) (every_replicate _ s (good g) h) (from a (suc g) t (omega arith)))

in_order : (g : ℕ) (t : Table) → InGradeOrder (obligors_from g t)
unfolding obligors_from InGradeOrder
in_order g [] = tt
in_order g (r ∷ t) =
    let later = from g (suc g) t (omega arith) in
    let s = survivors r in
    order_replicate r.defaults (bad g) _
    (every_append (λ o. g ≤ o.grade) (replicate s (good g)) (obligors_from (suc g) t) (every_replicate _ s (good g) (omega arith)) later)
    (order_replicate s (good g) (obligors_from (suc g) t) later (in_order (suc g) t))

-- So many of grade j, by a test of the outcome.
module _ (outcome : Bool → Bool) (j : ℕ) where
  abbrev here : Obligor → Bool
  here o = eqb o.grade j && outcome o.defaulted

  here_yes : (o : Obligor) → o.grade ≡ j → here o ≡ outcome o.defaulted
  here_yes o e = rw (e, passes (eqb j j) (eqb_refl j))

  here_no : (o : Obligor) → (o.grade ≡ j → ⊥) → here o ≡ false
  here_no o n = rw (unlike o.grade j n)

  of_grade : (g : ℕ) (r : Grade) (t : Table) {a b : Bool} → here (bad g) ≡ a → here (good g) ≡ b
      → number here (obligors_from g (r ∷ t)) ≡ r.defaults * one a + survivors r * one b + number here (obligors_from (suc g) t)
  unfolding obligors_from
  of_grade g r t p q =
      let s = replicate (survivors r) (good g) in
      omega (
        arith,
        number_append here (replicate r.defaults (bad g)) (s ++ obligors_from (suc g) t),
        number_append here s (obligors_from (suc g) t),
        number-replicate here r.defaults (bad g) p,
        number-replicate here (survivors r) (good g) q,
      )

  passed : (g : ℕ) (t : Table) → suc j ≤ g → number here (obligors_from g t) ≡ 0
  unfolding obligors_from those
  passed g [] h = refl
  passed g (r ∷ t) h =
      omega (arith, of_grade g r t (here_no (bad g) (λ e. omega arith)) (here_no (good g) (λ e. omega arith)), passed (suc g) t (omega arith))

  listed : (g i : ℕ) (t : Table) → j ≡ g + i
      → number here (obligors_from g t) ≡ (get_or t i blank).defaults * one (outcome true) + survivors (get_or t i blank) * one (outcome false)
  unfolding obligors_from those
  listed g i [] e = omega arith
  listed g zero (r ∷ t) e =
      omega (arith, of_grade g r t (here_yes (bad g) (omega arith)) (here_yes (good g) (omega arith)), passed (suc g) t (omega arith))
  listed g (suc i) (r ∷ t) e =
      omega (
        arith,
        of_grade g r t (here_no (bad g) (λ h. omega arith)) (here_no (good g) (λ h. omega arith)),
        listed (suc g) i t (omega arith),
      )

pub obligors_are_listed : (t : Table) → IsListOf t (obligors_of_lem t)
obligors_are_listed t = record {
  ordered = in_order 0 t;
  defaulted = λ g. omega (arith, listed (λ b. b) g 0 g t (omega arith));
  survived = λ g. omega (arith, listed not g 0 g t (omega arith));
}

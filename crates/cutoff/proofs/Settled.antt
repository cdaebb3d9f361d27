-- A verdict is right: the test at the break-even prices of a table's blocks decides whether the table is at least as good as the other.
use mathlib.Core.Path.{◌≡◌, refl, sym}
use mathlib.Core.Logic.Iff
use mathlib.Core.Logic.{◌↔◌}
use mathlib.Core.Bool.{Bool, true, false, ◌&&◌}
use mathlib.Core.List.{[], ◌∷◌}
use native.Mathlib.Omega.{arith}
use lib.Dec.{T, leb→le, le→leb}
use Rattle.table.specs.Table.{Table, Grade, Every, Counted, survivors_in}
use Rattle.pooling.specs.Pool.{pooled_scale}
use Rattle.cutoff.specs.Cutoff.{AtLeastAsGood}
use Rattle.cutoff.specs.Verdict.{calls_first, calls_second, FirstDearer, SecondDearer}
use Rattle.cutoff.specs.Verdict.{break_even_lem, no_dearer_at, all, never_dearer_lem, IsVerdict, Settles}
use Rattle.cutoff.specs.declared.Price.{Price}
use Rattle.cutoff.specs.declared.Verdict.{Verdict}
use Rattle.cutoff.specs.declared.Verdict.TheVariants.{Equal, First, Second, Crossing}
use Rattle.cutoff.proofs.Dominance.{NoDearerAt, at_least_as_good}

-- The test.

pub both : (x y : Bool) → T (x && y) ↔ (T x × T y)
both true y = (λ h. (tt, h), λ h. h.1)
both false y = (λ h. absurd h, λ h. h.0)

-- A test of every grade decides of all what it decides of each.
pub all_every : (test : Grade → Bool) (P : Grade → Type 0) → ((b : Grade) → T (test b) ↔ P b) → (t : Table) → T (all test t) ↔ Every P t
unfolding all
all_every test P decides [] = (λ h. tt, λ h. tt)
all_every test P decides (b ∷ t) = Iff.trans (both (test b) (all test t)) (Iff.and (decides b) (all_every test P decides t))

pub never-dearer : (t₁ t₂ : Table) → Every Counted t₁ → survivors_in t₁ ≡ survivors_in t₂ → T (never_dearer_lem t₁ t₂) ↔ AtLeastAsGood t₁ t₂
never-dearer t₁ t₂ counted same =
    let tested = all_every (λ b. no_dearer_at t₁ t₂ (break_even_lem b)) (NoDearerAt t₁ t₂) (λ b. (leb→le _ _, le→leb _ _)) (pooled_scale t₁) in
    Iff.trans tested (Iff.symm (at_least_as_good t₁ t₂ counted (omega arith)))

-- A verdict that does not call the first at least as good carries prices at which it costs more; likewise the second.

pub first_carried : (v : Verdict) → (T (calls_first v) → ⊥) → (p : Price) × FirstDearer v p
first_carried Equal h = absurd (h tt)
first_carried (First p) h = absurd (h tt)
first_carried (Second p) h = (p, refl)
first_carried (Crossing p q) h = (p, refl)

pub second_carried : (v : Verdict) → (T (calls_second v) → ⊥) → (p : Price) × SecondDearer v p
second_carried Equal h = absurd (h tt)
second_carried (First p) h = (p, refl)
second_carried (Second p) h = absurd (h tt)
second_carried (Crossing p q) h = (q, refl)

-- A verdict settles which table is at least as good.
pub settles : (t₁ t₂ : Table) → Every Counted t₁ → Every Counted t₂ → survivors_in t₁ ≡ survivors_in t₂
    → (v : Verdict) → IsVerdict t₁ t₂ v → Settles t₁ t₂ v
settles t₁ t₂ counted₁ counted₂ same v is =
    record {
      first = rw is.first (never-dearer t₁ t₂ counted₁ same);
      first_pair = λ h. let (p, carried) = first_carried v h in (p, carried, is.first-dearer p carried);
      second = rw is.second (never-dearer t₂ t₁ counted₂ (sym same));
      second_pair = λ h. let (p, carried) = second_carried v h in (p, carried, is.second-dearer p carried);
    }

-- At least as good is an order, since every table has a cheapest cost at all prices; better is its strict part, and is computed.
use mathlib.Core.Path.{◌≡◌, sym}
use mathlib.Core.Logic.{◌↔◌}
use mathlib.Core.Bool.{not}
use mathlib.Core.List.{List, [], ◌∷◌}
use native.Mathlib.Omega.{arith}
use lib.Dec.{T, T_not, not_T}
use Rattle.table.specs.Table.{Table, Every, Counted, survivors_in}
use Rattle.cutoff.specs.Cutoff.{AtLeastAsGood}
use Rattle.cutoff.specs.Verdict.{never_dearer_lem}
use Rattle.cutoff.proofs.Cost.{cheapest_is}
use Rattle.cutoff.proofs.Settled.{both, never-dearer}
use Rattle.shortlist.specs.Shortlist.{Better, better, unbeaten}

good_trans : {t₁ t₂ t₃ : Table} → AtLeastAsGood t₁ t₂ → AtLeastAsGood t₂ t₃ → AtLeastAsGood t₁ t₃
good_trans {t₁} {t₂} {t₃} p q u v c₁ c₃ h₁ h₃ =
    let h₂ = cheapest_is t₂ u v in
    omega (arith, p u v c₁ _ h₁ h₂, q u v _ c₃ h₂ h₃)

-- Better than what is at least as good is better.
pub better_good : {t₁ t₂ t₃ : Table} → Better t₁ t₂ → AtLeastAsGood t₂ t₃ → Better t₁ t₃
better_good p q = (good_trans p.0 q, λ r. p.1 (good_trans q r))

pub better_trans : {t₁ t₂ t₃ : Table} → Better t₁ t₂ → Better t₂ t₃ → Better t₁ t₃
better_trans p q = better_good p q.0

pub better_self : {t : Table} → Better t t → ⊥
better_self p = p.1 p.0

-- The test.

pub better_computed : (t₁ t₂ : Table) → Every Counted t₁ → Every Counted t₂ → survivors_in t₁ ≡ survivors_in t₂ → T (better t₁ t₂) ↔ Better t₁ t₂
better_computed t₁ t₂ counted₁ counted₂ same =
    let one = never-dearer t₁ t₂ counted₁ same in
    let two = never-dearer t₂ t₁ counted₂ (sym same) in
    let test = both (never_dearer_lem t₁ t₂) (not (never_dearer_lem t₂ t₁)) in (
      λ h. (one.0 (test.0 h).0, λ g. T_not (never_dearer_lem t₂ t₁) (test.0 h).1 (two.1 g)),
      λ h. test.1 (one.1 h.0, not_T (never_dearer_lem t₂ t₁) (λ g. h.1 (two.0 g))),
    )

-- What a table is that no other beats.
pub unbeaten_every : (ts : List Table) (t : Table) → T (unbeaten ts t) ↔ Every (λ other. T (better other t) → ⊥) ts
unfolding unbeaten
unbeaten_every [] t = (λ h. tt, λ h. tt)
unbeaten_every (other ∷ ts) t =
    let rest = unbeaten_every ts t in
    let test = both (not (better other t)) (unbeaten ts t) in
    (λ h. (T_not (better other t) (test.0 h).0, rest.0 (test.0 h).1), λ h. test.1 (not_T (better other t) h.0, rest.1 h.1))

-- The claims: `claims` has nothing to do but to show each of them.
use mathlib.Core.Path.{◌≡◌, refl}
use mathlib.Core.List.{[], ◌∷◌}
use lib.ListN.{take, drop}
use Rattle.cutoff.specs.Verdict.{FirstDearer, SecondDearer}
use Rattle.cutoff.specs.declared.Price.{Price}
use Rattle.cutoff.specs.declared.Verdict.{Verdict}
use Rattle.cutoff.specs.declared.Verdict.TheVariants.{Equal, First, Second, Crossing}
use Rattle.desk_c.proofs.Images.{desk_back}
use Rattle.desk_c.specs.Numbers.{verdict_numbers}
use Rattle.desk_c.proofs.claims.Goals as goal

told : (v : Verdict) (p : Price)
    → (FirstDearer v p → take 2 (drop 1 (verdict_numbers v)) ≡ p.u ∷ p.v ∷ [])
    × (SecondDearer v p → drop 3 (verdict_numbers v) ≡ p.u ∷ p.v ∷ [])
told Equal p = (λ h. absurd h, λ h. absurd h)
told (First q) p = (λ h. absurd h, λ e. rw e refl)
told (Second q) p = (λ e. rw e refl, λ h. absurd h)
told (Crossing q r) p = (λ e. rw e refl, λ e. rw e refl)

pub returns : goal.returns
returns c =
    record {
      images_read_back = desk_back;
      pairs_are_told_apart = told;
    }

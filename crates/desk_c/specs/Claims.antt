-- What is claimed of images beyond the contracts. The contract of `claims` in src/lib.rt is all of it, so that the crate is refused where
-- a claim is not proved.
use Rattle.std.specs.Prelude.{◌≡◌, [], ◌∷◌, take, drop}
use Rattle.cutoff.specs.Verdict.{FirstDearer, SecondDearer}
use Rattle.cutoff.specs.declared.Price.{Price}
use Rattle.cutoff.specs.declared.Verdict.{Verdict}
use Rattle.desk.specs.declared.Desk.{Desk}
use Rattle.desk.specs.Desk.{SoundDesk}
use Rattle.desk_c.specs.Image.{image_of, desk_in}
use Rattle.desk_c.specs.Numbers.{verdict_numbers}

-- An image is read back as the desk that it is of.
abbrev pub ImagesReadBack : Type 0
ImagesReadBack = (d : Desk) → SoundDesk d → desk_in (image_of d) ≡ d

-- The pair at which the first costs more stands in the second and third number, the one at which the second costs more in the last two.
abbrev pub PairsAreToldApart : Type 0
PairsAreToldApart =
    (v : Verdict) (p : Price)
    → (FirstDearer v p → take 2 (drop 1 (verdict_numbers v)) ≡ p.u ∷ p.v ∷ [])
    × (SecondDearer v p → drop 3 (verdict_numbers v) ≡ p.u ∷ p.v ∷ [])

-- All of them: what the function `claims` of this crate promises.
pub record Claims : Type 0 where
  pub images_read_back : ImagesReadBack
  pub pairs_are_told_apart : PairsAreToldApart

-- "The analysts' handbook prints fourteen band limits": these, in ppm, that of band 0 first. The search for a band is lent this list.
use Rattle.std.specs.Prelude.{ℕ, List, [], ◌∷◌}

unfoldable pub listed_limits : List ℕ
listed_limits =
    100
    ∷ 200
    ∷ 400
    ∷ 800
    ∷ 1_600
    ∷ 3_200
    ∷ 6_400
    ∷ 12_800
    ∷ 25_600
    ∷ 51_200
    ∷ 102_400
    ∷ 204_800
    ∷ 409_600
    ∷ 819_200
    ∷ []

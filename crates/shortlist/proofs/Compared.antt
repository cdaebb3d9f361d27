-- Comparing a rater with those before it, turn by turn: after each turn what is left gives the marks that the whole gives.
use Prim.Native.Nat.{ℕ, suc, ◌+◌, ◌-◌, ◌<◌}
use mathlib.Core.Path.{◌≡◌, refl, sym, ◌∙◌, ap}
use mathlib.Core.Bool.{Bool, true, false, not, ◌&&◌}
use mathlib.Core.List.{List, [], map}
use native.Mathlib.Numerals.{add-one}
use native.Mathlib.Omega.{arith}
use lib.ListN.{length, get_or, set}
use Rattle.std.proofs.lemmas.List.{get_or-map}
use Rattle.cutoff.specs.Verdict.{never_dearer_lem}
use Rattle.shortlist.specs.Private.{table_held, Comparable, Searchable, beats, winner_of, compared}
use Rattle.shortlist.specs.declared.scales.Scale.{Scale}
use Rattle.shortlist.specs.declared.beaten.Winner.{Winner}
use Rattle.shortlist.specs.declared.beaten.Winner.TheVariants.{First, Second, Neither}

-- The winner says who beats whom.

abbrev is_first : Winner → Bool
is_first First = true
is_first Second = false
is_first Neither = false

abbrev is_second : Winner → Bool
is_second First = false
is_second Second = true
is_second Neither = false

first_is : (x y : Bool) → is_first (winner_of x y) ≡ x && not y
first_is true true = refl
first_is true false = refl
first_is false true = refl
first_is false false = refl

second_is : (x y : Bool) → is_second (winner_of x y) ≡ y && not x
second_is true true = refl
second_is true false = refl
second_is false true = refl
second_is false false = refl

-- The scale of rater i, as the code takes it.
scale_at : (held : List Scale) (i : ℕ) (s : Scale) → i < length held → s ≡ get_or held i s → get_or (map table_held held) i [] ≡ table_held s
scale_at held i s l e = get_or-map table_held held i s [] l ∙ ap table_held (sym e)

module _ (held : List Scale) (i j : ℕ) {first second : Scale} (p : i < length held) (q : j < length held)
    (e : first ≡ get_or held i first) (f : second ≡ get_or held j second) {w : Winner}
    (g : w ≡ winner_of (never_dearer_lem (table_held first) (table_held second)) (never_dearer_lem (table_held second) (table_held first))) where
  first_beats : beats held i j ≡ is_first w
  first_beats =
      rw (scale_at held i first p e, scale_at held j second q f, g)
      (sym (first_is (never_dearer_lem (table_held first) (table_held second)) (never_dearer_lem (table_held second) (table_held first))))

  second_beats : beats held j i ≡ is_second w
  second_beats =
      rw (scale_at held i first p e, scale_at held j second q f, g)
      (sym (second_is (never_dearer_lem (table_held first) (table_held second)) (never_dearer_lem (table_held second) (table_held first))))

-- A turn.

-- the marks once j is compared with those from i on, too
abbrev from : (ℕ → ℕ → Bool) → ℕ → ℕ → List Bool → List Bool
from beats j i beaten = compared beats j (j - i) i beaten

-- the same, by the winner of i and j
abbrev pub won_by : (ℕ → ℕ → Bool) → ℕ → ℕ → List Bool → Winner → List Bool
won_by beats j i beaten First = set beaten j true
won_by beats j i beaten Second = from beats j (i + 1) (set beaten i true)
won_by beats j i beaten Neither = from beats j (i + 1) beaten

module _ (beats : ℕ → ℕ → Bool) (j i : ℕ) (beaten : List Bool) (l : i < j) where
  left : j - i ≡ suc (j - suc i)
  left = omega arith

  pub skipped : get_or beaten i false ≡ true → from beats j (i + 1) beaten ≡ from beats j i beaten
  unfolding compared
  skipped h = rw (add-one i, left, h)

  won : get_or beaten i false ≡ false → (w : Winner) → beats i j ≡ is_first w → beats j i ≡ is_second w → won_by beats j i beaten w ≡ from beats j i beaten
  unfolding compared
  won z First a b = rw (left, z, a)
  won z Second a b = rw (add-one i, left, z, a, b)
  won z Neither a b = rw (add-one i, left, z, a, b)

-- Raters i and j are compared, and w is the winner.
pub turned : (held : List Scale) (j i : ℕ) (beaten : List Bool) (l : i < j) (m : j < length held) {first second : Scale}
    → first ≡ get_or held i first → second ≡ get_or held j second → get_or beaten i false ≡ false → (w : Winner)
    → w ≡ winner_of (never_dearer_lem (table_held first) (table_held second)) (never_dearer_lem (table_held second) (table_held first))
    → won_by (beats held) j i beaten w ≡ from (beats held) j i beaten
turned held j i beaten l m e f z w g =
    won (beats held) j i beaten l z w (first_beats held i j (omega arith) m e f g) (second_beats held i j (omega arith) m e f g)

-- Two of the scales, as the code takes them, can be compared.
pub comparable : {held : List Scale} → Searchable held → (i j : ℕ) → i < length held → j < length held
    → {first second : Scale} → first ≡ get_or held i first → second ≡ get_or held j second → Comparable first second
comparable {held} s i j p q {first} {second} e f =
    rw (← e, ← f) at (s.comparable i j first second p q)

-- What cutoffs turn away: none, all, a suffix of the table, and the same in a longer table.
use Prim.Native.Nat.{ℕ, zero, suc, ◌+◌, ◌-◌, ◌≤◌}
use mathlib.Core.Path.{◌≡◌, refl}
use mathlib.Core.List.{[], ◌∷◌}
use native.Mathlib.Nat.{sub_self}
use native.Mathlib.Omega.{arith}
use lib.ListN.{length, drop, drop_of_length-le}
use Rattle.table.specs.declared.Place.{Place}
use Rattle.table.specs.Table.{Table, Grade}
use Rattle.table.specs.Place.{grades_from, table_of}
use Rattle.table.proofs.Suffix.{suffix, length_grades}
use Rattle.cutoff.specs.Cutoff.{turned_away}

pub turned_none : (t : Table) → turned_away t 0 ≡ []
unfolding turned_away
turned_none t = drop_of_length-le t {i = length t - 0} (omega arith)

pub turned_all : (t : Table) → turned_away t (length t) ≡ t
unfolding turned_away
turned_all t = rw sub_self

pub turned_cons : (r : Grade) (t : Table) (g : ℕ) → g ≤ length t → turned_away (r ∷ t) g ≡ turned_away t g
unfolding turned_away
turned_cons r t g h =
    let e : suc (length t) - g ≡ suc (length t - g) = omega arith in
    rw e

-- The worst grades of a table in a place.

drop_grades : (p : Place) (j i k a b : ℕ) → a ≡ j + i → b ≡ k - i → drop i (grades_from p j k) ≡ grades_from p a b
unfolding grades_from
drop_grades p j zero k a b e f = let x : a ≡ j = omega arith in let y : b ≡ k = omega arith in rw (x, y)
drop_grades p j (suc i) zero a b e f = let y : b ≡ 0 = omega arith in rw y
drop_grades p j (suc i) (suc k) a b e f = drop_grades p (suc j) i k a b (omega arith) (omega arith)

pub turned_suffix : (p : Place) (i : ℕ) → i ≤ p.grades → turned_away (table_of p) (p.grades - i) ≡ suffix p i
unfolding turned_away
turned_suffix p i h =
    let e : length (table_of p) - (p.grades - i) ≡ i = omega (arith, length_grades p 0 p.grades) in
    rw e (drop_grades p 0 i p.grades _ _ (omega arith) refl)

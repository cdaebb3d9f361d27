-- The pooled list among the words of a place: read, put back, copied, and made anew.
use Prim.Native.Nat.{ℕ, ◌+◌, ◌-◌, ◌*◌}
use mathlib.Core.Path.{◌≡◌, refl, sym, ap, ◌∙◌}
use mathlib.Core.List.{List, [], ◌++◌, append-nil}
use native.Mathlib.Omega.{arith}
use borrow.Rule.Slice.PartMut.{put_mid}
use lib.ListN.{length, take, drop, replicate, length-append, length-drop, drop_of_length-le}
use lib.Seq.{paste, take_all, take_at, drop_at}
use Rattle.table.specs.declared.Place.{Place}
use Rattle.table.specs.Table.{Table, Sound}
use Rattle.table.specs.Place.{table_of, place_of}
use Rattle.table.specs.Place as place
use Rattle.table.specs.Words.{place_size, words_of, place_in, table_in}
use Rattle.table.proofs.Placed.{table_placed}
use Rattle.table.proofs.Words.{long_place, words_length, place_back}
use Rattle.pooling.specs.Numbers.{pooled_numbers, pooled_into}
use Rattle.pooling.proofs.Repeating.{length_pooled_numbers}
use Rattle.pooling.proofs.Written.{drop_pooled}
use Rattle.pooled_place.specs.PooledPlace.{no_list, list_of}
use Rattle.pooled_place.specs.Words.{pooled_place_size, counts_in, list_in}
use Rattle.pooled_place.proofs.Words.{place_counts}

-- the words from 122 on
pub list_part : (w : List ℕ) → take (length w - 122) (drop 122 w) ≡ list_in w
list_part w = take_all (length w - 122) (drop 122 w) (omega (arith, length-drop 122 w))

-- put back changed
pub list_put : (w : List ℕ) {l m : List ℕ} → length w ≡ pooled_place_size → l ≡ m → put_mid 122 (length w - 122) w l ≡ counts_in w ++ m
list_put w {l} {m} e h =
    let n : length w - 122 ≡ 120 = omega arith in
    let none : drop 120 (drop 122 w) ≡ [] = drop_of_length-le (drop 122 w) {i = 120} (omega (arith, length-drop 122 w)) in
    rw (h, n, none) (ap (λ (x : List ℕ). counts_in w ++ x) (append-nil m))

-- A list of 120 numbers stored over zeros.
pub list_copied : (l : List ℕ) → length l ≡ 120 → paste (replicate 120 0) 0 l (length l) ≡ l
list_copied l e = rw e (rw (take_all 120 l (omega arith)) (append-nil l))

-- Words whose counts are those of a table u, whatever list stands behind them.

module _ (u : Table) (s : Sound u) (l : List ℕ) where
  stored_long : length (words_of (place_of u)) ≡ place_size
  stored_long = words_length (place_of u) (long_place (place.holds u s))

  pub stored-length : length l ≡ 120 → length (words_of (place_of u) ++ l) ≡ pooled_place_size
  stored-length n = rw (length-append, stored_long, n) refl

  counts_stored : counts_in (words_of (place_of u) ++ l) ≡ words_of (place_of u)
  counts_stored = take_at (words_of (place_of u)) l 122 stored_long

  pub table_stored : table_in (words_of (place_of u) ++ l) ≡ u
  table_stored =
      ap (λ (p : Place). table_of p)
      (sym (place_counts (words_of (place_of u) ++ l)) ∙ ap (λ (x : List ℕ). place_in x) counts_stored ∙ place_back (place_of u) (long_place (place.holds u s)))
      ∙ table_placed u

  -- and then made anew
  pub pooled_anew : {w x : List ℕ} → w ≡ words_of (place_of u) ++ l → x ≡ counts_in w ++ pooled_into (table_in w) (list_in w)
      → x ≡ words_of (place_of u) ++ pooled_into u l
  pooled_anew e f =
      let counts = ap (λ (v : List ℕ). counts_in v) e ∙ counts_stored in
      let list = ap (λ (v : List ℕ). list_in v) e ∙ drop_at (words_of (place_of u)) l 122 stored_long in
      let table = ap (λ (v : List ℕ). table_in v) e ∙ table_stored in
      f ∙ rw (counts, list, table) refl

-- A list is made anew over that of a table with as many grades.
pub list_anew : (t u : Table) → length u ≡ length t → pooled_into u (list_of t) ≡ list_of u
list_anew t u e = let k = drop_pooled t no_list in rw e (ap (λ (l : List ℕ). pooled_numbers u ++ l) k)

-- Its first numbers, three a grade, copied into a buffer.
pub list_copied_into : (t : Table) (out s : List ℕ) (n : ℕ) → n ≡ 3 * length t → s ≡ take n (list_of t) → paste out 0 s (length s) ≡ pooled_into t out
list_copied_into t out s n e f =
    let own : s ≡ pooled_numbers t = f ∙ ap (λ (k : ℕ). take k (list_of t)) e ∙ take_at (pooled_numbers t) _ (3 * length t) (length_pooled_numbers t) in
    let m = length_pooled_numbers t in
    let z : 0 + 3 * length t ≡ 3 * length t = omega arith in
    rw (own, m, take_all (3 * length t) (pooled_numbers t) (omega arith), z) refl

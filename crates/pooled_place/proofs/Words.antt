-- A place with its pooled list and its words: one read from the other, and what the words tell of the counts.
use Prim.Native.Nat.{ℕ, zero, suc, ◌+◌, ◌-◌, ◌≤◌}
use mathlib.Core.Path.{◌≡◌, refl, sym, ap, subst, ◌∙◌}
use mathlib.Core.Bool.{true, false}
use mathlib.Core.List.{List, [], ◌∷◌, ◌++◌, append-nil}
use native.Mathlib.Nat.{sub-zero, suc-sub-suc}
use native.Mathlib.Omega.{arith}
use lib.ListN.{length, take, drop, replicate, length-append, length-replicate, length-drop}
use lib.Seq.{paste, take_all, take_at, drop_at, take-take, get_or-take, length-take-le}
use Rattle.table.specs.declared.Place.{Place}
use Rattle.table.specs.Table.{Table, Sound}
use Rattle.table.specs.Place.{table_of, SoundPlace}
use Rattle.table.specs.Place as place
use Rattle.table.specs.Words.{place_size, words_of, column_in, place_in, table_in, HoldsTable}
use Rattle.table.proofs.Placed.{table_placed, placed_loaded}
use Rattle.table.proofs.Pastes.{paste-behind}
use Rattle.table.proofs.Suffix.{length_grades}
use Rattle.table.proofs.Words.{long_place, words_length, place_back}
use Rattle.pooling.proofs.Written.{length_pooled}
use Rattle.pooled_place.specs.declared.PooledPlace.{PooledPlace}
use Rattle.pooled_place.specs.PooledPlace.{no_list, list_of, fresh_pooled_place, pooled_place_of, SoundPooledPlace, empty, holds}
use Rattle.pooled_place.specs.Words.{pooled_place_size, pooled_place_words, counts_in, list_in, pooled_place_in, HoldsPooledTable, IsPooledPlace}

-- What is read of the counts stands in the first 122 words.

drop-take : (n m : ℕ) (l : List ℕ) → n ≤ m → drop n (take m l) ≡ take (m - n) (drop n l)
drop-take zero m l h = rw sub-zero
drop-take (suc n) zero l h = absurd (omega arith)
drop-take (suc n) (suc m) [] h = sym (take_none (suc m - suc n))
  where
    take_none : (k : ℕ) → ◌≡◌ {A = List ℕ} (take k []) []
    take_none zero = refl
    take_none (suc k) = refl
drop-take (suc n) (suc m) (x ∷ l) h = rw suc-sub-suc (drop-take n m l (omega arith))

column_counts : (w : List ℕ) (at : ℕ) → at + 40 ≤ 122 → column_in (counts_in w) at ≡ column_in w at
column_counts w at h = ap (take 40) (drop-take at 122 w (omega arith)) ∙ take-take 40 (122 - at) (drop at w) (omega arith)

pub place_counts : (w : List ℕ) → place_in (counts_in w) ≡ place_in w
place_counts w =
    let g = get_or-take 122 w 120 0 (omega arith) in
    let l = get_or-take 122 w 121 0 (omega arith) in
    rw (column_counts w 0 (omega arith), column_counts w 40 (omega arith), column_counts w 80 (omega arith), g, l) refl

pub table_counts : (w : List ℕ) → table_in (counts_in w) ≡ table_in w
table_counts w = ap (λ (p : Place). table_of p) (place_counts w)

pub length_counts : (w : List ℕ) → length w ≡ pooled_place_size → length (counts_in w) ≡ place_size
length_counts w e = length-take-le 122 w (omega arith)

pub length_list : (w : List ℕ) → length w ≡ pooled_place_size → length (list_in w) ≡ 120
length_list w e = rw (length-drop, e) refl

pub counts_hold : (w : List ℕ) → length w ≡ pooled_place_size → Sound (table_in w) → HoldsTable (counts_in w)
counts_hold w e s = record { long = length_counts w e; sound = rw (table_counts w) s }

-- Places that calls left.

pub length_list_of : (t : Table) → Sound t → length (list_of t) ≡ 120
length_list_of t s = length_pooled t no_list (omega (arith, s.few, length-replicate {A = ℕ} 120 0)) ∙ length-replicate {A = ℕ} 120 0

pub sound_place : {k : PooledPlace} → SoundPooledPlace k → SoundPlace k.place
sound_place empty = place.empty
sound_place (holds t s) = place.holds t s

list_long : {k : PooledPlace} → SoundPooledPlace k → length k.pooled ≡ 120
list_long empty = length-replicate {A = ℕ} 120 0
list_long (holds t s) = length_list_of t s

module _ {k : PooledPlace} (s : SoundPooledPlace k) where
  counts_long : length (words_of k.place) ≡ place_size
  counts_long = words_length k.place (long_place (sound_place s))

  pub pooled_place_length : length (pooled_place_words k) ≡ pooled_place_size
  pooled_place_length = rw (length-append, counts_long, list_long s) refl

  pub counts_read : counts_in (pooled_place_words k) ≡ words_of k.place
  counts_read = take_at (words_of k.place) k.pooled 122 counts_long

  pub list_read : list_in (pooled_place_words k) ≡ k.pooled
  list_read = drop_at (words_of k.place) k.pooled 122 counts_long

  pub place_read : place_in (pooled_place_words k) ≡ k.place
  place_read = sym (place_counts (pooled_place_words k)) ∙ ap (λ (x : List ℕ). place_in x) counts_read ∙ place_back k.place (long_place (sound_place s))

  pub pooled_place_back : pooled_place_in (pooled_place_words k) ≡ k
  pooled_place_back = rw (place_read, list_read) refl

  pub is_pooled_place : IsPooledPlace (pooled_place_words k)
  is_pooled_place = record { sound = rw pooled_place_back s; exact = ap pooled_place_words (sym pooled_place_back) }

-- Their words.

module _ {w : List ℕ} (i : IsPooledPlace w) where
  pub long_pooled : length w ≡ pooled_place_size
  long_pooled = ap length i.exact ∙ pooled_place_length i.sound

loaded_holds : {k : PooledPlace} → SoundPooledPlace k → k.place.loaded ≡ true → (Sound (table_of k.place)) × (k ≡ pooled_place_of (table_of k.place))
loaded_holds empty h = let z : ◌≡◌ {A = ℕ} 0 1 = cc in absurd (omega arith)
loaded_holds (holds t s) h = (rw (table_placed t) s, rw (table_placed t) refl)

unloaded_fresh : {k : PooledPlace} → SoundPooledPlace k → k.place.loaded ≡ false → k ≡ fresh_pooled_place
unloaded_fresh empty h = refl
unloaded_fresh (holds t s) h = let z : ◌≡◌ {A = ℕ} 0 1 = cc (rw (placed_loaded t) at h) in absurd (omega arith)

pub holds_pooled : {w : List ℕ} → IsPooledPlace w → (place_in w).loaded ≡ true → HoldsPooledTable w
holds_pooled i h = let l = loaded_holds i.sound h in record { sound = l.0; exact = i.exact ∙ ap pooled_place_words l.1 }

pub holds_no_table : {w : List ℕ} → IsPooledPlace w → (place_in w).loaded ≡ false → w ≡ pooled_place_words fresh_pooled_place
holds_no_table i h = i.exact ∙ ap pooled_place_words (unloaded_fresh i.sound h)

-- Words that hold a table with its list.

module _ {w : List ℕ} (h : HoldsPooledTable w) where
  pub held-length : length w ≡ pooled_place_size
  held-length = ap length h.exact ∙ pooled_place_length (holds (table_in w) h.sound)

  pub held_list : list_in w ≡ list_of (table_in w)
  held_list = ap (λ (x : List ℕ). list_in x) h.exact ∙ list_read (holds (table_in w) h.sound)

  pub held_table : HoldsTable (counts_in w)
  held_table = counts_hold w held-length h.sound

-- Counts and list stored over zeros.
pub words_stored : (k : PooledPlace) → SoundPooledPlace k → {c u v : List ℕ} → c ≡ words_of k.place
    → u ≡ paste (replicate 242 0) 0 c (length c) → v ≡ paste u 122 k.pooled (length k.pooled) → v ≡ pooled_place_words k
words_stored k s {c} e f g =
    let n : length c ≡ 122 = ap length e ∙ counts_long s in
    let zeros : List ℕ = replicate 242 0 in
    let f' = rw n at f in
    let g' = rw (list_long s) at g in
    let all = c ++ k.pooled in
    let m : length all ≡ 242 = rw (length-append, n, list_long s) refl in
    rw (g', f', paste-behind zeros c k.pooled 0 122 120 122 refl n (omega (arith, list_long s)) (omega arith), take_all 242 all (omega arith), e)
    (append-nil _)

-- The grade count of the counts is that of the table.
pub grade_count : (w : List ℕ) {v : List ℕ} {n : ℕ} → v ≡ counts_in w → n ≡ (place_in v).grades → n ≡ length (table_in w)
grade_count w e h =
    let g = ap (λ (x : List ℕ). (place_in x).grades) e ∙ ap (λ (p : Place). p.grades) (place_counts w) in
    omega (arith, h, g, length_grades (place_in w) 0 (place_in w).grades)

pub grades-in : (w : List ℕ) {n : ℕ} → n ≡ (place_in w).grades → n ≡ length (table_in w)
grades-in w h = omega (arith, h, length_grades (place_in w) 0 (place_in w).grades)

-- The words of the counts, as a part that is lent.

pub counts_lent : {w v : List ℕ} → HoldsPooledTable w → v ≡ counts_in w → HoldsTable v
counts_lent h e = subst HoldsTable (sym e) (held_table h)

pub counts_same : (w : List ℕ) {v : List ℕ} → v ≡ counts_in w → table_in v ≡ table_in w
counts_same w e = ap (λ (x : List ℕ). table_in x) e ∙ table_counts w

-- A place and its words: one read from the other, and what a loop over the grades in a lent place knows at each turn.
use Prim.Native.Nat.{ℕ, ◌+◌, ◌-◌, ◌≤◌, ◌<◌}
use mathlib.Core.Path.{◌≡◌, refl, sym, ap, ◌∙◌}
use mathlib.Core.Bool.{Bool, true, false, cond}
use mathlib.Core.List.{List, [], ◌∷◌, ◌++◌, append_assoc}
use native.Mathlib.Nat.{zero-add}
use native.Mathlib.Omega.{arith}
use lib.Dec.{eqb}
use lib.ListN.{length, get_or, take, drop, length-append}
use lib.Seq.{take_at, drop_at, drop-drop, get_or-take, get_or-drop}
use Rattle.table.specs.declared.Place.{Place}
use Rattle.table.specs.Table.{Counted, Rated, Sound, defaults_in, obligors_in}
use Rattle.table.specs.Place.{fresh, grade_at, table_of, place_of, SoundPlace, empty, holds}
use Rattle.table.specs.Words.{place_size, words_of, column_in, place_in, table_in, HoldsTable, IsPlace}
use Rattle.table.proofs.Placed.{length-column, placed_grades, placed_loaded, sound_placed}
use Rattle.table.proofs.Suffix.{suffix, suffix_end, suffix_at, suffix_down, every_suffix, length_grades, Small, sound_small, small}

-- Places that calls left.

pub few_grades : {p : Place} → SoundPlace p → p.grades ≤ 40
few_grades empty = omega arith
few_grades (holds t s) = rw (placed_grades t) s.few

-- A place whose columns have 40 numbers each.
pub record Long (p : Place) : Type 0 where
  pub obligors : length p.obligors ≡ 40
  pub defaults : length p.defaults ≡ 40
  pub announced : length p.announced ≡ 40

pub long_place : {p : Place} → SoundPlace p → Long p
unfolding place_of
long_place empty = record { obligors = refl; defaults = refl; announced = refl }
long_place (holds t s) =
    record {
      obligors = length-column (λ g. g.obligors) t s.few;
      defaults = length-column (λ g. g.defaults) t s.few;
      announced = length-column (λ g. g.announced) t s.few;
    }

pub not_loaded : {p : Place} → SoundPlace p → p.loaded ≡ false → p ≡ fresh
not_loaded empty h = refl
not_loaded (holds t s) h = let z : ◌≡◌ {A = ℕ} 0 1 = cc (rw (placed_loaded t) at h) in absurd (omega arith)

pub sound_loaded : {p : Place} → SoundPlace p → p.loaded ≡ true → Sound (table_of p)
sound_loaded empty h = let z : ◌≡◌ {A = ℕ} 0 1 = cc in absurd (omega arith)
sound_loaded (holds t s) h = sound_placed t s

-- Words.

pub words_length : (p : Place) → Long p → length (words_of p) ≡ place_size
words_length p l = rw (length-append, length-append, length-append, l.obligors, l.defaults, l.announced) refl

flag_back : (b : Bool) → eqb (cond b 1 0) 1 ≡ b
flag_back true = refl
flag_back false = refl

-- a list whose numbers from n on are x, and behind it y
behind : (l x y : List ℕ) (n k m : ℕ) → drop n l ≡ x ++ y → length x ≡ k → n + k ≡ m → drop m l ≡ y
behind l x y n k m e h s = rw (← s) (sym (drop-drop k n l) ∙ ap (λ (z : List ℕ). drop k z) e ∙ drop_at x y k h)

module _ (p : Place) (long : Long p) where
  abbrev words : List ℕ
  words = words_of p

  abbrev tail : List ℕ
  tail = p.grades ∷ cond p.loaded 1 0 ∷ []

  one : words ≡ p.obligors ++ (p.defaults ++ (p.announced ++ tail))
  one =
      append_assoc (p.obligors ++ p.defaults) p.announced tail
      ∙ append_assoc p.obligors p.defaults (p.announced ++ tail)

  two : drop 40 words ≡ p.defaults ++ (p.announced ++ tail)
  two = behind words p.obligors _ 0 40 40 one long.obligors refl

  three : drop 80 words ≡ p.announced ++ tail
  three = behind words p.defaults _ 40 40 80 two long.defaults refl

  four : drop 120 words ≡ tail
  four = behind words p.announced _ 80 40 120 three long.announced refl

  number : (i : ℕ) → get_or words (120 + i) 0 ≡ get_or tail i 0
  number i = sym (get_or-drop 120 words i 0) ∙ ap (λ (z : List ℕ). get_or z i 0) four

  pub place_back : place_in (words_of p) ≡ p
  place_back =
      let o : take 40 words ≡ p.obligors = ap (take 40) one ∙ take_at p.obligors _ 40 long.obligors in
      let d : take 40 (drop 40 words) ≡ p.defaults = ap (take 40) two ∙ take_at p.defaults _ 40 long.defaults in
      let a : take 40 (drop 80 words) ≡ p.announced = ap (take 40) three ∙ take_at p.announced _ 40 long.announced in
      let l : eqb (get_or words 121 0) 1 ≡ p.loaded = ap (λ (n : ℕ). eqb n 1) (number 1) ∙ flag_back p.loaded in
      rw (o, d, a, number 0, l) refl

pub is-place : {p : Place} → SoundPlace p → IsPlace (words_of p)
is-place {p} s = let e = place_back p (long_place s) in record { sound = rw e s; exact = ap words_of (sym e) }

pub long_words : {w : List ℕ} → IsPlace w → length w ≡ place_size
long_words i = rw i.exact (words_length _ (long_place i.sound))

-- A place that calls left and that is loaded holds a table.

pub holds-table : {w : List ℕ} → IsPlace w → (place_in w).loaded ≡ true → HoldsTable w
holds-table i h = record { long = long_words i; sound = sound_loaded i.sound h }

-- What a turn of a loop knows that goes from grade i to the next better one: where its counts stand, and the grades passed.
pub record Turn (w : List ℕ) (i : ℕ) : Type 0 where
  pub long : length w ≡ place_size
  pub few : (place_in w).grades ≤ 40
  pub obligors : get_or w (i - 1) 0 ≡ (grade_at (place_in w) (i - 1)).obligors
  pub defaults : get_or w (40 + (i - 1)) 0 ≡ (grade_at (place_in w) (i - 1)).defaults
  pub announced : get_or w (80 + (i - 1)) 0 ≡ (grade_at (place_in w) (i - 1)).announced
  pub counted : Counted (grade_at (place_in w) (i - 1))
  pub rated : Rated (grade_at (place_in w) (i - 1))
  pub down : suffix (place_in w) (i - 1) ≡ grade_at (place_in w) (i - 1) ∷ suffix (place_in w) i
  pub worse : Small (suffix (place_in w) i)
  pub here : Small (grade_at (place_in w) (i - 1) ∷ suffix (place_in w) i)

-- The number of grade i in the column from `at` on.
pub column-at : (w : List ℕ) (at i : ℕ) → i < 40 → get_or w (at + i) 0 ≡ get_or (column_in w at) i 0
column-at w at i h = sym (get_or-take 40 (drop at w) i 0 h ∙ get_or-drop at w i 0)

pub few_in : {w : List ℕ} → HoldsTable w → (place_in w).grades ≤ 40
few_in {w} h = omega (arith, h.sound.few, length_grades (place_in w) 0 (place_in w).grades)

pub turn : (w : List ℕ) (i : ℕ) → HoldsTable w → 0 < i → i ≤ (place_in w).grades → Turn w i
turn w i h pos l =
    let p = place_in w in
    let few = few_in h in
    let e = suffix_down p i pos l in
    let at : i - 1 ≤ p.grades = omega arith in
    let near : i - 1 < 40 = omega arith in
    record {
      long = h.long;
      few = few;
      obligors = rw zero-add at (column-at w 0 (i - 1) near);
      defaults = column-at w 40 (i - 1) near;
      announced = column-at w 80 (i - 1) near;
      counted = (rw e at (every_suffix Counted p (i - 1) at h.sound.counted)).0;
      rated = (rw e at (every_suffix Rated p (i - 1) at h.sound.rated)).0;
      down = e;
      worse = small p i h.sound l;
      here = rw e at (small p (i - 1) h.sound at);
    }

-- What a turn of a loop knows that goes from grade i to the next worse one: where its counts stand, and what they are of the sums.
pub record Onward (w : List ℕ) (i : ℕ) : Type 0 where
  pub inside : 40 + i < length w
  pub obligors : obligors_in (suffix (place_in w) i) ≡ get_or w i 0 + obligors_in (suffix (place_in w) (i + 1))
  pub defaults : defaults_in (suffix (place_in w) i) ≡ get_or w (40 + i) 0 + defaults_in (suffix (place_in w) (i + 1))
  pub whole : Small (table_in w)

pub onward : (w : List ℕ) (i : ℕ) → HoldsTable w → i < (place_in w).grades → Onward w i
unfolding obligors_in defaults_in
onward w i h less =
    let p = place_in w in
    let near : i < 40 = omega (arith, few_in h) in
    let n : get_or w i 0 ≡ (grade_at p i).obligors = rw zero-add at (column-at w 0 i near) in
    let d : get_or w (40 + i) 0 ≡ (grade_at p i).defaults = column-at w 40 i near in
    record {
      inside = omega (arith, h.long);
      obligors = rw (suffix_at p i less) (ap (λ (k : ℕ). k + obligors_in (suffix p (i + 1))) (sym n));
      defaults = rw (suffix_at p i less) (ap (λ (k : ℕ). k + defaults_in (suffix p (i + 1))) (sym d));
      whole = sound_small h.sound;
    }

-- Behind the last grade the sums are 0.
pub ended : (p : Place) (i : ℕ) → p.grades ≤ i → (obligors_in (suffix p i) ≡ 0) × (defaults_in (suffix p i) ≡ 0)
unfolding obligors_in defaults_in
ended p i past = let none = suffix_end p i past in (rw none, rw none)

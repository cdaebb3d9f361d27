-- A change of a place of the desk, by its words. Load and clear look at the mark of the place alone, and are made on an empty place with that mark.
use Prim.Native.Nat.{ℕ}
use mathlib.Core.Path.{◌≡◌, refl, sym, ap, ◌∙◌}
use mathlib.Core.Bool.{Bool, true, false}
use mathlib.Core.List.{List}
use lib.ListN.{length}
use Rattle.table.specs.declared.Place.{Place}
use Rattle.table.specs.Place.{marked}
use Rattle.table.specs.Words.{place_in}
use Rattle.book.proofs.Checks.{first_none}
use Rattle.pooled_place.specs.declared.PooledPlace.{PooledPlace}
use Rattle.pooled_place.specs.PooledPlace.{marked_pooled_place, SoundPooledPlace}
use Rattle.pooled_place.specs.Words.{pooled_place_size, pooled_place_words, pooled_place_in}
use Rattle.pooled_place.proofs.Words.{pooled_place_back}
use Rattle.refusals.specs.Answers.{leaves}
use Rattle.calls.specs.Calls.{Change, load, clear, changed_to, change_fault}
use Rattle.calls.specs.Private.{Fillable}
use Rattle.desk.specs.declared.Desk.{Desk}
use Rattle.desk.specs.Desk.{place_at, table_at, with_place_lem}
use Rattle.desk.specs.Calls.{place_fault, change, number_of, after}

-- The words of a marked place.

pub length_marked : {w : List ℕ} (b : Bool) → w ≡ pooled_place_words (marked_pooled_place b) → length w ≡ pooled_place_size
length_marked b e = ap length e

place_marked : {w : List ℕ} (b : Bool) → w ≡ pooled_place_words (marked_pooled_place b) → place_in w ≡ marked b
place_marked b e = ap (λ (x : List ℕ). place_in x) e ∙ back b
  where
    back : (b : Bool) → place_in (pooled_place_words (marked_pooled_place b)) ≡ marked b
    back true = refl
    back false = refl

pub fillable_marked : {w : List ℕ} (b : Bool) → w ≡ pooled_place_words (marked_pooled_place b) → Fillable w
fillable_marked b e =
    record {
      long = length_marked b e;
      unused = λ h. e ∙ ap (λ (x : Bool). pooled_place_words (marked_pooled_place x)) (sym (ap (λ (p : Place). p.loaded) (place_marked b e)) ∙ h);
    }

pub load_marked : {w : List ℕ} (p : Place) (book : List ℕ) (rater : ℕ) → w ≡ pooled_place_words (marked_pooled_place p.loaded)
    → change_fault (place_in w) (load book rater) ≡ change_fault p (load book rater)
unfolding change_fault
load_marked p book rater e = ap (λ (x : Place). change_fault x (load book rater)) (place_marked p.loaded e)

pub clear_marked : {w : List ℕ} (p : Place) → w ≡ pooled_place_words (marked_pooled_place p.loaded) → change_fault (place_in w) clear ≡ change_fault p clear
unfolding change_fault
clear_marked p e = ap (λ (x : Place). change_fault x clear) (place_marked p.loaded e)

-- The change of a place there is: n is its fault, or where there is none v are the words after it.
module _ (d : Desk) (i : ℕ) (c : Change) (here : 0 ≡ place_fault i) (w : List ℕ) (same : change_fault (place_in w) c ≡ change_fault (place_at d i) c) where
  pub change_number : {n : ℕ} → n ≡ change_fault (place_in w) c → n ≡ number_of d (change i c)
  change_number e = e ∙ same ∙ sym (first_none (place_fault i) _ (sym here))

  pub change_desk : {v : List ℕ} {left : Desk} → (change_fault (place_at d i) c ≡ 0 → SoundPooledPlace (changed_to (table_at d i) c))
      → 0 ≡ change_fault (place_in w) c → v ≡ pooled_place_words (changed_to (table_at d i) c) → left ≡ with_place_lem d i (pooled_place_in v)
      → left ≡ after d (change i c)
  change_desk sound e f g =
      g
      ∙ ap (λ (x : List ℕ). with_place_lem d i (pooled_place_in x)) f
      ∙ ap (λ (p : PooledPlace). with_place_lem d i p) (pooled_place_back (sound (sym same ∙ sym e)))
      ∙ ap (λ (m : ℕ). leaves m d (with_place_lem d i (changed_to (table_at d i) c))) (change_number e)

-- A question about a place of an image is one about the words of its counts, wherever they start.
use Prim.Native.Nat.{ℕ}
use mathlib.Core.Path.{◌≡◌, refl, ◌∙◌}
use mathlib.Core.List.{List}
use Rattle.table.specs.declared.Place.{Place}
use Rattle.table.specs.Words.{words_of, place_in, IsPlace}
use Rattle.pooled_place.specs.Words.{pooled_place_words, IsPooledPlace}
use Rattle.desk.specs.Desk.{pooled_place_at, place_at}
use Rattle.desk.proofs.Asked.{words_place, place_is, words_pooled, pooled_is, on_both}
use Rattle.desk_c.specs.Image.{desk_in, words_from, counts_from, IsImage}
use Rattle.desk_c.specs.Private.{start_of}
use Rattle.desk_c.proofs.Images.{words-of, counts_of}

module _ {w : List ℕ} (i : IsImage w) (k : ℕ) {at : ℕ} (s : at ≡ start_of k) {u : List ℕ} (e : u ≡ counts_from w at) where
  counts_are : u ≡ words_of (place_at (desk_in w) k)
  counts_are = e ∙ counts_of i k at s

  pub counts_place : IsPlace u
  counts_place = words_place _ k i.sound counts_are

  pub counts_is : place_in u ≡ place_at (desk_in w) k
  counts_is = place_is _ k i.sound counts_are

-- One that is only limited is one about all its words.
module _ {w : List ℕ} (i : IsImage w) (k : ℕ) {at : ℕ} (s : at ≡ start_of k) {u : List ℕ} (e : u ≡ words_from w at) where
  words_are : u ≡ pooled_place_words (pooled_place_at (desk_in w) k)
  words_are = e ∙ words-of i k at s

  pub words_pooled_place : IsPooledPlace u
  words_pooled_place = words_pooled _ k i.sound words_are

  pub words_is : place_in u ≡ place_at (desk_in w) k
  words_is = pooled_is _ k i.sound words_are

-- What is said of the places in the words of both, or in those of their counts, is said of the places.
module _ {w : List ℕ} (i : IsImage w) {u v : List ℕ} (P : Place → Place → Type 0) (said : P (place_in u) (place_in v)) where
  pub on_both_words : u ≡ words_from w 0 → v ≡ words_from w 242 → P (place_at (desk_in w) 1) (place_at (desk_in w) 2)
  on_both_words e f = on_both (words_is i 1 refl e) (words_is i 2 refl f) P said

  pub on_both_counts : u ≡ counts_from w 0 → v ≡ counts_from w 242 → P (place_at (desk_in w) 1) (place_at (desk_in w) 2)
  on_both_counts e f = on_both (counts_is i 1 refl e) (counts_is i 2 refl f) P said

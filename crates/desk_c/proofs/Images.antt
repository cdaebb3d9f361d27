-- The image of a desk: its two parts are the words of its places, and another place can be put in.
use Prim.Native.Nat.{ℕ}
use mathlib.Core.Path.{◌≡◌, refl, sym, ap, ◌∙◌}
use mathlib.Core.Bool.{Bool, true, false, cond}
use mathlib.Core.List.{List, [], ◌++◌, append-nil}
use native.Mathlib.Omega.{arith}
use lib.Dec.{eqb}
use lib.ListN.{length, take, drop, length-append}
use lib.Seq.{paste, take_all, take_at, drop_at, drop-length, take-take}
use Rattle.table.specs.Words.{words_of}
use Rattle.pooled_place.specs.declared.PooledPlace.{PooledPlace}
use Rattle.pooled_place.specs.PooledPlace.{SoundPooledPlace}
use Rattle.pooled_place.specs.Words.{pooled_place_words, counts_in, pooled_place_in}
use Rattle.pooled_place.proofs.Words.{pooled_place_length, counts_read, pooled_place_back}
use Rattle.desk.specs.declared.Desk.{Desk}
use Rattle.desk.specs.Desk.{pooled_place_at, place_at, with_place_lem, SoundDesk}
use Rattle.desk.proofs.Soundness.{pooled_place_sound}
use Rattle.desk_c.specs.Image.{image_of, words_from, counts_from, desk_in, IsImage}
use Rattle.desk_c.specs.Private.{desk_size, start_of}

-- an image in which the words from `at` on are those of p
abbrev pub with_words : List ℕ → ℕ → PooledPlace → List ℕ
with_words w at p = paste w at (pooled_place_words p) 242

-- Two lists of 242 numbers, one behind the other.
module _ (u v : List ℕ) (m : length u ≡ 242) (n : length v ≡ 242) where
  from_first : words_from (u ++ v) 0 ≡ u
  from_first = take_at u v 242 m

  from_second : words_from (u ++ v) 242 ≡ v
  from_second = ap (take 242) (drop_at u v 242 m) ∙ take_all 242 v (omega arith)

  module _ (x : List ℕ) (k : length x ≡ 242) where
    put_first : paste (u ++ v) 0 x 242 ≡ x ++ v
    put_first = rw (take_all 242 x (omega arith), drop_at u v 242 m) refl

    put_second : paste (u ++ v) 242 x 242 ≡ u ++ x
    put_second =
        let l : length (u ++ v) ≡ 484 = rw (length-append, m, n) refl in
        let e : drop 484 (u ++ v) ≡ [] = rw (← l) (drop-length (u ++ v)) in
        rw (take_at u v 242 m, take_all 242 x (omega arith), e) (append-nil (u ++ x))

-- An image is read back.

module _ (d : Desk) (s : SoundDesk d) where
  first_words : words_from (image_of d) 0 ≡ pooled_place_words d.first
  first_words = from_first (pooled_place_words d.first) (pooled_place_words d.second) (pooled_place_length s.first) (pooled_place_length s.second)

  second_words : words_from (image_of d) 242 ≡ pooled_place_words d.second
  second_words = from_second (pooled_place_words d.first) (pooled_place_words d.second) (pooled_place_length s.first) (pooled_place_length s.second)

  pub desk_back : desk_in (image_of d) ≡ d
  desk_back =
      let first = ap (λ (w : List ℕ). pooled_place_in w) first_words ∙ pooled_place_back s.first in
      let second = ap (λ (w : List ℕ). pooled_place_in w) second_words ∙ pooled_place_back s.second in
      ap (λ (x : PooledPlace). record { first = x; second = pooled_place_in (words_from (image_of d) 242) }) first
      ∙ ap (λ (x : PooledPlace). record { first = d.first; second = x }) second

pub is_image : (d : Desk) → SoundDesk d → IsImage (image_of d)
is_image d s = let e = desk_back d s in record { sound = rw e s; exact = ap image_of (sym e) }

-- An image that calls left.
module _ {w : List ℕ} (i : IsImage w) where
  abbrev d : Desk
  d = desk_in w

  one : length (pooled_place_words d.first) ≡ 242
  one = pooled_place_length i.sound.first

  two : length (pooled_place_words d.second) ≡ 242
  two = pooled_place_length i.sound.second

  pub image_length : length w ≡ desk_size
  image_length = ap length i.exact ∙ rw (length-append, one, two) refl

  -- the words of place k, wherever they start
  pub words-of : (k at : ℕ) → at ≡ start_of k → words_from w at ≡ pooled_place_words (pooled_place_at d k)
  words-of k at e = ap (λ (n : ℕ). words_from w n) e ∙ choose (eqb k 1)
    where
      choose : (b : Bool) → words_from w (cond b 0 242) ≡ pooled_place_words (cond b d.first d.second)
      choose true = ap (λ (x : List ℕ). words_from x 0) i.exact ∙ first_words d i.sound
      choose false = ap (λ (x : List ℕ). words_from x 242) i.exact ∙ second_words d i.sound

  -- those of its counts
  pub counts_of : (k at : ℕ) → at ≡ start_of k → counts_from w at ≡ words_of (place_at d k)
  counts_of k at e =
      sym (take-take 122 242 (drop at w) (omega arith))
      ∙ ap (λ (x : List ℕ). counts_in x) (words-of k at e)
      ∙ counts_read (pooled_place_sound d k i.sound)

  -- another place k
  pub image_put : (k at : ℕ) (p : PooledPlace) → at ≡ start_of k → SoundPooledPlace p → with_words w at p ≡ image_of (with_place_lem d k p)
  image_put k at p e l =
      ap (λ (n : ℕ). with_words w n p) e
      ∙ ap (λ (x : List ℕ). with_words x (start_of k) p) i.exact
      ∙ choose (eqb k 1)
    where
      choose : (b : Bool) → with_words (image_of d) (cond b 0 242) p ≡ image_of (cond b (record { first = p; second = d.second }) (record { first = d.first; second = p }))
      choose true = put_first (pooled_place_words d.first) (pooled_place_words d.second) one two (pooled_place_words p) (pooled_place_length l)
      choose false = put_second (pooled_place_words d.first) (pooled_place_words d.second) one two (pooled_place_words p) (pooled_place_length l)

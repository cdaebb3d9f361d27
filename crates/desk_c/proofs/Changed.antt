-- A change of a place in an image, to which its words are lent: the image after it is that of the desk after the call.
use Prim.Native.Nat.{ℕ, zero, suc, ◌+◌, ◌-◌}
use mathlib.Core.Path.{◌≡◌, sym, ap, ◌∙◌}
use mathlib.Core.List.{List}
use borrow.Rule.Slice.PartMut.{put_mid, put_same}
use lib.ListN.{take, drop}
use Rattle.table.specs.declared.Place.{Place}
use Rattle.table.specs.Place.{table_of}
use Rattle.table.specs.Words.{place_in, table_in}
use Rattle.book.proofs.Checks.{first_none}
use Rattle.pooled_place.specs.declared.PooledPlace.{PooledPlace}
use Rattle.pooled_place.specs.PooledPlace.{SoundPooledPlace}
use Rattle.pooled_place.specs.Words.{pooled_place_words, IsPooledPlace}
use Rattle.pooled_place.proofs.Words.{pooled_place_length, long_pooled, holds_no_table}
use Rattle.refusals.specs.Answers.{leaves}
use Rattle.calls.specs.Calls.{Change, changed_to, change_fault}
use Rattle.calls.specs.Private.{Fillable}
use Rattle.desk.specs.Desk.{table_at, place_at, with_place_lem}
use Rattle.desk.specs.Calls.{place_fault, change, number_of, after}
use Rattle.desk.proofs.Soundness.{changed_sound, table_sound}
use Rattle.desk_c.specs.Image.{image_of, words_from, desk_in, IsImage}
use Rattle.desk_c.specs.Private.{start_of}
use Rattle.desk_c.proofs.Images.{image_put}
use Rattle.desk_c.proofs.Parts.{span, put_words}
use Rattle.desk_c.proofs.Asked.{words_pooled_place, words_is}

module _ {w : List ℕ} (i : IsImage w) (k at : ℕ) (start : at ≡ start_of k) where
  -- the words that are lent
  abbrev pub lent : List ℕ
  lent = take (at + 242 - at) (drop at w)

  part : lent ≡ words_from w at
  part = ap (λ (n : ℕ). take n (drop at w)) (span at)

  pub part_pooled : IsPooledPlace lent
  part_pooled = words_pooled_place i k start part

  -- load finds what it requires
  pub part_fillable : Fillable lent
  part_fillable = record { long = long_pooled part_pooled; unused = holds_no_table part_pooled }

  -- n is the fault of the change c
  module _ (here : 0 ≡ place_fault k) (c : Change) where
    is : place_in lent ≡ place_at (desk_in w) k
    is = words_is i k start part

    same : change_fault (place_in lent) c ≡ change_fault (place_at (desk_in w) k) c
    same = ap (λ (p : Place). change_fault p c) is

    pub image_number : {n : ℕ} → n ≡ change_fault (place_in lent) c → n ≡ number_of (desk_in w) (change k c)
    image_number e = e ∙ same ∙ sym (first_none (place_fault k) _ (sym here))

    abbrev then : PooledPlace
    then = changed_to (table_at (desk_in w) k) c

    put : (n : ℕ) {new : List ℕ} → n ≡ change_fault (place_in lent) c → new ≡ leaves n lent (pooled_place_words then)
        → put_mid at 242 w new ≡ image_of (leaves n (desk_in w) (with_place_lem (desk_in w) k then))
    put zero e f =
        let sound : SoundPooledPlace then = changed_sound (place_at (desk_in w) k) c (table_sound (desk_in w) i.sound k) (sym same ∙ sym e) in
        ap (put_mid at 242 w) f ∙ put_words w at (pooled_place_words then) (pooled_place_length sound) ∙ image_put i k at then start sound
    put (suc n) e f = ap (put_mid at 242 w) (f ∙ part) ∙ put_same at 242 w ∙ i.exact

    pub image_changed : {n : ℕ} {new : List ℕ} → n ≡ change_fault (place_in lent) c → new ≡ leaves n lent (pooled_place_words (changed_to (table_in lent) c))
        → put_mid at (at + 242 - at) w new ≡ image_of (after (desk_in w) (change k c))
    image_changed {n} {new} e f =
        ap (λ (m : ℕ). put_mid at m w new) (span at)
        ∙ put n e (f ∙ ap (λ (p : Place). leaves n lent (pooled_place_words (changed_to (table_of p) c))) is)
        ∙ ap (λ (m : ℕ). image_of (leaves m (desk_in w) (with_place_lem (desk_in w) k then))) (image_number e)

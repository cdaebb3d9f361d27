-- A call on a place of the desk is the call on its words: the place that they stand for is that place, and 1 is no fault.
use Prim.Native.Nat.{ℕ}
use mathlib.Core.Path.{◌≡◌, sym, ap, subst, ◌∙◌}
use mathlib.Core.List.{List}
use Rattle.table.specs.Table.{Sound}
use Rattle.table.specs.declared.Place.{Place}
use Rattle.table.specs.Place.{SoundPlace}
use Rattle.table.specs.Words.{words_of, place_in, IsPlace}
use Rattle.table.proofs.Words.{long_place, place_back, is-place}
use Rattle.pooled_place.specs.Words.{pooled_place_words, IsPooledPlace}
use Rattle.pooled_place.proofs.Words.{sound_place, place_read, is_pooled_place}
use Rattle.book.specs.Checks.{first_fault}
use Rattle.book.proofs.Checks.{first_none, held_first}
use Rattle.calls.specs.Calls.{Question, question_fault}
use Rattle.desk.specs.declared.Desk.{Desk}
use Rattle.desk.specs.Desk.{pooled_place_at, place_at, table_at, SoundDesk}
use Rattle.desk.specs.Calls.{place_fault, ask, number_of}
use Rattle.desk.proofs.Soundness.{pooled_place_sound, table_sound}

pub place_sound : (d : Desk) (i : ℕ) → SoundDesk d → SoundPlace (place_at d i)
place_sound d i s = sound_place (pooled_place_sound d i s)

-- A place that answers a question holds a sound table.
pub asked_sound : (d : Desk) → SoundDesk d → (i : ℕ) (q : Question) → number_of d (ask i q) ≡ 0 → Sound (table_at d i)
unfolding question_fault
asked_sound d s i q e = table_sound d s i (held_first _ _ (held_first _ _ e).1).0

-- The words of a place.
module _ (d : Desk) (i : ℕ) (s : SoundDesk d) {w : List ℕ} (words : w ≡ words_of (place_at d i)) where
  pub words_place : IsPlace w
  words_place = rw words (is-place (place_sound d i s))

  pub place_is : place_in w ≡ place_at d i
  place_is = ap (λ (x : List ℕ). place_in x) words ∙ place_back (place_at d i) (long_place (place_sound d i s))

-- The words of a place with its pooled list.
module _ (d : Desk) (i : ℕ) (s : SoundDesk d) {w : List ℕ} (words : w ≡ pooled_place_words (pooled_place_at d i)) where
  pub words_pooled : IsPooledPlace w
  words_pooled = rw words (is_pooled_place (pooled_place_sound d i s))

  pub pooled_is : place_in w ≡ place_at d i
  pooled_is = ap (λ (x : List ℕ). place_in x) words ∙ place_read (pooled_place_sound d i s)

-- What a call says of p, and of its fault there, it says of place i, where q stands.
pub on_place : {p q : Place} (i : ℕ) → p ≡ q → 0 ≡ place_fault i → (n : Place → ℕ) (P : ℕ → Place → Type 0) → P (n p) p
    → P (first_fault (place_fault i) (n q)) q
on_place {q} i is here n P h = subst (λ (m : ℕ). P m q) (sym (first_none (place_fault i) (n q) (sym here))) (subst (λ (x : Place). P (n x) x) is h)

-- The same of both places.
pub on_both : {p₁ q₁ p₂ q₂ : Place} → p₁ ≡ q₁ → p₂ ≡ q₂ → (P : Place → Place → Type 0) → P p₁ p₂ → P q₁ q₂
on_both {q₁} {p₂} e f P h = subst (λ (x : Place). P q₁ x) f (subst (λ (x : Place). P x p₂) e h)

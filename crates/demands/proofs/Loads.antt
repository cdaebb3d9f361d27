-- What load's numbers mean, of the call: 1 and 21 stand before what the book is refused with.
use Prim.Native.Nat.{ℕ, ◌≤◌}
use mathlib.Core.Path.{◌≡◌, refl, sym, ◌∙◌}
use mathlib.Core.Bool.{Bool, false}
use mathlib.Core.List.{List, [], ◌∷◌}
use lib.Dec.{T}
use Rattle.table.specs.Table.{Sound, occupied}
use Rattle.table.proofs.Test.{by-test}
use Rattle.book.specs.Checks.{at_most, fault}
use Rattle.book.specs.Layout.{raters, head_checks, layout_fault}
use Rattle.book.specs.WrongCut.{WrongCut}
use Rattle.book.specs.Rows.{table_of_rater}
use Rattle.book.specs.Fall.{FallsAfter}
use Rattle.book.specs.Reading.{read_fault}
use Rattle.book.proofs.Checks.{found, none, pass, go}
use Rattle.book.proofs.Numbers.{all_pass, is_other, fault_passes, past}
use Rattle.book.proofs.Accept.{sound_accepted}
use Rattle.book.proofs.WrongCut.{is_uncut, cut_number, cut_told, cut_meant}
use Rattle.book.proofs.Emptiness.{nine_means}
use Rattle.book.proofs.Fall.{fall_told, fall_meant}
use Rattle.calls.specs.Calls.{load, change_fault}
use Rattle.desk.specs.declared.Desk.{Desk}
use Rattle.desk.specs.Desk.{place_at}
use Rattle.desk.specs.Calls.{change, number_of}

-- Into an empty place the book decides.
book_decides : (d : Desk) (i j : ℕ) (b : List ℕ) → 1 ≤ i → i ≤ 2 → (place_at d i).loaded ≡ false
    → number_of d (change i (load b j)) ≡ read_fault b j
unfolding change_fault
book_decides d i j b from to empty = sym (go (sym (found (pass from (pass to none)))) (go (rw empty refl) refl))

pub load_tells : (d : Desk) (i j n : ℕ) (b : List ℕ) → 1 ≤ i → i ≤ 2 → (place_at d i).loaded ≡ false
    → fault (head_checks b) ≡ 0 → 1 ≤ j → j ≤ raters b → WrongCut b n → number_of d (change i (load b j)) ≡ n
load_tells d i j n b from to empty head some few c = book_decides d i j b from to empty ∙ cut_told b j n head some few c

pub load_takes : (d : Desk) (i j : ℕ) (b : List ℕ) → 1 ≤ i → i ≤ 2 → (place_at d i).loaded ≡ false
    → layout_fault b ≡ 0 → 1 ≤ j → j ≤ raters b → Sound (table_of_rater b j) → number_of d (change i (load b j)) ≡ 0
load_takes d i j b from to empty laid some few sound = book_decides d i j b from to empty ∙ sound_accepted b j laid some few sound

pub load_tells_fall : (d : Desk) (i j k : ℕ) (b : List ℕ) → 1 ≤ i → i ≤ 2 → (place_at d i).loaded ≡ false
    → layout_fault b ≡ 0 → 1 ≤ j → j ≤ raters b → FallsAfter (table_of_rater b j) k → number_of d (change i (load b j)) ≡ 34
load_tells_fall d i j k b from to empty laid some few f = book_decides d i j b from to empty ∙ fall_told b j k laid some few f

-- Into any place, a number that neither 1 nor 21 passes for is the book's.
past_place : (test : ℕ → Bool) → ((i : ℕ) → T (all_pass test (at_most 1 i 1 ∷ at_most i 2 1 ∷ []))) → T (test 21) → T (test 0)
    → (d : Desk) (i j n : ℕ) (b : List ℕ) → (T (test n) → ⊥) → number_of d (change i (load b j)) ≡ n → read_fault b j ≡ n
unfolding change_fault
past_place test place loaded zero d i j n b other e =
    let behind = past test _ _ n (fault_passes test (at_most 1 i 1 ∷ at_most i 2 1 ∷ []) (place i)) other e in
    (past test _ _ n (by-test (λ m. T (test m)) (place_at d i).loaded (λ _. loaded) (λ _. zero)) other behind.1).1

pub load_means : (d : Desk) (i j n : ℕ) (b : List ℕ) → 31 ≤ n → n ≤ 33 → number_of d (change i (load b j)) ≡ n → WrongCut b n
unfolding all_pass
load_means d i j n b h k e = cut_meant b j n h k (past_place is_uncut (λ i. tt) tt tt d i j n b (cut_number n h k) e)

pub load_means_empty : (d : Desk) (i j : ℕ) (b : List ℕ) → number_of d (change i (load b j)) ≡ 9 → occupied (table_of_rater b j) ≡ []
unfolding all_pass
load_means_empty d i j b e = (nine_means b j (past_place (is_other 9) (λ i. tt) tt tt d i j 9 b (λ h. h) e)).1

pub load_means_fall : (d : Desk) (i j : ℕ) (b : List ℕ) → number_of d (change i (load b j)) ≡ 34
    → (layout_fault b ≡ 0) × (1 ≤ j) × (j ≤ raters b) × ((k : ℕ) × FallsAfter (table_of_rater b j) k)
unfolding all_pass
load_means_fall d i j b e = fall_meant b j (past_place (is_other 34) (λ i. tt) tt tt d i j 34 b (λ h. h) e)

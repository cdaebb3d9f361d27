-- What the first check of a call on a lent place tells: the place is empty, and 22 is the answer, or it holds a table.
use Prim.Native.Nat.{ℕ}
use mathlib.Core.Path.{◌≡◌, refl, sym}
use mathlib.Core.Bool.{Bool, true, false, cond}
use mathlib.Core.List.{List}
use native.Mathlib.Omega.{arith}
use Rattle.table.specs.declared.Place.{Place}
use Rattle.table.specs.Words.{place_in, table_in, HoldsTable, IsPlace}
use Rattle.table.proofs.Words.{holds-table}
use Rattle.pooled_place.specs.Words.{HoldsPooledTable, IsPooledPlace}
use Rattle.pooled_place.proofs.Words.{holds_pooled}
use Rattle.book.proofs.Checks.{Finds, found, stop, go}
use Rattle.refusals.specs.Answers.{refused, answer}
use Rattle.calls.specs.Calls.{empty_fault, Question, question_checks, question_fault}
use Rattle.calls.proofs.Answered.{refuses}

-- l is whether it is loaded, b what the code found.
pub empty_at : (l b : Bool) → b ≡ l → b ≡ false → ◌≡◌ {A = ℕ} 22 (cond l 0 22)
empty_at l true e h = let z : ◌≡◌ {A = ℕ} 0 1 = cc in absurd (omega arith)
empty_at l false e h = rw (← e) refl

pub loaded_at : (l b : Bool) → b ≡ l → b ≡ true → ◌≡◌ {A = ℕ} 0 (cond l 0 22)
loaded_at l true e h = rw (← e) refl
loaded_at l false e h = let z : ◌≡◌ {A = ℕ} 0 1 = cc in absurd (omega arith)

-- 22 is no fault where the place is loaded.
pub is-loaded : (b : Bool) → ◌≡◌ {A = ℕ} (cond b 0 22) 0 → b ≡ true
is-loaded true e = refl
is-loaded false e = absurd (omega arith)

-- A question of an empty place.
pub asked_empty : {A : Type 0} (p : Place) (q : Question) (x : A) (b : Bool) → b ≡ p.loaded → b ≡ false
    → refused 22 ≡ answer (question_fault p q) x
unfolding question_fault
asked_empty p q x b e h = refuses 22 x (stop _ (empty_at p.loaded b e h) (λ z. omega arith)) (λ z. omega arith)

-- The place is loaded: what the work of a call may rest on.
pub record Ready (w : List ℕ) : Type 0 where
  pub loaded : empty_fault (place_in w) ≡ 0
  pub holds : HoldsTable w

pub ready : {w : List ℕ} (b : Bool) → IsPlace w → b ≡ (place_in w).loaded → b ≡ true → Ready w
ready true i e h = record { loaded = rw (← e) refl; holds = holds-table i (sym e) }
ready false i e h = let z : ◌≡◌ {A = ℕ} 0 1 = cc in absurd (omega arith)

-- The same of a place with its pooled list.
pub record ReadyPooled (w : List ℕ) : Type 0 where
  pub loaded : empty_fault (place_in w) ≡ 0
  pub holds : HoldsPooledTable w

pub ready_pooled : {w : List ℕ} (b : Bool) → IsPooledPlace w → b ≡ (place_in w).loaded → b ≡ true → ReadyPooled w
ready_pooled true i e h = record { loaded = rw (← e) refl; holds = holds_pooled i (sym e) }
ready_pooled false i e h = let z : ◌≡◌ {A = ℕ} 0 1 = cc in absurd (omega arith)

pub asked_pooled : {w : List ℕ} {n : ℕ} (q : Question) → ReadyPooled w → Finds (question_checks (table_in w) q) n → n ≡ question_fault (place_in w) q
unfolding question_fault
asked_pooled q r f = go r.loaded (found f)

-- The further checks of a question.
pub asked : {w : List ℕ} {n : ℕ} (q : Question) → Ready w → Finds (question_checks (table_in w) q) n → n ≡ question_fault (place_in w) q
unfolding question_fault
asked q r f = go r.loaded (found f)

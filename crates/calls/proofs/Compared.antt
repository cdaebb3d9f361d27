-- What the comparisons know of two places: the totals that they answer, and which check of both is the first to fail.
use Prim.Native.Nat.{ℕ, zero, suc, ◌≤◌, ◌<◌}
use mathlib.Core.Path.{◌≡◌, ap, sym, ◌∙◌}
use mathlib.Core.List.{List, ◌++◌}
use Rattle.std.specs.Prelude.{Result, Ok, Err, IsErrAnd}
use Rattle.table.specs.declared.Totals.{Totals}
use Rattle.table.specs.Table.{defaults_in, survivors_in, obligors_in}
use Rattle.table.specs.Words.{place_in, table_in}
use Rattle.pooled_place.specs.Words.{IsPooledPlace}
use Rattle.table.specs.Counts.{totals_of_lem}
use Rattle.pooled_place.proofs.Words.{holds_pooled}
use Rattle.book.specs.Checks.{Check, fault, first_fault}
use Rattle.book.proofs.Checks.{Finds, found, pass, held, held_first, begun, go}
use Rattle.cutoff.specs.declared.Verdict.{Verdict}
use Rattle.refusals.specs.declared.Refusal.{Refusal}
use Rattle.refusals.specs.Numbers.{number_of}
use Rattle.refusals.specs.Answers.{accepted, refused, answer, Limited, says}
use Rattle.refusals.proofs.Refused.{number_positive, never_0, refused_by, accepted_by}
use Rattle.calls.specs.Private.{mixed_checks, mixed_fault, pair_totals}
use Rattle.calls.specs.Calls.{empty_fault}
use Rattle.calls.proofs.Asked.{is-loaded, ReadyPooled}

-- The answer of one place: its totals are those of its table.
pub record HasTotals (w : List ℕ) (t : Totals) : Type 0 where
  pub ready : ReadyPooled w
  pub totals : t ≡ totals_of_lem (table_in w)
  pub defaults : t.defaults ≡ defaults_in (table_in w)
  pub survivors : t.survivors.0 ≡ survivors_in (table_in w)
  pub obligors : t.obligors.0 ≡ obligors_in (table_in w)

has_totals : {w : List ℕ} {t : Totals} → IsPooledPlace w → empty_fault (place_in w) ≡ 0 → t ≡ totals_of_lem (table_in w) → HasTotals w t
unfolding totals_of_lem
has_totals {w} i z e =
    record {
      ready = record { loaded = z; holds = holds_pooled i (is-loaded (place_in w).loaded z) };
      totals = e;
      defaults = ap (λ x. x.defaults) e;
      survivors = ap (λ x. x.survivors.0) e;
      obligors = ap (λ x. x.obligors.0) e;
    }

pub totals_taken : {w : List ℕ} {t : Totals} → IsPooledPlace w → accepted t ≡ answer (empty_fault (place_in w)) (totals_of_lem (table_in w)) → HasTotals w t
totals_taken {w} i e = let k = accepted_by _ (totals_of_lem (table_in w)) e in has_totals i k.0 k.1

-- The answer of both places.

-- two earlier faults, and that of a list of checks
abbrev pub third_fault : ℕ → ℕ → List Check → ℕ
third_fault a b l = first_fault a (first_fault b (fault l))

third_begun : (a b : ℕ) (l rest : List Check) {n : ℕ} → 0 < n → n ≡ third_fault a b l → n ≡ third_fault a b (l ++ rest)
unfolding first_fault
third_begun zero zero l rest k e = begun l rest k e
third_begun zero (suc b) l rest k e = e
third_begun (suc a) b l rest k e = e

-- The totals of a table with a default and a survivor.
pub record Taken (w : List ℕ) (t : Totals) : Type 0 where
  pub answered : HasTotals w t
  pub defaulted : 1 ≤ defaults_in (table_in w)
  pub survived : 1 ≤ survivors_in (table_in w)

module _ (v w : List ℕ) where
  abbrev totals : Totals × Totals
  totals = pair_totals (place_in v) (place_in w)

  abbrev mixed : ℕ
  mixed = mixed_fault (place_in v) (place_in w)

  -- A refusal is the comparison's: its further checks play no part.
  pub pair_refused : (r : Result Verdict Refusal) (e : Refusal) (P : Verdict → Type 0) (rest : List Check) → IsErrAnd r (λ x. x ≡ e)
      → refused (number_of e) ≡ answer mixed totals
      → Limited (third_fault (empty_fault (place_in v)) (empty_fault (place_in w)) (mixed_checks (table_in v) (table_in w) ++ rest)) P (says r)
  pair_refused (Ok x) e P rest h k = absurd h
  pair_refused (Err y) e P rest h k =
      let n : number_of y ≡ mixed = ap number_of h ∙ refused_by mixed totals k in
      (sym (third_begun (empty_fault (place_in v)) (empty_fault (place_in w)) (mixed_checks (table_in v) (table_in w)) rest (number_positive y) n), never_0 y)

  pub pair_taken : {a b : Totals} → IsPooledPlace v → IsPooledPlace w → accepted (a, b) ≡ answer mixed totals → Taken v a × Taken w b
  pair_taken {a} {b} i j h =
      let k = accepted_by mixed totals h in
      let (empty₁, more) = held_first _ _ k.0 in
      let (empty₂, rest) = held_first _ _ more in
      let m = held (mixed_checks (table_in v) (table_in w)) rest in (
        record { answered = has_totals i empty₁ (ap (λ x. x.0) k.1); defaulted = m.0; survived = m.1.1.0 },
        record { answered = has_totals j empty₂ (ap (λ x. x.1) k.1); defaulted = m.1.0; survived = m.1.1.1.0 },
      )

-- The further checks of two places that have answered.
pub further : {v w : List ℕ} {a b : Totals} {n : ℕ} {rest : List Check} → Taken v a → Taken w b → Finds rest n
    → third_fault (empty_fault (place_in v)) (empty_fault (place_in w)) (mixed_checks (table_in v) (table_in w) ++ rest) ≡ n
further s t f =
    sym
    (go s.answered.ready.loaded
    (go t.answered.ready.loaded
    (found (pass s.defaulted (pass t.defaulted (pass s.survived (pass t.survived f)))))))

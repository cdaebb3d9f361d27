-- What a shortlist answers, by where its checks end.
use Prim.Native.Nat.{ℕ, zero, suc, ◌≤◌, ◌<◌}
use mathlib.Core.Path.{◌≡◌, refl, sym, ap, ◌∙◌}
use mathlib.Core.List.{List, ◌++◌}
use native.Mathlib.Omega.{arith}
use lib.ListN.{length, drop}
use Rattle.std.specs.Prelude.{Result, Ok, Err, IsErrAnd}
use Rattle.table.specs.Table.{Table}
use Rattle.refusals.specs.declared.Refusal.{Refusal}
use Rattle.refusals.specs.declared.Refusal.TheVariants.{ShortBuffer}
use Rattle.refusals.specs.Numbers.{number_of}
use Rattle.refusals.specs.Answers.{accepted, refused, says, answer}
use Rattle.refusals.proofs.Refused.{number_positive}
use Rattle.book.specs.Layout.{raters}
use Rattle.book.specs.Reading.{all_tables, book_fault}
use Rattle.book.proofs.Checks.{found, none, pass, over, stop, go}
use Rattle.shortlist.specs.Shortlist.{listed}
use Rattle.shortlist.specs.Checks.{totals_fault_lem, shortlist_fault, buffer_or, shortlist_answer, buffer_after}

answer_refused : (n x : ℕ) → (n ≡ 0 → ⊥) → refused n ≡ answer n x
answer_refused zero x h = absurd (h refl)
answer_refused (suc n) x h = refl

pub buffer_kept : (n : ℕ) (ts : List Table) (out : List ℕ) → (n ≡ 0 → ⊥) → out ≡ buffer_or n ts out
unfolding buffer_or
buffer_kept zero ts out h = absurd (h refl)
buffer_kept (suc n) ts out h = refl

-- the answer, and the buffer after it
pub record Answers (b out : List ℕ) (r : Result ℕ Refusal) (after : List ℕ) : Type 0 where
  pub value : says r ≡ shortlist_answer b (length out)
  pub out_after : after ≡ buffer_after b out

some : (r : Refusal) → number_of r ≡ 0 → ⊥
some r e = let p = number_positive r in omega arith

module _ (b out : List ℕ) where
  refused_with : (r : Refusal) → number_of r ≡ shortlist_fault b (length out) → Answers b out (Err r) out
  refused_with r e =
      record {
        value = rw (← e) (answer_refused (number_of r) (length (listed (all_tables b))) (some r));
        out_after = rw (← e) (buffer_kept (number_of r) (all_tables b) out (some r));
      }

  -- At the exit of a `?` the refusal is passed on as it is.
  passed : (r : Result ℕ Refusal) (e : Refusal) → IsErrAnd r (λ x. x ≡ e) → number_of e ≡ shortlist_fault b (length out) → Answers b out r out
  passed (Ok x) e h f = absurd h
  passed (Err y) e h f = refused_with y (ap number_of h ∙ f)

  pub in_book : (r : Result ℕ Refusal) (e : Refusal) → IsErrAnd r (λ x. x ≡ e) → number_of e ≡ book_fault b → Answers b out r out
  unfolding shortlist_fault
  in_book r e h f = passed r e h (stop _ f (some e))

  module _ (whole : book_fault b ≡ 0) where
    pub in_totals : (r : Result ℕ Refusal) (e : Refusal) → IsErrAnd r (λ x. x ≡ e) → number_of e ≡ totals_fault_lem (all_tables b) → Answers b out r out
    unfolding shortlist_fault
    in_totals r e h f = passed r e h (go whole (stop _ f (some e)))

    module _ (totals : totals_fault_lem (all_tables b) ≡ 0) where
      pub too_short : length out < raters b → Answers b out (Err ShortBuffer) out
      unfolding shortlist_fault
      too_short h = refused_with ShortBuffer (go whole (go totals (found (over h))))

      pub taken : {r : ℕ} {after l : List ℕ} → raters b ≤ length out → l ≡ listed (all_tables b) → r ≡ length l → after ≡ l ++ drop r out
          → Answers b out (Ok r) after
      unfolding shortlist_fault buffer_or
      taken h e f g =
          let z : shortlist_fault b (length out) ≡ 0 = sym (go whole (go totals (found (pass h none)))) in
          record { value = rw z (ap accepted (f ∙ ap length e)); out_after = rw z (g ∙ rw (f, e)) }

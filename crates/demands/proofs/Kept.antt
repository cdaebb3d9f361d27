-- What calls leave as it was: a refused call everything, an accepted one what it does not write and the other place.
use Prim.Native.Nat.{ℕ, zero, suc, ◌≤◌}
use mathlib.Core.Path.{◌≡◌, refl, sym}
use mathlib.Core.List.{List}
use native.Mathlib.Omega.{arith}
use lib.ListN.{length, drop, length-append, length-drop}
use lib.Seq.{drop_at}
use Rattle.table.specs.Table.{Table}
use Rattle.pooled_place.specs.declared.PooledPlace.{PooledPlace}
use Rattle.book.specs.Checks.{first_fault}
use Rattle.book.specs.Encode.{book_size, encode}
use Rattle.book.specs.Reading.{all_tables}
use Rattle.book.specs.Writing.{write_fault, buffer_or}
use Rattle.book.proofs.Books.{length-encode}
use Rattle.book.proofs.Checks.{held, held_first}
use Rattle.pooling.proofs.Written.{length_pooled, drop_pooled}
use Rattle.shortlist.specs.Shortlist.{listed}
use Rattle.shortlist.specs.Checks as listing
use Rattle.shortlist.specs.Checks.{shortlist_fault}
use Rattle.shortlist.proofs.Books.{not_refused, comparable, book_some}
use Rattle.shortlist.proofs.Ended.{buffer_kept}
use Rattle.refusals.specs.Answers.{leaves}
use Rattle.calls.specs.Calls.{Filling, pool, fill_size, filled_with, fill_fault}
use Rattle.calls.proofs.Leaves.{by-fault}
use Rattle.desk.specs.declared.Desk.{Desk}
use Rattle.desk.specs.Desk.{table_at, with_place_lem}
use Rattle.desk.specs.Calls.{Call, ask, compare, compare_on_shares, fill, write, shortlist, change, place_fault, number_of, after, lent, lent_after, lent_size, loaded_tables}
use Rattle.desk.proofs.Number.{Number, one, two, neither, number}
use Rattle.demands.specs.History.{Keeps}

-- A refused call.

left : {A : Type 0} (n : ℕ) (old new : A) → (n ≡ 0 → ⊥) → leaves n old new ≡ old
left n old new k = by-fault (λ x. x ≡ old) n (λ e. absurd (k e)) (λ _. refl)

buffer_left : (n : ℕ) (ts : List Table) (buf : List ℕ) → (n ≡ 0 → ⊥) → buffer_or n ts buf ≡ buf
unfolding buffer_or
buffer_left zero ts buf k = absurd (k refl)
buffer_left (suc n) ts buf k = refl

pub refused_kept : (d : Desk) (c : Call) → (number_of d c ≡ 0 → ⊥) → (after d c ≡ d) × (lent_after d c ≡ lent c)
refused_kept d (ask i q) k = (refl, refl)
refused_kept d compare k = (refl, refl)
refused_kept d compare_on_shares k = (refl, refl)
refused_kept d (fill i f out) k = (refl, left _ _ _ k)
refused_kept d (write out) k = (refl, buffer_left _ _ _ k)
refused_kept d (shortlist b out) k = (refl, sym (buffer_kept _ _ _ k))
refused_kept d (change i c) k = (left _ _ _ k, refl)

-- What stands in a lent buffer behind the first n numbers.

abbrev Behind : ℕ → List ℕ → List ℕ → Type 0
Behind n out new = (length new ≡ length out) × (drop n new ≡ drop n out)

behind-filled : (t : Table) (f : Filling) (out : List ℕ) → fill_size t f ≤ length out → Behind (fill_size t f) out (filled_with t f out)
behind-filled t pool out room = (length_pooled t out room, drop_pooled t out)

behind_book : (ts : List Table) (buf : List ℕ) (n : ℕ) → (n ≡ 0 → book_size ts ≤ length buf) → Behind (book_size ts) buf (buffer_or n ts buf)
unfolding buffer_or
behind_book ts buf zero room =
    let r = room refl in
    (rw (length-append, length-encode, length-drop) (omega arith), drop_at (encode ts) _ (book_size ts) (length-encode ts))
behind_book ts buf (suc n) room = (refl, refl)

behind_list : (b out : List ℕ) → Behind (length (listed (all_tables b))) out (listing.buffer_after b out)
unfolding listing.buffer_or
behind_list b out = cases (shortlist_fault b (length out)) refl
  where
    cases : (n : ℕ) → shortlist_fault b (length out) ≡ n → Behind (length (listed (all_tables b))) out (listing.buffer_or n (all_tables b) out)
    cases zero e =
        let few = (book_some b (not_refused b (length out) e)).1 in
        let room = (comparable b (length out) e).1 in
        (rw (length-append, length-drop) (omega (arith, few, room)), drop_at (listed (all_tables b)) _ (length (listed (all_tables b))) refl)
    cases (suc n) e = (refl, refl)

pub written_only : (d : Desk) (c : Call) → Behind (lent_size d c) (lent c) (lent_after d c)
unfolding fill_fault write_fault
written_only d (ask i q) = (refl, refl)
written_only d compare = (refl, refl)
written_only d compare_on_shares = (refl, refl)
written_only d (fill i f out) =
    by-fault (Behind (fill_size (table_at d i) f) out) (number_of d (fill i f out))
    (λ e. behind-filled (table_at d i) f out (held _ (held_first _ _ (held_first _ _ e).1).1).0)
    (λ _. (refl, refl))
written_only d (write out) = behind_book (loaded_tables d) out (write_fault (loaded_tables d) (length out)) (λ e. (held _ e).1.0)
written_only d (shortlist b out) = behind_list b out
written_only d (change i c) = (refl, refl)

-- The other place.

same : {A B : Type 0} (f : A → B) (n : ℕ) (old new : A) → f new ≡ f old → f (leaves n old new) ≡ f old
same f n old new e = by-fault (λ x. f x ≡ f old) n (λ _. e) (λ _. refl)

others : (d : Desk) (m : ℕ) (p : PooledPlace) {i : ℕ} → Number i
    → ((i ≡ 1 → ⊥) → (leaves (first_fault (place_fault i) m) d (with_place_lem d i p)).first ≡ d.first)
    × ((i ≡ 2 → ⊥) → (leaves (first_fault (place_fault i) m) d (with_place_lem d i p)).second ≡ d.second)
unfolding first_fault
others d m p one = (λ k. absurd (k refl), λ k. same (λ x. x.second) (first_fault (place_fault 1) m) d (with_place_lem d 1 p) refl)
others d m p two = (λ k. same (λ x. x.first) (first_fault (place_fault 2) m) d (with_place_lem d 2 p) refl, λ k. absurd (k refl))
others d m p (neither _ _ e) = (λ k. rw e, λ k. rw e)

pub others_kept : (d : Desk) (c : Call) → (Keeps 1 c → (after d c).first ≡ d.first) × (Keeps 2 c → (after d c).second ≡ d.second)
others_kept d (ask i q) = (λ k. refl, λ k. refl)
others_kept d compare = (λ k. refl, λ k. refl)
others_kept d compare_on_shares = (λ k. refl, λ k. refl)
others_kept d (fill i f out) = (λ k. refl, λ k. refl)
others_kept d (write out) = (λ k. refl, λ k. refl)
others_kept d (shortlist b out) = (λ k. refl, λ k. refl)
others_kept d (change i c) = others d _ _ (number i)

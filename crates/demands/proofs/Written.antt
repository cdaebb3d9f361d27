-- What an accepted call writes: numbers of its desk and its input alone, whatever the buffer held.
use Prim.Native.Nat.{ℕ, ◌≤◌}
use mathlib.Core.Path.{◌≡◌, refl, sym, ◌∙◌}
use mathlib.Core.List.{List, []}
use native.Mathlib.Omega.{arith}
use lib.ListN.{length, take}
use lib.Seq.{take_at}
use Rattle.table.specs.Table.{Table}
use Rattle.book.specs.Encode.{encode}
use Rattle.book.specs.Reading.{all_tables}
use Rattle.book.specs.Writing.{write_fault, buffer_or}
use Rattle.book.proofs.Books.{length-encode}
use Rattle.book.proofs.Checks.{held, held_first}
use Rattle.pooling.specs.Numbers.{pooled_numbers}
use Rattle.pooling.proofs.Repeating.{length_pooled_numbers}
use Rattle.shortlist.specs.Shortlist.{listed}
use Rattle.shortlist.specs.Checks as listing
use Rattle.shortlist.proofs.Books.{not_refused, comparable, book_some}
use Rattle.calls.specs.Calls.{Filling, pool, fill_size, filled_with, fill_fault}
use Rattle.desk.specs.declared.Desk.{Desk}
use Rattle.desk.specs.Desk.{table_at}
use Rattle.desk.specs.Calls.{Call, ask, compare, compare_on_shares, fill, write, shortlist, change, number_of, lent, lent_after, lent_size, loaded_tables}
use Rattle.demands.specs.History.{lending}

-- the numbers that it writes
filling : Table → Filling → List ℕ
filling t pool = pooled_numbers t

abbrev written : Desk → Call → List ℕ
written d (ask i q) = []
written d compare = []
written d compare_on_shares = []
written d (fill i f out) = filling (table_at d i) f
written d (write out) = encode (loaded_tables d)
written d (shortlist b out) = listed (all_tables b)
written d (change i c) = []

fills : (t : Table) (f : Filling) (out : List ℕ) → take (fill_size t f) (filled_with t f out) ≡ filling t f
unfolding filling
fills t pool out = take_at (pooled_numbers t) _ _ (length_pooled_numbers t)

-- They are there, where there is room.
writes : (d : Desk) (c : Call) → number_of d c ≡ 0 → (lent_size d c ≤ length (lent c)) × (take (lent_size d c) (lent_after d c) ≡ written d c)
unfolding fill_fault write_fault buffer_or listing.buffer_or
writes d (ask i q) e = (omega arith, refl)
writes d compare e = (omega arith, refl)
writes d compare_on_shares e = (omega arith, refl)
writes d (fill i f out) e = ((held _ (held_first _ _ (held_first _ _ e).1).1).0, rw e (fills (table_at d i) f out))
writes d (write out) e = ((held _ e).1.0, rw e (take_at (encode (loaded_tables d)) _ _ (length-encode (loaded_tables d))))
writes d (shortlist b out) e =
    let few = (book_some b (not_refused b (length out) e)).1 in
    let room = (comparable b (length out) e).1 in
    (omega (arith, few, room), rw e (take_at (listed (all_tables b)) _ _ refl))
writes d (change i c) e = (omega arith, refl)

-- Another buffer changes neither how many they are nor which.
same_size : (d : Desk) (c : Call) (out : List ℕ) → lent_size d (lending out c) ≡ lent_size d c
same_size d (ask i q) out = refl
same_size d compare out = refl
same_size d compare_on_shares out = refl
same_size d (fill i f old) out = refl
same_size d (write old) out = refl
same_size d (shortlist b old) out = refl
same_size d (change i c) out = refl

same_written : (d : Desk) (c : Call) (out : List ℕ) → written d (lending out c) ≡ written d c
same_written d (ask i q) out = refl
same_written d compare out = refl
same_written d compare_on_shares out = refl
same_written d (fill i f old) out = refl
same_written d (write old) out = refl
same_written d (shortlist b old) out = refl
same_written d (change i c) out = refl

pub written_given : (d : Desk) (c : Call) (out : List ℕ) → number_of d c ≡ 0 → number_of d (lending out c) ≡ 0
    → (lent_size d c ≤ length (lent c))
    × (lent_size d (lending out c) ≡ lent_size d c)
    × (take (lent_size d c) (lent_after d (lending out c)) ≡ take (lent_size d c) (lent_after d c))
written_given d c out e f =
    let w = writes d c e in
    let v = rw (same_size d c out) at (writes d (lending out c) f).1 in
    (w.0, same_size d c out, v ∙ same_written d c out ∙ sym w.1)

-- What accepted calls on a sound desk do: pool writes the monotone regression and repeats it for empty grades, measures has a mixed table, what
-- write leaves is loaded again, and a book whose tables are loaded is written again.
use Prim.Native.Nat.{ℕ, ◌-◌, ◌≤◌}
use mathlib.Core.Path.{◌≡◌, sym, ap, ◌∙◌}
use mathlib.Core.List.{List, [], ◌++◌}
use lib.ListN.{length, take, drop, get_or}
use Rattle.table.specs.Table.{Every, Mixed, occupied}
use Rattle.table.proofs.Occupied.{all-occupied}
use Rattle.table.proofs.Words.{sound_loaded}
use Rattle.pooled_place.proofs.Words.{sound_place}
use Rattle.book.specs.Bytes.{Byte}
use Rattle.book.specs.Layout.{raters, start_of, kind_at, layout_fault}
use Rattle.book.specs.Rows.{tables_in}
use Rattle.book.specs.Encode.{book_size, encode}
use Rattle.book.specs.Writing.{write_fault, buffer_or}
use Rattle.book.proofs.Checks.{held, held_first}
use Rattle.book.proofs.Books.{length-encode}
use Rattle.book.proofs.RoundTrip.{round_trip}
use Rattle.book.proofs.Again.{written_again}
use Rattle.pooling.specs.Numbers.{rates_at_occupied}
use Rattle.pooling.specs.Regression.{IsRegression}
use Rattle.pooling.specs.Claims.{RepeatsNextBetter, RepeatsBest}
use Rattle.pooling.proofs.LeastSquares.{pooled_regression}
use Rattle.pooling.proofs.Repeating.{next_better, best-occupied}
use Rattle.pooling.proofs.Written.{rates-written}
use Rattle.refusals.specs.Answers.{accepted}
use Rattle.calls.specs.Calls.{measures, question_fault, pool, fill_fault}
use Rattle.desk.specs.declared.Desk.{Desk}
use Rattle.desk.specs.Desk.{table_at, SoundDesk}
use Rattle.desk.proofs.Soundness.{table_sound}
use Rattle.desk.specs.Calls.{ask, fill, write, number_of, lent_after, loaded_tables, Returns}
use Rattle.demands.specs.History.{nothing, table, filled}

-- Pool and measures.

pub regression_written : (d : Desk) → SoundDesk d → (i : ℕ) (out : List ℕ) → number_of d (fill i pool out) ≡ 0
    → IsRegression (occupied (table_at d i)) (rates_at_occupied (table_at d i) (lent_after d (fill i pool out)))
unfolding fill_fault
regression_written d s i out e =
    let t = table_at d i in
    rw (e, rates-written t out) (pooled_regression (occupied t) (all-occupied t))

pub repeats_written : (d : Desk) (i : ℕ) (out : List ℕ) → number_of d (fill i pool out) ≡ 0
    → RepeatsNextBetter (table_at d i) (lent_after d (fill i pool out)) × RepeatsBest (table_at d i) (lent_after d (fill i pool out))
repeats_written d i out e = rw e (next_better (table_at d i) out, best-occupied (table_at d i) out)

pub measured_mixed : (d : Desk) → SoundDesk d → (i : ℕ) → number_of d (ask i measures) ≡ 0 → Mixed (table_at d i)
unfolding question_fault
measured_mixed d s i e =
    let f = held_first _ _ (held_first _ _ e).1 in
    let h = held _ f.1 in
    record { counted = (table_sound d s i f.0).counted; defaulted = h.0; survived = h.1.0 }

-- Write.

pub loads_back : (d : Desk) → SoundDesk d → (out : List ℕ) (n : ℕ) → Returns d (write out) (accepted n)
    → (j : ℕ) → 1 ≤ j → j ≤ length (loaded_tables d)
    → filled nothing (take n (lent_after d (write out))) j ≡ table (get_or (loaded_tables d) (j - 1) [])
loads_back d s out n w j from to =
    let first = sound_loaded (sound_place s.first) in
    let second = sound_loaded (sound_place s.second) in
    let r = round_trip d.first.place d.second.place first second out n (sym w) j from to in
    rw (r.0, r.1)

pub writes_back : (b : List ℕ) → Every Byte b → layout_fault b ≡ 0 → ((j : ℕ) → 1 ≤ j → j ≤ raters b → kind_at b (start_of b j) ≡ 0)
    → (d : Desk) → loaded_tables d ≡ tables_in b 1 (raters b) → (out : List ℕ) → write_fault (loaded_tables d) (length out) ≡ 0
    → lent_after d (write out) ≡ b ++ drop (length b) out
unfolding buffer_or
writes_back b bytes e kinds d ts out f =
    let again : encode (loaded_tables d) ≡ b = rw ts (written_again b bytes e kinds) in
    let size : book_size (loaded_tables d) ≡ length b = sym (length-encode (loaded_tables d)) ∙ ap (λ l. length l) again in
    rw (f, again, size)

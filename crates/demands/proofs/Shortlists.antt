-- What an accepted shortlist leaves in the buffer is the shortlist, and any two raters of its book can be compared.
use Prim.Native.Nat.{ℕ, ◌≤◌}
use mathlib.Core.Path.{◌≡◌, refl}
use mathlib.Core.List.{List}
use native.Mathlib.Omega.{arith}
use lib.ListN.{length, take, drop}
use lib.Seq.{take_at}
use Rattle.book.specs.Rows.{table_of_rater}
use Rattle.book.specs.Reading.{all_tables}
use Rattle.cutoff.specs.declared.Verdict.{Verdict}
use Rattle.shortlist.specs.Shortlist.{listed}
use Rattle.shortlist.specs.Checks.{buffer_or}
use Rattle.shortlist.specs.Claims.{Rater}
use Rattle.shortlist.proofs.Books.{not_refused, comparable, book_unbeaten, in_order, book_equals, book_beaten, book_some}
use Rattle.refusals.specs.Answers.{Answer, accepted}
use Rattle.refusals.proofs.Refused.{accepted_by}
use Rattle.desk.specs.declared.Desk.{Desk}
use Rattle.desk.specs.Calls.{Call, shortlist, number_of, lent_after, lent_size, Returns, Compares}
use Rattle.demands.specs.History.{desk_after_lem, table, held}
use Rattle.demands.specs.Demands.{IsShortlist, SettledBy}
use Rattle.demands.proofs.Verdicts.{compare_right}

-- the numbers in the buffer are those of the listed raters
numbers_are : (d : Desk) (b out : List ℕ) → number_of d (shortlist b out) ≡ 0
    → take (lent_size d (shortlist b out)) (lent_after d (shortlist b out)) ≡ listed (all_tables b)
unfolding buffer_or
numbers_are d b out e = rw e (take_at (listed (all_tables b)) (drop (length (listed (all_tables b))) out) (length (listed (all_tables b))) refl)

pub shortlist_right : (d : Desk) (b out : List ℕ) (n : ℕ) → Returns d (shortlist b out) (accepted n)
    → (n ≤ length out) × IsShortlist b (take n (lent_after d (shortlist b out)))
shortlist_right d b out n r =
    let said = accepted_by (number_of d (shortlist b out)) (lent_size d (shortlist b out)) r in
    let a = not_refused b (length out) said.0 in
    let room = (comparable b (length out) said.0).1 in
    let few = (book_some b a).1 in
    let right : IsShortlist b (listed (all_tables b)) = record {
      in_book_order = in_order b;
      unbeaten = book_unbeaten b a;
      together = book_equals b a;
      beaten = book_beaten b a;
      some = (book_some b a).0;
    } in
    rw said.1 (omega (arith, few, room), rw (numbers_are d b out said.0) right)

pub raters-compared : (calls : List Call) (b out : List ℕ) (i j : ℕ) → number_of (desk_after_lem calls) (shortlist b out) ≡ 0 → Rater b i → Rater b j
    → held 1 calls ≡ table (table_of_rater b i) → held 2 calls ≡ table (table_of_rater b j)
    → (r : Answer Verdict) → Compares (desk_after_lem calls) r → SettledBy (table_of_rater b i) (table_of_rater b j) r
raters-compared calls b out i j e p q first second =
    let c = (comparable b (length out) e).0 in
    let same = c.same i j p.0 p.1 q.0 q.1 in
    let m = c.mixed i p.0 p.1 in
    compare_right calls (table_of_rater b i) (table_of_rater b j) first second same.0 same.1 m.defaulted m.survived

-- Every call ends in a result or one of its refusal numbers.
use Prim.Native.Nat.{ℕ}
use mathlib.Core.Path.{◌≡◌}
use mathlib.Core.Logic.{◌⊎◌, inl, inr}
use mathlib.Core.Bool.{Bool, true, false, ◌&&◌, ◌||◌}
use mathlib.Core.List.{List, [], ◌∷◌, ◌++◌}
use lib.Dec.{T, eqb, leb, eqb→eq}
use lib.ListN.{length}
use Rattle.table.specs.Table.{Table, Grade, defaults_in, survivors_in}
use Rattle.table.proofs.Test.{by-test}
use Rattle.table.specs.Place.{table_of}
use Rattle.table.specs.declared.Place.{Place}
use Rattle.book.specs.Checks.{Check, at_most, fault, first_fault}
use Rattle.book.specs.Layout.{head_checks, rater_checks, table_checks, tables_fault_lem, layout_fault, leftover_fault, first_start, raters}
use Rattle.book.specs.Rows.{row_checks, later_checks, total_checks, table_fault_lem, table_of_rater}
use Rattle.book.specs.Reading.{read_fault, all_tables, table_faults, book_fault}
use Rattle.book.specs.Writing.{write_fault}
use Rattle.book.proofs.Numbers.{all_pass, fault_passes, first_passes, rows_pass, tables_pass}
use Rattle.shortlist.specs.Checks.{some_checks, equal_checks, same_checks, shortlist_fault}
use Rattle.events.specs.declared.Event.{Event}
use Rattle.events.specs.declared.Event.TheVariants.{SurvivorEnters, SurvivorLeaves, SurvivorDefaults, DefaultedRemoved}
use Rattle.events.specs.Events.{event_fault}
use Rattle.calls.specs.Calls.{Question, cheapest, measures, brier, spread, question_checks, question_fault, Filling, pool, fill_size, fill_fault, Change, load, clear, event, change_fault, empty_fault, pair_checks, compare_fault}
use Rattle.calls.specs.Shares.{shares_checks, shares_fault}
use Rattle.desk.specs.declared.Desk.{Desk}
use Rattle.desk.specs.Desk.{place_at}
use Rattle.desk.specs.Calls.{Call, ask, compare, compare_on_shares, fill, write, shortlist, change, place_fault, number_of}
use Rattle.demands.specs.History.{question_numbers, fill_numbers, event_numbers, change_numbers, numbers}
use Rattle.shortlist.specs.Claims.{Has}

-- A number that is one of some, found by computation.

unfoldable among : List ℕ → ℕ → Bool
among [] n = false
among (m ∷ l) n = eqb n m || among l n

one_of : (l : List ℕ) (n : ℕ) → T (among l n) → Has n l
unfolding among
one_of [] n h = h
one_of (m ∷ l) n h = either (eqb n m) (among l n) (λ e. inl (eqb→eq n m e)) (λ r. inr (one_of l n r)) h
  where
    either : {P : Type 0} (x y : Bool) → (T x → P) → (T y → P) → T (x || y) → P
    either true y f g h = f tt
    either false y f g h = g h

-- 0, or one of the refusal numbers ns.
module _ (ns : List ℕ) where
  abbrev is_known : ℕ → Bool
  is_known n = among (0 ∷ ns) n

  abbrev Known : ℕ → Type 0
  Known n = T (is_known n)

  known_fault : (l : List Check) → T (all_pass is_known l) → Known (fault l)
  known_fault = fault_passes is_known

  known_first : (n m : ℕ) → Known n → Known m → Known (first_fault n m)
  known_first = first_passes is_known

  -- Reading a book: its layout, and its tables.

  abbrev LayoutKnown : List ℕ → Type 0
  LayoutKnown b = T (all_pass is_known (head_checks b)) × ((j at : ℕ) → T (all_pass is_known (table_checks b j at))) × T (is_known leftover_fault && is_known 0)

  known_tables : (b : List ℕ) → LayoutKnown b → Known (tables_fault_lem b)
  known_tables b k = tables_pass is_known b k.1 k.2 (raters b) 1 (first_start b)

  abbrev TableKnown : Type 0
  TableKnown = ((p : ℕ) (g : Grade) → T (all_pass is_known (later_checks p g))) × ((t : Table) → T (all_pass is_known (total_checks t)))

  known_table : TableKnown → (t : Table) → Known (table_fault_lem t)
  unfolding table_fault_lem among
  known_table k t = known_first _ _ (rows_pass is_known tt k.0 t) (known_fault (total_checks t) (k.1 t))

  known_book : (b : List ℕ) → LayoutKnown b → TableKnown → Known (book_fault b)
  unfolding book_fault layout_fault table_faults among
  known_book b k h = known_first _ _ (known_first _ _ (known_fault (head_checks b) k.0) (known_tables b k)) (each (all_tables b))
    where
      each : (ts : List Table) → Known (table_faults ts)
      each [] = tt
      each (t ∷ ts) = known_first _ _ (known_table h t) (each ts)

  -- The totals of all raters.

  known_some : (count : Table → ℕ) (n : ℕ) → Known n → (ts : List Table) → Known (fault (some_checks count n ts))
  unfolding some_checks fault among
  known_some count n k [] = tt
  known_some count n k (t ∷ ts) = by-test Known (leb 1 (count t)) (λ _. known_some count n k ts) (λ _. k)

  known_equal : (count : Table → ℕ) (n : ℕ) → Known 25 → (ts : List Table) (more : List Check) → Known (fault more)
      → Known (fault (equal_checks count n ts ++ more))
  unfolding equal_checks fault
  known_equal count n k [] more h = h
  known_equal count n k (t ∷ ts) more h = by-test Known (eqb n (count t)) (λ _. known_equal count n k ts more h) (λ _. k)

  known_same : (count : Table → ℕ) → Known 25 → (ts : List Table) → Known (fault (same_checks count ts))
  unfolding same_checks fault among
  known_same count k [] = tt
  known_same count k (t ∷ ts) = known_equal count (count t) k ts (same_checks count ts) (known_same count k ts)

known_read : (b : List ℕ) (j : ℕ) → Known (1 ∷ change_numbers (load b j)) (read_fault b j)
unfolding read_fault head_checks rater_checks table_checks row_checks later_checks total_checks among all_pass
known_read b j =
    let ns : List ℕ = 1 ∷ change_numbers (load b j) in
    known_first ns _ _
    (known_fault ns (head_checks b) tt)
    (known_first ns _ _
    (known_fault ns (rater_checks b j) tt)
    (known_first ns _ _ (known_tables ns b (tt, λ i at. tt, tt)) (known_table ns (λ p g. tt, λ t. tt) (table_of_rater b j))))

known_shortlist : (b out : List ℕ) → Known (numbers (shortlist b out)) (shortlist_fault b (length out))
unfolding shortlist_fault head_checks table_checks row_checks later_checks total_checks among all_pass
known_shortlist b out =
    let ns : List ℕ = numbers (shortlist b out) in
    known_first ns _ _
    (known_book ns b (tt, λ i at. tt, tt) (λ p g. tt, λ t. tt))
    (known_first ns _ _
    (known_first ns _ _
    (known_some ns defaults_in 23 tt (all_tables b))
    (known_first ns _ _
    (known_some ns survivors_in 24 tt (all_tables b))
    (known_first ns _ _ (known_same ns defaults_in tt (all_tables b)) (known_same ns survivors_in tt (all_tables b)))))
    (known_fault ns _ tt))

-- Each call on a place: the checks of the place itself, among which 22 or 21 is the first.

known_empty : (ns : List ℕ) (p : Place) → Known (1 ∷ 22 ∷ ns) (empty_fault p)
unfolding among
known_empty ns p = by-test (Known (1 ∷ 22 ∷ ns)) p.loaded (λ _. tt) (λ _. tt)

-- 22, and then further checks
known_then : (ns : List ℕ) (p : Place) (l : List Check) → T (all_pass (is_known (1 ∷ 22 ∷ ns)) l) → Known (1 ∷ 22 ∷ ns) (first_fault (empty_fault p) (fault l))
known_then ns p l h = known_first (1 ∷ 22 ∷ ns) _ _ (known_empty ns p) (known_fault (1 ∷ 22 ∷ ns) l h)

known_question : (p : Place) (q : Question) → Known (1 ∷ question_numbers q) (question_fault p q)
unfolding question_fault among all_pass
known_question p (cheapest u v) = known_then (12 ∷ []) p (question_checks (table_of p) (cheapest u v)) tt
known_question p measures = known_then (23 ∷ 24 ∷ []) p (question_checks (table_of p) measures) tt
known_question p brier = known_then [] p [] tt
known_question p spread = known_then [] p [] tt

known_fill : (p : Place) (f : Filling) (n : ℕ) → Known (1 ∷ fill_numbers f) (fill_fault p f n)
unfolding fill_fault among all_pass
known_fill p pool n = known_then (13 ∷ []) p (at_most (fill_size (table_of p) pool) n 13 ∷ []) tt

-- 22, 36, and then the checks of the event
known_event : (p : Place) (e : Event) (g : ℕ) → Known (1 ∷ event_numbers e) (first_fault (empty_fault p) (event_fault e g (table_of p)))
unfolding event_fault among all_pass
known_event p e g = cases e
  where
    booked : (ns : List ℕ) (l m : List Check) → T (all_pass (is_known (1 ∷ 22 ∷ ns)) l) → T (all_pass (is_known (1 ∷ 22 ∷ ns)) m)
        → Known (1 ∷ 22 ∷ ns) (first_fault (empty_fault p) (first_fault (fault l) (fault m)))
    booked ns l m h k =
        let all : List ℕ = 1 ∷ 22 ∷ ns in
        known_first all _ _ (known_empty ns p) (known_first all _ _ (known_fault all l h) (known_fault all m k))

    cases : (e : Event) → Known (1 ∷ event_numbers e) (first_fault (empty_fault p) (event_fault e g (table_of p)))
    cases SurvivorEnters = booked (36 ∷ 38 ∷ []) _ _ tt tt
    cases SurvivorLeaves = booked (36 ∷ 37 ∷ []) _ _ tt tt
    cases SurvivorDefaults = booked (36 ∷ 37 ∷ []) _ _ tt tt
    cases DefaultedRemoved = booked (36 ∷ 37 ∷ []) _ _ tt tt

known_change : (p : Place) (c : Change) → Known (1 ∷ change_numbers c) (change_fault p c)
unfolding change_fault among
known_change p (load b j) =
    known_first (1 ∷ change_numbers (load b j)) _ _
    (by-test (Known (1 ∷ change_numbers (load b j))) p.loaded (λ _. tt) (λ _. tt))
    (known_read b j)
known_change p clear = known_empty [] p
known_change p (event e g) = known_event p e g

-- and of the desk: 1 before them

known_place : (ns : List ℕ) (i n : ℕ) → Known (1 ∷ ns) n → Known (1 ∷ ns) (first_fault (place_fault i) n)
unfolding among all_pass
known_place ns i n k = known_first (1 ∷ ns) _ _ (known_fault (1 ∷ ns) _ tt) k

-- of both places: 22 of either before them
known_pair : (ns : List ℕ) (p q : Place) (n : ℕ) → Known (22 ∷ ns) n → Known (22 ∷ ns) (first_fault (empty_fault p) (first_fault (empty_fault q) n))
unfolding among
known_pair ns p q n k =
    known_first (22 ∷ ns) _ _
    (by-test (Known (22 ∷ ns)) p.loaded (λ _. tt) (λ _. tt))
    (known_first (22 ∷ ns) _ _ (by-test (Known (22 ∷ ns)) q.loaded (λ _. tt) (λ _. tt)) k)

known : (d : Desk) (c : Call) → Known (numbers c) (number_of d c)
unfolding compare_fault pair_checks shares_fault shares_checks write_fault among all_pass
known d (ask i q) = known_place (question_numbers q) i _ (known_question (place_at d i) q)
known d compare = known_pair (23 ∷ 24 ∷ 25 ∷ []) d.first.place d.second.place _ (known_fault (numbers compare) _ tt)
known d compare_on_shares = known_pair (23 ∷ 24 ∷ 35 ∷ []) d.first.place d.second.place _ (known_fault (numbers compare_on_shares) _ tt)
known d (fill i f out) = known_place (fill_numbers f) i _ (known_fill (place_at d i) f _)
known d (write out) = known_fault (numbers (write out)) _ tt
known d (shortlist b out) = known_shortlist b out
known d (change i c) = known_place (change_numbers c) i _ (known_change (place_at d i) c)

pub answered : (d : Desk) (c : Call) → (number_of d c ≡ 0) ⊎ Has (number_of d c) (numbers c)
answered d c = one_of (0 ∷ numbers c) (number_of d c) (known d c)

-- 5 is none of them.
unlisted : (c : Call) → Known (numbers c) 5 → ⊥
unfolding among
unlisted (ask i (cheapest u v)) h = h
unlisted (ask i measures) h = h
unlisted (ask i brier) h = h
unlisted (ask i spread) h = h
unlisted compare h = h
unlisted compare_on_shares h = h
unlisted (fill i pool out) h = h
unlisted (write out) h = h
unlisted (shortlist b out) h = h
unlisted (change i (load b j)) h = h
unlisted (change i clear) h = h
unlisted (change i (event SurvivorEnters g)) h = h
unlisted (change i (event SurvivorLeaves g)) h = h
unlisted (change i (event SurvivorDefaults g)) h = h
unlisted (change i (event DefaultedRemoved g)) h = h

pub never_five : (d : Desk) (c : Call) → number_of d c ≡ 5 → ⊥
never_five d c e = unlisted c (rw e at (known d c))

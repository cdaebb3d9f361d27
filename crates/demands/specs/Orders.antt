-- In which order the checks of each call stand: for any two that stand next to each other and that one input can fail together, a row with such an
-- input and the number of the earlier one. Checks that no input fails together are passed over: such a one may stand between the two of a row.
-- A number that is given at several points has a row for each point. Bytes behind the end of a book read as 0.
use Rattle.std.specs.Prelude.{ℕ, ◌≡◌, List, [], ◌∷◌, ◌++◌, replicate}
use Rattle.std.proofs.lemmas.List.Edits.{sets}
use Rattle.table.specs.Table.{Table, Grade}
use Rattle.pooled_place.specs.PooledPlace.{fresh_pooled_place, pooled_place_of}
use Rattle.events.specs.declared.Event.{Event}
use Rattle.events.specs.declared.Event.TheVariants.{SurvivorEnters, SurvivorLeaves, SurvivorDefaults, DefaultedRemoved}
use Rattle.book.specs.Checks.{fault}
use Rattle.book.specs.Rows.{later_checks}
use Rattle.book.specs.Encode.{encode}
use Rattle.calls.specs.Calls.{cheapest, measures, brier, spread, pool, load, clear, event}
use Rattle.desk.specs.declared.Desk.{Desk}
use Rattle.desk.specs.Desk.{fresh_desk}
use Rattle.desk.specs.Calls.{ask, compare, compare_on_shares, fill, write, shortlist, change, number_of}
use Rattle.demands.specs.Worked.{row, announcing, empty, book_k, swapped_k, coarse, other_defaults, other_survivors}

-- Desks: a table in the first place, in the second, in both. Of a number that is no place's, the second place is asked.

abbrev pub in_first : Table → Desk
in_first t = record { first = pooled_place_of t; second = fresh_pooled_place }

abbrev pub in_second : Table → Desk
in_second t = record { first = fresh_pooled_place; second = pooled_place_of t }

abbrev pub in_both : Table → Table → Desk
in_both t₁ t₂ = record { first = pooled_place_of t₁; second = pooled_place_of t₂ }

abbrev pub full : Desk
full = in_both coarse coarse

-- Tables.

-- one more than 1,000,000: as a rate, as a price, as a number of obligors
abbrev pub above : ℕ
above = 1_000_001

-- grades with more defaults than obligors: a default of nobody, the same with a rate above 1,000,000, and too many obligors
abbrev pub nobodys : Grade
nobodys = record { obligors = 0; defaults = 1; announced = 4 }

abbrev pub nobodys_above : Grade
nobodys_above = record { obligors = 0; defaults = 1; announced = above }

abbrev pub many_defaults : Grade
many_defaults = record { obligors = above; defaults = 1_000_002; announced = 4 }

-- tables without a default, without a survivor but with the D of `coarse`, and with another one
abbrev pub no_default : Table
no_default = row 6 0 ∷ []

abbrev pub no_survivor : Table
no_survivor = row 3 3 ∷ []

abbrev pub two_defaulted : Table
two_defaulted = row 2 2 ∷ []

-- R-8: an empty grade, and one with as many obligors as a table may have; a table with one obligor
abbrev pub crowded : Table
crowded = empty ∷ row 1_000_000 4 ∷ []

abbrev pub lone : Table
lone = row 1 0 ∷ []

-- a row for each of the four events
abbrev pub EachEvent : (Event → Type 0) → Type 0
EachEvent P = P SurvivorEnters × P SurvivorLeaves × P SurvivorDefaults × P DefaultedRemoved

-- more obligors than the comparison on shares takes, d of whom defaulted
abbrev pub large : ℕ → Table
large d = row 100_001 d ∷ []

-- Books.

-- the first four bytes: the number of raters, and the length that is stated
abbrev pub start : ℕ → ℕ → List ℕ
start raters stated = raters ∷ 0 ∷ stated ∷ 0 ∷ []

-- three bytes, which state that they are three
abbrev pub three : ℕ → List ℕ
three raters = raters ∷ 0 ∷ 3 ∷ []

-- 17 raters, whose offsets, which are 0, end the book at 38 bytes
abbrev pub seventeen : ℕ → List ℕ
seventeen stated = start 17 stated ++ replicate 34 0

-- one rater, whose offset ends the book: the table that should start here, at byte 6, has no header, or one byte of it
abbrev pub headless : ℕ → List ℕ
headless offset = 1 ∷ 0 ∷ 6 ∷ 0 ∷ offset ∷ 0 ∷ []

abbrev pub count_only : ℕ → List ℕ
count_only grades = 1 ∷ 0 ∷ 7 ∷ 0 ∷ 6 ∷ 0 ∷ grades ∷ []

-- one rater, and the header of its table ends the book: grade count, kind, and the first of the two bytes that should be 0
abbrev pub headed : ℕ → ℕ → ℕ → List ℕ
headed grades kind next = 1 ∷ 0 ∷ 10 ∷ 0 ∷ 6 ∷ 0 ∷ grades ∷ kind ∷ next ∷ 0 ∷ []

-- two raters, and the header of the first one's table ends the book; the second one's starts elsewhere, at byte 0
abbrev pub elsewhere : ℕ → ℕ → List ℕ
elsewhere grades kind = 2 ∷ 0 ∷ 12 ∷ 0 ∷ 8 ∷ 0 ∷ 0 ∷ 0 ∷ grades ∷ kind ∷ 0 ∷ 0 ∷ []

-- book K with another byte: 2 is the stated length, 4 the offset, 6 the grade count, 7 the kind
abbrev pub patched_k : ℕ → ℕ → List ℕ
patched_k at byte = sets book_k at (byte ∷ [])

-- one table, of which only one grade is told: bytes are left over
abbrev pub leftover : Table → List ℕ
leftover t = sets (encode (t ∷ [])) 6 (1 ∷ [])

-- Calls.

-- the number that loading rater j of a book into an empty place is refused with, and that of the shortlist of some tables in a lent buffer
abbrev pub loading : List ℕ → ℕ → ℕ
loading b j = number_of fresh_desk (change 1 (load b j))

abbrev pub listing : List Table → List ℕ → ℕ
listing ts out = number_of fresh_desk (shortlist (encode ts) out)

-- room for the numbers of three raters
abbrev pub room : List ℕ
room = 0 ∷ 0 ∷ 0 ∷ []

-- Loading the first rater of a book and its shortlist are refused with the same number.
abbrev pub Both : List ℕ → ℕ → Type 0
Both b n = (loading b 1 ≡ n) × (number_of fresh_desk (shortlist b room) ≡ n)

-- the same of one table in a book
abbrev pub BothOf : Table → ℕ → Type 0
BothOf t n = Both (encode (t ∷ [])) n

pub record Orders : Type 0 where
  -- "load 1, 21, 2, 3, 4": 1 of place 0 and of place 3; 2 of a short book and of a wrong length; 3 of no raters, of 17 and of offsets that are not
  -- all there; 4 of rater 0 and of one behind the last
  pub load_1_before_21_below : number_of full (change 0 (load book_k 1)) ≡ 1
  pub load_1_before_21_above : number_of full (change 3 (load book_k 1)) ≡ 1
  pub load_21_before_2_short : number_of full (change 1 (load (three 1) 1)) ≡ 21
  pub load_21_before_2_length : number_of full (change 1 (load (patched_k 2 45) 1)) ≡ 21
  pub load_3_before_4_none_below : loading (start 0 4) 0 ≡ 3
  pub load_3_before_4_none_behind : loading (start 0 4) 1 ≡ 3
  pub load_3_before_4_many_below : loading (seventeen 38) 0 ≡ 3
  pub load_3_before_4_many_behind : loading (seventeen 38) 18 ≡ 3
  pub load_3_before_4_offsets_below : loading (start 1 4) 0 ≡ 3
  pub load_3_before_4_offsets_behind : loading (start 1 4) 2 ≡ 3
  -- "then table by table": 4 before a table that starts elsewhere, has no header, no grades, another kind, no rows, and before bytes left over
  pub load_4_before_31_below : loading (patched_k 4 7) 0 ≡ 4
  pub load_4_before_31_behind : loading (patched_k 4 7) 2 ≡ 4
  pub load_4_before_32_header : loading (headless 6) 2 ≡ 4
  pub load_4_before_6 : loading (headed 0 0 0) 2 ≡ 4
  pub load_4_before_7 : loading (patched_k 7 2) 2 ≡ 4
  pub load_4_before_32_rows : loading (headed 1 0 0) 2 ≡ 4
  pub load_4_before_33 : loading (patched_k 6 2) 2 ≡ 4
  -- What load and shortlist check alike: 2, 3;
  pub book_2_before_3_short_none : Both (three 0) 2
  pub book_2_before_3_short_many : Both (three 17) 2
  pub book_2_before_3_short_offsets : Both (three 1) 2
  pub book_2_before_3_length_none : Both (start 0 5) 2
  pub book_2_before_3_length_many : Both (seventeen 39) 2
  pub book_2_before_3_length_offsets : Both (start 1 5) 2
  -- of a table "(start, header), 6, 7, (rows)": 6 of no grades and of 41, 7 of the kind and of the bytes behind it; then the next table, and
  -- "(leftover)". What is no row of the last table is no byte left over; the definition could tell both of it.
  pub book_31_before_32 : Both (headless 7) 31
  pub book_32_before_6_none : Both (headless 6) 32
  pub book_32_before_6_many : Both (count_only 41) 32
  pub book_6_before_7_none_kind : Both (headed 0 2 0) 6
  pub book_6_before_7_none_bytes : Both (headed 0 0 1) 6
  pub book_6_before_7_many_kind : Both (headed 41 2 0) 6
  pub book_6_before_7_many_bytes : Both (headed 41 0 1) 6
  pub book_7_before_32_kind : Both (headed 1 2 0) 7
  pub book_7_before_32_bytes : Both (headed 1 0 1) 7
  pub book_6_before_next_31 : Both (elsewhere 0 0) 6
  pub book_7_before_next_31 : Both (elsewhere 1 2) 7
  pub book_32_before_next_31 : Both (elsewhere 1 0) 32
  pub book_32_before_33 : Both (headed 1 0 0) 32
  -- "then row by row 8, .. 10", R-5's 34 "in each row after 10"; the checks of a row before those of the next, the first row's and a later one's
  pub book_33_before_8 : Both (leftover (nobodys ∷ nobodys ∷ [])) 33
  pub book_33_before_10 : Both (leftover (announcing 9 above ∷ announcing 9 above ∷ [])) 33
  pub book_33_before_34 : Both (sets swapped_k 6 (2 ∷ [])) 33
  pub book_8_before_10 : BothOf (nobodys_above ∷ []) 8
  pub book_8_before_34 : BothOf (announcing 9 5 ∷ nobodys ∷ []) 8
  pub book_10_before_next_8 : BothOf (announcing 9 above ∷ nobodys ∷ []) 10
  pub book_10_before_third_8 : BothOf (announcing 9 5 ∷ announcing 9 above ∷ nobodys ∷ []) 10
  pub book_34_before_third_8 : BothOf (announcing 9 5 ∷ announcing 9 4 ∷ nobodys ∷ []) 34
  -- No book has 10 and 34 in one row, but not 10 in the row before: this is of the checks of one row alone.
  pub row_10_before_34 : fault (later_checks 1_000_002 (announcing 9 above)) ≡ 10
  -- "then 11", R-4's 9 "just before 11": both behind all rows
  pub book_8_before_9 : BothOf (nobodys ∷ []) 8
  pub book_10_before_9 : BothOf (announcing 0 above ∷ []) 10
  pub book_34_before_9 : BothOf (announcing 0 5 ∷ announcing 0 4 ∷ []) 34
  pub book_8_before_11 : BothOf (many_defaults ∷ []) 8
  pub book_10_before_11 : BothOf (announcing above above ∷ []) 10
  pub book_34_before_11 : BothOf (announcing 1_000_000 5 ∷ announcing 1 4 ∷ []) 34
  -- "Clear 1, 22."
  pub clear_1_before_22_below : number_of fresh_desk (change 0 clear) ≡ 1
  pub clear_1_before_22_above : number_of fresh_desk (change 3 clear) ≡ 1
  -- "Pool 1, 22, 13."
  pub pool_1_before_22_below : number_of fresh_desk (fill 0 pool room) ≡ 1
  pub pool_1_before_22_above : number_of fresh_desk (fill 3 pool room) ≡ 1
  pub pool_1_before_13_below : number_of full (fill 0 pool []) ≡ 1
  pub pool_1_before_13_above : number_of full (fill 3 pool []) ≡ 1
  -- "Cheapest 1, 22, 12": 12 of either price
  pub cheapest_1_before_22_below : number_of fresh_desk (ask 0 (cheapest 1 1)) ≡ 1
  pub cheapest_1_before_22_above : number_of fresh_desk (ask 3 (cheapest 1 1)) ≡ 1
  pub cheapest_22_before_12_missed : number_of fresh_desk (ask 1 (cheapest above 1)) ≡ 22
  pub cheapest_22_before_12_turned_away : number_of fresh_desk (ask 1 (cheapest 1 above)) ≡ 22
  -- "Brier and spread 1, 22."
  pub brier_1_before_22_below : number_of fresh_desk (ask 0 brier) ≡ 1
  pub brier_1_before_22_above : number_of fresh_desk (ask 3 brier) ≡ 1
  pub spread_1_before_22_below : number_of fresh_desk (ask 0 spread) ≡ 1
  pub spread_1_before_22_above : number_of fresh_desk (ask 3 spread) ≡ 1
  -- "Measures 1, 22, 23, 24": an empty place has neither a default nor a survivor
  pub measures_1_before_22_below : number_of fresh_desk (ask 0 measures) ≡ 1
  pub measures_1_before_22_above : number_of fresh_desk (ask 3 measures) ≡ 1
  pub measures_22_before_23_and_24 : number_of fresh_desk (ask 1 measures) ≡ 22
  -- "Compare: 22 ..; 23 for either; 24 for either; 25": 22 of a place before 23 of the same and of the other one; 24 of the place where 23 is not,
  -- since no table has both; 25 of D and of S alone
  pub compare_22_before_23_first : number_of (in_second coarse) compare ≡ 22
  pub compare_22_before_23_second : number_of (in_first coarse) compare ≡ 22
  pub compare_22_before_23_first_second : number_of (in_second no_default) compare ≡ 22
  pub compare_22_before_23_second_first : number_of (in_first no_default) compare ≡ 22
  pub compare_23_before_24_first_second : number_of (in_both no_default no_survivor) compare ≡ 23
  pub compare_23_before_24_second_first : number_of (in_both no_survivor no_default) compare ≡ 23
  pub compare_23_before_25_first : number_of (in_both no_default coarse) compare ≡ 23
  pub compare_23_before_25_second : number_of (in_both coarse no_default) compare ≡ 23
  pub compare_24_before_25_first_defaults : number_of (in_both two_defaulted coarse) compare ≡ 24
  pub compare_24_before_25_second_defaults : number_of (in_both coarse two_defaulted) compare ≡ 24
  pub compare_24_before_25_first_survivors : number_of (in_both no_survivor coarse) compare ≡ 24
  pub compare_24_before_25_second_survivors : number_of (in_both coarse no_survivor) compare ≡ 24
  -- R-6: "tests 22, 23 and 24 as the first does. A larger table is refused with 35 after 24"
  pub shares_22_before_23_first : number_of (in_second coarse) compare_on_shares ≡ 22
  pub shares_22_before_23_second : number_of (in_first coarse) compare_on_shares ≡ 22
  pub shares_22_before_23_first_second : number_of (in_second no_default) compare_on_shares ≡ 22
  pub shares_22_before_23_second_first : number_of (in_first no_default) compare_on_shares ≡ 22
  pub shares_23_before_24_first_second : number_of (in_both no_default no_survivor) compare_on_shares ≡ 23
  pub shares_23_before_24_second_first : number_of (in_both no_survivor no_default) compare_on_shares ≡ 23
  pub shares_23_before_35_first_second : number_of (in_both no_default (large 1)) compare_on_shares ≡ 23
  pub shares_23_before_35_second_first : number_of (in_both (large 1) no_default) compare_on_shares ≡ 23
  pub shares_24_before_35_first : number_of (in_both (large 100_001) coarse) compare_on_shares ≡ 24
  pub shares_24_before_35_second : number_of (in_both coarse (large 100_001)) compare_on_shares ≡ 24
  pub shares_24_before_35_first_second : number_of (in_both no_survivor (large 1)) compare_on_shares ≡ 24
  pub shares_24_before_35_second_first : number_of (in_both (large 1) no_survivor) compare_on_shares ≡ 24
  -- "Write 22, 13": the shortest book, of no table, is longer than no bytes
  pub write_22_before_13 : number_of fresh_desk (write []) ≡ 22
  -- R-7: "The layout .. is checked first as in load, without 1, 21 and 4": 3 at each of its points is next to the tables
  pub shortlist_3_before_33 : number_of fresh_desk (shortlist (start 0 5 ++ 0 ∷ []) room) ≡ 3
  pub shortlist_3_before_31_many : number_of fresh_desk (shortlist (seventeen 38) room) ≡ 3
  pub shortlist_3_before_31_offsets : number_of fresh_desk (shortlist (start 1 4) room) ≡ 3
  -- "Then come the row checks, 9 and 11 of each rater in book order. Then 23 is tested over all raters": not before the next rater's turn
  pub shortlist_9_before_next_8 : listing ((empty ∷ []) ∷ (nobodys ∷ []) ∷ []) room ≡ 9
  pub shortlist_11_before_next_8 : listing ((announcing above 4 ∷ []) ∷ (nobodys ∷ []) ∷ []) room ≡ 11
  pub shortlist_9_before_23_and_24 : listing ((empty ∷ []) ∷ []) room ≡ 9
  pub shortlist_11_before_23 : listing ((announcing above 4 ∷ []) ∷ []) room ≡ 11
  pub shortlist_9_before_23_of_an_earlier : listing (no_default ∷ (empty ∷ []) ∷ []) room ≡ 9
  pub shortlist_11_before_23_of_an_earlier : listing (no_default ∷ (announcing above 4 ∷ []) ∷ []) room ≡ 11
  pub shortlist_11_before_24 : listing ((row above above ∷ []) ∷ []) room ≡ 11
  -- "then 24 over all, then 25 between any two": whichever rater stands first; 24 of the last before 25 of the first two
  pub shortlist_23_before_24 : listing (no_default ∷ no_survivor ∷ []) room ≡ 23
  pub shortlist_23_before_24_of_an_earlier : listing (coarse ∷ no_survivor ∷ no_default ∷ []) room ≡ 23
  pub shortlist_23_before_25 : listing (coarse ∷ no_default ∷ []) room ≡ 23
  pub shortlist_24_before_25_defaults : listing (coarse ∷ two_defaulted ∷ []) room ≡ 24
  pub shortlist_24_before_25_survivors : listing (coarse ∷ no_survivor ∷ []) room ≡ 24
  pub shortlist_24_before_25_defaults_of_earlier : listing (coarse ∷ other_defaults ∷ no_survivor ∷ []) room ≡ 24
  pub shortlist_24_before_25_survivors_of_earlier : listing (coarse ∷ other_survivors ∷ no_survivor ∷ []) room ≡ 24
  -- "then 13 for a buffer shorter than R"
  pub shortlist_23_before_13 : listing (no_default ∷ []) [] ≡ 23
  pub shortlist_24_before_13 : listing (no_survivor ∷ []) [] ≡ 24
  pub shortlist_25_before_13_defaults : listing (coarse ∷ other_defaults ∷ []) [] ≡ 25
  pub shortlist_25_before_13_survivors : listing (coarse ∷ other_survivors ∷ []) [] ≡ 25
  -- R-8: "After 1 and 22 come 36 .., 37 .. and 38": a grade below and above those of the table. In `crowded` no firm can leave, default or be
  -- removed at grade 1 nor at grade 3, which is none, and none can enter. The one obligor of `lone` is its last.
  pub event_1_before_22_below : EachEvent (λ e. number_of fresh_desk (change 0 (event e 1)) ≡ 1)
  pub event_1_before_22_above : EachEvent (λ e. number_of fresh_desk (change 3 (event e 1)) ≡ 1)
  pub event_22_before_36_below : EachEvent (λ e. number_of fresh_desk (change 1 (event e 0)) ≡ 22)
  pub event_22_before_36_above : EachEvent (λ e. number_of fresh_desk (change 1 (event e 1)) ≡ 22)
  pub event_36_before_37_and_38_below : EachEvent (λ e. number_of (in_first crowded) (change 1 (event e 0)) ≡ 36)
  pub event_36_before_37_and_38_above : EachEvent (λ e. number_of (in_first crowded) (change 1 (event e 3)) ≡ 36)
  pub event_36_before_37_last_below : EachEvent (λ e. number_of (in_first lone) (change 1 (event e 0)) ≡ 36)
  pub event_36_before_37_last_above : EachEvent (λ e. number_of (in_first lone) (change 1 (event e 2)) ≡ 36)

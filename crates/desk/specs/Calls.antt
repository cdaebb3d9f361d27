-- The calls on a desk, by what they do, each with its input; the number that each is refused with, and what each leaves. The contracts of
-- the desk's methods, those of the library for C and the demands all speak of these definitions.
use Rattle.std.specs.Prelude.{ℕ, ◌≡◌, List, [], ◌∷◌, length}
use Rattle.table.specs.Table.{Table}
use Rattle.book.specs.Checks.{at_most, fault, first_fault}
use Rattle.book.specs.Encode.{book_size}
use Rattle.book.specs.Reading.{all_tables}
use Rattle.book.specs.Writing.{tables_of, write_fault, buffer_after}
use Rattle.cutoff.specs.Verdict.{IsVerdict}
use Rattle.cutoff.specs.declared.Verdict.{Verdict}
use Rattle.shares.specs.Verdict.{IsVerdictByShares}
use Rattle.spread.specs.Spread.{IsSpread}
use Rattle.spread.specs.declared.Spread.{Spread}
use Rattle.shortlist.specs.Shortlist.{listed}
use Rattle.shortlist.specs.Checks as listing
use Rattle.shortlist.specs.Checks.{shortlist_fault}
use Rattle.refusals.specs.Answers.{Answer, answer, leaves, Limited}
use Rattle.calls.specs.Calls.{Question, spread, question_fault, Filling, fill_size, filled_with, fill_fault, Change, changed_to, change_fault, compare_fault}
use Rattle.calls.specs.Shares.{shares_fault}
use Rattle.desk.specs.declared.Desk.{Desk}
use Rattle.desk.specs.Desk.{place_at, table_at, with_place_lem}

pub data Call : Type 0 where
  -- asks place i, or both
  ask : (i : ℕ) → Question → Call
  compare : Call
  compare_on_shares : Call
  -- fills a lent buffer from place i, or from both
  fill : (i : ℕ) → Filling → (out : List ℕ) → Call
  write : (out : List ℕ) → Call
  -- fills a lent buffer from a book; no place is asked
  shortlist : (book out : List ℕ) → Call
  -- changes place i
  change : (i : ℕ) → Change → Call

-- 1: place is not 1 or 2.
abbrev pub place_fault : ℕ → ℕ
place_fault i = fault (at_most 1 i 1 ∷ at_most i 2 1 ∷ [])

-- the tables of the loaded places, 1 before 2
abbrev pub loaded_tables : Desk → List Table
loaded_tables d = tables_of d.first.place d.second.place

-- the number that a call is refused with, 0 where it is accepted: 1, and then what the place answers
abbrev pub number_of : Desk → Call → ℕ
number_of d (ask i q) = first_fault (place_fault i) (question_fault (place_at d i) q)
number_of d compare = compare_fault d.first.place d.second.place
number_of d compare_on_shares = shares_fault d.first.place d.second.place
number_of d (fill i f out) = first_fault (place_fault i) (fill_fault (place_at d i) f (length out))
number_of d (write out) = write_fault (loaded_tables d) (length out)
number_of d (shortlist book out) = shortlist_fault book (length out)
number_of d (change i c) = first_fault (place_fault i) (change_fault (place_at d i) c)

-- "Load fills an empty place, clear makes a loaded one as it is on a fresh desk, all other calls leave the desk unchanged." R-8: and an event is
-- booked at a grade of the table in a loaded one.
abbrev pub after : Desk → Call → Desk
after d (ask i q) = d
after d compare = d
after d compare_on_shares = d
after d (fill i f out) = d
after d (write out) = d
after d (shortlist book out) = d
after d (change i c) = leaves (number_of d (change i c)) d (with_place_lem d i (changed_to (table_at d i) c))

-- The buffer lent to be written, before and after a call, and how much of it an accepted one writes.

abbrev pub lent : Call → List ℕ
lent (ask i q) = []
lent compare = []
lent compare_on_shares = []
lent (fill i f out) = out
lent (write out) = out
lent (shortlist book out) = out
lent (change i c) = []

abbrev pub lent_after : Desk → Call → List ℕ
lent_after d (ask i q) = []
lent_after d compare = []
lent_after d compare_on_shares = []
lent_after d (fill i f out) = leaves (number_of d (fill i f out)) out (filled_with (table_at d i) f out)
lent_after d (write out) = buffer_after (loaded_tables d) out
lent_after d (shortlist book out) = listing.buffer_after book out
lent_after d (change i c) = []

abbrev pub lent_size : Desk → Call → ℕ
lent_size d (ask i q) = 0
lent_size d compare = 0
lent_size d compare_on_shares = 0
lent_size d (fill i f out) = fill_size (table_at d i) f
lent_size d (write out) = book_size (loaded_tables d)
lent_size d (shortlist book out) = length (listed (all_tables book))
lent_size d (change i c) = 0

-- What a call answers that returns how much it wrote: write the length of the book, shortlist how many are listed.
abbrev pub Returns : Desk → Call → Answer ℕ → Type 0
Returns d c r = r ≡ answer (number_of d c) (lent_size d c)

-- What compare may answer. Refusals and the kind of verdict are given; the price pairs are limited only, since "which pair is carried
-- is free; its prices are at most 1,000,000 and its costs differ as said".
abbrev pub Compares : Desk → Answer Verdict → Type 0
Compares d r = Limited (number_of d compare) (IsVerdict (table_at d 1) (table_at d 2)) r

-- What the comparison on shares may answer. Refusals and the kind of verdict are given; the price pairs are limited only: "The pairs carried
-- have prices up to 2,500,000,000".
abbrev pub ComparesByShares : Desk → Answer Verdict → Type 0
ComparesByShares d r = Limited (number_of d compare_on_shares) (IsVerdictByShares (table_at d 1) (table_at d 2)) r

-- What spread may answer. Refusals are given; the floats are limited only: "within 1/2^36" and "within 1/2^29".
abbrev pub Spreads : Desk → ℕ → Answer Spread → Type 0
Spreads d i r = Limited (number_of d (ask i spread)) (IsSpread (table_at d i)) r

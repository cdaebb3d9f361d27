-- The customer's three demands, each sentence by a name, over all calls and all lists of calls from a fresh desk.
-- The contract of `demands` in src/lib.rt is all of them, so that the crate is refused where one is not proved.
use Rattle.std.specs.Prelude.{ℕ, ◌-◌, ◌≤◌, ◌<◌, ◌≡◌, false, ◌↔◌, ◌⊎◌, List, [], ◌++◌, length, drop, take, get_or}
use Rattle.table.specs.Table.{Table, Every, Sound, Mixed, occupied, defaults_in, survivors_in, obligors_in}
use Rattle.table.specs.Place.{blank}
use Rattle.book.specs.Bytes.{Byte}
use Rattle.book.specs.Checks.{fault}
use Rattle.book.specs.Layout.{raters, start_of, kind_at, head_checks, layout_fault}
use Rattle.book.specs.WrongCut.{WrongCut}
use Rattle.book.specs.Rows.{table_of_rater, tables_in}
use Rattle.book.specs.Fall.{FallsAfter}
use Rattle.book.specs.Claims as book
use Rattle.pooling.specs.Numbers.{rates_at_occupied}
use Rattle.pooled_place.specs.PooledPlace.{list_of}
use Rattle.events.specs.Claims as events
use Rattle.pooling.specs.Regression.{IsRegression}
use Rattle.pooling.specs.Claims.{RepeatsNextBetter, RepeatsBest}
use Rattle.cutoff.specs.Cutoff.{AtLeastAsGood}
use Rattle.cutoff.specs.Verdict.{calls_first, calls_second, Settles}
use Rattle.cutoff.specs.declared.Verdict.{Verdict}
use Rattle.cutoff.specs.Claims as cutoff
use Rattle.shares.specs.Verdict.{SettlesByShares}
use Rattle.shares.specs.Claims as shares
use Rattle.measures.specs.Claims as measuring
use Rattle.shortlist.specs.Shortlist.{Better}
use Rattle.shortlist.specs.Claims.{Rater, Has, InBookOrder}
use Rattle.refusals.specs.Answers.{Answer, accepted, refused}
use Rattle.calls.specs.Calls.{Question, measures, pool, load}
use Rattle.desk.specs.declared.Desk.{Desk}
use Rattle.desk.specs.Desk.{place_at, table_at, SoundDesk}
use Rattle.desk.specs.Calls.{Call, ask, fill, write, shortlist, change, number_of, after, lent, lent_after, lent_size, loaded_tables}
use Rattle.desk.specs.Calls.{Returns, Compares, ComparesByShares}
use Rattle.desk_c.specs.Image.{image_of, IsImage}
use Rattle.demands.specs.History.{desk_after_lem, nothing, table, filled, held, placed, numbers, lending, Keeps}
use Rattle.demands.specs.EntryPoints.{ServedInC, ServedByDesk}

-- What calls leave.

-- Every desk that calls leave is as the contracts require.
abbrev pub EveryDeskIsSound : Type 0
EveryDeskIsSound = (calls : List Call) → SoundDesk (desk_after_lem calls)

-- "The table in a place is that of the rater loaded there, as it stands in the book lent to that load, n taken as the kind says." R-8: "The table
-- in a place is from now on the one that its load and the events since have made".
abbrev pub PlacesHoldWhatWasLoaded : Type 0
PlacesHoldWhatWasLoaded =
    (calls : List Call) → desk_after_lem calls ≡ record { first = placed (held 1 calls); second = placed (held 2 calls) }

-- R-8: "After every list of events that list equals a pooling of the current counts": of every list of calls, and of each place that holds a table.
abbrev pub KeptListsArePooled : Type 0
KeptListsArePooled =
    (calls : List Call) (t : Table)
    → (held 1 calls ≡ table t → (desk_after_lem calls).first.pooled ≡ list_of t)
    × (held 2 calls ≡ table t → (desk_after_lem calls).second.pooled ≡ list_of t)

-- R-8: "Announced rates, other grades' counts and the other place are untouched by an event." The other place: `OtherPlacesAreKept`.
abbrev pub EventsChangeOneGrade : Type 0
EventsChangeOneGrade = events.AnnouncedRatesAreKept × events.OtherGradesAreKept × events.GradesAreKept

-- It is a table as document 01 says.
abbrev pub EveryHeldTableIsSound : Type 0
EveryHeldTableIsSound = (calls : List Call) (i : ℕ) (t : Table) → held i calls ≡ table t → Sound t

-- R-5: the announced rates of a held table never fall: of any two grades, empty or not, the worse one announces no lower rate.
abbrev pub AnnouncedRatesNeverFall : Type 0
AnnouncedRatesNeverFall =
    (calls : List Call) (i : ℕ) (t : Table) → held i calls ≡ table t
    → (better worse : ℕ) → better ≤ worse → worse < length t → (get_or t better blank).announced ≤ (get_or t worse blank).announced

-- What a function of the library for C requires of a desk's numbers is what calls from the fresh desk imply, and nothing more.
abbrev pub CallsLeaveImages : Type 0
CallsLeaveImages = (calls : List Call) → IsImage (image_of (desk_after_lem calls))

-- Demand 1.

-- No call of the model is without its entry points, in the library for C and of the desk, and by their contracts its number, desk, buffer and count
-- are the model's.
abbrev pub EveryCallIsServed : Type 0
EveryCallIsServed = (c : Call) → ServedInC c × ServedByDesk c

-- "Every input to any entry point ends in a result or one of its refusal numbers."
abbrev pub EveryCallIsAnswered : Type 0
EveryCallIsAnswered = (d : Desk) (c : Call) → (number_of d c ≡ 0) ⊎ Has (number_of d c) (numbers c)

-- R-2, of load into an empty place: a book that is cut wrong is refused with the number of the cut, whichever of its raters is wanted;
abbrev pub LoadTellsWrongCuts : Type 0
LoadTellsWrongCuts =
    (d : Desk) (i j n : ℕ) (b : List ℕ) → 1 ≤ i → i ≤ 2 → (place_at d i).loaded ≡ false
    → fault (head_checks b) ≡ 0 → 1 ≤ j → j ≤ raters b → WrongCut b n → number_of d (change i (load b j)) ≡ n

-- and of any load, a number from 31 to 33 is given for such a cut alone.
abbrev pub LoadMeansWrongCuts : Type 0
LoadMeansWrongCuts = (d : Desk) (i j n : ℕ) (b : List ℕ) → 31 ≤ n → n ≤ 33 → number_of d (change i (load b j)) ≡ n → WrongCut b n

-- R-2: "5 is never given again."
abbrev pub FiveIsNeverGiven : Type 0
FiveIsNeverGiven = (d : Desk) (c : Call) → number_of d c ≡ 5 → ⊥

-- R-4, of load into an empty place: "n 0 loads if another grade is occupied", as every table does of a book that is laid out;
abbrev pub LoadTakesSoundTables : Type 0
LoadTakesSoundTables =
    (d : Desk) (i j : ℕ) (b : List ℕ) → 1 ≤ i → i ≤ 2 → (place_at d i).loaded ≡ false
    → layout_fault b ≡ 0 → 1 ≤ j → j ≤ raters b → Sound (table_of_rater b j) → number_of d (change i (load b j)) ≡ 0

-- and of any load, 9 "means that all grades are empty".
abbrev pub LoadMeansAllEmpty : Type 0
LoadMeansAllEmpty =
    (d : Desk) (i j : ℕ) (b : List ℕ) → number_of d (change i (load b j)) ≡ 9 → occupied (table_of_rater b j) ≡ []

-- R-5, of load into an empty place: of a book that is laid out, a table whose announced rates fall is refused with 34;
abbrev pub LoadTellsFalls : Type 0
LoadTellsFalls =
    (d : Desk) (i j k : ℕ) (b : List ℕ) → 1 ≤ i → i ≤ 2 → (place_at d i).loaded ≡ false
    → layout_fault b ≡ 0 → 1 ≤ j → j ≤ raters b → FallsAfter (table_of_rater b j) k → number_of d (change i (load b j)) ≡ 34

-- and of any load, 34 is given for such a table of such a book alone.
abbrev pub LoadMeansFalls : Type 0
LoadMeansFalls =
    (d : Desk) (i j : ℕ) (b : List ℕ) → number_of d (change i (load b j)) ≡ 34
    → (layout_fault b ≡ 0) × (1 ≤ j) × (j ≤ raters b) × ((k : ℕ) × FallsAfter (table_of_rater b j) k)

-- "22: place empty": an accepted question is of a table, and of one as document 01 says.
abbrev pub QuestionsAreOfTables : Type 0
QuestionsAreOfTables = (d : Desk) → SoundDesk d → (i : ℕ) (q : Question) → number_of d (ask i q) ≡ 0 → Sound (table_at d i)

-- "A refusal leaves every buffer and the desk as they were."
abbrev pub RefusalsChangeNothing : Type 0
RefusalsChangeNothing = (d : Desk) (c : Call) → (number_of d c ≡ 0 → ⊥) → (after d c ≡ d) × (lent_after d c ≡ lent c)

-- "Lent memory is changed by accepted calls only, and only where document 01 says": nothing behind the numbers that the call writes.
abbrev pub OnlyWhatIsWrittenChanges : Type 0
OnlyWhatIsWrittenChanges =
    (d : Desk) (c : Call)
    → (length (lent_after d c) ≡ length (lent c)) × (drop (lent_size d c) (lent_after d c) ≡ drop (lent_size d c) (lent c))

-- and up to there nothing of what the buffer held: c writes the same into any other buffer, out, in which it has room.
abbrev pub WhatIsWrittenIsGiven : Type 0
WhatIsWrittenIsGiven =
    (d : Desk) (c : Call) (out : List ℕ) → number_of d c ≡ 0 → number_of d (lending out c) ≡ 0
    → (lent_size d c ≤ length (lent c))
    × (lent_size d (lending out c) ≡ lent_size d c)
    × (take (lent_size d c) (lent_after d (lending out c)) ≡ take (lent_size d c) (lent_after d c))

-- "Load fills an empty place, clear makes a loaded one as it is on a fresh desk": the other place stays as it was, and R-8: "Announced rates,
-- other grades' counts and the other place are untouched by an event."
abbrev pub OtherPlacesAreKept : Type 0
OtherPlacesAreKept =
    (d : Desk) (c : Call) → (Keeps 1 c → (after d c).first ≡ d.first) × (Keeps 2 c → (after d c).second ≡ d.second)

-- Demand 2. A sound desk is any that calls leave: `EveryDeskIsSound`.

-- "Books are read and written as laid out, both ways."
abbrev pub BooksGoBothWays : Type 0
BooksGoBothWays = book.ReadingIsSound × book.WrittenBookReadsBack × book.ReadBookWritesBack

-- "Loading rater j of a written book gives the j-th of those tables": of the first n bytes that an accepted write leaves, which returns n.
abbrev pub WrittenBooksLoadBack : Type 0
WrittenBooksLoadBack =
    (d : Desk) → SoundDesk d → (out : List ℕ) (n : ℕ) → Returns d (write out) (accepted n)
    → (j : ℕ) → 1 ≤ j → j ≤ length (loaded_tables d)
    → filled nothing (take n (lent_after d (write out))) j ≡ table (get_or (loaded_tables d) (j - 1) [])

-- The other way: where the loaded places hold all the tables of a book whose columns are of kind 0, write leaves the bytes of that book.
abbrev pub LoadedBooksWriteBack : Type 0
LoadedBooksWriteBack =
    (b : List ℕ) → Every Byte b → layout_fault b ≡ 0 → ((j : ℕ) → 1 ≤ j → j ≤ raters b → kind_at b (start_of b j) ≡ 0)
    → (d : Desk) → loaded_tables d ≡ tables_in b 1 (raters b) → (out : List ℕ) → number_of d (write out) ≡ 0
    → lent_after d (write out) ≡ b ++ drop (length b) out

-- "Curve areas, Gini, Pietra and Brier agree with their published definitions as whole-number fractions."
abbrev pub MeasuresArePublished : Type 0
MeasuresArePublished =
    measuring.RocIsTheArea
    × measuring.CapIsTheArea
    × measuring.GiniIsTheDifferenceOfProbabilities
    × measuring.GiniIsTheRatioOfAreas
    × measuring.PietraIsTheLargestDistance
    × measuring.BrierIsTheMeanSquaredDifference

-- A table that measures answers for has a default and a survivor, as the definitions need.
abbrev pub MeasuredTablesAreMixed : Type 0
MeasuredTablesAreMixed =
    (d : Desk) → SoundDesk d → (i : ℕ) → number_of d (ask i measures) ≡ 0 → Mixed (table_at d i)

-- "Pooled rates are the monotone regression: of all never-falling lists of fractions that one ALONE has the smallest obligor-weighted
-- squared error." Of the rates that an accepted pool writes. R-4: "The smallest squared error and its uniqueness concern the occupied grades."
abbrev pub PoolWritesTheRegression : Type 0
PoolWritesTheRegression =
    (d : Desk) → SoundDesk d → (i : ℕ) (out : List ℕ) → number_of d (fill i pool out) ≡ 0
    → IsRegression (occupied (table_at d i)) (rates_at_occupied (table_at d i) (lent_after d (fill i pool out)))

-- R-4: "Pool repeats for it the three numbers of the next better occupied grade, or of the best occupied grade if none is better": in what an
-- accepted pool leaves.
abbrev pub PoolRepeatsForEmptyGrades : Type 0
PoolRepeatsForEmptyGrades =
    (d : Desk) (i : ℕ) (out : List ℕ) → number_of d (fill i pool out) ≡ 0
    → RepeatsNextBetter (table_at d i) (lent_after d (fill i pool out)) × RepeatsBest (table_at d i) (lent_after d (fill i pool out))

-- Demand 3.

abbrev pub SettledBy : Table → Table → Answer Verdict → Type 0
SettledBy t₁ t₂ (accepted v) = Settles t₁ t₂ v
SettledBy t₁ t₂ (refused n) = ⊥

-- "For any list of calls from a fresh desk that leaves two raters loaded with equally many defaulted and equally many surviving
-- obligors, at least one of each: compare calls the first at least as good EXACTLY when, for every pair of whole-number prices however
-- high, its cheapest cutoff costs no more than the second's; otherwise it carries a pair, each price at most 1,000,000, at which the
-- first costs more. The same for the second." Of every answer that compare's contract allows.
abbrev pub CompareIsRight : Type 0
CompareIsRight =
    (calls : List Call) (t₁ t₂ : Table) → held 1 calls ≡ table t₁ → held 2 calls ≡ table t₂
    → defaults_in t₁ ≡ defaults_in t₂ → survivors_in t₁ ≡ survivors_in t₂ → 1 ≤ defaults_in t₁ → 1 ≤ survivors_in t₁
    → (r : Answer Verdict) → Compares (desk_after_lem calls) r → SettledBy t₁ t₂ r

-- R-6, in the words of demand 3: "It gives the same four verdicts, under the same meaning over all whole-number prices. The pairs carried have
-- prices up to 2,500,000,000." "It takes tables of at most 100,000 obligors": of any two such raters, whatever their totals. Of every answer that
-- the contract of the comparison on shares allows.
abbrev pub SettledByShares : Table → Table → Answer Verdict → Type 0
SettledByShares t₁ t₂ (accepted v) = SettlesByShares t₁ t₂ v
SettledByShares t₁ t₂ (refused n) = ⊥

abbrev pub CompareSharesIsRight : Type 0
CompareSharesIsRight =
    (calls : List Call) (t₁ t₂ : Table) → held 1 calls ≡ table t₁ → held 2 calls ≡ table t₂
    → 1 ≤ defaults_in t₁ → 1 ≤ survivors_in t₁ → 1 ≤ defaults_in t₂ → 1 ≤ survivors_in t₂ → obligors_in t₁ ≤ 100_000 → obligors_in t₂ ≤ 100_000
    → (r : Answer Verdict) → ComparesByShares (desk_after_lem calls) r → SettledByShares t₁ t₂ r

-- "On tables with equal totals it must agree in verdict with the first comparison": where both answer, they answer the same kind.
abbrev pub SameKind : Answer Verdict → Answer Verdict → Type 0
SameKind (accepted v) (accepted w) = (calls_first v ≡ calls_first w) × (calls_second v ≡ calls_second w)
SameKind (accepted v) (refused n) = Unit {0}
SameKind (refused n) s = Unit {0}

abbrev pub ComparisonsAgree : Type 0
ComparisonsAgree =
    (d : Desk) → SoundDesk d → (r s : Answer Verdict) → Compares d r → ComparesByShares d s → SameKind r s

-- R-7: "List the raters for which no other rater of the book is better, in book order .. Of raters that are equal, all are listed or none. Every
-- unlisted rater is beaten by a listed one." l is such a list of the raters of the book b.
pub record IsShortlist (b l : List ℕ) : Type 0 where
  pub in_book_order : InBookOrder l
  pub unbeaten : (i : ℕ) → Has i l ↔ (Rater b i × ((j : ℕ) → Rater b j → Better (table_of_rater b j) (table_of_rater b i) → ⊥))
  pub together : (i j : ℕ) → Rater b i → Rater b j
      → AtLeastAsGood (table_of_rater b i) (table_of_rater b j) → AtLeastAsGood (table_of_rater b j) (table_of_rater b i) → Has i l ↔ Has j l
  pub beaten : (i : ℕ) → Rater b i → (Has i l → ⊥) → (j : ℕ) × Has j l × Better (table_of_rater b j) (table_of_rater b i)
  pub some : 1 ≤ length l

-- "and return how many": so are the first n numbers that an accepted shortlist leaves in the buffer, which returns n.
abbrev pub ShortlistIsRight : Type 0
ShortlistIsRight =
    (d : Desk) (b out : List ℕ) (n : ℕ) → Returns d (shortlist b out) (accepted n)
    → (n ≤ length out) × IsShortlist b (take n (lent_after d (shortlist b out)))

-- The shortlist is of a book and a buffer alone: every desk answers it alike.
abbrev pub ShortlistNeedsNoDesk : Type 0
ShortlistNeedsNoDesk =
    (d e : Desk) (b out : List ℕ)
    → (number_of d (shortlist b out) ≡ number_of e (shortlist b out))
    × (lent_size d (shortlist b out) ≡ lent_size e (shortlist b out))
    × (lent_after d (shortlist b out) ≡ lent_after e (shortlist b out))

-- Any two raters of a book whose shortlist is accepted are compared, once they are loaded: what compare answers settles which of them is better.
abbrev pub ShortlistedRatersAreCompared : Type 0
ShortlistedRatersAreCompared =
    (calls : List Call) (b out : List ℕ) (i j : ℕ) → number_of (desk_after_lem calls) (shortlist b out) ≡ 0 → Rater b i → Rater b j
    → held 1 calls ≡ table (table_of_rater b i) → held 2 calls ≡ table (table_of_rater b j)
    → (r : Answer Verdict) → Compares (desk_after_lem calls) r → SettledBy (table_of_rater b i) (table_of_rater b j) r

-- Every table has a cheapest cost on shares at every pair of prices, and one, which is a proper fraction where the comparison takes the table.
abbrev pub EveryTableHasOneCheapestShare : Type 0
EveryTableHasOneCheapestShare = shares.CheapestShareIsCheapest × shares.CheapestShareIsUnique × shares.ShareCostsAreProper

-- However large the books: a table k times as large costs the same, and tables j and k times as large are as good as the tables and have their
-- verdict.
abbrev pub SizesPlayNoPart : Type 0
SizesPlayNoPart = shares.MultiplesAreEqual × shares.MultiplesAreAsGood × shares.MultiplesKeepTheVerdict

-- "Cheapest means every other cutoff of that table costs at least as much": every table has such a cost at every pair of prices, and one.
abbrev pub EveryTableHasOneCheapestCost : Type 0
EveryTableHasOneCheapestCost = cutoff.CheapestIsCheapest × cutoff.CheapestCostIsUnique

-- "At every pair of prices the pooled scale of any table has the same cheapest cost as the table."
abbrev pub PoolingKeepsTheCheapestCost : Type 0
PoolingKeepsTheCheapestCost = cutoff.PooledScaleCostsTheSame

-- All of them: what the function `demands` of this crate promises.
pub record Demands : Type 0 where
  pub every_desk_is_sound : EveryDeskIsSound
  pub places_hold_what_was_loaded : PlacesHoldWhatWasLoaded
  pub kept_lists_are_pooled : KeptListsArePooled
  pub events_change_one_grade : EventsChangeOneGrade
  pub every_held_table_is_sound : EveryHeldTableIsSound
  pub announced_rates_never_fall : AnnouncedRatesNeverFall
  pub calls_leave_images : CallsLeaveImages
  pub every_call_is_served : EveryCallIsServed
  pub every_call_is_answered : EveryCallIsAnswered
  pub load_tells_wrong_cuts : LoadTellsWrongCuts
  pub load_means_wrong_cuts : LoadMeansWrongCuts
  pub five_is_never_given : FiveIsNeverGiven
  pub load_takes_sound_tables : LoadTakesSoundTables
  pub load_means_all_empty : LoadMeansAllEmpty
  pub load_tells_falls : LoadTellsFalls
  pub load_means_falls : LoadMeansFalls
  pub questions_are_of_tables : QuestionsAreOfTables
  pub refusals_change_nothing : RefusalsChangeNothing
  pub only_what_is_written_changes : OnlyWhatIsWrittenChanges
  pub what_is_written_is_given : WhatIsWrittenIsGiven
  pub other_places_are_kept : OtherPlacesAreKept
  pub books_go_both_ways : BooksGoBothWays
  pub written_books_load_back : WrittenBooksLoadBack
  pub loaded_books_write_back : LoadedBooksWriteBack
  pub measures_are_published : MeasuresArePublished
  pub measured_tables_are_mixed : MeasuredTablesAreMixed
  pub pool_writes_the_regression : PoolWritesTheRegression
  pub pool_repeats_for_empty_grades : PoolRepeatsForEmptyGrades
  pub compare_is_right : CompareIsRight
  pub compare_shares_is_right : CompareSharesIsRight
  pub comparisons_agree : ComparisonsAgree
  pub shortlist_is_right : ShortlistIsRight
  pub shortlist_needs_no_desk : ShortlistNeedsNoDesk
  pub shortlisted_raters_are_compared : ShortlistedRatersAreCompared
  pub every_table_has_one_cheapest_share : EveryTableHasOneCheapestShare
  pub sizes_play_no_part : SizesPlayNoPart
  pub every_table_has_one_cheapest_cost : EveryTableHasOneCheapestCost
  pub pooling_keeps_the_cheapest_cost : PoolingKeepsTheCheapestCost

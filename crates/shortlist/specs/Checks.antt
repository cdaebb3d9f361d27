-- What the shortlist of a book answers, and the buffer after it: R-7's checks in their order.
use Rattle.std.specs.Prelude.{ℕ, zero, suc, List, [], ◌∷◌, ◌++◌, length, drop}
use Rattle.table.specs.Table.{Table, defaults_in, survivors_in}
use Rattle.refusals.specs.Answers.{Answer, answer}
use Rattle.book.specs.Checks.{Check, at_most, equal, fault, first_fault}
use Rattle.book.specs.Layout.{raters}
use Rattle.book.specs.Reading.{all_tables, book_fault}
use Rattle.shortlist.specs.Shortlist.{listed}

-- each of some tables has at least one of what is counted, or else the number
unfoldable pub some_checks : (Table → ℕ) → ℕ → List Table → List Check
some_checks count number [] = []
some_checks count number (t ∷ ts) = at_most 1 (count t) number ∷ some_checks count number ts

-- a number is that of each of some tables, or else 25
unfoldable pub equal_checks : (Table → ℕ) → ℕ → List Table → List Check
equal_checks count n [] = []
equal_checks count n (t ∷ ts) = equal n (count t) 25 ∷ equal_checks count n ts

-- any two of them have as many
unfoldable pub same_checks : (Table → ℕ) → List Table → List Check
same_checks count [] = []
same_checks count (t ∷ ts) = equal_checks count (count t) ts ++ same_checks count ts

-- "Then 23 is tested over all raters, then 24 over all, then 25 between any two": 23 is no defaults, 24 no survivors, and 25 that D or S differ.
abbrev pub totals_fault_lem : List Table → ℕ
totals_fault_lem ts =
    first_fault (fault (some_checks defaults_in 23 ts))
    (first_fault (fault (some_checks survivors_in 24 ts))
    (first_fault (fault (same_checks defaults_in ts)) (fault (same_checks survivors_in ts))))

-- "then 13 for a buffer shorter than R": of n numbers
unfoldable pub shortlist_fault : List ℕ → ℕ → ℕ
shortlist_fault b n = first_fault (book_fault b) (first_fault (totals_fault_lem (all_tables b)) (fault (at_most (raters b) n 13 ∷ [])))

-- "into a lent buffer whose further numbers are kept", and all numbers where it is refused
unfoldable pub buffer_or : ℕ → List Table → List ℕ → List ℕ
buffer_or zero ts out = listed ts ++ drop (length (listed ts)) out
buffer_or (suc n) ts out = out

-- of a book and the length of a buffer: "return how many"
abbrev pub shortlist_answer : List ℕ → ℕ → Answer ℕ
shortlist_answer b n = answer (shortlist_fault b n) (length (listed (all_tables b)))

abbrev pub buffer_after : List ℕ → List ℕ → List ℕ
buffer_after b out = buffer_or (shortlist_fault b (length out)) (all_tables b) out

-- Where a book is cut wrong (document 02's R-2), told of its tables and not of load's checks: what 31, 32 and 33 mean.
-- The table of rater k + 1 is the one that k tables stand before.
use Rattle.std.specs.Prelude.{ℕ, zero, suc, ◌+◌, ◌≤◌, ◌<◌, ◌≡◌, List, length}
use Rattle.book.specs.Bytes.{two_at_lem}
use Rattle.book.specs.Layout.{raters, start_of, first_start, grades_at, kind_at, end_of}

-- where the last of the first k tables ended; of none, where the offsets end
unfoldable pub end_after : List ℕ → ℕ → ℕ
end_after b zero = first_start b
end_after b (suc k) = end_of b (start_of b (suc k))

-- The table of rater k + 1 starts where the last one ended, and its header is whole and as document 01 says;
pub record Headed (b : List ℕ) (k : ℕ) : Type 0 where
  pub start : start_of b (suc k) ≡ end_after b k
  pub whole : end_after b k + 4 ≤ length b
  pub some : 1 ≤ grades_at b (end_after b k)
  pub few : grades_at b (end_after b k) ≤ 40
  pub kind : kind_at b (end_after b k) ≤ 1
  pub zeros : two_at_lem b (end_after b k + 2) ≡ 0

-- and it ends within the book.
pub record Laid (b : List ℕ) (k : ℕ) : Type 0 where
  pub headed : Headed b k
  pub inside : end_after b (suc k) ≤ length b

-- the first k tables are so laid out
abbrev pub FirstLaid : List ℕ → ℕ → Type 0
FirstLaid b k = (i : ℕ) → i < k → Laid b i

-- A book that is cut wrong, and the number for it. The tables before the cut are laid out.
pub data WrongCut (b : List ℕ) : ℕ → Type 0 where
  -- "A table that starts elsewhere than where the last one ended now gives 31."
  elsewhere : (k : ℕ) → FirstLaid b k → k < raters b → (start_of b (suc k) ≡ end_after b k → ⊥) → WrongCut b 31
  -- "A table that runs past the end, in header or rows, gives 32."
  header : (k : ℕ) → FirstLaid b k → k < raters b → start_of b (suc k) ≡ end_after b k → length b < end_after b k + 4 → WrongCut b 32
  rows : (k : ℕ) → FirstLaid b k → k < raters b → Headed b k → length b < end_after b (suc k) → WrongCut b 32
  -- "Bytes after the last table give 33."
  leftover : FirstLaid b (raters b) → end_after b (raters b) < length b → WrongCut b 33

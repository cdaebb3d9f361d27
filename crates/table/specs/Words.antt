-- A place as words: the 122 numbers that a caller lends for it. Columns of 40 obligors, 40 defaults and 40 announced rates, then the grade
-- count, then 1 where the place is loaded.
use Rattle.std.specs.Prelude.{ℕ, ◌≡◌, cond, List, [], ◌∷◌, ◌++◌, eqb, length, get_or, take, drop}
use Rattle.table.specs.Table.{Table, Sound}
use Rattle.table.specs.Place.{table_of, SoundPlace}
use Rattle.table.specs.declared.Place.{Place}

-- where the columns of defaults and of announced rates start, where the grade count and the mark of a loaded place stand, and how many
-- words there are; the obligors start at 0
abbrev pub defaults_from : ℕ
defaults_from = 40

abbrev pub announced_from : ℕ
announced_from = 80

abbrev pub grade_count_at : ℕ
grade_count_at = 120

abbrev pub loaded_at : ℕ
loaded_at = 121

abbrev pub place_size : ℕ
place_size = 122

-- the words of a place
abbrev pub words_of : Place → List ℕ
words_of p = p.obligors ++ p.defaults ++ p.announced ++ (p.grades ∷ cond p.loaded 1 0 ∷ [])

-- the 40 words from `at` on
abbrev pub column_in : List ℕ → ℕ → List ℕ
column_in w at = take 40 (drop at w)

-- the place that words stand for
abbrev pub place_in : List ℕ → Place
place_in w =
    record {
      obligors = column_in w 0;
      defaults = column_in w defaults_from;
      announced = column_in w announced_from;
      grades = get_or w grade_count_at 0;
      loaded = eqb (get_or w loaded_at 0) 1;
    }

-- its table
abbrev pub table_in : List ℕ → Table
table_in w = table_of (place_in w)

-- What a function that reads the table requires of the words: all are there, and they hold one.
pub record HoldsTable (w : List ℕ) : Type 0 where
  pub long : length w ≡ place_size
  pub sound : Sound (table_in w)

-- What a question requires of the words: they are those of a place that calls left.
pub record IsPlace (w : List ℕ) : Type 0 where
  pub sound : SoundPlace (place_in w)
  pub exact : w ≡ words_of (place_in w)

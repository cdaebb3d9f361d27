-- The table in a place. A place (document 01's term) is room for one table on the desk.
use Rattle.std.specs.Prelude.{ℕ, zero, suc, ◌-◌, Bool, true, false, List, [], ◌∷◌, ◌++◌, map, length, get_or, replicate}
use Rattle.table.specs.Table.{Table, Grade, Sound}
use Rattle.table.specs.declared.Place.{Place}

-- a place without a table, marked as loaded or not
abbrev pub marked : Bool → Place
marked b =
    record {
      obligors = replicate 40 0;
      defaults = replicate 40 0;
      announced = replicate 40 0;
      grades = 0;
      loaded = b;
    }

-- a place of a fresh desk
abbrev pub fresh : Place
fresh = marked false

-- grade i, the best being 0
abbrev pub grade_at : Place → ℕ → Grade
grade_at p i = record { obligors = get_or p.obligors i 0; defaults = get_or p.defaults i 0; announced = get_or p.announced i 0 }

-- k grades, from grade i on
unfoldable pub grades_from : Place → ℕ → ℕ → Table
grades_from p i zero = []
grades_from p i (suc k) = grade_at p i ∷ grades_from p (suc i) k

abbrev pub table_of : Place → Table
table_of p = grades_from p 0 p.grades

-- a grade that nothing was stored in
abbrev pub blank : Grade
blank = record { obligors = 0; defaults = 0; announced = 0 }

-- one column of a table in an array of 40: 0 behind the last grade
abbrev pub column : (Grade → ℕ) → Table → List ℕ
column f t = map f t ++ replicate (40 - length t) 0

-- the place that holds a table
unfoldable pub place_of : Table → Place
place_of t =
    record {
      obligors = column (λ g. g.obligors) t;
      defaults = column (λ g. g.defaults) t;
      announced = column (λ g. g.announced) t;
      grades = length t;
      loaded = true;
    }

-- What calls leave in a place: nothing, or a table.
pub data SoundPlace : Place → Type 0 where
  empty : SoundPlace fresh
  holds : (t : Table) → Sound t → SoundPlace (place_of t)

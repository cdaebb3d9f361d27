-- The image of a desk: the words of its two places, each with its pooled list, 484 numbers of 4 bytes in the caller's memory, as include/desk.h lays
-- them out.
use Rattle.std.specs.Prelude.{ℕ, ◌≡◌, List, ◌++◌, take, drop}
use Rattle.table.specs.Table.{Table}
use Rattle.table.specs.Words.{place_size}
use Rattle.pooled_place.specs.Words.{pooled_place_size, pooled_place_words, pooled_place_in}
use Rattle.desk.specs.declared.Desk.{Desk}
use Rattle.desk.specs.Desk.{table_at, SoundDesk}

abbrev pub image_of : Desk → List ℕ
image_of d = pooled_place_words d.first ++ pooled_place_words d.second

-- the words of a place that start at `at`
abbrev pub words_from : List ℕ → ℕ → List ℕ
words_from w at = take pooled_place_size (drop at w)

-- those of its counts
abbrev pub counts_from : List ℕ → ℕ → List ℕ
counts_from w at = take place_size (drop at w)

abbrev pub desk_in : List ℕ → Desk
desk_in w = record { first = pooled_place_in (words_from w 0); second = pooled_place_in (words_from w pooled_place_size) }

-- the table in place i
abbrev pub table_on : List ℕ → ℕ → Table
table_on w i = table_at (desk_in w) i

-- What a function requires of the numbers of a desk: they are the image of a desk that calls left.
pub record IsImage (w : List ℕ) : Type 0 where
  pub sound : SoundDesk (desk_in w)
  pub exact : w ≡ image_of (desk_in w)

-- `loaded` is safe: a table in a place of a sound desk has at most 40 grades.
use Rattle.table.proofs.Words.{few_grades}
use Rattle.pooled_place.proofs.Words.{sound_place}
use Rattle.report.proofs.loaded.Goals as goal

pub grades-requires : goal.grades-requires
grades-requires g c = few_grades (sound_place c.requires.first)

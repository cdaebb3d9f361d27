-- Pooling: neighbouring grades are joined into blocks until the default rates strictly rise.
use Rattle.std.specs.Prelude.{◌+◌, ◌*◌, ◌≤◌, ◌<◌, ◌≡◌, Bool, cond, List, [], ◌∷◌, map, ltb, length, take, drop}
use Rattle.table.specs.Table.{Table, Grade, occupied, defaults_in, obligors_in}
-- A run of neighbouring grades: how many, their obligors and their defaults.
pub use Rattle.pooling.specs.declared.Block.{Block}

-- a grade as a block of its own
abbrev pub single : Grade → Block
single r = record { grades = 1; obligors = record { 0 = r.obligors }; defaults = r.defaults }

-- two neighbouring blocks as one: counts are joined, rates never averaged
abbrev pub join : Block → Block → Block
join b c =
    record {
      grades = b.grades + c.grades;
      obligors = record { 0 = b.obligors.0 + c.obligors.0 };
      defaults = b.defaults + c.defaults;
    }

-- The default rate of b is below that of c.
abbrev pub RateBelow : Block → Block → Type 0
RateBelow b c = b.defaults * c.obligors.0 < c.defaults * b.obligors.0

abbrev pub rate_below : Block → Block → Bool
rate_below b c = ltb (b.defaults * c.obligors.0) (c.defaults * b.obligors.0)

-- b before a list of blocks: joined with the first of them for as long as its rate is not below that one's
unfoldable pub front : Block → List Block → List Block
front b [] = b ∷ []
front b (c ∷ rest) = cond (rate_below b c) (b ∷ c ∷ rest) (front (join b c) rest)

-- the blocks of a table of occupied grades, best first
unfoldable pub pool : Table → List Block
pool [] = []
pool (r ∷ t) = front (single r) (pool t)

-- The blocks of any table: those of its occupied grades (R-4).
abbrev pub blocks : Table → List Block
blocks t = pool (occupied t)

-- The pooled scale: the table whose grades are the blocks. It announces nothing.
abbrev pub as_grade : Block → Grade
as_grade b = record { obligors = b.obligors.0; defaults = b.defaults; announced = 0 }

abbrev pub pooled_scale : Table → Table
pooled_scale t = map as_grade (blocks t)

-- The rates strictly rise from block to block.
unfoldable pub Rising : List Block → Type 0
Rising [] = Unit {0}
Rising (b ∷ []) = Unit {0}
Rising (b ∷ c ∷ bs) = RateBelow b c × Rising (c ∷ bs)

-- some grades as one block
abbrev pub block_of : Table → Block
block_of t = record { grades = length t; obligors = record { 0 = obligors_in t }; defaults = defaults_in t }

-- The blocks are runs of neighbouring grades that cover the table: each is the block of at least one next grade.
unfoldable pub Runs : List Block → Table → Type 0
Runs [] t = t ≡ []
Runs (b ∷ bs) t = (1 ≤ b.grades) × (b ≡ block_of (take b.grades t)) × Runs bs (drop b.grades t)

-- Serves contracts of functions inside the library only: what is promised does not rest on it.
-- The blocks that the code holds.
use Rattle.std.specs.Prelude.{ℕ, zero, suc, ◌+◌, ◌≤◌, Bool, cond, ◌&&◌, List, [], ◌∷◌, eqb, get_or, drop}
use Rattle.table.specs.Table.{Table, is_occupied}
use Rattle.table.specs.Counts.{largest}
use Rattle.pooling.specs.declared.Block.{Block}
use Rattle.pooling.specs.declared.blocks.Blocks.{Blocks}
use Rattle.pooling.specs.Pool.{join, front}

-- k grades with n obligors, d of whom defaulted
abbrev pub block : ℕ → ℕ → ℕ → Block
block k n d = record { grades = k; obligors = record { 0 = n }; defaults = d }

-- The blocks as the code makes them from the worst grade to the best. An occupied grade also stands for the empty ones behind it: this many
-- in front of t wait for a better occupied one,
unfoldable pub waiting : Table → ℕ
waiting [] = 0
waiting (r ∷ t) = cond (is_occupied r) 0 (waiting t + 1)

-- and these are the blocks behind them.
unfoldable pub behind_waiting : Table → List Block
behind_waiting [] = []
behind_waiting (r ∷ t) =
    cond (is_occupied r) (front (block (waiting t + 1) r.obligors r.defaults) (behind_waiting t)) (behind_waiting t)

-- k grades more, all empty, for the first of some blocks
unfoldable pub lengthened : ℕ → List Block → List Block
lengthened k [] = []
lengthened k (b ∷ bs) = block (k + b.grades) b.obligors.0 b.defaults ∷ bs

-- The blocks of t, `grades` counting all that have a block's numbers: those that still wait at the end are counted to the best.
abbrev pub spanning : Table → List Block
spanning t = lengthened (waiting t) (behind_waiting t)

-- all of some blocks as one
unfoldable pub sum_of : List Block → Block
sum_of [] = block 0 0 0
sum_of (b ∷ bs) = join b (sum_of bs)

-- the counts of a block fit in 32 bits
abbrev pub Fitting : Block → Type 0
Fitting b = (b.grades ≤ largest) × (b.obligors.0 ≤ largest) × (b.defaults ≤ largest)

-- the blocks that stand in their room, from its start on
abbrev pub listed : Blocks → List Block
listed b = drop b.start b.items

-- The numbers that stand for grades, read back as blocks: neighbours with the same counts are of one block.

abbrev pub shows : Block → ℕ → ℕ → Bool
shows b d n = eqb b.defaults d && eqb b.obligors.0 n

-- one better grade before some blocks
unfoldable pub grown : ℕ → ℕ → List Block → List Block
grown d n [] = block 1 n d ∷ []
grown d n (b ∷ bs) = cond (shows b d n) (block (b.grades + 1) b.obligors.0 b.defaults ∷ bs) (block 1 n d ∷ b ∷ bs)

-- the blocks of the first k grades of some numbers
unfoldable pub runs_in : ℕ → List ℕ → List Block
runs_in zero l = []
runs_in (suc k) l = grown (get_or l 0 0) (get_or l 1 0) (runs_in k (drop 3 l))

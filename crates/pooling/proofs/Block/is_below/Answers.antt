-- `is_below` meets its contract: the product of two numbers of 32 bits fits in 64.
use borrow.Author.Rules.{rules}
use Rattle.table.proofs.Arithmetic.{words_fit}
use Rattle.pooling.proofs.Block.is_below.Goals as goal

pub overflow_mul-result : goal.overflow_mul-result
overflow_mul-result c = words_fit (search rules) (search rules)

pub overflow_mul-result-2 : goal.overflow_mul-result-2
overflow_mul-result-2 c = words_fit (search rules) (search rules)

-- `with` meets its contract.
use borrow.Author.Rules.{rules}
use lib.IntN.{pos, ◌+ℤ◌}
use Rattle.cutoff.proofs.Leads.{sum_back, fits_as, fitting_back}
use Rattle.cutoff.proofs.Lead.with.Goals as goal

pub overflow_add-result : goal.overflow_add-result
overflow_add-result c = fits_as (sum_back c.args.self.defaults c.args.b.defaults (search rules) c.requires.few.0) c.requires.small.0

pub overflow_add-result-2 : goal.overflow_add-result-2
overflow_add-result-2 c = fits_as (sum_back c.args.self.survivors c.args.b.survivors (search rules) c.requires.few.1) c.requires.small.1

pub returns : goal.returns
returns c =
    let few = c.requires.few in
    let small = c.requires.small in
    rw (
      sum_back c.args.self.defaults c.args.b.defaults (search rules) few.0,
      sum_back c.args.self.survivors c.args.b.survivors (search rules) few.1,
      fitting_back (c.args.self.defaults +ℤ pos c.args.b.defaults) small.0,
      fitting_back (c.args.self.survivors +ℤ pos c.args.b.survivors) small.1,
    )

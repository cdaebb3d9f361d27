-- `passed` meets its contract.
use borrow.Author.Rules.{rules}
use lib.IntN.{pos, ◌-ℤ◌}
use Rattle.cutoff.proofs.Leads.{difference_back, fits_as, fitting_back}
use Rattle.cutoff.proofs.Lead.passed.Goals as goal

pub overflow_sub-result : goal.overflow_sub-result
overflow_sub-result c = fits_as (difference_back c.args.self.defaults c.args.at.defaults (search rules) c.requires.few.0) c.requires.small.0

pub overflow_sub-result-2 : goal.overflow_sub-result-2
overflow_sub-result-2 c = fits_as (difference_back c.args.self.survivors c.args.at.survivors (search rules) c.requires.few.1) c.requires.small.1

pub returns : goal.returns
returns c =
    let few = c.requires.few in
    let small = c.requires.small in
    rw (
      difference_back c.args.self.defaults c.args.at.defaults (search rules) few.0,
      difference_back c.args.self.survivors c.args.at.survivors (search rules) few.1,
      fitting_back (c.args.self.defaults -ℤ pos c.args.at.defaults) small.0,
      fitting_back (c.args.self.survivors -ℤ pos c.args.at.survivors) small.1,
    )

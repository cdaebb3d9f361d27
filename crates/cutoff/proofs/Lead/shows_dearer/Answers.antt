-- `shows_dearer` meets its contract.
use borrow.Author.Rules.{rules}
use lib.IntN.{pos, ◌*ℤ◌}
use Rattle.cutoff.proofs.Leads.{product_back, fits_as, fitting_back}
use Rattle.cutoff.proofs.Lead.shows_dearer.Goals as goal

pub overflow_mul-result : goal.overflow_mul-result
overflow_mul-result c = fits_as (product_back c.args.self.survivors c.args.at.defaults (search rules) c.requires.few.0) c.requires.small.0

pub overflow_mul-result-2 : goal.overflow_mul-result-2
overflow_mul-result-2 c = fits_as (product_back c.args.self.defaults c.args.at.survivors (search rules) c.requires.few.1) c.requires.small.1

pub returns : goal.returns
returns c =
    let few = c.requires.few in
    let small = c.requires.small in
    rw (
      product_back c.args.self.survivors c.args.at.defaults (search rules) few.0,
      product_back c.args.self.defaults c.args.at.survivors (search rules) few.1,
      fitting_back (pos c.args.at.defaults *ℤ c.args.self.survivors) small.0,
      fitting_back (pos c.args.at.survivors *ℤ c.args.self.defaults) small.1,
    )

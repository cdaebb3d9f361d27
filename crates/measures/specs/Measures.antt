-- The measures of a scale, as document 01's "Measures and squared scores" writes them, Pietra as document 02's R-1 does: numerators and
-- denominators, not reduced.
use Rattle.std.specs.Prelude.{ℕ, ◌+◌, ◌-◌, ◌*◌, Bool, ltb, ℤ, nat_abs, length}
use Rattle.std.proofs.Math.IntN.{sub_ℕ}
use Rattle.table.specs.Table.{Table, defaults_in, survivors_in, obligors_in}
use Rattle.cutoff.specs.Best.{best}
use Rattle.cutoff.specs.Cutoff.{caught, lost}
use Rattle.measures.specs.Pairs.{concordant, discordant, tied}
use Rattle.measures.specs.declared.Measures.{Measures}

-- D S, the number of pairs
abbrev pub pairs : Table → ℕ
pairs t = defaults_in t * survivors_in t

-- y S - x D at cutoff g, signed
abbrev pub height : Table → ℕ → ℤ
height t g = sub_ℕ (caught t g * survivors_in t) (lost t g * defaults_in t)

-- The Pietra rule: x is farther than y if its absolute size is larger. A height is that of the ROC curve above the diagonal, times D S.
abbrev pub farther : ℤ → ℤ → Bool
farther x y = ltb (nat_abs y) (nat_abs x)

-- "The y S - x D of largest absolute size, signed, with the smallest such g; of two equal sizes at different g the smaller g also decides
-- the sign."
abbrev pub pietra_at : Table → ℕ
pietra_at t = best farther (height t) (length t)

unfoldable pub measures_of : Table → Measures
measures_of t = record {
  defaults = defaults_in t;
  survivors = record { 0 = survivors_in t };
  gini = record { numerator = sub_ℕ (concordant t) (discordant t); denominator = pairs t };
  roc = record { numerator = 2 * concordant t + tied t; denominator = 2 * pairs t };
  cap = record {
    numerator = defaults_in t * obligors_in t + concordant t - discordant t;
    denominator = 2 * (defaults_in t * obligors_in t);
  };
  pietra = record { numerator = height t (pietra_at t); denominator = pairs t };
  cutoff = pietra_at t;
}

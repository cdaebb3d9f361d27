-- `measure` meets its contract: the four measures out of the pairs counted and the farthest cutoff.
use Prim.Native.Nat.{ℕ, ◌+◌, ◌-◌, ◌*◌, ◌≤◌}
use mathlib.Core.Path.{◌≡◌, ap, ◌∙◌}
use native.Mathlib.Nat.{mul-le-mul_left}
use native.Mathlib.Omega.{arith}
use borrow.Author.Rules.{rules}
use lib.IntN.{ℤ, sub_ℕ}
use mir.Syntax.{w64}
use mir.Val.{SFits, of_z}
use mir.ValLaws.{to_z-of_z}
use Rattle.table.specs.declared.Obligors.{Obligors}
use Rattle.table.specs.Table.{Table, defaults_in, survivors_in, obligors_in}
use Rattle.table.specs.Words.{table_in}
use Rattle.table.specs.Counts.{capped}
use Rattle.table.proofs.Arithmetic.{counts_le}
use Rattle.table.proofs.Signed.{difference_fits}
use Rattle.table.proofs.Suffix.{Small, sound_small, few_counts}
use Rattle.measures.specs.declared.PairCounts.{PairCounts}
use Rattle.measures.specs.declared.FarthestCutoff.{FarthestCutoff}
use Rattle.measures.specs.Pairs.{concordant, discordant, tied}
use Rattle.measures.specs.Measures.{pairs, measures_of}
use Rattle.measures.specs.Private.{pair_counts_of, farthest_of}
use Rattle.measures.proofs.Pairs.{every_pair, few_pairs}
use Rattle.measures.proofs.measure.Goals.{After-profile_of-profile}
use Rattle.measures.proofs.measure.Goals as goal

-- What is known of the counts m, of a, D S, and of b, D N.
record Known (t : Table) (m : PairCounts) (a b : ℕ) : Type 0 where
  pub counts : m ≡ pair_counts_of t
  pub of_a : a ≡ pairs t
  pub of_b : b ≡ defaults_in t * obligors_in t
  pub all-concordant : m.concordant ≡ concordant t
  pub all-discordant : m.discordant ≡ discordant t
  pub few_concordant : m.concordant ≤ 1_000_000_000_000
  pub few_discordant : m.discordant ≤ 1_000_000_000_000
  pub every : concordant t + discordant t + tied t ≡ pairs t
  pub within : pairs t ≤ defaults_in t * obligors_in t
  pub few : defaults_in t * obligors_in t ≤ 1_000_000_000_000

known : {t : Table} {m : PairCounts} {n : Obligors} {a b : ℕ} → Small t → m ≡ pair_counts_of t
    → n.0 ≡ capped (m.survivors.0 + m.defaults) → a ≡ m.defaults * m.survivors.0 → b ≡ m.defaults * n.0 → Known t m a b
unfolding pair_counts_of
known {t} {m} {n} {a} {b} small e ofN ofA ofB = let s : survivors_in t ≤ obligors_in t = omega arith in
    let c : m.concordant ≡ concordant t = rw e in
    let x : m.discordant ≡ discordant t = rw e in
    let all : n.0 ≡ obligors_in t = omega (arith, rw e at ofN) in
    record {
      counts = e;
      of_a = rw e at ofA;
      of_b = rw (e, all) at ofB;
      all-concordant = c;
      all-discordant = x;
      few_concordant = omega (arith, few_pairs small);
      few_discordant = omega (arith, few_pairs small);
      every = every_pair t;
      within = mul-le-mul_left (defaults_in t) s;
      few = counts_le (few_counts small).0 small.obligors;
    }

totals : (t : Table) {m : PairCounts} → m ≡ pair_counts_of t → (m.defaults ≡ defaults_in t) × (m.survivors.0 ≡ survivors_in t)
unfolding pair_counts_of
totals t e = (ap (λ m. m.defaults) e, ap (λ m. m.survivors.0) e)

measures_are : {t : Table} {m : PairCounts} {a b : ℕ} → Known t m a b → (h : FarthestCutoff) → h ≡ farthest_of t
    → (z w : ℤ) → z ≡ sub_ℕ m.concordant m.discordant → w ≡ h.height
    → record {
      defaults = m.defaults;
      survivors = m.survivors;
      gini = record { numerator = z; denominator = a };
      roc = record { numerator = a + m.concordant - m.discordant; denominator = 2 * a };
      cap = record { numerator = b + m.concordant - m.discordant; denominator = 2 * b };
      pietra = record { numerator = w; denominator = a };
      cutoff = h.cutoff;
    } ≡ measures_of t
unfolding measures_of pair_counts_of farthest_of
measures_are {t} k h e z w of_z of_w = let roc : pairs t + concordant t - discordant t ≡ 2 * concordant t + tied t = omega arith in
    rw (of_w, of_z, e, k.counts, k.of_a, k.of_b, roc)

pub farthest-top-requires : goal.farthest-top-requires
farthest-top-requires c =
    let both = totals (table_in c.args.place.now) c.count_pairs-counts.ensures in
    record { holds_table = c.requires; all_defaults = both.0; all_survivors = both.1 }

at_hand : (c : After-profile_of-profile)
    → Known (table_in c.args.place.now) c.count_pairs-counts.result c.pairs_of-pairs.result c.profile_of-profile.result
at_hand c =
    known (sound_small c.requires.sound) c.count_pairs-counts.ensures c.with_defaults.ensures c.pairs_of-pairs.ensures c.profile_of-profile.ensures

pub difference-requires : goal.difference-requires
difference-requires c = let k = at_hand (goal.at.difference-requires c).After-profile_of-profile in omega arith

pub overflow_add-result : goal.overflow_add-result
overflow_add-result c = let k = at_hand (goal.at.overflow_add-result c).After-profile_of-profile in omega arith

pub overflow_sub-result : goal.overflow_sub-result
overflow_sub-result c = let k = at_hand (goal.at.overflow_sub-result c).After-profile_of-profile in omega arith

pub overflow_mul-result : goal.overflow_mul-result
overflow_mul-result c = let k = at_hand (goal.at.overflow_mul-result c).After-profile_of-profile in omega arith

pub overflow_add-result-2 : goal.overflow_add-result-2
overflow_add-result-2 c = let k = at_hand (goal.at.overflow_add-result-2 c).After-profile_of-profile in omega arith

pub overflow_sub-result-2 : goal.overflow_sub-result-2
overflow_sub-result-2 c = let k = at_hand (goal.at.overflow_sub-result-2 c).After-profile_of-profile in omega arith

pub overflow_mul-result-2 : goal.overflow_mul-result-2
overflow_mul-result-2 c = let k = at_hand (goal.at.overflow_mul-result-2 c).After-profile_of-profile in omega arith

pub returns : goal.returns
returns c =
    let k = at_hand (goal.at.returns c).After-profile_of-profile in
    let top = c.farthest-top in
    let few : (m : ℕ) → m ≤ 1_000_000_000_000 → m ≤ 1_000_000_000_000_000_000 = λ m h. omega arith in
    let z : SFits w64 c.difference.result = rw c.difference.ensures (difference_fits (few _ k.few_concordant) (few _ k.few_discordant)) in
    let w : SFits w64 top.result.height = search rules in
    measures_are k _ top.ensures _ _ (to_z-of_z w64 _ z ∙ c.difference.ensures) (to_z-of_z w64 _ w)

-- From the sums, the values and the choices to the answer.
use Prim.Native.Nat.{ℕ, zero, suc, ◌-◌, ◌*◌, ◌≤◌, ◌<◌}
use mathlib.Core.Path.{◌≡◌, refl, sym, ◌∙◌}
use mathlib.Core.List.{List, ◌++◌}
use native.Mathlib.Omega.{arith}
use lib.IntN.{sub_ℕ}
use lib.ListN.{length, get_or, take, drop, drop_of_length-le}
use lib.Seq.{take_at, drop_at}
use Rattle.table.specs.Table.{Table, Sound, defaults_in, survivors_in}
use Rattle.table.proofs.Arithmetic.{counts_le}
use Rattle.table.proofs.Sums.{obligors_split}
use Rattle.shorter.specs.Cut.{coarse_difference, IsBestCut}
use Rattle.shorter.specs.declared.sizes.Size.{Size}
use Rattle.shorter.specs.declared.Sums.{Sums}
use Rattle.shorter.specs.Private.{survived_from, defaulted_from, SumsOf, Falling, gain, most, through, first_end}
use Rattle.shorter.specs.Private.{Needed, Values, ChoicesOf, ends_in, Leads}
use Rattle.shorter.proofs.Worth.{Gains, split}
use Rattle.shorter.proofs.Search.{ends_of, top, reached}
use Rattle.shorter.proofs.Found.{best_cut, best-value}
use Rattle.shorter.proofs.Rows.{most_le}

module _ {t : Table} {w : List Sums} (sound : Sound t) (sums : SumsOf t w) where
  pub falling : Falling w (length t)
  unfolding survivors_in defaults_in
  falling =
      let none = drop_of_length-le t {i = length t} (omega arith) in
      let all = obligors_split t sound.counted in
      record {
        falls = λ i e l h. omega (arith, sums.survived i (omega arith), sums.survived e h, (split t sound.counted i e l).survived);
        few_survived = λ i h. omega (arith, sound.total, all, sums.survived i h, (split t sound.counted 0 i (omega arith)).survived);
        few_defaulted = λ i h. omega (arith, sound.total, all, sums.defaulted i h, (split t sound.counted 0 i (omega arith)).defaulted);
        none_survived = sums.survived (length t) (omega arith) ∙ rw none;
        none_defaulted = sums.defaulted (length t) (omega arith) ∙ rw none;
      }

  gains : Gains t (gain w)
  gains i e h l = rw (sums.survived i (omega arith), sums.survived e l, sums.defaulted i (omega arith), sums.defaulted e l)

  pub pairs : defaulted_from w 0 * survived_from w 0 ≡ defaults_in t * survivors_in t
  pairs = rw (sums.survived 0 (omega arith), sums.defaulted 0 (omega arith))

-- The choices lead to the ends that the search finds.
module _ {w : List Sums} {z : Size} {c : List (List ℕ)} (choices : ChoicesOf w z (z.runs - 1) c) where
  pub record Led (j i : ℕ) : Type 0 where
    pub leads : Leads c j i
    pub ends : ends_in c z.grades j i ≡ ends_of (gain w) z.grades j i

  pub led : (j i : ℕ) → j < z.runs → Needed z j i → Led j i
  unfolding ends_in ends_of
  led zero i l need = record { leads = tt; ends = refl }
  led (suc j) i l need =
      let e = choices.at j i (omega arith) need in
      let t = top (through (gain w) z.grades j i) (suc i) (z.grades - suc j) (omega (arith, need.behind)) in
      let r = led j (first_end (gain w) z.grades j i) (omega arith) (record {
        before = omega (arith, t.from, need.before);
        behind = omega (arith, t.to, need.behind);
        first = λ x. absurd (omega arith);
      }) in
      record {
        leads = (omega (arith, need.behind), omega (arith, need.behind), rw e (omega (arith, t.to)), rw e r.leads);
        ends = rw (e, r.ends);
      }

-- the first run
pub first : (z : Size) → Needed z (z.runs - 1) 0
first z = record { before = omega arith; behind = omega arith; first = λ x. refl }

-- What is known once the rows are filled.
pub record Searched (t : Table) (w : List Sums) (z : Size) (v : List ℕ) (c : List (List ℕ)) : Type 0 where
  pub sound : Sound t
  pub sums : SumsOf t w
  pub is : z.grades ≡ length t
  pub values : Values w z (z.runs - 1) v
  pub choices : ChoicesOf w z (z.runs - 1) c

module _ {t : Table} {w : List Sums} {z : Size} {v : List ℕ} {c : List (List ℕ)} (h : Searched t w z v c) where
  here : Led h.choices (z.runs - 1) 0
  here = led h.choices (z.runs - 1) 0 (omega arith) (first z)

  pub leads : Leads c (z.runs - 1) 0
  leads = here.leads

  pub small_value : get_or v 0 0 ≤ 2_000_000_000_000
  small_value =
      let f : Falling w z.grades = rw h.is (falling h.sound h.sums) in
      omega (arith, h.values.at 0 (first z), most_le f (z.runs - 1) 0 (omega arith), f.few_survived 0 (omega arith))

  pub small_pairs : defaulted_from w 0 * survived_from w 0 ≤ 1_000_000_000_000
  small_pairs = let f = falling h.sound h.sums in counts_le (f.few_defaulted 0 (omega arith)) (f.few_survived 0 (omega arith))

  ends_are : ends_in c z.grades (z.runs - 1) 0 ≡ ends_of (gain w) (length t) (z.runs - 1) 0
  ends_are = here.ends ∙ rw h.is

  runs_are : suc (z.runs - 1) ≡ z.runs
  runs_are = omega arith

  length_ends : length (ends_in c z.grades (z.runs - 1) 0) ≡ z.runs
  length_ends = rw ends_are ((reached (gain w) (length t) (z.runs - 1) 0 (omega (arith, h.is))).runs ∙ runs_are)

  module _ (out₀ : List ℕ) {out : List ℕ} (e : out ≡ ends_in c z.grades (z.runs - 1) 0 ++ out₀) where
    first_ends : take z.runs out ≡ ends_of (gain w) (length t) (z.runs - 1) 0
    first_ends = rw (e, take_at (ends_in c z.grades (z.runs - 1) 0) out₀ z.runs length_ends) ends_are

    pub best : IsBestCut t z.runs (take z.runs out)
    best =
        rw first_ends
        (rw runs_are at (best_cut t h.sound.counted (gain w) (gains h.sound h.sums) (z.runs - 1) (omega (arith, h.is))))

    pub value : sub_ℕ (get_or v 0 0) (defaulted_from w 0 * survived_from w 0) ≡ coarse_difference t (take z.runs out)
    value =
        let worth : get_or v 0 0 ≡ most (gain w) (length t) (z.runs - 1) 0 = h.values.at 0 (first z) ∙ rw h.is in
        rw (first_ends, worth, pairs h.sound h.sums)
        (sym (best-value t h.sound.counted (gain w) (gains h.sound h.sums) (z.runs - 1) (omega (arith, h.is))))

    pub kept : drop z.runs out ≡ out₀
    kept = rw e (drop_at (ends_in c z.grades (z.runs - 1) 0) out₀ z.runs length_ends)

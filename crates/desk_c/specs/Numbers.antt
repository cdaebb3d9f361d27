-- The numbers of each answer, in the order of its struct in include/desk.h.
use Rattle.std.specs.Prelude.{ℕ, zero, suc, ◌≡◌, List, [], ◌∷◌, ℤ, pos, Float}
use Rattle.cutoff.specs.declared.CheapestCutoff.{CheapestCutoff}
use Rattle.cutoff.specs.declared.Verdict.{Verdict}
use Rattle.cutoff.specs.declared.Verdict.TheVariants.{Equal, First, Second, Crossing}
use Rattle.cutoff.specs.Verdict.{IsVerdict}
use Rattle.shares.specs.Verdict.{IsVerdictByShares}
use Rattle.measures.specs.declared.Measures.{Measures}
use Rattle.measures.specs.declared.Fraction.{Fraction}
use Rattle.spread.specs.declared.Spread.{Spread}
use Rattle.desk_c.specs.Image.{table_on}

-- What a call with the first fault n may leave in its buffer, where the documents leave the values of the answer freer: what was there,
-- or the numbers of an answer that is P.
abbrev pub Left : {A B : Type 0} → ℕ → (A → Type 0) → (A → B) → B → B → Type 0
Left {A = A} zero P numbers old new = (x : A) × P x × (new ≡ numbers x)
Left (suc n) P numbers old new = new ≡ old

abbrev pub cutoff_numbers : CheapestCutoff → List ℤ
cutoff_numbers c = pos c.cutoff ∷ pos c.cost ∷ []

-- what compare may answer of the desk in an image: a verdict on the tables in its two places
abbrev pub VerdictOn : List ℕ → Verdict → Type 0
VerdictOn w v = IsVerdict (table_on w 1) (table_on w 2) v

-- and what the comparison on shares may answer
abbrev pub VerdictOnShares : List ℕ → Verdict → Type 0
VerdictOnShares w v = IsVerdictByShares (table_on w 1) (table_on w 2) v

-- the kind; the pair at which the first costs more; the pair at which the second costs more. A pair that is not carried is 0, 0.
abbrev pub verdict_numbers : Verdict → List ℕ
verdict_numbers Equal = 0 ∷ 0 ∷ 0 ∷ 0 ∷ 0 ∷ []
verdict_numbers (First p) = 1 ∷ 0 ∷ 0 ∷ p.u ∷ p.v ∷ []
verdict_numbers (Second p) = 2 ∷ p.u ∷ p.v ∷ 0 ∷ 0 ∷ []
verdict_numbers (Crossing p q) = 3 ∷ p.u ∷ p.v ∷ q.u ∷ q.v ∷ []

abbrev pub measures_numbers : Measures → List ℤ
measures_numbers m =
    pos m.defaults
    ∷ pos m.survivors.0
    ∷ m.gini.numerator
    ∷ pos m.gini.denominator
    ∷ pos m.roc.numerator
    ∷ pos m.roc.denominator
    ∷ pos m.cap.numerator
    ∷ pos m.cap.denominator
    ∷ m.pietra.numerator
    ∷ pos m.pietra.denominator
    ∷ pos m.cutoff
    ∷ []

abbrev pub fraction_numbers : Fraction ℕ → List ℤ
fraction_numbers f = pos f.numerator ∷ pos f.denominator ∷ []

abbrev pub spread_numbers : Spread → List Float
spread_numbers s = s.total ∷ s.residual ∷ []

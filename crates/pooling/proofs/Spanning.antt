-- The blocks as the code makes them, each with all the grades that have its numbers: they have the counts of the blocks of the occupied
-- grades, and write the numbers of every grade.
use Prim.Native.Nat.{ℕ, zero, suc, ◌+◌, ◌*◌, ◌≤◌, ◌<◌}
use mathlib.Core.Path.{◌≡◌, refl, sym, ap, ◌∙◌}
use mathlib.Core.Bool.{Bool, cond, true, false}
use mathlib.Core.Logic.{◌↔◌}
use mathlib.Core.List.{List, [], ◌∷◌, ◌++◌, map, append_assoc}
use native.Mathlib.Decide.{dec_le}
use native.Mathlib.Nat.{zero-add}
use native.Mathlib.Numerals.{add-one}
use native.Mathlib.Omega.{arith}
use lib.ListN.{length, length-append, length-map}
use Rattle.table.specs.Table.{Table, Grade, Every, Occupied, Counted, occupied, defaults_in, obligors_in}
use Rattle.table.proofs.Occupied.{is-occupied, is_empty, occupied_append}
use Rattle.pooling.specs.Pool.{Block, rate_below, front, pool, blocks, as_grade, pooled_scale, Rising}
use Rattle.pooling.specs.Band.{band_from, band_of}
use Rattle.pooling.specs.Numbers.{grades_of_lem, numbers_of_lem, three, repeating, pooled_numbers}
use Rattle.pooling.specs.Private.{block, waiting, behind_waiting, lengthened, spanning, sum_of}
use Rattle.pooling.proofs.Front.{pool_rising}
use Rattle.pooling.proofs.Joined.{sum-front}
use Rattle.pooling.proofs.Scale.{pool_some}

-- The blocks of the occupied grades of a table, and beside them those that also count the empty ones: the table is a row of runs, each
-- with an occupied grade first.
data Stretched : Table → List Block → List Block → Type 0 where
  none : Stretched [] [] []
  more : {r : Grade} (t : Table) {u : Table} {n d : ℕ} {bs cs : List Block} → Occupied r → Stretched u bs cs
      → Stretched (r ∷ t ++ u) (block (suc (length (occupied t))) n d ∷ bs) (block (suc (length t)) n d ∷ cs)

-- Both are joined alike: `front` looks at counts alone.

by_both : {A : Type 0} (P : A → A → Type 0) (x : Bool) {l m l' m' : A} → P l m → P l' m' → P (cond x l l') (cond x m m')
by_both P true p q = p
by_both P false p q = q

occupied_joined : (r : Grade) (t u : Table) → Occupied r → suc (length (occupied (t ++ r ∷ u))) ≡ suc (length (occupied t)) + suc (length (occupied u))
unfolding occupied
occupied_joined r t u h = rw (occupied_append t (r ∷ u), is-occupied r h, length-append) (omega arith)

length_joined : (r : Grade) (t u : Table) → suc (length (t ++ r ∷ u)) ≡ suc (length t) + suc (length u)
length_joined r t u = rw length-append (omega arith)

stretched_front : {r : Grade} (t : Table) {u : Table} (n d : ℕ) {bs cs : List Block} → Occupied r → Stretched u bs cs
    → Stretched (r ∷ t ++ u) (front (block (suc (length (occupied t))) n d) bs) (front (block (suc (length t)) n d) cs)
unfolding front
stretched_front t n d o none = more t o none
stretched_front {r} t n d o (more {r = s} t' {u = u} {n = n'} {d = d'} {bs = bs} {cs = cs} o' k) =
    by_both (Stretched (r ∷ t ++ (s ∷ t' ++ u))) (rate_below (block 0 n d) (block 0 n' d'))
    (more t o (more t' o' k))
    (rw (append_assoc t (s ∷ t') u, occupied_joined s t t' o', length_joined s t t') at (stretched_front {r = r} (t ++ s ∷ t') (n + n') (d + d') o k))

-- A table is the empty grades that wait, and then the grades of the blocks.
record Walked (t : Table) : Type 0 where
  pub empties : Table
  pub from : Table
  pub parts : t ≡ empties ++ from
  pub nobody : occupied empties ≡ []
  pub count : length empties ≡ waiting t
  pub same : Stretched from (blocks t) (behind_waiting t)

walked : (t : Table) → Walked t
unfolding occupied waiting behind_waiting pool
walked [] = record { empties = []; from = []; parts = refl; nobody = refl; count = refl; same = none }
walked (r ∷ t) =
    let w = walked t in
    elim (dec_le 1 r.obligors) [
      | yes o ↦
          let e = is-occupied r o in
          record {
            empties = [];
            from = r ∷ t;
            parts = refl;
            nobody = refl;
            count = rw e;
            same = rw (e, add-one) (rw (← w.parts, w.nobody, w.count) at (stretched_front {r = r} w.empties r.obligors r.defaults o w.same));
          }
      | no o ↦
          let e = is_empty r (omega arith) in
          record {
            empties = r ∷ w.empties;
            from = w.from;
            parts = ap (λ (l : Table). r ∷ l) w.parts;
            nobody = rw e w.nobody;
            count = rw (e, add-one) (ap suc w.count);
            same = rw e w.same;
          }
    ]

-- The counts are those of the pooled scale.

stretched_scale : {t : Table} {bs cs : List Block} → Stretched t bs cs → map as_grade cs ≡ map as_grade bs
stretched_scale none = refl
stretched_scale (more t o k) = rw (stretched_scale k)

lengthened_scale : (k : ℕ) (bs : List Block) → map as_grade (lengthened k bs) ≡ map as_grade bs
unfolding lengthened
lengthened_scale k [] = refl
lengthened_scale k (b ∷ bs) = refl

pub spanning_scale : (t : Table) → map as_grade (spanning t) ≡ pooled_scale t
spanning_scale t = lengthened_scale (waiting t) (behind_waiting t) ∙ stretched_scale (walked t).same

pub behind_some : (t : Table) → 1 ≤ length (occupied t) → 1 ≤ length (behind_waiting t)
behind_some t some =
    let n = ap (λ (u : Table). length u) (stretched_scale (walked t).same) in
    omega (arith, pool_some (occupied t) some, rw (length-map, length-map) at n)

-- So their rates rise.

abbrev GradesRise : Table → Type 0
GradesRise [] = Unit {0}
GradesRise (r ∷ []) = Unit {0}
GradesRise (r ∷ s ∷ t) = (r.defaults * s.obligors < s.defaults * r.obligors) × GradesRise (s ∷ t)

grades_rise : (bs : List Block) → Rising bs ↔ GradesRise (map as_grade bs)
unfolding Rising
grades_rise [] = (λ h. h, λ h. h)
grades_rise (b ∷ []) = (λ h. h, λ h. h)
grades_rise (b ∷ c ∷ bs) = let rest = grades_rise (c ∷ bs) in (λ h. (h.0, rest.0 h.1), λ h. (h.0, rest.1 h.1))

pub spanning_rising : (t : Table) → Rising (spanning t)
spanning_rising t = (grades_rise (spanning t)).1 (rw (spanning_scale t) ((grades_rise (blocks t)).0 (pool_rising (occupied t))))

-- The numbers of a block do not go by how many grades it has.

same_band : (j k n d b m : ℕ) → band_from (block j n d) b m ≡ band_from (block k n d) b m
unfolding band_from
same_band j k n d b zero = refl
same_band j k n d b (suc m) = rw (same_band j k n d (suc b) m)

pub same_grades : (j k n d m : ℕ) (rest : List ℕ) → grades_of_lem (block j n d) m rest ≡ grades_of_lem (block k n d) m rest
unfolding grades_of_lem
same_grades j k n d zero rest = refl
same_grades j k n d (suc m) rest = rw (same_band j k n d 0 14, same_grades j k n d m rest)

grades_add : (b : Block) (j k : ℕ) (rest : List ℕ) → grades_of_lem b (j + k) rest ≡ grades_of_lem b j (grades_of_lem b k rest)
unfolding grades_of_lem
grades_add b zero k rest = rw zero-add
grades_add b (suc j) k rest = let e : suc j + k ≡ suc (j + k) = omega arith in rw (e, grades_add b j k rest)

abbrev three_of : Block → List ℕ
three_of b = b.defaults ∷ b.obligors.0 ∷ band_of b ∷ []

-- Behind an occupied grade of a block its other occupied grades, and the empty ones between, all have its numbers.
run-numbers : (b : Block) (own : List ℕ) (t u : Table)
    → repeating (three_of b) (grades_of_lem b (length (occupied t)) own) (t ++ u) ≡ grades_of_lem b (length t) (repeating (three_of b) own u)
unfolding grades_of_lem repeating occupied
run-numbers b own [] u = refl
run-numbers b own (r ∷ t) u =
    let more = ap (λ (q : List ℕ). b.defaults ∷ b.obligors.0 ∷ band_of b ∷ q) (run-numbers b own t u) in
    elim (dec_le 1 r.obligors) [ yes o ↦ rw (is-occupied r o) more | no o ↦ rw (is_empty r (omega arith)) more ]

stretched_numbers : {t : Table} {bs cs : List Block} → Stretched t bs cs → (better : List ℕ)
    → numbers_of_lem cs [] ≡ repeating better (numbers_of_lem bs []) t
unfolding grades_of_lem numbers_of_lem repeating
stretched_numbers none better = refl
stretched_numbers (more {r = r} t {u = u} {n = n} {d = d} {bs = bs} {cs = cs} o k) better =
    let b = block (suc (length (occupied t))) n d in
    rw (is-occupied r o, run-numbers b (numbers_of_lem bs []) t u, stretched_numbers k (three_of b))
    (same_grades (suc (length t)) (suc (length (occupied t))) n d (suc (length t)) (repeating (three_of b) (numbers_of_lem bs []) u))

-- Empty grades in front have the numbers of the first block.
lead_numbers : (e : Table) → occupied e ≡ [] → {t : Table} {bs cs : List Block} → Stretched t bs cs → 1 ≤ length bs
    → numbers_of_lem (lengthened (length e) cs) [] ≡ repeating (three (numbers_of_lem bs [])) (numbers_of_lem bs []) (e ++ t)
unfolding lengthened numbers_of_lem grades_of_lem
lead_numbers e nobody none some = absurd (omega arith)
lead_numbers e nobody (more {r = r} t {u = u} {n = n} {d = d} {bs = bs} {cs = cs} o k) some =
    let b = block (suc (length (occupied t))) n d in
    let g = suc (length t) in
    same_grades (length e + g) (suc (length (occupied t))) n d (length e + g) (numbers_of_lem cs [])
    ∙ grades_add b (length e) g (numbers_of_lem cs [])
    ∙ rw (← same_grades g (suc (length (occupied t))) n d g (numbers_of_lem cs []), stretched_numbers (more {r = r} t {u = u} {n = n} {d = d} o k) (three_of b))
    (sym (rw nobody at (run-numbers b (numbers_of_lem (b ∷ bs) []) e (r ∷ t ++ u))))

pub spanning-numbers : (t : Table) → 1 ≤ length (occupied t) → numbers_of_lem (spanning t) [] ≡ pooled_numbers t
unfolding pooled_numbers
spanning-numbers t some =
    let w = walked t in
    rw (← w.parts, w.count) at (lead_numbers w.empties w.nobody w.same (pool_some (occupied t) some))

-- Together they hold the table.

pub record Sums (t : Table) (k : ℕ) (bs : List Block) : Type 0 where
  pub grades : k + (sum_of bs).grades ≡ length t
  pub obligors : (sum_of bs).obligors.0 ≡ obligors_in t
  pub defaults : (sum_of bs).defaults ≡ defaults_in t

pub behind_sums : (t : Table) → Every Counted t → Sums t (waiting t) (behind_waiting t)
unfolding waiting behind_waiting sum_of obligors_in defaults_in
behind_sums [] h = record { grades = refl; obligors = refl; defaults = refl }
behind_sums (r ∷ t) h =
    let s = behind_sums t h.1 in
    let c = h.0 in
    elim (dec_le 1 r.obligors) [
      | yes o ↦ let f = sum-front (block (waiting t + 1) r.obligors r.defaults) (behind_waiting t) in
          rw (is-occupied r o)
          (record {
            grades = omega (arith, ap (λ (x : Block). x.grades) f);
            obligors = omega (arith, ap (λ (x : Block). x.obligors.0) f);
            defaults = omega (arith, ap (λ (x : Block). x.defaults) f);
          })
      | no o ↦ rw (is_empty r (omega arith)) (record { grades = omega arith; obligors = omega arith; defaults = omega arith })
    ]

lengthened_grades : (k : ℕ) (bs : List Block) → 1 ≤ length bs → (sum_of (lengthened k bs)).grades ≡ k + (sum_of bs).grades
unfolding lengthened sum_of
lengthened_grades k [] some = absurd (omega arith)
lengthened_grades k (b ∷ bs) some = omega arith

pub spanning_count : (t : Table) → Every Counted t → 1 ≤ length (occupied t) → (sum_of (spanning t)).grades ≡ length t
spanning_count t counted some = lengthened_grades (waiting t) (behind_waiting t) (behind_some t some) ∙ (behind_sums t counted).grades

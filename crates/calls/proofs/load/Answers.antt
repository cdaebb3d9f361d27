-- `load` meets its contract.
use Prim.Native.Nat.{ℕ}
use mathlib.Core.Path.{◌≡◌, refl, sym, ap, subst, ◌∙◌}
use mathlib.Core.Bool.{Bool, true, false, cond}
use mathlib.Core.List.{List, ◌++◌}
use native.Mathlib.Omega.{arith}
use lib.ListN.{length, length-replicate}
use Rattle.table.specs.Table.{Table, Sound}
use Rattle.table.specs.Place.{place_of}
use Rattle.table.specs.Words.{words_of, table_in}
use Rattle.refusals.proofs.Refused.{passed_on}
use Rattle.book.specs.Rows.{table_of_rater}
use Rattle.book.proofs.Accept.{accepted}
use Rattle.book.proofs.Checks.{go, stop}
use Rattle.pooled_place.specs.PooledPlace.{no_list}
use Rattle.pooled_place.specs.Words.{list_in}
use Rattle.pooled_place.proofs.Lists.{stored-length, table_stored, pooled_anew}
use Rattle.calls.specs.Calls.{change_fault}
use Rattle.calls.proofs.load.Goals.{In_ok-read}
use Rattle.calls.proofs.load.Goals as goal

-- l is whether the place is loaded, b what the code found.
loaded : (l b : Bool) → b ≡ l → b ≡ true → ◌≡◌ {A = ℕ} 21 (cond l 21 0)
loaded l b e h = rw (sym e ∙ h) refl

unloaded : (l b : Bool) → b ≡ l → b ≡ false → ◌≡◌ {A = ℕ} (cond l 21 0) 0
unloaded l b e h = rw (sym e ∙ h) refl

-- The rater's table is read: its counts stand before the list, which is still empty.
module _ (c : In_ok-read) where
  abbrev words : List ℕ
  words = c.args.place.now

  abbrev table : Table
  table = table_of_rater c.args.book.now c.args.rater

  sound : Sound table
  sound = let a = accepted c.args.book.now c.args.rater (sym c.in_ok-read.ensures.value) in subst Sound a.table a.sound

  held : c.read.new.place ++ list_in words ≡ words_of (place_of table) ++ no_list
  held =
      ap (λ (x : List ℕ). x ++ list_in words) c.in_ok-read.ensures.place_after
      ∙ ap (λ (x : List ℕ). words_of (place_of table) ++ list_in x) (c.requires.unused (sym c.is_loaded.ensures ∙ c.if-is_loaded.false))

pub returns-then-is_loaded-clause-value : goal.returns-then-is_loaded-clause-value
unfolding change_fault
returns-then-is_loaded-clause-value c = stop _ (loaded _ _ c.is_loaded.ensures c.if-is_loaded.true) (λ z. omega arith)

pub returns-in_err-read-clause-value : goal.returns-in_err-read-clause-value
unfolding change_fault
returns-in_err-read-clause-value c =
    passed_on _ _ c.from_residual.ensures.1 ∙ go (unloaded _ _ c.is_loaded.ensures c.if-is_loaded.false) c.in_err-read.ensures.value

pub pool_anew-requires : goal.pool_anew-requires
pool_anew-requires c =
    let d = (goal.at.pool_anew-requires c).In_ok-read in
    let s = sound d in
    let h = held d in (
      ap length h ∙ stored-length (table d) s no_list (length-replicate {A = ℕ} 120 0),
      subst Sound (sym (ap (λ (x : List ℕ). table_in x) h ∙ table_stored (table d) s no_list)) s,
    )

pub returns-clause-value : goal.returns-clause-value
unfolding change_fault
returns-clause-value c = go (unloaded _ _ c.is_loaded.ensures c.if-is_loaded.false) c.in_ok-read.ensures.value

pub returns-clause-place_after : goal.returns-clause-place_after
returns-clause-place_after c =
    let d = (goal.at.returns-clause-place_after c).In_ok-read in pooled_anew (table d) (sound d) no_list (held d) c.pool_anew.ensures

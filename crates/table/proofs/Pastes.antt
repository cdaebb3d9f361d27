-- Numbers stored one part after the other are stored as one list.
use Prim.Native.Nat.{ℕ, ◌+◌, ◌≤◌}
use mathlib.Core.Path.{◌≡◌, sym, ap, ◌∙◌}
use mathlib.Core.List.{List, ◌++◌, append_assoc}
use native.Mathlib.Omega.{arith}
use lib.ListN.{length, take, drop}
use lib.Seq.{paste, take-paste, drop-paste, drop-drop, take-append-add, take_all}

-- a list t behind a list s
module _ (w s t : List ℕ) (at n m k : ℕ) (behind : at + n ≡ k) (long : length s ≡ n) (some : m ≤ length t) (room : at + n + m ≤ length w) where
  rest : drop (k + m) (paste w at s n) ≡ drop (at + (n + m)) w
  rest =
      let e : at + (n + m) ≡ k + m = omega arith in
      sym (drop-drop m k (paste w at s n))
      ∙ ap (λ (l : List ℕ). drop m l) (rw (← behind) (drop-paste w at s n (omega arith) (omega arith)))
      ∙ drop-drop m k w
      ∙ ap (λ (i : ℕ). drop i w) (sym e)

  pub paste-behind : paste (paste w at s n) k t m ≡ paste w at (s ++ t) (n + m)
  paste-behind =
      let front : take k (paste w at s n) ≡ take at w ++ s = rw (← behind) (take-paste w at s n (omega arith) (omega arith) ∙ ap (λ (l : List ℕ). take at w ++ l) (take_all n s (omega arith))) in
      let both : take (n + m) (s ++ t) ≡ s ++ take m t = rw (← long) (take-append-add s t m) in
      rw (front, both, rest) (ap (λ (l : List ℕ). l ++ drop (at + (n + m)) w) (append_assoc (take at w) s (take m t)))

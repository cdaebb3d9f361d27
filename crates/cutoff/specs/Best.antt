-- The best of finitely many: which number from 0 to k has the best value, the smallest of equals.
use Rattle.std.specs.Prelude.{ℕ, zero, suc, Bool, cond}

-- `better x y` says that x is better than y.
unfoldable pub best : {A : Type 0} → (A → A → Bool) → (ℕ → A) → ℕ → ℕ
best better f zero = 0
best better f (suc k) = cond (better (f (suc k)) (f (best better f k))) (suc k) (best better f k)

-- A product of two lengths that equal a number is that number's square. Assumes nothing.
use mathlib.Core.Path.{◌≡◌, ap, sym, ◌∙◌}
use Prim.Native.Nat.{ℕ, ◌*◌}

-- For entries as many as n·n and weights as many as n: omega knows no product of lengths.
pub square : (n m k : ℕ) → m ≡ n * n → k ≡ n → m ≡ k * k
square n m k entries weights = entries ∙ ap (λ i. i * i) (sym weights)

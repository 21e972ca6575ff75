-- n(n-1)/2: row by row, and at the largest n. Assumes nothing.
use mathlib.Core.Path.{◌≡◌, refl, ap}
use Prim.Native.Nat.{ℕ, zero, suc, ◌+◌, ◌-◌, ◌*◌, ◌≤◌}
use native.Mathlib.Nat.{mul-le-mul, mul-suc, suc-mul}
use native.Mathlib.Omega.{arith}
use Rattle.definitions.specs.Table.{largest_dimension}
use Rattle.definitions.specs.JobLayout.{triangle}

pub triangle_suc : (j : ℕ) → triangle (suc j) ≡ triangle j + j
triangle_suc zero = refl
triangle_suc (suc i) =
    let p : suc (suc i) - 1 ≡ suc i = omega arith in
    let q : suc i - 1 ≡ i = omega arith in
    omega (arith, suc-mul (suc i) (suc i), mul-suc (suc i) i, ap (λ (k : ℕ). suc (suc i) * k) p, ap (λ (k : ℕ). suc i * k) q)

pub triangle_small : (n : ℕ) → n ≤ largest_dimension → triangle n ≤ triangle largest_dimension
triangle_small n few =
    let less : n - 1 ≤ largest_dimension - 1 = omega arith in
    omega (arith, mul-le-mul few less)

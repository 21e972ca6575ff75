-- A little-endian number, byte by byte from its last: its value and its bound. Assumes nothing.
use mathlib.Core.Path.{◌≡◌, ap, ◌∙◌}
use mathlib.Core.List.{List}
use Prim.Native.Nat.{ℕ, suc, ◌+◌, ◌*◌, ◌^◌, ◌≤◌, ◌<◌}
use native.Mathlib.Omega.{arith}
use lib.ListN.{length, get_or, take}
use lib.Seq.{drop-cons}
use lib.Pow.{pow-add, pow_mono}
use Rattle.definitions.specs.JobLayout.{little_endian, number_at}

pub number_none : (input : List ℕ) (offset k : ℕ) → k ≡ 0 → number_at input offset k ≡ 0
unfolding number_at little_endian
number_none input offset k q = ap (number_at input offset) q

-- a byte before the others
pub number_more : (input : List ℕ) (offset k : ℕ) → offset < length input → number_at input offset (suc k) ≡ get_or input offset 0 + 256 * number_at input (suc offset) k
unfolding number_at little_endian
number_more input offset k h = ap (λ (bytes : List ℕ). little_endian (take (suc k) bytes)) (drop-cons input offset 0 h)

-- at most seven bytes leave room for one more
pub few_bytes : (value k : ℕ) → k ≤ 7 → value < 2 ^ (8 * k) → value < 2 ^ 56
few_bytes value k h b = let p : 2 ^ (8 * k) ≤ 2 ^ 56 = pow_mono {i = 8 * k} {j = 56} (omega arith) in omega (arith, p)

pub more_bound : (value byte k : ℕ) → value < 2 ^ (8 * k) → byte < 256 → value * 256 + byte < 2 ^ (8 * suc k)
more_bound value byte k h b =
    let e : 8 * suc k ≡ 8 * k + 8 = omega arith in
    let q : 2 ^ (8 * suc k) ≡ 2 ^ (8 * k) * 2 ^ 8 = ap (λ (j : ℕ). 2 ^ j) e ∙ pow-add 2 (8 * k) 8 in
    omega (arith, q)

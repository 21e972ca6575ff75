-- A section's items one after another, as doubles. Assumes nothing.
use mathlib.Core.Path.{◌≡◌, refl, ap, ◌∙◌}
use mathlib.Core.List.{List, [], ◌∷◌, ◌++◌}
use Prim.Native.Nat.{ℕ, zero, suc, ◌+◌, ◌*◌}
use native.Mathlib.Omega.{arith}
use lib.Dec.{T}
use lib.ListN.{get_or}
use lib.Ieee.{Float, binary64, nan, fits, of_bits}
use lib.Ieee.Bits.{of_bits-fits}
use Rattle.definitions.specs.JobLayout.{number_at, items_at, doubles}

pub doubles_fit : (patterns : List ℕ) (i : ℕ) → T (fits binary64 (get_or (doubles patterns) i nan))
unfolding fits
doubles_fit [] i = tt
doubles_fit (x ∷ xs) zero = of_bits-fits binary64 x
doubles_fit (x ∷ xs) (suc i) = doubles_fit xs i

pub no_doubles : (input : List ℕ) (offset : ℕ) → doubles (items_at input offset 0) ≡ []
unfolding items_at
no_doubles input offset = refl

-- one more, after the others
pub more_doubles : (input : List ℕ) (offset k : ℕ) → doubles (items_at input offset (suc k)) ≡ doubles (items_at input offset k) ++ of_bits binary64 (number_at input (offset + 8 * k) 8) ∷ []
unfolding items_at
more_doubles input offset zero = let here : offset ≡ offset + 8 * 0 = omega arith in ap (λ (o : ℕ). of_bits binary64 (number_at input o 8) ∷ []) here
more_doubles input offset (suc k) =
    let there : offset + 8 + 8 * k ≡ offset + 8 * suc k = omega arith in
    ap (λ (xs : List Float). of_bits binary64 (number_at input offset 8) ∷ xs) (more_doubles input (offset + 8) k)
    ∙ ap (λ (o : ℕ). of_bits binary64 (number_at input offset 8) ∷ (doubles (items_at input (offset + 8) k) ++ of_bits binary64 (number_at input o 8) ∷ [])) there

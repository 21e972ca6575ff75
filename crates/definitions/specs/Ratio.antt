-- The verdict on a list, whether its first point stands out: docs/SPECIFICATION.md, "The ratio". Definitions only.
use Rattle.std.specs.Prelude.{ℕ, Bool, ◌&&◌, cond, List, [], ◌∷◌, map, pos, Float}
use Rattle.std.specs.Float.{binary64}
use Rattle.std.specs.Float.Ieee.{mul, of_int, le}
use Rattle.std.specs.Float.Ieee.Scale.{finite}
use Rattle.definitions.specs.Listing.{ListPoint}
use Rattle.definitions.specs.Settings.{factors_check}
use Rattle.definitions.specs.Calls.{Answer, found, refused, after, ListAnswer}

pub data Ratio : Type 0 where
  holds : Ratio
  fails : Ratio
  «open» : Ratio
  none : Ratio

-- k·d, rounded once
unfoldable pub times : ℕ → Float → Float
unfolding mul of_int
times k d = mul binary64 (of_int binary64 (pos k)) d

-- the test of a first distance against another one, or against R: q·d2 ≥ p·d1, and p·d1 does not overflow
unfoldable pub met : ℕ → ℕ → Float → Float → Bool
unfolding times le
met p q d1 d2 = finite (times p d1) && le (times p d1) (times q d2)

-- by the distances listed at R, in their order: none without a point; one point alone holds if R meets the test, and is else open;
-- with more the verdict holds if d2 meets it, and else fails
unfoldable pub ratio : ℕ → ℕ → List Float → Float → Ratio
unfolding met
ratio p q [] R = none
ratio p q (d1 ∷ []) R = cond (met p q d1 R) holds «open»
ratio p q (d1 ∷ d2 ∷ more) R = cond (met p q d1 d2) holds fails

-- of a call `list` at R: without a list the verdict is none
unfoldable pub list_ratio : ℕ → ℕ → Answer ListAnswer → Float → Ratio
unfolding ratio
list_ratio p q (found a) R = ratio p q (map (λ (point : ListPoint). point.distance) a.points) R
list_ratio p q (refused e) R = none

-- the call `ratio`: 21, then the verdict
unfoldable pub ratio_call : ℕ → ℕ → List Float → Float → Answer Ratio
unfolding after factors_check ratio
ratio_call p q distances R = after (factors_check p q) (found (ratio p q distances R))

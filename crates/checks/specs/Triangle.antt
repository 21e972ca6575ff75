-- What the state of the triangle's check says, and the slice that the check walks. Definitions only.
use Rattle.std.specs.Prelude.{◌≡◌, ℕ, ◌*◌, ◌≤◌, List, length, Float}
use Rattle.definitions.specs.Checks.{Verdict, pass, refuse}
use Rattle.definitions.specs.Refusals.{mu_non_finite, mu_range}
use Rattle.checks.specs.declared.triangle.Triangle.{Triangle}
use Rattle.checks.specs.declared.triangle.Triangle.TheVariants.{Clean, Range, NonFinite}

-- what numbers 3 and 4 say of the entries so far
abbrev pub triangle_verdict : Triangle → Verdict
triangle_verdict Clean = pass
triangle_verdict (Range k) = refuse (mu_range k)
triangle_verdict (NonFinite k) = refuse (mu_non_finite k)

-- n·n entries, n small enough for every index to fit
pub record Square (n : ℕ) (mu : List Float) : Type 0 where
  pub small : n ≤ 64
  pub entries : length mu ≡ n * n

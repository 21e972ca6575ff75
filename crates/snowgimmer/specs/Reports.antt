-- What the C interface tells of an answer beside the lent slices: a number, two whole numbers and a double. Definitions only.
use Rattle.std.specs.Prelude.{ℕ, Float, unwrap_or}
use Rattle.std.specs.Borrow.{MutBor}
use denote.Triple.Both.{Both}
use Rattle.definitions.specs.Table.{plus_zero}
use Rattle.definitions.specs.Lent.{at_exit}
use Rattle.definitions.specs.Refusals.{Refusal}
use Rattle.refusals.specs.Numbers.{carried_by}
use Rattle.definitions.specs.Checks.{Verdict, pass, refuse}
use Rattle.definitions.specs.Calls.{Answer, found, refused}
use Rattle.definitions.specs.Calls as C
use Rattle.definitions.specs.Ratio.{Ratio, holds, fails, «open», none}
use Rattle.listing.specs.View.{Counts}
use Rattle.snowgimmer.specs.declared.report.Report.{Report}

-- a report by its parts
abbrev pub told : ℕ → ℕ → ℕ → Float → Report
told number a b x = record { number = number; first = a; second = b; real = x }

-- what an exported function tells: its result and what it writes through its three pointers
abbrev pub told_at : {S S' S'' : Type 0} → ℕ → Both S (MutBor ℕ) → Both S' (MutBor ℕ) → Both S'' (MutBor Float) → Report
told_at number a b x = told number (at_exit a) (at_exit b) (at_exit x)

-- a refusal: its number and its values, 0 for what it does not carry
abbrev pub of_refusal : Refusal → Report
of_refusal e = let c = carried_by e in told c.number c.first c.second (unwrap_or c.real plus_zero)

-- nearest, nearest_seeded and nearest_ml: the nodes, and the distance of the point
abbrev pub of_nearest : Answer C.NearestPoint → Report
of_nearest (found a) = told 0 a.nodes 0 a.distance
of_nearest (refused e) = of_refusal e

-- list: the nodes, and how many points
abbrev pub of_counts : Answer Counts → Report
of_counts (found a) = told 0 a.nodes a.points plus_zero
of_counts (refused e) = of_refusal e

-- ratio: the verdict, as a number
abbrev pub ratio_number : Ratio → ℕ
ratio_number none = 0
ratio_number holds = 1
ratio_number fails = 2
ratio_number «open» = 3

abbrev pub of_ratio : Answer Ratio → Report
of_ratio (found r) = told 0 (ratio_number r) 0 plus_zero
of_ratio (refused e) = of_refusal e

-- round, nearest_plane, change_reference and check_entry: nothing more than the success
abbrev pub of_verdict : Verdict → Report
of_verdict pass = told 0 0 0 plus_zero
of_verdict (refuse e) = of_refusal e

-- distance: the distance
abbrev pub of_distance : Answer Float → Report
of_distance (found d) = told 0 0 0 d
of_distance (refused e) = of_refusal e

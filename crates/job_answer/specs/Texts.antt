-- The texts of the code's answers. Definitions only.
use Rattle.std.specs.Prelude.{ℕ, List, ◌++◌, ℤ, Float, Result, Ok, Err}
use Rattle.definitions.specs.JobLayout.{Job}
use Rattle.definitions.specs.JobText.{text, newline, decimal, hexadecimal, point_text, listed_lines, refusal_line, list_lines, ratio_line, job_list, job_ratio}
use Rattle.definitions.specs.Rows.{rows}
use Rattle.refusals.specs.Numbers.{numbered}
use Rattle.refusals.specs.declared.Refusal.{Refusal}
use Rattle.listing.specs.declared.ListFound.{ListFound}

-- the line of a listed point
abbrev pub listed_line : Float → List ℤ → List ℕ
listed_line distance zs = hexadecimal distance ++ point_text zs ++ newline

-- the lines of a list's answer, the slices at exit holding its points
abbrev pub list_text : Result ListFound Refusal → ℕ → List Float → List ℤ → List ℕ
list_text (Ok f) n distances points =
    text "list " ++ decimal f.nodes ++ text " " ++ decimal f.points ++ newline ++ listed_lines (rows n f.points distances points)
list_text (Err e) n distances points = refusal_line (text "list") (numbered e).number

-- how many points a list's answer has: none where there is no list
abbrev pub points_of : Result ListFound Refusal → ℕ
points_of (Ok f) = f.points
points_of (Err e) = 0

-- the lines of a job's list and its ratio
abbrev pub list_part : Job → List ℕ
list_part j = list_lines (job_list j) ++ ratio_line (job_ratio j)

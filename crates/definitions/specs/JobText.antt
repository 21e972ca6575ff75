-- What the job prints, as bytes: docs/SPECIFICATION.md, "Job program". Definitions only.
use Rattle.std.specs.Prelude.{ℕ, zero, suc, ◌+◌, ◌*◌, ◌/◌, ◌%◌, Bool, true, false, cond, List, [], ◌∷◌, ◌++◌, leb, ltb, eqb, length, replicate, ℤ, pos, negsuc, Float}
use Prim.Native.Char.{code}
use Prim.Native.String.{String, [] as empty, ◌∷◌ as ◌then◌}
use Rattle.std.specs.Float.{binary64}
use Rattle.std.specs.Float.Ieee.{to_bits}
use Rattle.definitions.specs.Table.{dimension, plus_zero}
use Rattle.definitions.specs.Listing.{ListPoint}
use Rattle.definitions.specs.Refusals.{job_layout}
use Rattle.definitions.specs.Checks.{Verdict, pass, refuse}
use Rattle.definitions.specs.Calls.{Answer, found, refused, NearestPoint, ListAnswer, nearest, list}
use Rattle.definitions.specs.Settings.{settings_check}
use Rattle.definitions.specs.Ratio.{Ratio, holds, fails, «open», none, list_ratio}
use Rattle.definitions.specs.JobLayout.{Job, Layout, job, layout_fault, job_of}

-- ---- characters and numbers

-- the characters of a text, each one byte
unfoldable pub text : String → List ℕ
text empty = []
text (◌then◌ c s) = code c ∷ text s

abbrev pub newline : List ℕ
newline = 10 ∷ []

-- the digit d, from 0 to 15, in decimal or upper-case hexadecimal
abbrev pub digit : ℕ → ℕ
digit d = cond (ltb d 10) (48 + d) (55 + d)

-- n in decimal before what follows; `short` says that n is below 10. The first argument makes the recursion plain:
-- n itself is never used up, as n / 10 is smaller (law `decimal_value`).
unfoldable pub decimal_before : ℕ → Bool → ℕ → List ℕ → List ℕ
decimal_before zero short n rest = digit n ∷ rest
decimal_before (suc fuel) true n rest = digit n ∷ rest
decimal_before (suc fuel) false n rest = decimal_before fuel (ltb (n / 10) 10) (n / 10) (digit (n % 10) ∷ rest)

unfoldable pub decimal : ℕ → List ℕ
unfolding decimal_before
decimal n = decimal_before n (ltb n 10) n []

unfoldable pub signed_decimal : ℤ → List ℕ
unfolding decimal
signed_decimal (pos n) = decimal n
signed_decimal (negsuc n) = 45 ∷ decimal (suc n)

-- so many upper-case hexadecimal digits, before what follows
unfoldable pub hexadecimal_before : ℕ → ℕ → List ℕ → List ℕ
hexadecimal_before zero n rest = rest
hexadecimal_before (suc width) n rest = hexadecimal_before width (n / 16) (digit (n % 16) ∷ rest)

-- a double's 16 digits
unfoldable pub hexadecimal : Float → List ℕ
unfolding hexadecimal_before to_bits
hexadecimal x = hexadecimal_before 16 (to_bits binary64 x) []

-- each coordinate after a blank
unfoldable pub point_text : List ℤ → List ℕ
unfolding text signed_decimal
point_text [] = []
point_text (z ∷ zs) = text " " ++ signed_decimal z ++ point_text zs

-- ---- refusals

-- a refusal's group by its number
unfoldable pub group : ℕ → List ℕ
unfolding text
group number =
    cond (leb number 1) (text "layout")
    (cond (leb number 5) (text "table")
    (cond (leb number 14) (text "call")
    (cond (eqb number 21) (text "layout")
    (text "search"))))

-- the line of a refusal: the word of what was refused, the number and its group
unfoldable pub refusal_line : List ℕ → ℕ → List ℕ
unfolding text decimal group
refusal_line word number = word ++ text " refused " ++ decimal number ++ text " " ++ group number ++ newline

-- ---- the lines

-- the line of `nearest`: the nodes, the distance by 16 digits and the point
unfoldable pub nearest_line : Answer NearestPoint → List ℕ
unfolding text decimal hexadecimal point_text refusal_line
nearest_line (found a) = text "nearest " ++ decimal a.nodes ++ text " " ++ hexadecimal a.distance ++ point_text a.point ++ newline
nearest_line (refused e) = refusal_line (text "nearest") e.number

-- a line for each point: its distance by 16 digits, then its coordinates
unfoldable pub listed_lines : List ListPoint → List ℕ
unfolding hexadecimal point_text
listed_lines [] = []
listed_lines (p ∷ ps) = hexadecimal p.distance ++ point_text p.point ++ newline ++ listed_lines ps

-- the lines of `list`: the nodes and the number of points, then the points
unfoldable pub list_lines : Answer ListAnswer → List ℕ
unfolding text decimal listed_lines refusal_line
list_lines (found a) = text "list " ++ decimal a.nodes ++ text " " ++ decimal (length a.points) ++ newline ++ listed_lines a.points
list_lines (refused e) = refusal_line (text "list") e.number

-- the verdict's word, and the line of the ratio
unfoldable pub ratio_word : Ratio → String
ratio_word holds = "holds"
ratio_word fails = "fails"
ratio_word «open» = "open"
ratio_word none = "none"

unfoldable pub ratio_line : Ratio → List ℕ
unfolding text ratio_word
ratio_line r = text "ratio " ++ text (ratio_word r) ++ newline

-- ---- the job

abbrev pub job_nearest : Job → Answer NearestPoint
job_nearest j = nearest j.table j.target (replicate (dimension j.table) (pos 0)) j.radius j.budget

abbrev pub job_list : Job → Answer ListAnswer
job_list j =
    let places = j.settings.places in
    list j.table j.target (replicate places plus_zero) (replicate (dimension j.table * places) (pos 0)) j.radius j.budget

abbrev pub job_ratio : Job → Ratio
job_ratio j = list_ratio j.settings.p j.settings.q (job_list j) j.radius

-- a job's lines, by the check of its settings: those of nearest, of the list and of the ratio, or that of the refusal alone
unfoldable pub job_lines : Verdict → Job → List ℕ
unfolding nearest list list_ratio nearest_line list_lines ratio_line refusal_line
job_lines (refuse e) j = refusal_line (text "job") e.number
job_lines pass j = nearest_line (job_nearest j) ++ list_lines (job_list j) ++ ratio_line (job_ratio j)

-- bytes that are no job give one line alone
unfoldable pub job_text : Layout → List ℕ
unfolding job_lines settings_check refusal_line
job_text (layout_fault offset) = refusal_line (text "job") (job_layout offset).number
job_text (job j) = job_lines (settings_check j.settings) j

-- what the program writes for what it reads
unfoldable pub job_output : List ℕ → List ℕ
unfolding job_text job_of
job_output input = job_text (job_of input)

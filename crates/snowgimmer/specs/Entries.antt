-- The entries checked one at a time over the C interface: the verdict so far as two numbers, and what calls in turn tell. Definitions only.
use Rattle.std.specs.Prelude.{◌≡◌, List, [], ◌∷◌, ℕ}
use Rattle.definitions.specs.Table.{plus_zero}
use Rattle.definitions.specs.Entries.{Entry, fed, given_verdict}
use Rattle.snowgimmer.specs.declared.report.Report.{Report}
use Rattle.snowgimmer.specs.Reports.{told, of_verdict}

-- what a call tells, handed a verdict and one entry more
abbrev pub entry_report : ℕ → ℕ → Entry → Report
entry_report number at e = of_verdict (fed (given_verdict number at) e)

-- what the last of the calls for these entries tells, each handed the number and the index that the one before told, the first those of r
abbrev pub told_from : Report → List Entry → Report
told_from r [] = r
told_from r (e ∷ es) = told_from (entry_report r.number r.first e) es

-- number and at are what the last of the calls for these entries told, made in turn from the start, which is the number 0 with any index
abbrev pub ToldOf : List Entry → ℕ → ℕ → Type 0
ToldOf es number at = (start : ℕ) × (number ≡ (told_from (told 0 start 0 plus_zero) es).number) × (at ≡ (told_from (told 0 start 0 plus_zero) es).first)

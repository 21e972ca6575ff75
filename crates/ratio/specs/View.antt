-- What the code's verdict and its answer stand for. Definitions only.
use Rattle.std.specs.Prelude.{ℕ, Result, Ok, Err}
use Rattle.definitions.specs.Calls.{Answer, found, refused}
use Rattle.definitions.specs.Settings.{Settings}
use Rattle.definitions.specs.Ratio as D
use Rattle.refusals.specs.declared.Refusal.{Refusal}
use Rattle.refusals.specs.Numbers.{numbered}
use Rattle.ratio.specs.declared.Ratio.{Ratio}
use Rattle.ratio.specs.declared.Ratio.TheVariants.{Holds, Fails, Open, None}

abbrev pub settings_of : ℕ → ℕ → ℕ → Settings
settings_of p q places = record { p = p; q = q; places = places }

abbrev pub verdict_of : Ratio → D.Ratio
verdict_of Holds = D.holds
verdict_of Fails = D.fails
verdict_of Open = D.«open»
verdict_of None = D.none

abbrev pub answer_of : Result Ratio Refusal → Answer D.Ratio
answer_of (Ok r) = found (verdict_of r)
answer_of (Err e) = refused (numbered e)

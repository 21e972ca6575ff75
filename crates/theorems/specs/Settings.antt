-- What settings are to be, and which of them refusal 21 tells. Definitions only.
use Rattle.std.specs.Prelude.{ℕ, ◌≤◌}
use Rattle.definitions.specs.Refusals.{setting_range}
use Rattle.definitions.specs.Checks.{Verdict, pass, refuse}
use Rattle.definitions.specs.Settings.{Settings}

-- p, beside q
abbrev pub RightP : ℕ → ℕ → Type 0
RightP p q = (1 ≤ p) × (p ≤ 1000) × (q ≤ p)

abbrev pub RightQ : ℕ → Type 0
RightQ q = (1 ≤ q) × (q ≤ 1000)

abbrev pub RightPlaces : ℕ → Type 0
RightPlaces places = (1 ≤ places) × (places ≤ 256)

-- the verdict on a job's settings: the first that is not right, or a pass
pub data FirstSetting (s : Settings) : Verdict → Type 0 where
  gives_0 : (RightP s.p s.q → ⊥) → FirstSetting s (refuse (setting_range 0))
  gives_1 : RightP s.p s.q → (RightQ s.q → ⊥) → FirstSetting s (refuse (setting_range 1))
  gives_2 : RightP s.p s.q → RightQ s.q → (RightPlaces s.places → ⊥) → FirstSetting s (refuse (setting_range 2))
  passes : RightP s.p s.q → RightQ s.q → RightPlaces s.places → FirstSetting s pass

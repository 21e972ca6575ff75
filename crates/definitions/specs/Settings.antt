-- The settings of a bench and their check: docs/SPECIFICATION.md, "The ratio" and refusal 21. Definitions only.
use Rattle.std.specs.Prelude.{ℕ, zero, suc, ◌≤◌, Bool, ◌||◌, [], ◌∷◌, ltb}
use Rattle.definitions.specs.Refusals.{setting_range}
use Rattle.definitions.specs.Checks.{Verdict, refuse_if, refuse_at_first, count_from, first_refusal}

-- the ratio's factors, p of d1 and q of d2, and the places that the job lends to its list
pub record Settings : Type 0 where
  pub p : ℕ
  pub q : ℕ
  pub places : ℕ

-- those of a job that gives none
abbrev pub defaults : Settings
defaults = record { p = 3; q = 1; places = 256 }

-- the largest p and q
abbrev pub largest_factor : ℕ
largest_factor = 1000

-- the most places of a job's list
abbrev pub largest_places : ℕ
largest_places = 256

-- not from 1 to a limit
abbrev pub outside : ℕ → ℕ → Bool
outside limit setting = ltb setting 1 || ltb limit setting

-- whether a factor is out of range, p's index being 0 and q's 1: a p that is below q is p's fault, whatever q is
abbrev pub factor_fault : ℕ → ℕ → ℕ → Bool
factor_fault p q zero = outside largest_factor p || ltb p q
factor_fault p q (suc i) = outside largest_factor q

-- 21 of the factors, the one check of the call `ratio`
unfoldable pub factors_check : ℕ → ℕ → Verdict
unfolding refuse_at_first count_from
factors_check p q = refuse_at_first (factor_fault p q) setting_range (count_from 0 2)

-- the factors that pass
pub record FactorsInRange (p q : ℕ) : Type 0 where
  pub p_most : p ≤ largest_factor
  pub q_some : 1 ≤ q
  pub q_below : q ≤ p

-- 21 of the places, whose index is 2
abbrev pub places_check : ℕ → Verdict
places_check places = refuse_if (outside largest_places places) (setting_range 2)

-- the settings that pass
pub record SettingsInRange (s : Settings) : Type 0 where
  pub factors : FactorsInRange s.p s.q
  pub places_some : 1 ≤ s.places
  pub places_most : s.places ≤ largest_places

-- all three, as a job gives them
unfoldable pub settings_check : Settings → Verdict
unfolding first_refusal factors_check
settings_check s = first_refusal (factors_check s.p s.q ∷ places_check s.places ∷ [])

-- The numbered refusals, each with its number and what it carries: docs/SPECIFICATION.md, "The numbered refusals". Definitions only.
use Rattle.std.specs.Prelude.{ℕ, List, [], ◌∷◌, Float}

-- what a refusal carries: a length, an index, an offset or a count; or a double
pub data Value : Type 0 where
  whole : ℕ → Value
  real : Float → Value

pub record Refusal : Type 0 where
  pub number : ℕ
  pub values : List Value

-- 1 (an offset, or the input's length)
abbrev pub job_layout : ℕ → Refusal
job_layout offset = record { number = 1; values = whole offset ∷ [] }

-- 2 (the weights' length)
abbrev pub table_size : ℕ → Refusal
table_size weights = record { number = 2; values = whole weights ∷ [] }

-- 3 (the first index)
abbrev pub mu_non_finite : ℕ → Refusal
mu_non_finite index = record { number = 3; values = whole index ∷ [] }

-- 4 (the first index)
abbrev pub mu_range : ℕ → Refusal
mu_range index = record { number = 4; values = whole index ∷ [] }

-- 5 (the first index)
abbrev pub weight_range : ℕ → Refusal
weight_range index = record { number = 5; values = whole index ∷ [] }

-- 6 (the length expected, the length found)
abbrev pub length_mismatch : ℕ → ℕ → Refusal
length_mismatch expected found = record { number = 6; values = whole expected ∷ whole found ∷ [] }

-- 7 (the first index)
abbrev pub non_finite : ℕ → Refusal
non_finite index = record { number = 7; values = whole index ∷ [] }

-- 8 (the radius)
abbrev pub invalid_radius : Float → Refusal
invalid_radius radius = record { number = 8; values = real radius ∷ [] }

-- 9 (the budget)
abbrev pub budget_range : ℕ → Refusal
budget_range budget = record { number = 9; values = whole budget ∷ [] }

-- 10 (n, the length found)
abbrev pub candidate_length : ℕ → ℕ → Refusal
candidate_length expected found = record { number = 10; values = whole expected ∷ whole found ∷ [] }

-- 11 (the sum)
abbrev pub candidate_distance : Float → Refusal
candidate_distance total = record { number = 11; values = real total ∷ [] }

-- 12 (the radius)
abbrev pub candidate_outside : Float → Refusal
candidate_outside radius = record { number = 12; values = real radius ∷ [] }

-- 13 (the widened radius)
abbrev pub widened_radius : Float → Refusal
widened_radius radius = record { number = 13; values = real radius ∷ [] }

-- 14 (the distances' length)
abbrev pub list_size : ℕ → Refusal
list_size distances = record { number = 14; values = whole distances ∷ [] }

-- 15 (the nodes, the standing radius)
abbrev pub budget_exhausted : ℕ → Float → Refusal
budget_exhausted nodes standing = record { number = 15; values = whole nodes ∷ real standing ∷ [] }

-- 16 (the radius)
abbrev pub outside_radius : Float → Refusal
outside_radius radius = record { number = 16; values = real radius ∷ [] }

-- 17 is free: no refusal has it, and none is to be given it

-- 18 (the number of points)
abbrev pub list_full : ℕ → Refusal
list_full points = record { number = 18; values = whole points ∷ [] }

-- 19 (nothing)
abbrev pub reference_index : Refusal
reference_index = record { number = 19; values = [] }

-- 20 (the first index)
abbrev pub changed_range : ℕ → Refusal
changed_range index = record { number = 20; values = whole index ∷ [] }

-- 21 (the first index: 0 of p, 1 of q, 2 of the places)
abbrev pub setting_range : ℕ → Refusal
setting_range index = record { number = 21; values = whole index ∷ [] }

-- 22 (0 for a length; or an element's index, where the inverse's follow the transform's)
abbrev pub matrix_range : ℕ → Refusal
matrix_range index = record { number = 22; values = whole index ∷ [] }

-- 23 (nothing)
abbrev pub not_inverse : Refusal
not_inverse = record { number = 23; values = [] }

-- 24 (the first column)
abbrev pub mapped_range : ℕ → Refusal
mapped_range column = record { number = 24; values = whole column ∷ [] }

-- 25 (nothing)
abbrev pub name_range : Refusal
name_range = record { number = 25; values = [] }

-- 26 (nothing)
abbrev pub name_empty : Refusal
name_empty = record { number = 26; values = [] }

-- 27 (the sum, or the largest number that can be told)
abbrev pub sum_range : ℕ → Refusal
sum_range sum = record { number = 27; values = whole sum ∷ [] }

-- 28 (nothing)
abbrev pub slice_range : Refusal
slice_range = record { number = 28; values = [] }

-- 29 (nothing)
abbrev pub none_held : Refusal
none_held = record { number = 29; values = [] }

-- 30 (nothing)
abbrev pub epochs_size : Refusal
epochs_size = record { number = 30; values = [] }

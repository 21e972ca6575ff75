-- The job's bytes: docs/SPECIFICATION.md, "Job program" and refusal 1. A byte is a number below 256. Definitions only.
use Rattle.std.specs.Prelude.{ℕ, zero, suc, ◌+◌, ◌-◌, ◌*◌, ◌/◌, Bool, cond, List, [], ◌∷◌, ◌++◌, map, leb, ltb, eqb, length, get_or, take, drop, replicate, Float}
use Rattle.std.specs.Float.{binary64}
use Rattle.std.specs.Float.Ieee.{of_bits}
use Rattle.definitions.specs.Table.{Table, plus_zero, largest_dimension}
use Rattle.definitions.specs.Settings.{Settings, defaults}

-- the number in these bytes, little-endian
unfoldable pub little_endian : List ℕ → ℕ
little_endian [] = 0
little_endian (b ∷ bytes) = b + 256 * little_endian bytes

-- the number in so many bytes at an offset
unfoldable pub number_at : List ℕ → ℕ → ℕ → ℕ
unfolding little_endian
number_at input offset size = little_endian (take size (drop offset input))

-- so many items of 8 bytes each, from an offset on
unfoldable pub items_at : List ℕ → ℕ → ℕ → List ℕ
unfolding number_at
items_at input offset zero = []
items_at input offset (suc k) = number_at input offset 8 ∷ items_at input (offset + 8) k

-- a section's items and the offset after it, or the value of refusal 1
pub data Section : Type 0 where
  items : List ℕ → ℕ → Section
  section_fault : ℕ → Section

-- a section at an offset: a count of 4 bytes, then its items; `right` says which counts are not wrong
unfoldable pub section : List ℕ → (ℕ → Bool) → ℕ → Section
unfolding number_at items_at
section input right offset =
    let count = number_at input offset 4 in
    let end = offset + 4 + 8 * count in
    cond (ltb (length input) (offset + 4)) (section_fault (length input))
    (cond (right count)
    (cond (ltb (length input) end) (section_fault (length input)) (items (items_at input (offset + 4) count) end))
    (section_fault offset))

pub record Job : Type 0 where
  pub table : Table
  pub target : List Float
  pub radius : Float
  pub budget : ℕ
  pub settings : Settings

-- a job, or the value of refusal 1
pub data Layout : Type 0 where
  job : Job → Layout
  layout_fault : ℕ → Layout

-- go on with a section's items and the offset after it
unfoldable pub and_then : Section → (List ℕ → ℕ → Layout) → Layout
and_then (section_fault offset) go = layout_fault offset
and_then (items xs offset) go = go xs offset

-- doubles, each by its bits
abbrev pub doubles : List ℕ → List Float
doubles patterns = map (of_bits binary64) patterns

-- n(n-1)/2
abbrev pub triangle : ℕ → ℕ
triangle n = n * (n - 1) / 2

-- the rows below j of the n·n entries: row j has its j entries and then zeros, which are not read
unfoldable pub mu_rows : ℕ → List Float → ℕ → List Float
mu_rows n entries zero = []
mu_rows n entries (suc j) = mu_rows n entries j ++ take j (drop (triangle j) entries) ++ replicate (n - j) plus_zero

-- the settings at an offset: where the bytes end there, the default ones; else a section of three
unfoldable pub settings_section : List ℕ → ℕ → Section
unfolding section
settings_section input offset =
    cond (ltb offset (length input)) (section input (eqb 3) offset) (items (defaults.p ∷ defaults.q ∷ defaults.places ∷ []) offset)

-- the sections of weights, mu, target, radius, budget and, if bytes are left, settings, and nothing after them
unfoldable pub job_of : List ℕ → Layout
unfolding section settings_section and_then mu_rows of_bits
job_of input =
    and_then (section input (λ count. leb count largest_dimension) 0) λ weights mu_at.
    let n = length weights in
    and_then (section input (eqb (triangle n)) mu_at) λ mu target_at.
    and_then (section input (eqb n) target_at) λ target radius_at.
    and_then (section input (eqb 1) radius_at) λ radius budget_at.
    and_then (section input (eqb 1) budget_at) λ budget settings_at.
    and_then (settings_section input settings_at) λ settings end.
    cond (ltb end (length input)) (layout_fault end)
    (job
    (record {
      table = record { weights = doubles weights; mu = mu_rows n (doubles mu) n };
      target = doubles target;
      radius = of_bits binary64 (get_or radius 0 0);
      budget = get_or budget 0 0;
      settings = record { p = get_or settings 0 0; q = get_or settings 1 0; places = get_or settings 2 0 };
    }))

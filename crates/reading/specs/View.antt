-- What the code's sections and its job stand for. Definitions only.
use Rattle.std.specs.Prelude.{Result, Ok, Err, IfOk, ℕ, ◌+◌, ◌*◌, ◌≤◌, ◌<◌, Bool, ◌&&◌, cond, List, ◌≡◌, T, leb, ltb, eqb, length, get_or, take}
use Rattle.std.specs.Float.{binary64, nan}
use Rattle.std.specs.Float.Ieee.{fits, of_bits}
use Rattle.definitions.specs.Table.{table, largest_dimension}
use Rattle.definitions.specs.Settings.{Settings, defaults}
use Rattle.definitions.specs.JobLayout.{items, section_fault, number_at, items_at, doubles, triangle, mu_rows, job, layout_fault}
use Rattle.definitions.specs.JobLayout as D
use Rattle.reading.specs.declared.Section.{Section}
use Rattle.reading.specs.declared.LayoutFault.{LayoutFault}
use Rattle.reading.specs.declared.Settings.{Settings as Read}
use Rattle.reading.specs.declared.Job.{Job}

-- ---- sections

-- the counts from low to high
abbrev pub within : ℕ → ℕ → ℕ → Bool
within low high count = leb low count && leb count high

-- a section as the code knows it: the number of its items, and where it ends
abbrev pub items_to : ℕ → ℕ → Result Section LayoutFault
items_to n end = Ok (record { count = n; end = end })

-- a fault, with the value of refusal 1
abbrev pub fault : {A : Type 0} → ℕ → Result A LayoutFault
fault value = Err (record { value = value })

abbrev pub section_of : D.Section → Result Section LayoutFault
section_of (items xs end) = items_to (length xs) end
section_of (section_fault value) = fault value

-- the section after another, by its count; a fault stays
abbrev pub next_section : List ℕ → ℕ → Result Section LayoutFault → Result Section LayoutFault
next_section input count (Ok s) = section_of (D.section input (eqb count) s.end)
next_section input count (Err e) = Err e

-- the settings' section after another, given or not; a fault stays
abbrev pub next_settings : List ℕ → Result Section LayoutFault → Result Section LayoutFault
next_settings input (Ok s) = section_of (D.settings_section input s.end)
next_settings input (Err e) = Err e

-- a section ends within the input
abbrev pub EndsWithin : List ℕ → Result Section LayoutFault → Type 0
EndsWithin input (Ok s) = s.end ≤ length input
EndsWithin input (Err e) = Unit {0}

-- a section that is s
pub record SectionIs (input : List ℕ) (s r : Result Section LayoutFault) : Type 0 where
  pub means : r ≡ s
  pub ends : EndsWithin input r

-- where a section ends: a count of 4 bytes, then items of 8
abbrev pub section_end : ℕ → ℕ → ℕ
section_end offset count = offset + 4 + 8 * count

-- ---- the whole layout

-- where the sections of a job of n weights begin; where the settings' would, its bytes may end
abbrev pub mu_at : ℕ → ℕ
mu_at n = section_end 0 n

abbrev pub target_at : ℕ → ℕ
target_at n = section_end (mu_at n) (triangle n)

abbrev pub radius_at : ℕ → ℕ
radius_at n = section_end (target_at n) n

abbrev pub budget_at : ℕ → ℕ
budget_at n = section_end (radius_at n) 1

abbrev pub settings_at : ℕ → ℕ
settings_at n = section_end (budget_at n) 1

-- the layout by its last section: bytes after it are a fault, whose value is the offset of the first
abbrev pub layout_by_last : List ℕ → ℕ → Result Section LayoutFault → Result ℕ LayoutFault
layout_by_last input n (Ok s) = cond (ltb s.end (length input)) (fault s.end) (Ok n)
layout_by_last input n (Err e) = Err e

-- the settings of a section at an offset, or the default ones where no bytes are left
abbrev pub settings_in : List ℕ → ℕ → Settings
settings_in input at =
    cond (ltb at (length input)) (record { p = number_at input (at + 4) 8; q = number_at input (at + 12) 8; places = number_at input (at + 20) 8 }) defaults

-- where bytes are left at an offset, they have a section of three settings
abbrev pub SettingsWithin : List ℕ → ℕ → Type 0
SettingsWithin input at = at < length input → section_end at 3 ≤ length input

-- the job of n weights in these bytes
abbrev pub job_at : List ℕ → ℕ → D.Job
job_at input n =
    record {
      table = record { weights = doubles (items_at input (0 + 4) n); mu = mu_rows n (doubles (items_at input (mu_at n + 4) (triangle n))) n };
      target = doubles (items_at input (target_at n + 4) n);
      radius = of_bits binary64 (number_at input (radius_at n + 4) 8);
      budget = number_at input (budget_at n + 4) 8;
      settings = settings_in input (settings_at n);
    }

-- a layout as the definitions have it
abbrev pub layout_of : List ℕ → Result ℕ LayoutFault → D.Layout
layout_of input (Ok n) = job (job_at input n)
layout_of input (Err e) = layout_fault e.value

-- n is within its limit, and the input has the bytes of a job of n weights
pub record JobBytes (input : List ℕ) (n : ℕ) : Type 0 where
  pub small : n ≤ largest_dimension
  pub fits : settings_at n ≤ length input
  pub settings : SettingsWithin input (settings_at n)

-- of a whole layout
abbrev pub Sized : List ℕ → Result ℕ LayoutFault → Type 0
Sized input (Ok n) = JobBytes input n
Sized input (Err e) = Unit {0}

-- a layout that stands for l
pub record LayoutIs (input : List ℕ) (l : D.Layout) (r : Result ℕ LayoutFault) : Type 0 where
  pub means : layout_of input r ≡ l
  pub size : Sized input r

-- ---- the job

-- settings that were read, as the definitions have them
abbrev pub settings_read : Read → Settings
settings_read s = record { p = s.p; q = s.q; places = s.places }

-- the parts of a job that was read, as the definitions' job
abbrev pub job_read : Job → D.Job
job_read j =
    record {
      table = table (take j.n j.weights) (take (j.n * j.n) j.mu);
      target = take j.n j.target;
      radius = j.radius;
      budget = j.budget;
      settings = settings_read j.settings;
    }

-- what was read, as the definitions' layout
abbrev pub layout_read : Result Job LayoutFault → D.Layout
layout_read (Ok j) = job (job_read j)
layout_read (Err e) = layout_fault e.value

-- n is within its limit, the arrays have their lengths, and the weights are doubles
pub record JobShape (j : Job) : Type 0 where
  pub small : j.n ≤ largest_dimension
  pub weights : length j.weights ≡ largest_dimension
  pub mu : length j.mu ≡ largest_dimension * largest_dimension
  pub target : length j.target ≡ largest_dimension
  pub doubles : (i : ℕ) → T (fits binary64 (get_or (take j.n j.weights) i nan))

-- what was read stands for l, and a job has its shape
pub record JobIs (l : D.Layout) (r : Result Job LayoutFault) : Type 0 where
  pub means : layout_read r ≡ l
  pub shape : IfOk r JobShape

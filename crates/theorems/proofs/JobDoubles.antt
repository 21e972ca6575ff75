-- What a job's bytes are read as is made of doubles, and its dimension is at most 23. Assumes nothing.
use mathlib.Core.Path.{◌≡◌, refl, ap, ◌∙◌, subst}
use mathlib.Core.Bool.{Bool, true, false, cond}
use mathlib.Core.List.{List, [], ◌∷◌}
use Prim.Native.Nat.{ℕ, zero, suc, ◌+◌, ◌-◌, ◌*◌, ◌≤◌}
use native.Mathlib.Omega.{arith}
use borrow.Author.Tests.{leb-true}
use lib.Dec.{T, leb, ltb, eqb}
use lib.ListN.{length, get_or, replicate, length-map}
use lib.Ieee.{Float, binary64, of_bits, fits}
use lib.Ieee.Bits.{of_bits-fits}
use lib.Ieee.Fits.{and_i}
use Rattle.rounding.proofs.Interface.{zero_nonneg}
use Rattle.lists.specs.All.{none, more}
use Rattle.lists.proofs.Each.{all_take, all_drop, all_append}
use Rattle.definitions.specs.Table.{dimension, plus_zero, largest_dimension}
use Rattle.definitions.specs.JobLayout.{number_at, items_at, Section, items, section_fault, section, settings_section, Job, Layout, job, layout_fault, and_then, doubles, triangle, mu_rows, job_of}
use Rattle.definitions.proofs.JobSections.{length_items}
use Rattle.theorems.specs.Doubles.{all_doubles, of_doubles}
use Rattle.theorems.proofs.Doubles.{AllDouble, doubles_tested}

-- ---- lists of doubles
-- whatever the bits
bits_double : (patterns : List ℕ) → AllDouble (doubles patterns)
bits_double [] = none
bits_double (b ∷ patterns) = more (of_bits-fits binary64 b) (bits_double patterns)

zeros_double : (k : ℕ) → AllDouble (replicate k plus_zero)
zeros_double zero = none
zeros_double (suc k) = more (zero_nonneg binary64).num.fit (zeros_double k)

rows_double : (n : ℕ) {entries : List Float} → AllDouble entries → (j : ℕ) → AllDouble (mu_rows n entries j)
unfolding mu_rows
rows_double n a zero = none
rows_double n a (suc j) = all_append (all_append (rows_double n a j) (all_take j (all_drop (triangle j) a))) (zeros_double (n - j))

-- ---- a section's count is right
abbrev Right : (ℕ → Bool) → Section → Type 0
Right right (section_fault offset) = Unit {0}
Right right (items xs offset) = right (length xs) ≡ true

right_count : (input : List ℕ) (right : ℕ → Bool) (offset : ℕ) → Right right (section input right offset)
unfolding section
right_count input right offset = short (ltb (length input) (offset + 4))
  where
    count : ℕ
    count = number_at input offset 4

    whole : (b : Bool) → right count ≡ true → Right right (cond b (section_fault (length input)) (items (items_at input (offset + 4) count) (offset + 4 + 8 * count)))
    whole true e = tt
    whole false e = ap right (length_items input (offset + 4) count) ∙ e

    counted : (b : Bool) → right count ≡ b → Right right (cond b (cond (ltb (length input) (offset + 4 + 8 * count)) (section_fault (length input)) (items (items_at input (offset + 4) count) (offset + 4 + 8 * count))) (section_fault offset))
    counted true e = whole (ltb (length input) (offset + 4 + 8 * count)) e
    counted false e = tt

    short : (b : Bool) → Right right (cond b (section_fault (length input)) (cond (right count) (cond (ltb (length input) (offset + 4 + 8 * count)) (section_fault (length input)) (items (items_at input (offset + 4) count) (offset + 4 + 8 * count))) (section_fault offset)))
    short true = tt
    short false = counted (right count) refl

-- ---- layouts of doubles: the job, if there is one, is made of doubles, with at most 23 weights
abbrev OfDoubles : Layout → Type 0
OfDoubles (layout_fault offset) = Unit {0}
OfDoubles (job j) = T (of_doubles j.table j.target) × T (fits binary64 j.radius) × (dimension j.table ≤ largest_dimension)

after_section : (s : Section) (go : List ℕ → ℕ → Layout) → ((xs : List ℕ) (offset : ℕ) → OfDoubles (go xs offset)) → OfDoubles (and_then s go)
unfolding and_then
after_section (section_fault offset) go next = tt
after_section (items xs offset) go next = next xs offset

-- the same where the count matters
after_right : (right : ℕ → Bool) (s : Section) → Right right s → (go : List ℕ → ℕ → Layout) → ((xs : List ℕ) (offset : ℕ) → right (length xs) ≡ true → OfDoubles (go xs offset)) → OfDoubles (and_then s go)
unfolding and_then
after_right right (section_fault offset) r go next = tt
after_right right (items xs offset) r go next = next xs offset r

at_end : (surplus : Bool) (end : ℕ) (j : Job) → AllDouble j.table.weights → AllDouble j.table.mu → AllDouble j.target → T (fits binary64 j.radius) → dimension j.table ≤ largest_dimension → OfDoubles (cond surplus (layout_fault end) (job j))
at_end true end j w m t r small = tt
at_end false end j w m t r small =
    (and_i (all_doubles j.table.weights) _ (doubles_tested w) (and_i (all_doubles j.table.mu) (all_doubles j.target) (doubles_tested m) (doubles_tested t)), r, small)

layout_doubles : (input : List ℕ) → OfDoubles (job_of input)
unfolding job_of
layout_doubles input =
    after_right (λ count. leb count largest_dimension) (section input (λ count. leb count largest_dimension) 0) (right_count input (λ count. leb count largest_dimension) 0) _ λ weights mu_at few.
    let n = length weights in
    after_section (section input (eqb (triangle n)) mu_at) _ λ mu target_at.
    after_section (section input (eqb n) target_at) _ λ target radius_at.
    after_section (section input (eqb 1) radius_at) _ λ radius budget_at.
    after_section (section input (eqb 1) budget_at) _ λ budget settings_at.
    after_section (settings_section input settings_at) _ λ settings end.
    at_end (ltb end (length input)) end _ (bits_double weights) (rows_double n (bits_double mu) n) (bits_double target) (of_bits-fits binary64 (get_or radius 0 0)) (omega (arith, leb-true n largest_dimension few, length-map weights (of_bits binary64)))

pub job_doubles : (input : List ℕ) (j : Job) → job_of input ≡ job j → T (of_doubles j.table j.target) × T (fits binary64 j.radius)
job_doubles input j e = let r = subst OfDoubles e (layout_doubles input) in (r.0, r.1)

pub job_small : (input : List ℕ) (j : Job) → job_of input ≡ job j → dimension j.table ≤ 23
job_small input j e = (subst OfDoubles e (layout_doubles input)).2

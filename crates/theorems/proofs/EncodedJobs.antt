-- A job's bytes read as the job, with settings and without. Assumes nothing.
use mathlib.Core.Path.{◌≡◌, refl, ap, sym, ◌∙◌}
use mathlib.Core.List.{List, [], ◌∷◌, ◌++◌, append_assoc, append-nil, map}
use Prim.Native.Nat.{ℕ, zero, suc, ◌*◌}
use native.Mathlib.Omega.{arith}
use lib.ListN.{length, length-map}
use lib.Ieee.{Float, binary64, to_bits}
use lib.Ieee.Bits.{of_bits-to_bits, to_bits-lt}
use lib.Ieee.Fits.{and_l, and_r}
use Rattle.lists.specs.All.{none, more}
use Rattle.lists.proofs.Each.{all_take, all_drop, all_append}
use Rattle.definitions.specs.Table.{dimension}
use Rattle.definitions.specs.JobLayout.{Job, job, doubles, mu_rows, triangle, job_of}
use Rattle.definitions.specs.JobEncoding.{section_bytes, doubles_bytes, read_entries, five_sections, job_bytes}
use Rattle.theorems.specs.Doubles.{all_doubles}
use Rattle.theorems.specs.EncodedJob.{Encodable}
use Rattle.theorems.proofs.Doubles.{AllDouble, all_double}
use Rattle.theorems.proofs.EncodedSections.{AllSmall, SettingsRead, default_read, given_read, sections_read}
use Rattle.theorems.proofs.EncodedRows.{entries_length, rows_read}

-- ---- doubles by their bits
abbrev bits : List Float → List ℕ
bits xs = map (to_bits binary64) xs

bits_small : {xs : List Float} → AllDouble xs → AllSmall (bits xs)
bits_small none = none
bits_small (more {x = x} h a) = more (to_bits-lt binary64 x h) (bits_small a)

bits_back : {xs : List Float} → AllDouble xs → doubles (bits xs) ≡ xs
bits_back none = refl
bits_back (more {x = x} h a) = λ i. of_bits-to_bits binary64 x h i ∷ bits_back a i

entries_double : (n : ℕ) (mu : List Float) → AllDouble mu → (j : ℕ) → AllDouble (read_entries n mu j)
unfolding read_entries
entries_double n mu a zero = none
entries_double n mu a (suc j) = all_append (entries_double n mu a j) (all_take j (all_drop (j * n) a))

regroup : (a b c d e f : List ℕ) → ((((a ++ b) ++ c) ++ d) ++ e) ++ f ≡ a ++ (b ++ (c ++ (d ++ (e ++ f))))
regroup a b c d e f = simp append_assoc

module _ (j : Job) (encodable : Encodable j) where
  abbrev n : ℕ
  n = dimension j.table

  abbrev entries : List Float
  entries = read_entries n j.table.mu n

  weights_double : AllDouble j.table.weights
  weights_double = all_double j.table.weights (and_l (all_doubles j.table.weights) _ encodable.doubles)

  mu_double : AllDouble j.table.mu
  mu_double = all_double j.table.mu (and_l (all_doubles j.table.mu) (all_doubles j.target) (and_r (all_doubles j.table.weights) _ encodable.doubles))

  target_double : AllDouble j.target
  target_double = all_double j.target (and_r (all_doubles j.table.mu) (all_doubles j.target) (and_r (all_doubles j.table.weights) _ encodable.doubles))

  settings_small : AllSmall (j.settings.p ∷ j.settings.q ∷ j.settings.places ∷ [])
  settings_small = more encodable.p_small (more encodable.q_small (more encodable.places_small none))

  -- the bytes, section after section, before others
  parts : (bytes : List ℕ) → five_sections j ++ bytes ≡ section_bytes (bits j.table.weights) ++ (section_bytes (bits entries) ++ (section_bytes (bits j.target) ++ (section_bytes (to_bits binary64 j.radius ∷ []) ++ (section_bytes (j.budget ∷ []) ++ bytes))))
  unfolding five_sections
  parts bytes = regroup (doubles_bytes j.table.weights) (doubles_bytes entries) (doubles_bytes j.target) (doubles_bytes (j.radius ∷ [])) (section_bytes (j.budget ∷ [])) bytes

  -- the five sections before bytes that are read as these settings
  read_back : (bytes : List ℕ) (p q places : ℕ) → SettingsRead (five_sections j ++ bytes) bytes (p ∷ q ∷ places ∷ []) → job_of (five_sections j ++ bytes) ≡ job (record { table = j.table; target = j.target; radius = j.radius; budget = j.budget; settings = record { p = p; q = q; places = places } })
  read_back bytes p q places settings =
      let shape = encodable.shape in
      let weights = bits j.table.weights in
      let n_read : length weights ≡ n = length-map j.table.weights (to_bits binary64) in
      let mu_read : length (bits entries) ≡ triangle n = length-map entries (to_bits binary64) ∙ entries_length n j.table.mu shape.square n (omega arith) in
      let target_read : length (bits j.target) ≡ n = length-map j.target (to_bits binary64) ∙ shape.target_length in
      let entries_are = entries_double n j.table.mu mu_double n in
      let radius_is = more encodable.radius_double none in
      sections_read (five_sections j ++ bytes) weights (bits entries) (bits j.target) (to_bits binary64 j.radius) j.budget bytes p q places (parts bytes) settings
      (omega (arith, n_read, shape.small))
      (mu_read ∙ ap triangle (sym n_read))
      (target_read ∙ sym n_read)
      (bits_small weights_double)
      (bits_small entries_are)
      (bits_small target_double)
      (bits_small radius_is)
      (more encodable.budget_small none)
      ∙ (λ i. job (record {
        table = record { weights = bits_back weights_double i; mu = mu_rows (n_read i) (bits_back entries_are i) (n_read i) };
        target = bits_back target_double i;
        radius = of_bits-to_bits binary64 j.radius encodable.radius_double i;
        budget = j.budget;
        settings = record { p = p; q = q; places = places };
      }))
      ∙ (λ i. job (record {
        table = record { weights = j.table.weights; mu = rows_read n j.table.mu shape.square encodable.unread i };
        target = j.target;
        radius = j.radius;
        budget = j.budget;
        settings = record { p = p; q = q; places = places };
      }))

  -- with its settings
  pub job_read_back : job_of (job_bytes j) ≡ job j
  unfolding job_bytes
  job_read_back = read_back _ j.settings.p j.settings.q j.settings.places (given_read (job_bytes j) j.settings.p j.settings.q j.settings.places settings_small)

  -- without settings, which are then 3, 1 and 256
  pub five_read_back : j.settings ≡ record { p = 3; q = 1; places = 256 } → job_of (five_sections j) ≡ job j
  five_read_back same =
      ap job_of (sym (append-nil (five_sections j)))
      ∙ read_back [] 3 1 256 (default_read (five_sections j ++ []))
      ∙ (λ i. job (record { table = j.table; target = j.target; radius = j.radius; budget = j.budget; settings = sym same i }))

-- A job as its bytes: docs/SPECIFICATION.md, "Job program". `job_of` reads them. Definitions only.
use Rattle.std.specs.Prelude.{ℕ, zero, suc, ◌*◌, ◌/◌, ◌%◌, List, [], ◌∷◌, ◌++◌, map, length, take, drop, Float}
use Rattle.std.specs.Float.{binary64}
use Rattle.std.specs.Float.Ieee.{to_bits}
use Rattle.definitions.specs.Table.{dimension}
use Rattle.definitions.specs.JobLayout.{Job}

-- a number in so many bytes, little-endian
unfoldable pub number_bytes : ℕ → ℕ → List ℕ
number_bytes zero x = []
number_bytes (suc size) x = x % 256 ∷ number_bytes size (x / 256)

-- items of 8 bytes each
unfoldable pub item_bytes : List ℕ → List ℕ
unfolding number_bytes
item_bytes [] = []
item_bytes (x ∷ xs) = number_bytes 8 x ++ item_bytes xs

-- a section: its count in 4 bytes, then its items
unfoldable pub section_bytes : List ℕ → List ℕ
unfolding item_bytes
section_bytes xs = number_bytes 4 (length xs) ++ item_bytes xs

-- a section of doubles, each by its bits
unfoldable pub doubles_bytes : List Float → List ℕ
unfolding section_bytes to_bits
doubles_bytes xs = section_bytes (map (to_bits binary64) xs)

-- mu's entries that are read, of the rows below j, a row after the other
unfoldable pub read_entries : ℕ → List Float → ℕ → List Float
read_entries n mu zero = []
read_entries n mu (suc j) = read_entries n mu j ++ take j (drop (j * n) mu)

-- the five sections: weights, mu, target, radius, budget
unfoldable pub five_sections : Job → List ℕ
unfolding doubles_bytes read_entries
five_sections j =
    let n = dimension j.table in
    doubles_bytes j.table.weights
    ++ doubles_bytes (read_entries n j.table.mu n)
    ++ doubles_bytes j.target
    ++ doubles_bytes (j.radius ∷ [])
    ++ section_bytes (j.budget ∷ [])

-- and the settings
unfoldable pub job_bytes : Job → List ℕ
unfolding five_sections section_bytes
job_bytes j = five_sections j ++ section_bytes (j.settings.p ∷ j.settings.q ∷ j.settings.places ∷ [])

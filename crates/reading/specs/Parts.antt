-- Numbers and items within a job's bytes. Definitions only.
use Rattle.std.specs.Prelude.{◌≡◌, List, ℕ, ◌+◌, ◌*◌, ◌^◌, ◌≤◌, ◌<◌, length, take, replicate, Float}
use Rattle.definitions.specs.Table.{plus_zero, largest_dimension}
use Rattle.definitions.specs.JobLayout.{number_at, triangle}

-- a number of at most 8 bytes lies within the input
pub record NumberWithin (input : List ℕ) (offset size : ℕ) : Type 0 where
  pub few : size ≤ 8
  pub fits : offset + size ≤ length input

-- its value
pub record NumberIs (input : List ℕ) (offset size r : ℕ) : Type 0 where
  pub value : r ≡ number_at input offset size
  pub bound : r < 2 ^ (8 * size)

-- n is within its limit, and so many items of a section lie within the input
pub record ItemsWithin (input : List ℕ) (section n count : ℕ) : Type 0 where
  pub small : n ≤ largest_dimension
  pub fits : section + 4 + 8 * count ≤ length input

-- mu's entries lie within the input, and zeros where its rows go
pub record RowsWithin (input : List ℕ) (section n : ℕ) (mu : List Float) : Type 0 where
  pub items : ItemsWithin input section n (triangle n)
  pub zeros : mu ≡ replicate (n * n) plus_zero

-- an array whose first places hold a list
pub record ArrayHolds {A : Type 0} (all places : ℕ) (xs array : List A) : Type 0 where
  pub size : length array ≡ all
  pub first : take places array ≡ xs

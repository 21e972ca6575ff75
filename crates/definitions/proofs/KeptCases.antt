-- Case G put down and picked up: under the name 3 of an empty block, by the calls themselves, proved by evaluation. Assumes nothing.
use mathlib.Core.Path.{◌≡◌, refl}
use Prim.Native.Nat.{◌+◌, ◌-◌, ◌^◌}
use mathlib.Core.Bool.{false}
use mathlib.Core.List.{List, [], ◌∷◌}
use lib.ListN.{replicate}
use lib.IntN.{ℤ, pos, negsuc}
use lib.Ieee.{Float, fin}
use Rattle.definitions.specs.Table.{Table, plus_zero, one}
use Rattle.definitions.specs.Refusals.{length_mismatch, budget_exhausted, name_range, name_empty, sum_range}
use Rattle.definitions.specs.Calls.{found, refused}
use Rattle.definitions.specs.Block.{Block}
use Rattle.definitions.specs.Named.{nearest_named, block_after_named, pick_up, block_after_pick_up}

abbrev half : Float
half = fin false 1 (negsuc 0)

abbrev pub quarter : Float
quarter = fin false 1 (negsuc 1)

abbrev pub two : Float
two = fin false 1 (pos 1)

abbrev pub table_g : Table
table_g = record { weights = one ∷ one ∷ []; mu = plus_zero ∷ plus_zero ∷ half ∷ plus_zero ∷ [] }

abbrev pub target_g : List Float
target_g = quarter ∷ half ∷ []

abbrev pub empty : Block
empty = record { reals = replicate 5168 plus_zero; integers = replicate 736 (pos 0); counts = replicate 768 0 }

-- the output as it is lent
abbrev out : List ℤ
out = pos 7 ∷ pos 7 ∷ []

-- with a budget of 2 it is put down
first : nearest_named empty 3 table_g target_g out two 2 ≡ refused (budget_exhausted 2 quarter)
unfolding nearest_named
first = refl

-- picked up with 3 it ends at [0, 1], with 5 nodes in all
then_three : pick_up (block_after_named empty 3 table_g target_g out two 2) 3 out 3 ≡ found (record { nodes = 5; distance = quarter; point = pos 0 ∷ pos 1 ∷ [] })
unfolding pick_up block_after_named
then_three = refl

-- with 2 it is put down again, with 4
then_two : pick_up (block_after_named empty 3 table_g target_g out two 2) 3 out 2 ≡ refused (budget_exhausted 4 quarter)
unfolding pick_up block_after_named
then_two = refl

-- a search that is over has emptied its name, one that is put down again has not
three_empties : pick_up (block_after_pick_up (block_after_named empty 3 table_g target_g out two 2) 3 out 3) 3 out 0 ≡ refused name_empty
unfolding pick_up block_after_pick_up block_after_named
three_empties = refl

two_keeps : pick_up (block_after_pick_up (block_after_named empty 3 table_g target_g out two 2) 3 out 2) 3 out 1 ≡ found (record { nodes = 5; distance = quarter; point = pos 0 ∷ pos 1 ∷ [] })
unfolding pick_up block_after_pick_up block_after_named
two_keeps = refl

-- a fresh call under the name that finds its point leaves the search that is kept there
fresh_leaves : pick_up (block_after_named (block_after_named empty 3 table_g target_g out two 2) 3 table_g target_g out two 5) 3 out 3 ≡ found (record { nodes = 5; distance = quarter; point = pos 0 ∷ pos 1 ∷ [] })
unfolding pick_up block_after_named
fresh_leaves = refl

-- the sums that 27 tells
sum_refused : pick_up (block_after_named empty 3 table_g target_g out two 2) 3 out (2 ^ 60 - 1) ≡ refused (sum_range (2 ^ 60 + 1))
unfolding pick_up block_after_named
sum_refused = refl

largest_sum : pick_up (block_after_named empty 3 table_g target_g out two 2) 3 out (2 ^ 64 - 1) ≡ refused (sum_range (2 ^ 64 - 1))
unfolding pick_up block_after_named
largest_sum = refl

-- 25 before 6 of the block, and that before 26
name_first : pick_up (record { reals = []; integers = []; counts = [] }) 9 out 0 ≡ refused name_range
unfolding pick_up
name_first = refl

block_next : pick_up (record { reals = replicate 5168 plus_zero; integers = replicate 735 (pos 0); counts = replicate 768 0 }) 8 out 0 ≡ refused (length_mismatch 736 735)
unfolding pick_up
block_next = refl

-- 6 of the output after 26, and before 27
output_then : pick_up (block_after_named empty 3 table_g target_g out two 2) 3 [] (2 ^ 64 - 1) ≡ refused (length_mismatch 2 0)
unfolding pick_up block_after_named
output_then = refl

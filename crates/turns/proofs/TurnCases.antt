-- Case G under every name, served in turns: by the calls themselves, proved by evaluation. Assumes nothing.
use mathlib.Core.Path.{◌≡◌, refl}
use Prim.Native.Nat.{ℕ, zero, suc, ◌+◌, ◌-◌, ◌^◌}
use mathlib.Core.List.{List, [], ◌∷◌}
use lib.ListN.{replicate, set}
use lib.IntN.{ℤ, pos}
use Rattle.definitions.specs.Table.{plus_zero}
use Rattle.definitions.specs.Refusals.{length_mismatch, budget_exhausted, slice_range, none_held, name_empty}
use Rattle.definitions.specs.Calls.{Answer, found, refused, NearestPoint}
use Rattle.definitions.specs.Block.{Block}
use Rattle.definitions.specs.Named.{block_after_named, pick_up}
use Rattle.definitions.proofs.KeptCases.{quarter, two, table_g, target_g, empty}
use Rattle.definitions.specs.Turn.{Turn, turn, block_after_turn, last_after_turn, turn_output}

-- G is kept under a name, by a budget of 2
abbrev kept_g : Block → ℕ → Block
kept_g b name = block_after_named b name table_g target_g (pos 7 ∷ pos 7 ∷ []) two 2

abbrev places : List ℤ
places = replicate 23 (pos 7)

-- the block after so many turns of a slice, and the name last served
abbrev turns_leave : ℕ → ℕ → Block → ℕ → Block
turns_leave slice zero b last = b
turns_leave slice (suc k) b last = turns_leave slice k (block_after_turn b last places slice) (last_after_turn b last places slice)

abbrev last_served : ℕ → ℕ → Block → ℕ → ℕ
last_served slice zero b last = last
last_served slice (suc k) b last = last_served slice k (block_after_turn b last places slice) (last_after_turn b last places slice)

-- the turn after so many
abbrev turn_after : ℕ → ℕ → Block → Turn
turn_after slice k b = turn (turns_leave slice k b 0) (last_served slice k b 0) places slice

abbrev found_g : Answer NearestPoint
found_g = found (record { nodes = 5; distance = quarter; point = pos 0 ∷ pos 1 ∷ [] })

abbrev all : Block
all = kept_g (kept_g (kept_g (kept_g (kept_g (kept_g (kept_g (kept_g empty 1) 2) 3) 4) 5) 6) 7) 8

-- a slice of 3 ends G: the first turn serves 1, and 8 comes last, with the eighth turn
first_of_eight : turn_after 3 0 all ≡ record { name = 1; n = 2; answer = found_g }
unfolding turn block_after_named
first_of_eight = refl

eighth_of_eight : turn_after 3 7 all ≡ record { name = 8; n = 2; answer = found_g }
unfolding turn block_after_turn last_after_turn block_after_named
eighth_of_eight = refl

-- a slice of 2 does not: each is kept once more, and 8 ends with the sixteenth turn
eighth_of_sixteen : turn_after 2 7 all ≡ record { name = 8; n = 2; answer = refused (budget_exhausted 4 quarter) }
unfolding turn block_after_turn last_after_turn block_after_named
eighth_of_sixteen = refl

last_of_sixteen : turn_after 2 15 all ≡ record { name = 8; n = 2; answer = found_g }
unfolding turn block_after_turn last_after_turn block_after_named
last_of_sixteen = refl

-- 2 and 5 are held: they take turns, and 2 follows 5
abbrev pair : Block
pair = kept_g (kept_g empty 2) 5

second_of_pair : turn_after 1 1 pair ≡ record { name = 5; n = 2; answer = refused (budget_exhausted 3 quarter) }
unfolding turn block_after_turn last_after_turn block_after_named
second_of_pair = refl

third_of_pair : turn_after 1 2 pair ≡ record { name = 2; n = 2; answer = refused (budget_exhausted 4 quarter) }
unfolding turn block_after_turn last_after_turn block_after_named
third_of_pair = refl

-- 2 was emptied by its end and filled again: 5 comes first, since 2 was served last
refilled_waits : turn (kept_g (turns_leave 3 1 pair 0) 2) (last_served 3 1 pair 0) places 3 ≡ record { name = 5; n = 2; answer = found_g }
unfolding turn block_after_turn last_after_turn block_after_named
refilled_waits = refl

-- if the name last served is held alone, it is served again
served_again : turn (kept_g empty 5) 5 places 1 ≡ record { name = 5; n = 2; answer = refused (budget_exhausted 3 quarter) }
unfolding turn block_after_named
served_again = refl

-- a number that is no name stands for 8
no_name : turn pair 9 places 3 ≡ record { name = 2; n = 2; answer = found_g }
unfolding turn block_after_named
no_name = refl

-- the point is written in the first places
writes_two : turn_output (turn pair 0 places 3).answer places ≡ pos 0 ∷ pos 1 ∷ replicate 21 (pos 7)
unfolding turn turn_output block_after_named
writes_two = refl

-- 2 has come to 2^60 - 3 nodes: a slice of 3 is served, and one of 4 puts the search out
abbrev near_limit : Block
near_limit = record { reals = pair.reals; integers = pair.integers; counts = set pair.counts 97 (2 ^ 60 - 3) }

at_the_limit : turn near_limit 0 places 3 ≡ record { name = 2; n = 2; answer = found (record { nodes = 2 ^ 60; distance = quarter; point = pos 0 ∷ pos 1 ∷ [] }) }
unfolding turn block_after_named
at_the_limit = refl

past_the_limit : turn near_limit 0 places 4 ≡ record { name = 2; n = 2; answer = refused (budget_exhausted (2 ^ 60 - 3) quarter) }
unfolding turn block_after_named
past_the_limit = refl

put_out : pick_up (block_after_turn near_limit 0 places 4) 2 (pos 7 ∷ pos 7 ∷ []) 0 ≡ refused name_empty
unfolding pick_up block_after_turn block_after_named
put_out = refl

-- 28 before 6 of the block, that before 29, and that before 6 of the output
slice_first : turn (record { reals = []; integers = []; counts = [] }) 0 [] (2 ^ 20 + 1) ≡ record { name = 0; n = 0; answer = refused slice_range }
unfolding turn
slice_first = refl

block_next : turn (record { reals = replicate 5168 plus_zero; integers = replicate 736 (pos 0); counts = replicate 769 0 }) 0 [] (2 ^ 20) ≡ record { name = 0; n = 0; answer = refused (length_mismatch 768 769) }
unfolding turn
block_next = refl

none_then : turn empty 0 [] 1 ≡ record { name = 0; n = 0; answer = refused none_held }
unfolding turn
none_then = refl

output_last : turn pair 0 (pos 7 ∷ pos 7 ∷ []) 1 ≡ record { name = 0; n = 0; answer = refused (length_mismatch 23 2) }
unfolding turn block_after_named
output_last = refl

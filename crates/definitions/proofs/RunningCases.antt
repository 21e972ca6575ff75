-- Inputs at which the walk with running centres differs from other walks, by evaluation: each group names one. Assumes nothing.
use mathlib.Core.Path.{◌≡◌, refl}
use Prim.Native.Nat.{ℕ}
use mathlib.Core.Bool.{Bool, true, false, not, ◌&&◌}
use lib.Dec.{eqb}
use mathlib.Core.List.{List, ◌∷◌}
use lib.ListN.{length, set, replicate}
use lib.IntN.{ℤ, pos, negsuc}
use lib.Ieee.{Float, binary64, of_bits, eq}
use Rattle.definitions.specs.Table.{Table, table, plus_zero, one}
use Rattle.definitions.specs.Walk.{Walked, ended, exhausted}
use Rattle.definitions.specs.Nearest.{Best, best, no_best, lexicographic}
use Rattle.definitions.specs.Listing.{ListPoint}
use Rattle.definitions.specs.Running.{running_nearest, running_list}

abbrev bits : ℕ → Float
bits n = of_bits binary64 n

-- whether a walk ended with that point, radius and number of nodes: a test, since a comparison of unevaluated points takes too many steps
abbrev ends_at : List ℤ → Float → ℕ → Walked Best → Bool
ends_at zs d m (ended (best ys) standing nodes) = eqb (length zs) (length ys) && not (lexicographic zs ys) && not (lexicographic ys zs) && eq d standing && eqb m nodes
ends_at zs d m (ended no_best standing nodes) = false
ends_at zs d m (exhausted nodes standing) = false

-- whether a walk ended with so many nodes and points
abbrev counts : ℕ → ℕ → Walked (List ListPoint) → Bool
counts m k (ended ps standing nodes) = eqb m nodes && eqb k (length ps)
counts m k (exhausted nodes standing) = false

-- ---- centres computed anew at each node
abbrev anew_table : Table
anew_table = table (replicate 24 one) (set (replicate 576 plus_zero) 24 (bits 4591870180066957722))

abbrev anew_target : List Float
anew_target = set (set (replicate 24 plus_zero) 0 (bits 4599075939470750515)) 1 (bits 4787326403894837248)

anew_nearest : running_nearest anew_table anew_target (bits 4591149604126578442) 10000 ≡ ended no_best (bits 4591149604126578442) 23
unfolding running_nearest of_bits
anew_nearest = refl

anew_list : counts 23 0 (running_list anew_table anew_target (bits 4591149604126578442) 10000) ≡ true
unfolding running_list of_bits
anew_list = refl

-- ---- the change of a coordinate as an exact integer
abbrev exact_table : Table
exact_table = table (replicate 24 one) (set (set (set (replicate 576 plus_zero) 24 (bits 4562146422526312448)) 49 (bits 4823355200913801216)) 74 (bits 4661225614328463360))

abbrev exact_target : List Float
exact_target = set (replicate 24 plus_zero) 3 (bits 4598175219545276416)

exact_nearest : ends_at (pos 281474976710656 ∷ negsuc 288230376151711775 ∷ pos 1024 ∷ replicate 21 (pos 0)) (bits 4589168020290535424) 120 (running_nearest exact_table exact_target (bits 4589168020290535424) 10000) ≡ true
unfolding running_nearest of_bits eq
exact_nearest = refl

exact_list : counts 120 49 (running_list exact_table exact_target (bits 4589168020290535424) 10000) ≡ true
unfolding running_list of_bits
exact_list = refl

-- ---- old·mu less new·mu
abbrev product_table : Table
product_table = table (replicate 24 one) (set (replicate 576 plus_zero) 24 (bits 4599075939470750515))

abbrev product_target : List Float
product_target = set (set (set (replicate 24 plus_zero) 1 (bits 4836865999795912705)) 2 (bits 4598175219545276416)) 4 (bits 4598175219545276416)

product_nearest : ends_at (pos 0 ∷ pos 2251799813685249 ∷ replicate 22 (pos 0)) (bits 4600708494335672320) 25 (running_nearest product_table product_target (bits 4602678819172646912) 10000) ≡ true
unfolding running_nearest of_bits eq
product_nearest = refl

product_list : counts 26 2 (running_list product_table product_target (bits 4602678819172646912) 10000) ≡ true
unfolding running_list of_bits
product_list = refl

-- ---- coordinates set back to 0 on the way up, their centres with them
abbrev left_table : Table
left_table = table (replicate 24 one) (set (set (replicate 576 plus_zero) 24 (bits 4599676419421066581)) 97 (bits 4591870180066957722))

abbrev left_target : List Float
left_target = set (set (set (set (replicate 24 plus_zero) 0 (bits 4697254411776924058)) 1 (bits 4836865999795912705)) 2 (bits 4598175219545276416)) 3 (bits 4602678819172646912)

left_nearest : ends_at (pos 1048576 ∷ pos 2251799813685249 ∷ pos 0 ∷ pos 1 ∷ replicate 20 (pos 0)) (bits 4603382506614423552) 73 (running_nearest left_table left_target (bits 4611686018427387904) 10000) ≡ true
unfolding running_nearest of_bits eq
left_nearest = refl

-- ---- coordinates set back to 0 on the way up, their centres not
abbrev kept_table : Table
kept_table = table (replicate 24 one) (set (set (replicate 576 plus_zero) 24 (bits 4599676419421066581)) 73 (bits 4652218415073722368))

abbrev kept_target : List Float
kept_target = set (replicate 24 plus_zero) 3 (bits 4602678819172646912)

kept_nearest : running_nearest kept_table kept_target (bits 4598175219545276416) 10000 ≡ ended no_best (bits 4598175219545276416) 26
unfolding running_nearest of_bits
kept_nearest = refl

kept_list : counts 26 0 (running_list kept_table kept_target (bits 4598175219545276416) 10000) ≡ true
unfolding running_list of_bits
kept_list = refl

-- ---- no change by a child whose sum fails
abbrev failed_table : Table
failed_table = table (replicate 24 one) (set (replicate 576 plus_zero) 24 (bits 4652218415073722368))

abbrev failed_target : List Float
failed_target = set (set (replicate 24 plus_zero) 1 (bits 4599676419421066581)) 3 (bits 4602678819172646912)

failed_nearest : ends_at (pos 341 ∷ replicate 23 (pos 0)) (bits 4602178419214049280) 70 (running_nearest failed_table failed_target (bits 4607182418800017408) 10000) ≡ true
unfolding running_nearest of_bits eq
failed_nearest = refl

-- ---- rows added falling at the start, or products summed before they are added
abbrev rows_table : Table
rows_table = table (replicate 24 one) (set (set (replicate 576 plus_zero) 48 (bits 4599075939470750515)) 72 (bits 4599676419421066581))

abbrev rows_target : List Float
rows_target = set (set (set (set (replicate 24 plus_zero) 0 (bits 4599075939470750515)) 1 (bits 4599676419421066581)) 2 (bits 4591870180066957722)) 3 (bits 4836865999795912705)

rows_list : counts 27 1 (running_list rows_table rows_target (bits 4602678819172646912) 10000) ≡ true
unfolding running_list of_bits
rows_list = refl

-- ---- products summed before they are added
abbrev sums_table : Table
sums_table = table (replicate 24 one) (set (set (set (replicate 576 plus_zero) 24 (bits 4599676419421066581)) 72 (bits 4652218415073722368)) 122 (bits 4599676419421066581))

abbrev sums_target : List Float
sums_target = set (set (set (replicate 24 plus_zero) 0 (bits 4836865999795912705)) 1 (bits 13822447976325526323)) 3 (bits 4599676419421066581)

sums_list : counts 24 1 (running_list sums_table sums_target (bits 4598175219545276416) 10000) ≡ true
unfolding running_list of_bits
sums_list = refl

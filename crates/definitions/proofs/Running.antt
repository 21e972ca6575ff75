-- The running centres and the walk with them, a clause each, as equations: proofs above rewrite with these and open no definition. Assumes nothing.
use mathlib.Core.Path.{◌≡◌, refl, ap, ◌∙◌}
use Prim.Native.Nat.{ℕ, zero, suc}
use mathlib.Core.Bool.{Bool, true, false, cond}
use mathlib.Core.List.{List, [], ◌∷◌}
use lib.ListN.{length, get_or, set, replicate}
use lib.IntN.{ℤ, pos}
use lib.Ieee.{Float, binary64, add, sub, mul}
use Rattle.rounding.specs.Integers.{to_double}
use Rattle.definitions.specs.Table.{Table, dimension, coordinate, plus_zero}
use Rattle.definitions.specs.Walk.{ended, Leaf, walk}
use Rattle.definitions.specs.Nearest.{no_best, consider}
use Rattle.definitions.specs.Listing.{collect}
use Rattle.definitions.specs.Running.{Running, add_row, row_of, add_rows, initialize_centers, same_integer, update_centers, beside, only_kept, leaf_beside, running_centers, running_walk, running_nearest, running_list}

-- ---- a row added to the centres
module _ (factor : Float) where
  pub add_row_nil : (cs : List Float) → add_row factor [] cs ≡ cs
  unfolding add_row
  add_row_nil cs = refl

  -- the row is longer than the centres
  pub add_row_short : (m : Float) (ms : List Float) → add_row factor (m ∷ ms) [] ≡ []
  unfolding add_row
  add_row_short m ms = refl

  pub add_row_cons : (m : Float) (ms : List Float) (c : Float) (cs : List Float) → add_row factor (m ∷ ms) (c ∷ cs) ≡ add binary64 c (mul binary64 factor m) ∷ add_row factor ms cs
  unfolding add_row
  add_row_cons m ms c cs = refl

  pub add_row_length : (ms cs : List Float) → length (add_row factor ms cs) ≡ length cs
  add_row_length [] cs = ap length (add_row_nil cs)
  add_row_length (m ∷ ms) [] = ap length (add_row_short m ms)
  add_row_length (m ∷ ms) (c ∷ cs) = ap length (add_row_cons m ms c cs) ∙ ap suc (add_row_length ms cs)

-- ---- the start
module _ (n : ℕ) (mu target : List Float) where
  pub add_rows_zero : (cs : List Float) → add_rows n mu target 0 cs ≡ cs
  unfolding add_rows
  add_rows_zero cs = refl

  pub add_rows_suc : (j : ℕ) (cs : List Float) → add_rows n mu target (suc j) cs ≡ add_row (coordinate target j) (row_of n mu j) (add_rows n mu target j cs)
  unfolding add_rows
  add_rows_suc j cs = refl

  pub add_rows_length : (j : ℕ) (cs : List Float) → length (add_rows n mu target j cs) ≡ length cs
  add_rows_length zero cs = ap length (add_rows_zero cs)
  add_rows_length (suc j) cs = ap length (add_rows_suc j cs) ∙ add_row_length (coordinate target j) (row_of n mu j) (add_rows n mu target j cs) ∙ add_rows_length j cs

pub initialize_is : (t : Table) (target : List Float) → initialize_centers t target ≡ record { point = replicate (dimension t) (pos 0); centers = add_rows (dimension t) t.mu target (dimension t) target }
unfolding initialize_centers
initialize_is t target = refl

-- ---- a level takes z
module _ (t : Table) (level : ℕ) (z : ℤ) (r : Running) where
  abbrev old : ℤ
  old = get_or r.point level (pos 0)

  abbrev after : Running
  after = record { point = set r.point level z; centers = add_row (sub binary64 (to_double old) (to_double z)) (row_of (dimension t) t.mu level) r.centers }

  update_is : update_centers t level z r ≡ cond (same_integer old z) r after
  unfolding update_centers
  update_is = refl

  pub update_same : same_integer (get_or r.point level (pos 0)) z ≡ true → update_centers t level z r ≡ r
  update_same e = update_is ∙ ap (λ (b : Bool). cond b r after) e

  pub update_other : same_integer (get_or r.point level (pos 0)) z ≡ false → update_centers t level z r ≡ record { point = set r.point level z; centers = add_row (sub binary64 (to_double (get_or r.point level (pos 0))) (to_double z)) (row_of (dimension t) t.mu level) r.centers }
  update_other e = update_is ∙ ap (λ (b : Bool). cond b r after) e

-- ---- the walk
module _ (t : Table) (target : List Float) where
  pub running_walk_is : {K : Type 0} (leaf : Leaf K) (k : K) (R : Float) (budget : ℕ) → running_walk leaf t target k R budget ≡ only_kept (walk (leaf_beside leaf) (running_centers t) t budget (dimension t) [] plus_zero (ended (beside k (initialize_centers t target)) R 0))
  unfolding running_walk
  running_walk_is leaf k R budget = refl

  pub running_nearest_is : (R : Float) (budget : ℕ) → running_nearest t target R budget ≡ running_walk consider t target no_best R budget
  unfolding running_nearest
  running_nearest_is R budget = refl

  pub running_list_is : (R : Float) (budget : ℕ) → running_list t target R budget ≡ running_walk collect t target [] R budget
  unfolding running_list
  running_list_is R budget = refl

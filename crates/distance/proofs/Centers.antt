-- A centre is the sum over the residuals, and that sum one level at a time. Assumes nothing.
use mathlib.Core.Path.{◌≡◌, refl, ap, sym, ◌∙◌}
use mathlib.Core.List.{List, [], ◌∷◌}
use Prim.Native.Nat.{ℕ, suc, ◌+◌, ◌*◌, ◌<◌, ◌≤◌}
use native.Mathlib.Omega.{arith}
use native.Mathlib.Nat.{mul-le-mul_right, add-mul}
use lib.ListN.{length, get_or, set}
use lib.IntN.{ℤ}
use lib.Ieee.{Float, nan, binary64, add, sub, mul}
use Rattle.rounding.specs.Integers.{to_double}
use Rattle.definitions.specs.Table.{Table, dimension, entry, coordinate}
use Rattle.definitions.specs.Distance.{center_from, center}
use Rattle.definitions.specs.Seeds.{sum_from}
use Rattle.definitions.proofs.Distances.{sum_from_nil, sum_from_cons, center_nil, center_cons, center_is}
use Rattle.lists.specs.Places.{places}
use Rattle.distance.specs.Residuals.{residuals, center_sum}
use Rattle.lists.proofs.Places.{places_cons, places_none, places_set}

-- ---- the residuals, a clause each
pub residuals_nil : (target : List Float) (j : ℕ) → residuals target j [] ≡ []
unfolding residuals
residuals_nil target j = refl

pub residuals_cons : (target : List Float) (j : ℕ) (z : ℤ) (zs : List ℤ) → residuals target j (z ∷ zs) ≡ sub binary64 (coordinate target j) (to_double z) ∷ residuals target (suc j) zs
unfolding residuals
residuals_cons target j z zs = refl

-- ---- a centre is the sum over the residuals
sum_from_residuals : (n : ℕ) (mu target : List Float) (level j : ℕ) (zs : List ℤ) (c : Float) → sum_from n mu level j (residuals target j zs) c ≡ center_from n mu target level j zs c
sum_from_residuals n mu target level j [] c = ap (λ (l : List Float). sum_from n mu level j l c) (residuals_nil target j) ∙ sum_from_nil n mu level j c ∙ sym (center_nil n mu target level j c)
sum_from_residuals n mu target level j (z ∷ zs) c =
    let c' = add binary64 c (mul binary64 (sub binary64 (coordinate target j) (to_double z)) (entry n mu j level)) in
    ap (λ (l : List Float). sum_from n mu level j l c) (residuals_cons target j z zs)
    ∙ sum_from_cons n mu level j (sub binary64 (coordinate target j) (to_double z)) (residuals target (suc j) zs) c
    ∙ sum_from_residuals n mu target level (suc j) zs c'
    ∙ sym (center_cons n mu target level j z zs c)

pub center_of_residuals : (t : Table) (target : List Float) (level : ℕ) (zs : List ℤ) → sum_from (dimension t) t.mu level (level + 1) (residuals target (level + 1) zs) (coordinate target level) ≡ center t target level zs
center_of_residuals t target level zs =
    let s : level + 1 ≡ suc level = omega arith in
    sum_from_residuals (dimension t) t.mu target level (level + 1) zs (coordinate target level)
    ∙ ap (λ (j : ℕ). center_from (dimension t) t.mu target level j zs (coordinate target level)) s
    ∙ sym (center_is t target level zs)

-- ---- one turn of the sum's loop
module _ (n : ℕ) (mu : List Float) (level : ℕ) (rest : List Float) (fits : n ≤ length rest) (j : ℕ) (v : Float) where
  pub sum_from_step : j < n → sum_from n mu level j (places n j rest) v ≡ sum_from n mu level (j + 1) (places n (j + 1) rest) (add binary64 v (mul binary64 (get_or rest j nan) (get_or mu (j * n + level) nan)))
  sum_from_step h =
      let s : suc j ≡ j + 1 = omega arith in
      ap (λ (l : List Float). sum_from n mu level j l v) (places_cons n rest fits j nan h)
      ∙ sum_from_cons n mu level j (get_or rest j nan) (places n (j + 1) rest) v
      ∙ ap (λ (k : ℕ). sum_from n mu level k (places n (j + 1) rest) (add binary64 v (mul binary64 (get_or rest j nan) (get_or mu (j * n + level) nan)))) s

  pub sum_from_stop : n ≤ j → sum_from n mu level j (places n j rest) v ≡ v
  sum_from_stop h = ap (λ (l : List Float). sum_from n mu level j l v) (places_none n rest fits j h) ∙ sum_from_nil n mu level j v

-- ---- an index of the n by n entries lies in them
pub entry_lt : (n j i : ℕ) → j < n → i < n → j * n + i < n * n
entry_lt n j i hj hi = let h : (j + 1) * n ≤ n * n = mul-le-mul_right n (omega arith) in omega (arith, add-mul j 1 n)

-- ---- one level further down, where `depth` levels were left: its centre, and its residual beside the others
module _ (t : Table) (target : List Float) (rest : List Float) (fits : dimension t ≤ length rest) (depth level : ℕ) (depth_is : depth ≡ level + 1) (zs : List ℤ) (rest_above : places (dimension t) depth rest ≡ residuals target depth zs) where
  rest_above_level : places (dimension t) (level + 1) rest ≡ residuals target (level + 1) zs
  rest_above_level = ap (λ (d : ℕ). places (dimension t) d rest) (sym depth_is) ∙ rest_above ∙ ap (λ (d : ℕ). residuals target d zs) depth_is

  pub center_below : (v : Float) → v ≡ center_sum t target rest level → v ≡ center t target level zs
  center_below v e = e ∙ ap (λ (l : List Float). sum_from (dimension t) t.mu level (level + 1) l (coordinate target level)) rest_above_level ∙ center_of_residuals t target level zs

  pub residuals_below : level < dimension t → (z : ℤ) (x : Float) → x ≡ sub binary64 (coordinate target level) (to_double z) → places (dimension t) level (set rest level x) ≡ residuals target level (z ∷ zs)
  residuals_below low z x e =
      let s : suc level ≡ level + 1 = omega arith in
      places_set (dimension t) rest fits level x low
      ∙ ap (λ (a : Float). a ∷ places (dimension t) (level + 1) rest) e
      ∙ ap (λ (l : List Float). sub binary64 (coordinate target level) (to_double z) ∷ l) (rest_above_level ∙ ap (λ (j : ℕ). residuals target j zs) (sym s))
      ∙ sym (residuals_cons target level z zs)

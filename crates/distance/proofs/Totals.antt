-- The sum of the terms downward, a level at a time. Assumes nothing.
use mathlib.Core.Path.{◌≡◌, ap, sym, ◌∙◌}
use mathlib.Core.List.{List, ◌∷◌}
use Prim.Native.Nat.{ℕ, suc, ◌+◌, ◌<◌, ◌≤◌}
use native.Mathlib.Omega.{arith}
use lib.ListN.{length, get_or, take, set, length-drop}
use lib.Seq.{length-take-le}
use lib.IntN.{ℤ, pos}
use lib.Ieee.{Float, binary64, add, sub, mul, of_bits}
use Rattle.rounding.specs.Integers.{to_double}
use Rattle.definitions.specs.Table.{Table, dimension, weight, coordinate}
use Rattle.definitions.specs.Distance.{center, term, partial}
use Rattle.rounding.proofs.Interface.{zero_is}
use Rattle.definitions.proofs.Distances.{term_is, partial_nil, partial_step}
use Rattle.lists.specs.Places.{places}
use Rattle.distance.specs.Residuals.{residuals, center_sum}
use Rattle.lists.proofs.Places.{places_cons, places_none}
use Rattle.distance.proofs.Centers.{residuals_nil, center_below, residuals_below}

module _ (t : Table) (target : List Float) (point : List ℤ) (point_fits : dimension t ≤ length point) where
  -- nothing is summed yet
  pub residuals_start : (rest : List Float) → dimension t ≤ length rest → places (dimension t) (dimension t) rest ≡ residuals target (dimension t) (places (dimension t) (dimension t) point)
  residuals_start rest fits =
      places_none (dimension t) rest fits (dimension t) (omega arith)
      ∙ sym (ap (residuals target (dimension t)) (places_none (dimension t) point point_fits (dimension t) (omega arith)) ∙ residuals_nil target (dimension t))

  pub sum_start : of_bits binary64 0 ≡ partial t target (places (dimension t) (dimension t) point)
  sum_start = zero_is ∙ sym (ap (partial t target) (places_none (dimension t) point point_fits (dimension t) (omega arith)) ∙ partial_nil t target)

  module _ (rest : List Float) (fits : dimension t ≤ length rest) (depth level : ℕ) (depth_is : depth ≡ level + 1) (low : level < dimension t) (rest_above : places (dimension t) depth rest ≡ residuals target depth (places (dimension t) depth point)) (d : Float) (converted : d ≡ to_double (get_or point level (pos 0))) where
    here : places (dimension t) level point ≡ get_or point level (pos 0) ∷ places (dimension t) depth point
    here = places_cons (dimension t) point point_fits level (pos 0) low ∙ ap (λ (k : ℕ). get_or point level (pos 0) ∷ places (dimension t) k point) (sym depth_is)

    above_length : suc level + length (places (dimension t) depth point) ≡ dimension t
    above_length = omega (arith, length-drop depth (take (dimension t) point), length-take-le (dimension t) point point_fits)

    pub residuals_turn : places (dimension t) level (set rest level (sub binary64 (coordinate target level) d)) ≡ residuals target level (places (dimension t) level point)
    residuals_turn =
        residuals_below t target rest fits depth level depth_is (places (dimension t) depth point) rest_above low (get_or point level (pos 0)) (sub binary64 (coordinate target level) d) (ap (sub binary64 (coordinate target level)) converted)
        ∙ sym (ap (residuals target level) here)

    pub sum_turn : (v : Float) → v ≡ center_sum t target rest level → (s x : Float) → s ≡ partial t target (places (dimension t) depth point) → x ≡ mul binary64 (mul binary64 (weight t level) (sub binary64 v d)) (sub binary64 v d) → add binary64 s x ≡ partial t target (places (dimension t) level point)
    sum_turn v e s x p q =
        ap (λ (y : Float). add binary64 y x) p
        ∙ ap (add binary64 (partial t target (places (dimension t) depth point))) one_term
        ∙ sym (ap (partial t target) here ∙ partial_step t target (get_or point level (pos 0)) (places (dimension t) depth point) level above_length)
      where
        center_here : v ≡ center t target level (places (dimension t) depth point)
        center_here = center_below t target rest fits depth level depth_is (places (dimension t) depth point) rest_above v e

        one_term : x ≡ term (weight t level) (center t target level (places (dimension t) depth point)) (get_or point level (pos 0))
        one_term =
            q ∙ ap (λ (y : Float). mul binary64 (mul binary64 (weight t level) (sub binary64 v y)) (sub binary64 v y)) converted
            ∙ sym (term_is (weight t level) v (get_or point level (pos 0)))
            ∙ ap (λ (y : Float). term (weight t level) y (get_or point level (pos 0))) center_here

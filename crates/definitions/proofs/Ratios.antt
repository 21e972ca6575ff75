-- The verdict on a list, a clause each, as equations; and the products of a setting: they keep the order from zero up to infinity, zero gives zero, and 1 changes nothing. Assumes nothing.
use mathlib.Core.Path.{◌≡◌, refl, sym, ap, ◌∙◌, subst}
use Prim.Native.Nat.{ℕ, ◌≤◌, ◌<◌, ◌^◌}
use native.Mathlib.Nat.{le_trans}
use mathlib.Core.Bool.{not, ◌&&◌, cond}
use mathlib.Core.List.{List, [], ◌∷◌, map}
use lib.Dec.{T, lit≤}
use lib.ListN.{length, take, drop, length-map}
use lib.Seq.{take_at}
use lib.IntN.{pos}
use lib.Ieee.{Float, binary64, prec, mul, of_int, le, lt}
use lib.Ieee.Scale.{finite}
use Rattle.rounding.specs.Kinds.{Number}
use Rattle.rounding.proofs.Interface.{whole_times_number, whole_times_mono, whole_times_zero, whole_times_once}
use Rattle.definitions.specs.Table.{plus_zero}
use Rattle.definitions.specs.Listing.{ListPoint}
use Rattle.definitions.specs.Refusals.{Refusal}
use Rattle.definitions.specs.Calls.{Answer, found, refused, after, ListAnswer, points_in, list_distances}
use Rattle.definitions.specs.Settings.{largest_factor, factors_check}
use Rattle.definitions.specs.Ratio.{holds, fails, «open», none, times, met, ratio, list_ratio, ratio_call}
use Rattle.definitions.proofs.Answers.{distances_found}

-- ---- k·d
pub times_is : (k : ℕ) (d : Float) → times k d ≡ mul binary64 (of_int binary64 (pos k)) d
unfolding times
times_is k d = refl

module _ (k : ℕ) (some : 0 < k) (most : k ≤ largest_factor) where
  exact : k ≤ 2 ^ prec binary64
  exact = le_trans most (lit≤ tt)

  pub times_number : {d : Float} → Number binary64 d → Number binary64 (times k d)
  times_number {d} n = subst (Number binary64) (sym (times_is k d)) (whole_times_number binary64 k some exact n)

  pub times_mono : {d e : Float} → Number binary64 d → Number binary64 e → T (not (lt d plus_zero)) → T (le d e) → T (le (times k d) (times k e))
  times_mono {d} {e} n m plus h = rw (times_is k d, times_is k e) (whole_times_mono binary64 k some exact n m plus h)

  pub times_zero : times k plus_zero ≡ plus_zero
  times_zero = times_is k plus_zero ∙ whole_times_zero binary64 k some exact

pub times_once : {d : Float} → Number binary64 d → times 1 d ≡ d
times_once {d} n = times_is 1 d ∙ whole_times_once binary64 (lit≤ tt) n

-- ---- the verdict
module _ (p q : ℕ) where
  pub met_is : (d1 d2 : Float) → met p q d1 d2 ≡ finite (times p d1) && le (times p d1) (times q d2)
  unfolding met
  met_is d1 d2 = refl

  module _ (R : Float) where
    pub ratio_nothing : ratio p q [] R ≡ none
    unfolding ratio
    ratio_nothing = refl

    pub ratio_alone : (d1 : Float) → ratio p q (d1 ∷ []) R ≡ cond (met p q d1 R) holds «open»
    unfolding ratio
    ratio_alone d1 = refl

    pub ratio_more : (d1 d2 : Float) (more : List Float) → ratio p q (d1 ∷ d2 ∷ more) R ≡ cond (met p q d1 d2) holds fails
    unfolding ratio
    ratio_more d1 d2 more = refl

    pub list_ratio_found : (a : ListAnswer) → list_ratio p q (found a) R ≡ ratio p q (map (λ (point : ListPoint). point.distance) a.points) R
    unfolding list_ratio
    list_ratio_found a = refl

    pub list_ratio_refused : (e : Refusal) → list_ratio p q (refused e) R ≡ none
    unfolding list_ratio
    list_ratio_refused e = refl

    pub ratio_call_is : (distances : List Float) → ratio_call p q distances R ≡ after (factors_check p q) (found (ratio p q distances R))
    unfolding ratio_call
    ratio_call_is distances = refl

    -- the verdict on the distances that a list left in the places that it was lent
    pub ratio_of_written : (l : Answer ListAnswer) (lent : List Float) → ratio p q (take (points_in l) (list_distances l lent)) R ≡ list_ratio p q l R
    ratio_of_written (found a) lent =
        let new = map (λ (point : ListPoint). point.distance) a.points in
        ap (λ (xs : List Float). ratio p q (take (length a.points) xs) R) (distances_found a lent)
        ∙ ap (λ (xs : List Float). ratio p q xs R) (take_at new (drop (length new) lent) (length a.points) (length-map a.points (λ (point : ListPoint). point.distance)))
        ∙ sym (list_ratio_found a)
    ratio_of_written (refused e) lent = ratio_nothing ∙ sym (list_ratio_refused e)

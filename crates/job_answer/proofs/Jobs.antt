-- The parts of a job that was read, and the places that its searches are lent. Assumes nothing.
use mathlib.Core.Path.{◌≡◌, refl, ap, sym, subst, ◌∙◌}
use mathlib.Core.List.{List, ◌++◌}
use Prim.Native.Nat.{ℕ, ◌*◌, ◌≤◌}
use native.Mathlib.Nat.{mul-le-mul}
use native.Mathlib.Omega.{arith}
use lib.ListN.{length, take, drop, replicate}
use lib.Seq.{length-take-le, take-append-le}
use lib.IntN.{ℤ, pos}
use lib.Ieee.{Float, binary64, of_bits}
use Rattle.rounding.proofs.Interface.{zero_is}
use Rattle.definitions.specs.Table.{largest_dimension, plus_zero}
use Rattle.definitions.specs.Calls as C
use Rattle.definitions.specs.Settings.{largest_places}
use Rattle.definitions.specs.JobText.{job_nearest, job_list}
use Rattle.definitions.proofs.ListedOrder.{Listed}
use Rattle.lists.specs.All.{All}
use Rattle.std.specs.Prelude.{Result}
use Rattle.refusals.specs.declared.Refusal.{Refusal}
use Rattle.enumerate.specs.declared.NearestPoint.{NearestPoint}
use Rattle.enumerate.specs.View.{NearestAnswered}
use Rattle.listing.specs.declared.ListFound.{ListFound}
use Rattle.listing.specs.View.{ListAnswered}
use Rattle.listing.proofs.Found.{call_listed}
use Rattle.reading.specs.declared.Job.{Job}
use Rattle.reading.specs.Parts.{ArrayHolds}
use Rattle.reading.specs.View.{JobShape, job_read}
use Rattle.reading.proofs.Arrays.{take_replicate, array_holds}

-- the coordinates of as many points as a job can have places
abbrev pub coordinate_places : ℕ
coordinate_places = largest_dimension * largest_places

-- the job's arrays have a distance for each place, and these coordinates
pub distances_places : 256 ≡ largest_places
distances_places = refl

pub points_places : 5888 ≡ coordinate_places
points_places = refl

module _ {j : Job} (s : JobShape j) where
  pub weights_fit : j.n ≤ length j.weights
  weights_fit = omega (arith, s.small, s.weights)

  -- the slice has the length of the job's table
  pub weights_length : j.n ≡ length (take j.n j.weights)
  weights_length = sym (length-take-le j.n j.weights weights_fit)

  -- the searches of the job, with the places that the code lends
  pub nearest_lent : C.nearest (job_read j).table (job_read j).target (take j.n (replicate largest_dimension (pos 0))) j.radius j.budget ≡ job_nearest (job_read j)
  nearest_lent =
      ap (λ (zs : List ℤ). C.nearest (job_read j).table (job_read j).target zs j.radius j.budget)
      (take_replicate j.n largest_dimension (pos 0) s.small ∙ ap (λ (k : ℕ). replicate k (pos 0)) weights_length)

  -- a point of the list has n coordinates
  pub list_coordinates : (ds : List Float) (zs : List ℤ) (b : C.ListAnswer) → C.list (job_read j).table (job_read j).target ds zs j.radius j.budget ≡ C.found b → All (Listed j.n) b.points
  list_coordinates ds zs b e = subst (λ (n : ℕ). All (Listed n) b.points) (sym weights_length) (call_listed (job_read j).table s.doubles (job_read j).target ds zs j.radius j.budget b e)

  -- the arrays after the searches
  pub point_held : {a : C.Answer C.NearestPoint} {out : List ℤ} {r : Result NearestPoint Refusal} {out' : List ℤ} → NearestAnswered a out r out' → length out' ≡ j.n → ArrayHolds largest_dimension j.n out' (out' ++ drop j.n (replicate largest_dimension (pos 0)))
  point_held {out' = zs} w size = array_holds largest_dimension j.n (pos 0) zs zs s.small refl size

  -- the places of the list
  module _ (most : j.settings.places ≤ largest_places) where
    abbrev places : ℕ
    places = j.settings.places

    pub points_fit : j.n * places ≤ coordinate_places
    points_fit = mul-le-mul s.small most

    pub list_lent : C.list (job_read j).table (job_read j).target (take places (replicate largest_places (of_bits binary64 0))) (take (j.n * places) (replicate coordinate_places (pos 0))) j.radius j.budget ≡ job_list (job_read j)
    list_lent =
        ap (λ (ds : List Float). C.list (job_read j).table (job_read j).target ds (take (j.n * places) (replicate coordinate_places (pos 0))) j.radius j.budget)
        (take_replicate places largest_places (of_bits binary64 0) most ∙ ap (replicate places) zero_is)
        ∙ ap (λ (zs : List ℤ). C.list (job_read j).table (job_read j).target (replicate places plus_zero) zs j.radius j.budget)
        (take_replicate (j.n * places) coordinate_places (pos 0) points_fit ∙ ap (λ (k : ℕ). replicate (k * places) (pos 0)) weights_length)

    module _ {l : C.Answer C.ListAnswer} {ds : List Float} {zs : List ℤ} {r : Result ListFound Refusal} {ds' : List Float} {zs' : List ℤ} (w : ListAnswered l r ds ds' zs zs') where
      pub distances_held : length ds' ≡ places → ArrayHolds largest_places places ds' (ds' ++ drop places (replicate largest_places (of_bits binary64 0)))
      distances_held size = array_holds largest_places places (of_bits binary64 0) ds' ds' most refl size

      -- of them the first k
      pub first_held : length ds' ≡ places → {k m : ℕ} → k ≡ m → m ≤ places → take k (ds' ++ drop places (replicate largest_places (of_bits binary64 0))) ≡ take m ds'
      first_held size {k} {m} same few = take-append-le k ds' (drop places (replicate largest_places (of_bits binary64 0))) (omega (arith, size, same, few)) ∙ ap (λ (i : ℕ). take i ds') same

      pub points_held : length zs' ≡ j.n * places → ArrayHolds coordinate_places (j.n * places) zs' (zs' ++ drop (j.n * places) (replicate coordinate_places (pos 0)))
      points_held size = array_holds coordinate_places (j.n * places) (pos 0) zs' zs' points_fit refl size

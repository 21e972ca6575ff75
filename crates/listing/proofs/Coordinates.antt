-- The coordinates of points, one after another. Assumes nothing.
use mathlib.Core.Path.{◌≡◌, refl, ap, sym, ◌∙◌}
use mathlib.Core.List.{List, [], ◌∷◌, ◌++◌, map}
use Prim.Native.Nat.{ℕ, ◌*◌}
use native.Mathlib.Nat.{zero-mul, suc-mul}
use native.Mathlib.Omega.{arith}
use lib.ListN.{length, take, drop, length-append, length-drop}
use lib.Seq.{length-take-le}
use lib.IntN.{ℤ}
use lib.Ieee.{Float}
use Rattle.definitions.specs.Listing.{ListPoint}
use Rattle.definitions.specs.Calls.{coordinates}
use Rattle.definitions.proofs.Answers.{coordinates_nil, coordinates_cons}
use Rattle.lists.specs.All.{All, none, more, AllBelow}
use Rattle.definitions.specs.Rows.{row}
use Rattle.definitions.proofs.ListedOrder.{Listed}
use Rattle.sorting.proofs.Comparison.{row_within}

module _ (n : ℕ) (points : List ℤ) where
  -- the distances have no part in them
  pub coordinates_alone : (ds es : List Float) (is : List ℕ) → coordinates (map (row n ds points) is) ≡ coordinates (map (row n es points) is)
  coordinates_alone ds es [] = refl
  coordinates_alone ds es (i ∷ is) =
      coordinates_cons (row n ds points i) (map (row n ds points) is)
      ∙ ap (λ (l : List ℤ). take n (drop (i * n) points) ++ l) (coordinates_alone ds es is)
      ∙ sym (coordinates_cons (row n es points i) (map (row n es points) is))

  -- there are n of them for each place
  pub coordinates_count : (ds : List Float) (places : ℕ) → length points ≡ places * n → {is : List ℕ} → AllBelow places is → length (coordinates (map (row n ds points) is)) ≡ length is * n
  coordinates_count ds places e none = ap (λ (l : List ℤ). length l) coordinates_nil ∙ sym (zero-mul n)
  coordinates_count ds places e (more {x = i} {xs = is} h rest) =
      let fits = row_within n places (length points) i e h in
      let own : length (take n (drop (i * n) points)) ≡ n = length-take-le n (drop (i * n) points) (omega (arith, length-drop (i * n) points, fits)) in
      ap (λ (l : List ℤ). length l) (coordinates_cons (row n ds points i) (map (row n ds points) is))
      ∙ length-append (take n (drop (i * n) points)) (coordinates (map (row n ds points) is))
      ∙ omega (arith, own, coordinates_count ds places e rest, suc-mul (length is) n)

-- n of them for each point that has n
pub coordinates_length : (n : ℕ) {ps : List ListPoint} → All (Listed n) ps → length (coordinates ps) ≡ length ps * n
coordinates_length n none = ap (λ (l : List ℤ). length l) coordinates_nil ∙ sym (zero-mul n)
coordinates_length n (more {x = p} {xs = ps} l rest) =
    ap (λ (l : List ℤ). length l) (coordinates_cons p ps) ∙ length-append p.point (coordinates ps) ∙ omega (arith, l.coordinates, coordinates_length n rest, suc-mul (length ps) n)

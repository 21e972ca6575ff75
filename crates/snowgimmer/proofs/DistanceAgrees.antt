-- The call `distance` gives, of the point that a nearest search writes, the distance that the search tells. Assumes nothing.
use mathlib.Core.Path.{◌≡◌, sym, ap, ◌∙◌}
use mathlib.Core.Logic.{inl}
use mathlib.Core.Bool.{Bool, cond}
use mathlib.Core.List.{List, [], ◌∷◌, ◌++◌}
use Prim.Native.Nat.{ℕ}
use lib.Dec.{T}
use lib.ListN.{length}
use lib.IntN.{ℤ}
use lib.Ieee.{Float}
use lib.Ieee.Scale.{finite}
use Rattle.definitions.specs.Table.{Table, dimension, largest_dimension}
use Rattle.definitions.specs.Distance.{distance}
use Rattle.definitions.specs.Checks.{Verdict, first_refusal, table_checks, length_check, target_check}
use Rattle.definitions.specs.Calls.{Answer, found, NearestPoint, search_checks, point_distance}
use Rattle.definitions.specs.Prepared.{mapped_point, transformed_of}
use Rattle.definitions.proofs.Verdicts.{append_passes}
use Rattle.definitions.proofs.Passed.{search_passed}
use Rattle.definitions.proofs.Admissions.{vector_length}
use Rattle.definitions.proofs.Prepared.{transformed_length}
use Rattle.theorems.specs.Promises.{SearchPromises}
use Rattle.theorems.specs.Accepted.{TargetAccepted}
use Rattle.theorems.specs.Prepared.{PreparedPromises}
use Rattle.theorems.proofs.Booleans.{to_true}
use Rattle.theorems.proofs.FirstRefusal.{none_passes}
use Rattle.theorems.proofs.Accepted.{search_passes_at, distance_accepts}
use Rattle.theorems.proofs.Promises.{distance_promises}
use Rattle.std.specs.Prelude.{Ok, Err}
use Rattle.distance.specs.View.{distance_of}
use Rattle.snowgimmer.specs.Told.{DistanceAgrees}
use Rattle.snowgimmer.proofs.Distances.{distance_found}

-- the checks of a search read the length of its output alone
same_checks : (t : Table) (target : List Float) (out out' : List ℤ) → length out ≡ length out' → first_refusal (search_checks largest_dimension t target out) ≡ first_refusal (search_checks largest_dimension t target out')
unfolding search_checks
same_checks t target out out' e = ap (λ (k : ℕ). first_refusal (table_checks largest_dimension t ++ length_check (dimension t) (length target) ∷ length_check (dimension t) k ∷ target_check target ∷ [])) e

finite_distance : (d x : Float) → T (finite d) → x ≡ d → distance_of d ≡ Ok x
finite_distance d x f e = ap (λ (b : Bool). cond b (Ok d) (Err (record { total = d }))) (to_true (finite d) f) ∙ ap Ok (sym e)

-- a search whose checks begin with those of every search
pub distance_agrees : (largest : ℕ) (rest : List Verdict) {k : ℕ} {t : Table} {target : List Float} {R : Float} {budget : ℕ} {out : List ℤ} {answer : Answer NearestPoint} {out' : List ℤ} →
    SearchPromises (search_checks largest t target out ++ rest) k t target R budget out answer out' → DistanceAgrees t target answer out'
distance_agrees largest rest {t = t} {target} {out = out} {out' = out'} p small a q =
    let fits = p.demand_1.answers.1 (inl (a, q)) in
    let searched = (append_passes (search_checks largest t target out) rest (none_passes (search_checks largest t target out ++ rest) fits)).0 in
    let passed = search_passes_at largest largest_dimension t target out small searched in
    let as_long : length out ≡ length out' = (search_passed largest_dimension t target out passed).shape.output_length ∙ sym (vector_length t out' (p.point small a q).vector) in
    let own = p.own_distance small a q in
    distance_found t target out' (sym (same_checks t target out out' as_long) ∙ passed) a.distance (finite_distance (distance t target out') a.distance own.1 own.0)

-- of a search in the receiver's coordinates: that of the point mapped back, from the transformed target
pub prepared_agrees : (t : Table) (transform inverse : List ℤ) (target : List Float) (out : List ℤ) (budget : ℕ) {answer : Answer NearestPoint} {out' : List ℤ} →
    PreparedPromises t transform inverse target out budget answer out' → (a : NearestPoint) → answer ≡ found a → point_distance t (transformed_of t inverse target) (mapped_point (dimension t) inverse out') ≡ found a.distance
prepared_agrees t transform inverse target out budget {out' = out'} p a q =
    let accepted = p.accepts.0 (p.demand_1.answers.1 (inl (a, q))) in
    let x = transformed_of t inverse target in
    let (z, m) = p.point a q in
    let aimed : TargetAccepted 23 t x = record { table = accepted.search.table_target.table; target_length = transformed_length (dimension t) inverse target; targets = accepted.transformed } in
    let fits = (distance_accepts t x z).1 (record { search = record { table_target = aimed; output_length = vector_length t z m.nearest.vector }; sum_finite = m.own_distance.1 }) in
    ap (point_distance t x) m.mapped_back ∙ (distance_promises t x z).answers.0 fits ∙ ap found (sym m.own_distance.0)

-- Entries mu that are not read change nothing: every call gives the same answer, count and refusal on tables that differ in them alone.
-- What a lent slice holds at exit follows from the answer, but for `nearest_plane`, whose slices are told here too. `round` takes no table. Assumes nothing.
use mathlib.Core.Path.{◌≡◌, refl, sym, ap, ◌∙◌, subst}
use mathlib.Core.Bool.{Bool, true, false, not, cond}
use mathlib.Core.List.{List, [], ◌∷◌, ◌++◌}
use Prim.Native.Nat.{ℕ, ◌≤◌}
use native.Mathlib.Omega.{arith}
use borrow.Author.Tests.{eqb-true, not-false}
use lib.Dec.{eqb, leb}
use lib.ListN.{length}
use lib.IntN.{ℤ}
use lib.Ieee.{Float}
use Rattle.definitions.specs.Table.{Table, table, dimension, plus_zero, largest_dimension, largest_searched}
use Rattle.definitions.specs.Distance.{center, distance}
use Rattle.definitions.specs.Walk.{Walked, ended, Leaf, still, walk}
use Rattle.definitions.specs.Nearest.{no_best, consider, nearest_walk}
use Rattle.definitions.specs.Listing.{collect, list_walk}
use Rattle.definitions.specs.Running.{running_nearest, running_list, nearest_search, list_search}
use Rattle.definitions.specs.Seeds.{Plane, widened}
use Rattle.definitions.specs.Refusals.{candidate_length}
use Rattle.definitions.specs.Checks.{Verdict, refuse, pass, first_refusal, refuse_if, length_check, plane_length_check, target_check, finite_check, radius_check, handed_on, budget_check, candidate_distance_check, candidate_outside_check, widened_radius_check, list_size_check}
use Rattle.definitions.specs.Calls.{after, end_of_nearest, nearest_within, target_checks, search_checks, nearest_checks, nearest, widened_search, seeded_checks, nearest_seeded, ml_radius, ml_checks, nearest_ml, end_of_list, list_checks, list, plane, plane_output, plane_coefficients}
use Rattle.definitions.specs.Prepared.{matrix_checks, transformed_of, prepared_checks, mapped_answer, prepared_nearest_ml}
use Rattle.definitions.proofs.Verdicts.{or_else, first_append}
use Rattle.theorems.specs.SameRead.{SameRead}
use Rattle.theorems.proofs.SameDistances.{same_center, same_partial}
use Rattle.theorems.proofs.SameWalks.{same_walk}
use Rattle.theorems.proofs.SameRunning.{same_running_walk}
use Rattle.theorems.proofs.SamePlanes.{same_plane, same_ml_radius}
use Rattle.theorems.proofs.SameChecks.{same_table_checks}

-- ---- checks 10 to 13: a candidate of another length is refused before its distance counts
candidate_checks : ℕ → ℕ → Bool → Float → Float → List Verdict
candidate_checks n found wrong R d =
    refuse_if wrong (candidate_length n found) ∷ candidate_distance_check d ∷ candidate_outside_check R d ∷ widened_radius_check (widened n R) ∷ []

length_first : (n found : ℕ) (wrong : Bool) (R d d' : Float) → (wrong ≡ false → d ≡ d') → first_refusal (candidate_checks n found wrong R d) ≡ first_refusal (candidate_checks n found wrong R d')
unfolding first_refusal candidate_checks
length_first n found true R d d' same = refl
length_first n found false R d d' same = ap (λ (x : Float). first_refusal (candidate_checks n found false R x)) (same refl)

first_after : (vs ws ws' : List Verdict) → first_refusal ws ≡ first_refusal ws' → first_refusal (vs ++ ws) ≡ first_refusal (vs ++ ws')
first_after vs ws ws' h = first_append vs ws ∙ ap (or_else (first_refusal vs)) h ∙ sym (first_append vs ws')

-- ---- two tables that differ in mu alone
module _ (t : Table) (mu' : List Float) (same : SameRead t (table t.weights mu')) (target : List Float) where
  abbrev t' : Table
  t' = table t.weights mu'

  abbrev n : ℕ
  n = dimension t

  walk_of : {K : Type 0} (leaf : Leaf K) (budget : ℕ) (w : Walked K) → walk leaf (still (center t target)) t budget n [] plus_zero w ≡ walk leaf (still (center t' target)) t' budget n [] plus_zero w
  walk_of leaf budget =
      same_walk leaf (still (center t target)) (still (center t' target)) t mu' budget n (record { same_at = λ level zs e k. same_center t mu' same target level zs e; same_moved = λ level h z k. refl }) n [] (omega arith) plus_zero

  nearest_walk_lem : (R : Float) (budget : ℕ) → nearest_walk t target R budget ≡ nearest_walk t' target R budget
  unfolding nearest_walk
  nearest_walk_lem R budget = walk_of consider budget (ended no_best R 0)

  list_walk_lem : (R : Float) (budget : ℕ) → list_walk t target R budget ≡ list_walk t' target R budget
  unfolding list_walk
  list_walk_lem R budget = walk_of collect budget (ended [] R 0)

  nearest_search_lem : (R : Float) (budget : ℕ) → nearest_search t target R budget ≡ nearest_search t' target R budget
  unfolding nearest_search running_nearest
  nearest_search_lem R budget = λ k. cond (leb n largest_dimension) (nearest_walk_lem R budget k) (same_running_walk t mu' same consider target no_best R budget k)

  list_search_lem : (R : Float) (budget : ℕ) → list_search t target R budget ≡ list_search t' target R budget
  unfolding list_search running_list
  list_search_lem R budget = λ k. cond (leb n largest_dimension) (list_walk_lem R budget k) (same_running_walk t mu' same collect target [] R budget k)

  within : (R : Float) (budget : ℕ) → nearest_within t target R budget ≡ nearest_within t' target R budget
  unfolding nearest_within
  within R budget = ap (end_of_nearest R) (nearest_search_lem R budget)

  widened_search_lem : (R : Float) (budget : ℕ) → widened_search t target R budget ≡ widened_search t' target R budget
  unfolding widened_search
  widened_search_lem R budget = within (widened n R) budget

  search_checks_lem : (largest : ℕ) (out : List ℤ) → search_checks largest t target out ≡ search_checks largest t' target out
  unfolding search_checks
  search_checks_lem largest out = ap (λ (vs : List Verdict). vs ++ length_check n (length target) ∷ length_check n (length out) ∷ target_check target ∷ []) (same_table_checks t mu' same largest)

  nearest_of : (out : List ℤ) (R : Float) (budget : ℕ) → nearest t target out R budget ≡ nearest t' target out R budget
  unfolding nearest nearest_checks
  nearest_of out R budget = λ k.
      after (first_refusal (search_checks_lem largest_searched out k ++ radius_check R ∷ budget_check budget ∷ [])) (within (handed_on R) budget k)

  seeded_checks_lem : (out candidate : List ℤ) (R : Float) (budget : ℕ) → seeded_checks largest_dimension t target out candidate R budget ≡ seeded_checks largest_dimension t' target out candidate R budget
  unfolding seeded_checks candidate_checks
  seeded_checks_lem out candidate R budget =
      let found = length candidate in
      let wrong = not (eqb n found) in
      let d = distance t target candidate in
      let d' = distance t' target candidate in
      let checks = candidate_checks n found wrong (handed_on R) in
      let of_length : wrong ≡ false → d ≡ d' = λ q. let e = eqb-true n found (not-false (eqb n found) q) in same_partial t mu' same target candidate (omega (arith, e)) in
      ap (λ (vs : List Verdict). first_refusal (vs ++ radius_check R ∷ budget_check budget ∷ checks d)) (search_checks_lem largest_dimension out)
      ∙ first_after (search_checks largest_dimension t' target out) (radius_check R ∷ budget_check budget ∷ checks d) (radius_check R ∷ budget_check budget ∷ checks d')
      (first_after (radius_check R ∷ budget_check budget ∷ []) (checks d) (checks d') (length_first n found wrong (handed_on R) d d' of_length))

  seeded_of : (out candidate : List ℤ) (R : Float) (budget : ℕ) → nearest_seeded t target out candidate R budget ≡ nearest_seeded t' target out candidate R budget
  unfolding nearest_seeded
  seeded_of out candidate R budget = λ k. after (seeded_checks_lem out candidate R budget k) (widened_search_lem (handed_on R) budget k)

  ml_of : (out : List ℤ) (budget : ℕ) → nearest_ml t target out budget ≡ nearest_ml t' target out budget
  unfolding nearest_ml ml_checks
  ml_of out budget =
      let radius = same_ml_radius t mu' same target in
      let search = widened_search_lem (ml_radius t target) budget ∙ ap (λ (R : Float). widened_search t' target R budget) radius in
      λ k. after (first_refusal (search_checks_lem largest_dimension out k ++ budget_check budget ∷ candidate_distance_check (radius k) ∷ widened_radius_check (widened n (radius k)) ∷ [])) (search k)

  list_of : (distances : List Float) (points : List ℤ) (R : Float) (budget : ℕ) → list t target distances points R budget ≡ list t' target distances points R budget
  unfolding list list_checks
  list_of distances points R budget = λ k.
      after (first_refusal (same_table_checks t mu' same largest_searched k ++ length_check n (length target) ∷ target_check target ∷ radius_check R ∷ budget_check budget ∷ list_size_check n (length distances) (length points) ∷ []))
      (end_of_list (length distances) (list_search_lem (handed_on R) budget k))

  plane_of_lem : (out : List ℤ) → plane t target out ≡ plane t' target out
  unfolding plane
  plane_of_lem out = λ k. first_refusal (same_table_checks t mu' same largest_dimension k ++ plane_length_check n (length target) (length out) ∷ finite_check target ∷ [])

  plane_output_of : (v : Verdict) (out : List ℤ) → plane_output v t target out ≡ plane_output v t' target out
  unfolding plane_output
  plane_output_of pass out = ap (λ (s : Plane). s.point) (same_plane t mu' same target)
  plane_output_of (refuse e) out = refl

  plane_coefficients_of : (v : Verdict) → plane_coefficients v t target ≡ plane_coefficients v t' target
  unfolding plane_coefficients
  plane_coefficients_of pass = ap (λ (s : Plane). s.left) (same_plane t mu' same target)
  plane_coefficients_of (refuse e) = refl

prepared_of : (t : Table) (mu' : List Float) → SameRead t (table t.weights mu') → (transform inverse : List ℤ) (target : List Float) (out : List ℤ) (budget : ℕ) → prepared_nearest_ml t transform inverse target out budget ≡ prepared_nearest_ml (table t.weights mu') transform inverse target out budget
unfolding prepared_nearest_ml prepared_checks
prepared_of t mu' same transform inverse target out budget =
    let n = dimension t in
    let x = transformed_of t inverse target in
    let radius = same_ml_radius t mu' same x in
    let search = widened_search_lem t mu' same x (ml_radius t x) budget ∙ ap (λ (R : Float). widened_search (table t.weights mu') x R budget) radius in
    λ k.
    after
    (first_refusal (same_table_checks t mu' same largest_dimension k ++ matrix_checks n transform inverse ++ target_checks n target out ++ target_check x ∷ budget_check budget ∷ candidate_distance_check (radius k) ∷ widened_radius_check (widened n (radius k)) ∷ []))
    (mapped_answer n transform (search k))

-- ---- two tables
module _ {t t' : Table} (same : SameRead t t') where
  -- a law of tables that differ in mu alone
  of_mu : (P : Table → Type 0) → ((mu' : List Float) → SameRead t (table t.weights mu') → P (table t.weights mu')) → P t'
  of_mu P law = subst (λ (weights : List Float). SameRead t (table weights t'.mu) → P (table weights t'.mu)) same.weights (law t'.mu) same

  -- of a vector, `triangular_distance`
  pub same_distance : (target : List Float) (zs : List ℤ) → length zs ≤ dimension t → distance t target zs ≡ distance t' target zs
  same_distance target zs fits = of_mu (λ x. distance t target zs ≡ distance x target zs) λ mu' s. same_partial t mu' s target zs fits

  pub same_nearest : (target : List Float) (out : List ℤ) (R : Float) (budget : ℕ) → nearest t target out R budget ≡ nearest t' target out R budget
  same_nearest target out R budget = of_mu (λ x. nearest t target out R budget ≡ nearest x target out R budget) λ mu' s. nearest_of t mu' s target out R budget

  pub same_seeded : (target : List Float) (out candidate : List ℤ) (R : Float) (budget : ℕ) → nearest_seeded t target out candidate R budget ≡ nearest_seeded t' target out candidate R budget
  same_seeded target out candidate R budget =
      of_mu (λ x. nearest_seeded t target out candidate R budget ≡ nearest_seeded x target out candidate R budget) λ mu' s. seeded_of t mu' s target out candidate R budget

  pub same_ml : (target : List Float) (out : List ℤ) (budget : ℕ) → nearest_ml t target out budget ≡ nearest_ml t' target out budget
  same_ml target out budget = of_mu (λ x. nearest_ml t target out budget ≡ nearest_ml x target out budget) λ mu' s. ml_of t mu' s target out budget

  pub same_prepared : (transform inverse : List ℤ) (target : List Float) (out : List ℤ) (budget : ℕ) → prepared_nearest_ml t transform inverse target out budget ≡ prepared_nearest_ml t' transform inverse target out budget
  same_prepared transform inverse target out budget =
      of_mu (λ y. prepared_nearest_ml t transform inverse target out budget ≡ prepared_nearest_ml y transform inverse target out budget) λ mu' s. prepared_of t mu' s transform inverse target out budget

  pub same_list : (target distances : List Float) (points : List ℤ) (R : Float) (budget : ℕ) → list t target distances points R budget ≡ list t' target distances points R budget
  same_list target distances points R budget =
      of_mu (λ x. list t target distances points R budget ≡ list x target distances points R budget) λ mu' s. list_of t mu' s target distances points R budget

  module _ (coefficients : List Float) (out : List ℤ) where
    pub same_plane_verdict : plane t coefficients out ≡ plane t' coefficients out
    same_plane_verdict = of_mu (λ x. plane t coefficients out ≡ plane x coefficients out) λ mu' s. plane_of_lem t mu' s coefficients out

    pub same_plane_output : plane_output (plane t coefficients out) t coefficients out ≡ plane_output (plane t' coefficients out) t' coefficients out
    same_plane_output =
        of_mu (λ x. plane_output (plane t coefficients out) t coefficients out ≡ plane_output (plane t coefficients out) x coefficients out) (λ mu' s. plane_output_of t mu' s coefficients (plane t coefficients out) out)
        ∙ ap (λ (v : Verdict). plane_output v t' coefficients out) same_plane_verdict

    pub same_plane_coefficients : plane_coefficients (plane t coefficients out) t coefficients ≡ plane_coefficients (plane t' coefficients out) t' coefficients
    same_plane_coefficients =
        of_mu (λ x. plane_coefficients (plane t coefficients out) t coefficients ≡ plane_coefficients (plane t coefficients out) x coefficients) (λ mu' s. plane_coefficients_of t mu' s coefficients (plane t coefficients out))
        ∙ ap (λ (v : Verdict). plane_coefficients v t' coefficients) same_plane_verdict

-- The number under which each check refuses. Assumes nothing.
use mathlib.Core.Path.{◌≡◌, refl, sym, ap, subst}
use mathlib.Core.Bool.{Bool, true, false, not, ◌||◌}
use mathlib.Core.List.{List, ◌∷◌, ◌++◌}
use Prim.Native.Nat.{ℕ, ◌*◌}
use lib.Dec.{ltb, eqb}
use lib.ListN.{length}
use lib.IntN.{ℤ}
use lib.Ieee.{Float, lt}
use Rattle.definitions.specs.Table.{Table, dimension, plus_zero, largest_budget}
use Rattle.definitions.specs.Refusals.{Refusal, table_size, length_mismatch, invalid_radius, budget_range, candidate_distance, candidate_outside, widened_radius}
use Rattle.definitions.specs.Checks.{Verdict, refuse, refuse_if, not_finite, table_checks, length_check, radius_check, budget_check, candidate_distance_check, candidate_outside_check, widened_radius_check}
use Rattle.definitions.specs.Calls.{search_checks}
use Rattle.definitions.proofs.Verdicts.{refuse≢pass}
use Rattle.theorems.specs.Refusals.{HasNumber, Numbered, check}
use Rattle.theorems.proofs.FirstFaults.{AtFirst, mu_finite_first, mu_range_first, weight_first, target_first}

-- what holds of the refusal of a test that is met holds of whatever the check refuses with
pub refused_by : (P : Refusal → Type 0) (b : Bool) (d : Refusal) → (b ≡ true → P d) → (e : Refusal) → refuse_if b d ≡ refuse e → P e
refused_by P true d p e q = let same : d ≡ e = cc in subst P same (p refl)
refused_by P false d p e q = absurd (refuse≢pass (sym q))

pub by_test : (b : Bool) (d : Refusal) → HasNumber d.number (refuse_if b d)
by_test b d = refused_by (λ (r : Refusal). r.number ≡ d.number) b d (λ q. refl)

pub by_index : {v : Verdict} {n : ℕ} {Index : ℕ → Type 0} {fault : ℕ → Bool} → AtFirst v n Index fault → HasNumber n v
by_index law e q = ap (λ (r : Refusal). r.number) (law e q).1

pub length_number : (expected found : ℕ) → HasNumber 6 (length_check expected found)
length_number expected found = by_test (not (eqb expected found)) (length_mismatch expected found)

pub radius_number : (R : Float) → HasNumber 8 (radius_check R)
unfolding radius_check
radius_number R = by_test (not_finite R || lt R plus_zero) (invalid_radius R)

pub budget_number : (budget : ℕ) → HasNumber 9 (budget_check budget)
budget_number budget = by_test (ltb largest_budget budget) (budget_range budget)

pub total_number : (total : Float) → HasNumber 11 (candidate_distance_check total)
total_number total = by_test (not_finite total) (candidate_distance total)

pub outside_number : (R d : Float) → HasNumber 12 (candidate_outside_check R d)
unfolding candidate_outside_check
outside_number R d = by_test (lt R d) (candidate_outside R)

pub widened_number : (radius : Float) → HasNumber 13 (widened_radius_check radius)
widened_number radius = by_test (not_finite radius) (widened_radius radius)

-- ---- the checks of a table and of a search, before others
pub table_then : (largest : ℕ) (t : Table) {ns : List ℕ} {vs : List Verdict} → Numbered ns vs → Numbered (2 ∷ 3 ∷ 4 ∷ 5 ∷ ns) (table_checks largest t ++ vs)
unfolding table_checks
table_then largest t more =
    let n = dimension t in
    check (by_test (ltb largest n || not (eqb (length t.mu) (n * n))) (table_size n))
    (check (by_index (mu_finite_first t)) (check (by_index (mu_range_first t)) (check (by_index (weight_first t)) more)))

pub search_then : (largest : ℕ) (t : Table) (target : List Float) (out : List ℤ) {ns : List ℕ} {vs : List Verdict} → Numbered ns vs → Numbered (2 ∷ 3 ∷ 4 ∷ 5 ∷ 6 ∷ 6 ∷ 7 ∷ ns) (search_checks largest t target out ++ vs)
unfolding search_checks table_checks
search_then largest t target out more =
    let n = dimension t in
    table_then largest t (check (length_number n (length target)) (check (length_number n (length out)) (check (by_index (target_first target)) more)))

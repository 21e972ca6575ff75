-- What `change_reference` promises of its answer and of the point it leaves: docs/SPECIFICATION.md, "Reference" and "What is promised". Definitions only.
-- `answer` and a' are what the caller gets of a change of the point a to coordinate r. A second change is one of a'.
use Rattle.std.specs.Prelude.{◌≡◌, not, List, ◌↔◌, ℕ, ◌≤◌, ◌<◌, length, set, ℤ, neg_ℤ, ◌-ℤ◌}
use Rattle.rounding.specs.Integers.{is_i64}
use Rattle.definitions.specs.Refusals.{reference_index, changed_range}
use Rattle.definitions.specs.Checks.{Verdict, pass, refuse}
use Rattle.definitions.specs.Reference.{cycles, changed, checks_of_change, change_reference, change_output, Accepted}
use Rattle.theorems.specs.Refusals.{FirstIsLeast, FirstFault}
use Rattle.theorems.specs.Answers.{VerdictDemand1}

-- the point with coordinates r and s exchanged
abbrev pub exchanged : ℕ → ℕ → List ℤ → List ℤ
exchanged r s a = set (set a r (cycles a s)) s (cycles a r)

-- what a change of a to r leaves
abbrev pub left_by : List ℤ → ℕ → List ℤ
left_by a r = change_output (change_reference a r) a r

-- a change that was accepted
pub record AcceptedPromises (a : List ℤ) (r : ℕ) (a' : List ℤ) : Type 0 where
  -- as many coordinates as before; coordinate r holds -a(r), each other a(i) - a(r)
  pub same_length : length a' ≡ length a
  pub own : cycles a' r ≡ neg_ℤ (cycles a r)
  pub other : (i : ℕ) → i < length a → (i ≡ r → ⊥) → cycles a' i ≡ cycles a i -ℤ cycles a r
  -- a second change to r brings the first point back, where it is accepted; and it is accepted
  pub back : change_reference a' r ≡ pass → left_by a' r ≡ a
  pub back_accepted : change_reference a' r ≡ pass
  -- a second change to s leaves what a change to s would have left, with coordinates r and s exchanged, where both are accepted; and
  -- either is accepted where the other is
  pub onward : (s : ℕ) → (r ≡ s → ⊥) → change_reference a' s ≡ pass → change_reference a s ≡ pass → left_by a' s ≡ exchanged r s (left_by a s)
  pub onward_accepted : (s : ℕ) → (r ≡ s → ⊥) → (change_reference a' s ≡ pass) ↔ (change_reference a s ≡ pass)

pub record ReferencePromises (a : List ℤ) (r : ℕ) (answer : Verdict) (a' : List ℤ) : Type 0 where
  -- refused exactly by the first check that fits, with its number and values, and the point is as it was
  pub demand_1 : VerdictDemand1 (checks_of_change a r) answer (a' ≡ a)
  pub least_number : FirstIsLeast (checks_of_change a r)
  -- 19 exactly where r is not below the length
  pub gives_19 : (answer ≡ refuse reference_index) ↔ (length a ≤ r)
  -- 20 exactly where r is below it and a coordinate becomes no signed 64-bit integer, with the first such index
  pub gives_20 : (i : ℕ) → (answer ≡ refuse (changed_range i)) ↔ ((r < length a) × FirstFault (λ k. k < length a) (λ k. not (is_i64 (changed a r k))) i)
  -- accepted exactly where r is below it and each coordinate becomes a signed 64-bit integer
  pub accepts : (answer ≡ pass) ↔ Accepted a r
  pub accepted : answer ≡ pass → AcceptedPromises a r a'

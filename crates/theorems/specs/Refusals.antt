-- What promise 1 says of a call's checks: which refusals fit an input, which of them is the first in the call's written order, and which index it carries. Definitions only.
use Rattle.std.specs.Prelude.{ℕ, ◌+◌, ◌*◌, ◌≤◌, ◌<◌, ◌≡◌, Bool, true, false, ◌&&◌, leb, length, get_or, Float}
use mathlib.Core.List.{List, [], ◌∷◌, Memᴰ}
use Rattle.std.specs.Float.{nan}
use Rattle.definitions.specs.Table.{Table, dimension, weight, coordinate}
use Rattle.definitions.specs.Refusals.{Refusal, mu_non_finite, mu_range, weight_range, non_finite}
use Rattle.definitions.specs.Checks.{Verdict, pass, refuse, not_finite, beyond_limit, weight_fault}

-- a refusal fits an input: one of the call's checks of it refuses so, with this number and these values
abbrev pub Fits : List Verdict → Refusal → Type 0
Fits checks e = Memᴰ (refuse e) checks

abbrev pub NoneFits : List Verdict → Type 0
NoneFits checks = (e : Refusal) → Fits checks e → ⊥

-- the first that fits: a check refuses so, and those written before it pass
pub data FirstFits : List Verdict → Refusal → Type 0 where
  refuses_here : {e : Refusal} {checks : List Verdict} → FirstFits (refuse e ∷ checks) e
  passes_here : {e : Refusal} {checks : List Verdict} → FirstFits checks e → FirstFits (pass ∷ checks) e

-- ---- the numbers of a call's checks
-- a check that refuses does so under this number
abbrev pub HasNumber : ℕ → Verdict → Type 0
HasNumber n v = (e : Refusal) → v ≡ refuse e → e.number ≡ n

-- these are the checks' numbers, in their order
pub data Numbered : List ℕ → List Verdict → Type 0 where
  no_checks : Numbered [] []
  check : {n : ℕ} {ns : List ℕ} {v : Verdict} {vs : List Verdict} → HasNumber n v → Numbered ns vs → Numbered (n ∷ ns) (v ∷ vs)

-- from this number on they rise
abbrev pub rising : ℕ → List ℕ → Bool
rising low [] = true
rising low (n ∷ ns) = leb low n && rising n ns

-- the first number that fits is the least that fits
abbrev pub FirstIsLeast : List Verdict → Type 0
FirstIsLeast checks = (e d : Refusal) → FirstFits checks e → Fits checks d → e.number ≤ d.number

-- ---- the index that a refusal carries
-- the first index: one of these, with the fault, and none of them that is smaller has it
pub record FirstFault (Index : ℕ → Type 0) (fault : ℕ → Bool) (i : ℕ) : Type 0 where
  pub index : Index i
  pub faulty : fault i ≡ true
  pub first : (k : ℕ) → Index k → k < i → fault k ≡ false

-- the index of an entry mu(j, i) that is read, of these rows
pub record Read (n rows k : ℕ) : Type 0 where
  pub j : ℕ
  pub i : ℕ
  pub left : i < j
  pub below : j < rows
  pub place : k ≡ j * n + i

-- 7, of a target or of coefficients
abbrev pub NumberIndex : List Verdict → (Float → Bool) → List Float → Type 0
NumberIndex checks fault xs = (i : ℕ) → Fits checks (non_finite i) → FirstFault (λ k. k < length xs) (λ k. fault (coordinate xs k)) i

-- all four, of a call on a table
pub record FirstIndices (checks : List Verdict) (t : Table) (fault : Float → Bool) (xs : List Float) : Type 0 where
  pub mu_finite : (i : ℕ) → Fits checks (mu_non_finite i) → FirstFault (Read (dimension t) (dimension t)) (λ k. not_finite (get_or t.mu k nan)) i
  pub mu_range_lem : (i : ℕ) → Fits checks (mu_range i) → FirstFault (Read (dimension t) (dimension t)) (λ k. beyond_limit (get_or t.mu k nan)) i
  pub weights : (i : ℕ) → Fits checks (weight_range i) → FirstFault (λ k. k < dimension t) (λ k. weight_fault (weight t k)) i
  pub numbers : NumberIndex checks fault xs

-- The checks that look through indices refuse with the first faulty one, since the indices rise. Assumes nothing.
use mathlib.Core.Path.{◌≡◌, refl, sym, ap, ◌∙◌, subst}
use mathlib.Core.Bool.{Bool, true, false, cond}
use mathlib.Core.List.Memᴰ
use mathlib.Core.List.{List, [], ◌∷◌, ◌++◌, Memᴰ}
use mathlib.Core.Logic.{⊎_elim, ◌↔◌}
use Prim.Native.Nat.{ℕ, zero, suc, ◌+◌, ◌*◌, ◌-◌, ◌≤◌, ◌<◌}
use native.Mathlib.Nat.{mul-le-mul_right, add-mul}
use native.Mathlib.Omega.{arith}
use lib.ListN.{length, get_or}
use lib.Ieee.{Float, nan}
use Rattle.definitions.specs.Table.{Table, dimension, weight, coordinate}
use Rattle.definitions.specs.Refusals.{Refusal, whole}
use Rattle.definitions.specs.Checks.{Verdict, refuse, refuse_at_first, count_from, read_indices, not_finite, beyond_limit, weight_fault, target_fault, mu_non_finite_check, mu_range_check, weight_range_check, target_check, finite_check}
use Rattle.definitions.proofs.Verdicts.{refuse≢pass, counted, counts}
use Rattle.definitions.proofs.Tables.{read}
use Rattle.theorems.specs.Refusals.{FirstFault, Read}

-- ---- indices that rise
pub data Increasing : List ℕ → Type 0 where
  none : Increasing []
  next : {i : ℕ} {is : List ℕ} → ((k : ℕ) → Memᴰ k is → i < k) → Increasing is → Increasing (i ∷ is)

counted_increasing : (first n : ℕ) → Increasing (count_from first n)
unfolding count_from
counted_increasing first zero = none
counted_increasing first (suc n) = next (λ k m. (counted (suc first) n k m).0) (counted_increasing (suc first) n)

append_increasing : {is ks : List ℕ} → Increasing is → Increasing ks → ((i k : ℕ) → Memᴰ i is → Memᴰ k ks → i < k) → Increasing (is ++ ks)
append_increasing none r below = r
append_increasing (next {i} {is} low l) r below =
    next
    (λ k m. ⊎_elim (low k) (below i k (Memᴰ.head refl)) (Memᴰ.append_cases is m))
    (append_increasing l r (λ j k a b. below j k (Memᴰ.tail a) b))

-- ---- the entries mu that are read
only_read : (n rows k : ℕ) → Memᴰ k (read_indices n rows) → Read n rows k
unfolding read_indices
only_read n zero k m = absurd (Memᴰ.not-nil m)
only_read n (suc j) k m =
    ⊎_elim
    (λ earlier. let r = only_read n j k earlier in record { j = r.j; i = r.i; left = r.left; below = omega arith; place = r.place })
    (λ last. let l = counted (j * n) j k last in record { j = j; i = k - j * n; left = omega arith; below = omega arith; place = omega arith })
    (Memᴰ.append_cases (read_indices n j) m)

-- the indices that are read are those of the entries mu(j, i) with i < j
pub read_exactly : (n rows k : ℕ) → Memᴰ k (read_indices n rows) ↔ Read n rows k
read_exactly n rows k =
    (only_read n rows k, λ r. subst (λ (x : ℕ). Memᴰ x (read_indices n rows)) (sym r.place) (read n rows r.j r.i r.left r.below))

-- the rows before one end before it begins
row_begins : (n rows k : ℕ) → rows ≤ n → Read n rows k → k < rows * n
row_begins n rows k few r =
    let h : (r.j + 1) * n ≤ rows * n = mul-le-mul_right n (omega arith) in
    omega (arith, add-mul r.j 1 n)

pub read_increasing : (n rows : ℕ) → rows ≤ n → Increasing (read_indices n rows)
unfolding read_indices
read_increasing n zero few = none
read_increasing n (suc j) few =
    append_increasing (read_increasing n j (omega arith)) (counted_increasing (j * n) j)
    (λ i k a b. omega (arith, row_begins n j i (omega arith) (only_read n j i a), (counted (j * n) j k b).0))

-- ---- the law of a check that looks through indices
abbrev pub carrying : ℕ → ℕ → Refusal
carrying n i = record { number = n; values = whole i ∷ [] }

-- if it refuses, it does so with the refusal of the first fault
abbrev pub AtFirstBy : (ℕ → Refusal) → Verdict → (ℕ → Type 0) → (ℕ → Bool) → Type 0
AtFirstBy refusal v Index fault = (e : Refusal) → v ≡ refuse e → (i : ℕ) × (e ≡ refusal i) × FirstFault Index fault i

-- which is one under its number that carries the index
abbrev pub AtFirst : Verdict → ℕ → (ℕ → Type 0) → (ℕ → Bool) → Type 0
AtFirst v n = AtFirstBy (carrying n) v

module _ (refusal : ℕ → Refusal) (fault : ℕ → Bool) where
  at_first : {is : List ℕ} → Increasing is → AtFirstBy refusal (refuse_at_first fault refusal is) (λ k. Memᴰ k is) fault
  unfolding refuse_at_first
  at_first none e q = absurd (refuse≢pass (sym q))
  at_first (next {i} {is} low more) e q = go (fault i) refl q (at_first more e)
    where
      go : (b : Bool) → fault i ≡ b → cond b (refuse (refusal i)) (refuse_at_first fault refusal is) ≡ refuse e → (refuse_at_first fault refusal is ≡ refuse e → (k : ℕ) × (e ≡ refusal k) × FirstFault (λ j. Memᴰ j is) fault k) → (k : ℕ) × (e ≡ refusal k) × FirstFault (λ j. Memᴰ j (i ∷ is)) fault k
      go true f q later =
          let same : e ≡ refusal i = cc in
          (i, same, record { index = Memᴰ.head refl; faulty = f; first = λ k m less. ⊎_elim (λ own. absurd (omega arith)) (λ other. absurd (omega (arith, low k other))) (Memᴰ.cases_cons m) })
      go false f q later =
          let l = later q in
          let r = l.2 in
          (l.0, l.1, record { index = Memᴰ.tail r.index; faulty = r.faulty; first = λ k m less. ⊎_elim (λ own. ap fault own ∙ f) (λ other. r.first k other less) (Memᴰ.cases_cons m) })

  among : {v : Verdict} {Index Other : ℕ → Type 0} → ((k : ℕ) → Index k → Other k) → ((k : ℕ) → Other k → Index k) → AtFirstBy refusal v Index fault → AtFirstBy refusal v Other fault
  among there back law e q =
      let l = law e q in
      let r = l.2 in
      (l.0, l.1, record { index = there l.0 r.index; faulty = r.faulty; first = λ k o less. r.first k (back k o) less })

  -- of the entries that are read
  read_first : (size : ℕ) → AtFirstBy refusal (refuse_at_first fault refusal (read_indices size size)) (Read size size) fault
  read_first size =
      among (λ k. (read_exactly size size k).0) (λ k. (read_exactly size size k).1)
      (at_first (read_increasing size size (omega arith)))

  -- of all that are counted
  pub counted_first : (size : ℕ) → AtFirstBy refusal (refuse_at_first fault refusal (count_from 0 size)) (λ k. k < size) fault
  counted_first size =
      among (λ k m. omega (arith, (counted 0 size k m).1)) (λ k less. counts 0 size k (omega arith) (omega arith))
      (at_first (counted_increasing 0 size))

-- ---- the checks
module _ (t : Table) where
  pub mu_finite_first : AtFirst (mu_non_finite_check t) 3 (Read (dimension t) (dimension t)) (λ k. not_finite (get_or t.mu k nan))
  mu_finite_first = read_first (carrying 3) (λ k. not_finite (get_or t.mu k nan)) (dimension t)

  pub mu_range_first : AtFirst (mu_range_check t) 4 (Read (dimension t) (dimension t)) (λ k. beyond_limit (get_or t.mu k nan))
  mu_range_first = read_first (carrying 4) (λ k. beyond_limit (get_or t.mu k nan)) (dimension t)

  pub weight_first : AtFirst (weight_range_check t) 5 (λ k. k < dimension t) (λ k. weight_fault (weight t k))
  weight_first = counted_first (carrying 5) (λ k. weight_fault (weight t k)) (dimension t)

pub target_first : (target : List Float) → AtFirst (target_check target) 7 (λ k. k < length target) (λ k. target_fault (coordinate target k))
unfolding target_check
target_first target = counted_first (carrying 7) (λ k. target_fault (coordinate target k)) (length target)

pub coefficient_first : (coefficients : List Float) → AtFirst (finite_check coefficients) 7 (λ k. k < length coefficients) (λ k. not_finite (coordinate coefficients k))
unfolding finite_check
coefficient_first coefficients = counted_first (carrying 7) (λ k. not_finite (coordinate coefficients k)) (length coefficients)

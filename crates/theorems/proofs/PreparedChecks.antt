-- The checks of `prepared_nearest_ml`: their numbers and indices, that they carry no minus zero, and where none of them fits. Assumes nothing.
use mathlib.Core.Path.{◌≡◌, refl, sym, ap, ◌∙◌, subst}
use mathlib.Core.Bool.{Bool, true, false, not, ◌&&◌}
use mathlib.Core.List.Memᴰ
use mathlib.Core.List.{List, [], ◌∷◌, ◌++◌}
use mathlib.Core.Logic.{◌⊎◌, ◌↔◌, inl, inr, ⊎_elim}
use Prim.Native.Nat.{ℕ, zero, suc, ◌+◌, ◌*◌, ◌-◌, ◌^◌, ◌≤◌, ◌<◌}
use native.Mathlib.Omega.{arith}
use borrow.Author.Tests.{ltb-true, ltb-false, le-ltb, eq-eqb, eqb-false}
use lib.Dec.{ltb, eqb}
use lib.ListN.{length, get_or, get_or-append}
use lib.IntN.{ℤ, pos, nat_abs}
use lib.Ieee.{Float}
use Rattle.lists.specs.All.{All, none, more}
use Rattle.definitions.specs.Table.{Table, dimension, coordinate, largest_dimension}
use Rattle.definitions.specs.Seeds.{widened}
use Rattle.definitions.specs.Refusals.{Refusal, whole, length_mismatch, non_finite, matrix_range, not_inverse}
use Rattle.definitions.specs.Checks.{Verdict, pass, refuse, refuse_if, refuse_at_first, count_from, target_fault, table_checks, length_check, target_check}
use Rattle.definitions.specs.Calls.{ml_radius}
use Rattle.definitions.specs.Prepared.{is_identity, element_fault, matrix_length_check, transform_range_check, inverse_range_check, inverse_check, matrix_checks, given_checks, transformed_of}
use Rattle.definitions.proofs.Verdicts.{refuse≢pass, no_fault, passed}
use Rattle.definitions.proofs.Tables.{target_passed}
use Rattle.definitions.proofs.Passed.{length_passed, budget_passed, budget_passes, total_passed, widened_passed}
use Rattle.definitions.proofs.Prepared.{range_passed, square_passed, transformed_length}
use Rattle.theorems.specs.Refusals.{NoneFits, FirstFits, Numbered, no_checks, check, FirstFault, FirstIndices}
use Rattle.theorems.specs.Prepared.{MatrixAccepted, Inverses, MatrixIndex, WrongLength, TargetIndex, prepared_call_checks, PreparedAccepted}
use Rattle.theorems.proofs.FirstFaults.{carrying, AtFirst, counted_first, target_first}
use Rattle.theorems.proofs.FirstRefusal.{first_fits, first_cases, first_of_number, first_indices}
use Rattle.theorems.proofs.CheckNumbers.{by_test, by_index, length_number, budget_number, total_number, widened_number, table_then}
use Rattle.theorems.proofs.MinusZero.{Clear, one_whole, no_values, length_clear, budget_clear, total_clear, widened_clear, table_clear}
use Rattle.theorems.proofs.MinusZero as clear
use Rattle.theorems.proofs.Accepted.{Passing, passing, none_fits, and_true, not_refused, is_finite, length_passes, size_passes, finite_entries, bounded_entries, weights_pass, targets_pass, targets_bounded, total_passes, widened_passes, search_accepted}
use Rattle.theorems.proofs.Matrices.{identity_elements, elements_identity}

-- the elements of two lists, from the second's first on
behind : (xs ys : List ℤ) (k : ℕ) → length xs ≤ k → get_or (xs ++ ys) k (pos 0) ≡ get_or ys (k - length xs) (pos 0)
behind [] ys k h = ap (λ (i : ℕ). get_or ys i (pos 0)) (omega arith)
behind (x ∷ xs) ys zero h = absurd (omega arith)
behind (x ∷ xs) ys (suc k) h = behind xs ys k (omega arith) ∙ ap (λ (i : ℕ). get_or ys i (pos 0)) (omega arith)

-- ---- the matrices
module _ (n : ℕ) (transform inverse : List ℤ) where
  abbrev square : Bool
  square = eqb (length transform) (n * n) && eqb (length inverse) (n * n)

  abbrev both : Bool
  both = is_identity n transform inverse && is_identity n inverse transform

  transform_first : AtFirst (transform_range_check n transform) 22 (λ k. k < n * n) (λ k. element_fault (get_or transform k (pos 0)))
  transform_first = counted_first (carrying 22) (λ k. element_fault (get_or transform k (pos 0))) (n * n)

  -- the inverse's elements, by the index that is told
  inverse_first : AtFirst (inverse_range_check n inverse) 22 (λ i. (n * n ≤ i) × (i < n * n + n * n)) (λ i. element_fault (get_or inverse (i - n * n) (pos 0)))
  inverse_first e q =
      let l = counted_first (λ k. matrix_range (n * n + k)) (λ k. element_fault (get_or inverse k (pos 0))) (n * n) e q in
      let f = l.2 in (
        n * n + l.0,
        l.1,
        record {
          index = (omega arith, omega (arith, f.index));
          faulty = ap (λ (k : ℕ). element_fault (get_or inverse k (pos 0))) (back (n * n) l.0) ∙ f.faulty;
          first = λ k i less. f.first (k - n * n) (omega (arith, i.0, i.1)) (omega (arith, i.0, less));
        },
      )
    where
      back : (s k : ℕ) → s + k - s ≡ k
      back s k = omega arith

  matrix_then : {ns : List ℕ} {vs : List Verdict} → Numbered ns vs → Numbered (22 ∷ 22 ∷ 22 ∷ 23 ∷ ns) (matrix_checks n transform inverse ++ vs)
  unfolding matrix_checks inverse_check
  matrix_then rest = check (by_test (not square) (matrix_range 0)) (check (by_index transform_first) (check (by_index inverse_first) (check (by_test (not both) not_inverse) rest)))

  matrix_clear : {vs : List Verdict} → All Clear vs → All Clear (matrix_checks n transform inverse ++ vs)
  unfolding matrix_checks inverse_check
  matrix_clear rest = more (clear.by_test (not square) (matrix_range 0) (λ q. one_whole)) (more (clear.by_index transform_first) (more (clear.by_index inverse_first) (more (clear.by_test (not both) not_inverse (λ q. no_values)) rest)))

  -- ---- what each lets pass
  square_passes : length transform ≡ n * n → length inverse ≡ n * n → matrix_length_check n transform inverse ≡ pass
  square_passes p q = not_refused (matrix_range 0) (ap not (and_true (eq-eqb _ _ p) (eq-eqb _ _ q)))

  inverses_passed : inverse_check n transform inverse ≡ pass → Inverses n transform inverse
  unfolding inverse_check
  inverses_passed q = split (is_identity n transform inverse) (is_identity n inverse transform) refl refl q
    where
      split : (a b : Bool) → is_identity n transform inverse ≡ a → is_identity n inverse transform ≡ b → refuse_if (not (a && b)) not_inverse ≡ pass → Inverses n transform inverse
      split true true p r q = record { transform_inverse = identity_elements n transform inverse p; inverse_transform = identity_elements n inverse transform r }
      split true false p r q = absurd (refuse≢pass q)
      split false b p r q = absurd (refuse≢pass q)

  inverses_pass : Inverses n transform inverse → inverse_check n transform inverse ≡ pass
  unfolding inverse_check
  inverses_pass i = not_refused not_inverse (ap not (and_true (elements_identity n transform inverse i.transform_inverse) (elements_identity n inverse transform i.inverse_transform)))

  -- ---- what 22 carries
  abbrev joined : ℕ → Bool
  joined k = element_fault (get_or (transform ++ inverse) k (pos 0))

  matrix_index : {i : ℕ} → FirstFits (matrix_length_check n transform inverse ∷ transform_range_check n transform ∷ inverse_range_check n inverse ∷ []) (matrix_range i) → MatrixIndex n transform inverse i
  matrix_index {i} f = ⊎_elim lengths (λ r. elements (square_passed n transform inverse r.0) (first_cases r.1)) (first_cases f)
    where
      carried : {e : Refusal} {k : ℕ} → e ≡ carrying 22 k → matrix_range i ≡ e → k ≡ i
      carried {k = k} p q = let v : (whole k ∷ []) ≡ (whole i ∷ []) = ap (λ (r : Refusal). r.values) (sym (q ∙ p)) in cc

      lengths : matrix_length_check n transform inverse ≡ refuse (matrix_range i) → MatrixIndex n transform inverse i
      lengths q = inl (λ long. refuse≢pass (sym q ∙ square_passes long.0 long.1), index square q)
        where
          index : (b : Bool) → refuse_if (not b) (matrix_range 0) ≡ refuse (matrix_range i) → i ≡ 0
          index true e = absurd (refuse≢pass (sym e))
          index false e = let same : matrix_range 0 ≡ matrix_range i = cc in sym (carried refl (sym same))

      first_at : (length transform ≡ n * n) → (k : ℕ) → k < n * n → get_or (transform ++ inverse) k (pos 0) ≡ get_or transform k (pos 0)
      first_at long k less = get_or-append transform inverse (pos 0) k (omega (arith, long, less))

      elements : (length transform ≡ n * n) × (length inverse ≡ n * n) → (transform_range_check n transform ≡ refuse (matrix_range i)) ⊎ ((transform_range_check n transform ≡ pass) × FirstFits (inverse_range_check n inverse ∷ []) (matrix_range i)) → MatrixIndex n transform inverse i
      elements long (inl q) =
          let l = transform_first (matrix_range i) q in
          let r = subst (FirstFault (λ k. k < n * n) (λ k. element_fault (get_or transform k (pos 0)))) (carried l.1 refl) l.2 in
          inr (
            long.0,
            long.1,
            record {
              index = omega (arith, r.index);
              faulty = ap element_fault (first_at long.0 i r.index) ∙ r.faulty;
              first = λ k within less. let small : k < n * n = omega (arith, r.index, less) in ap element_fault (first_at long.0 k small) ∙ r.first k small less;
            },
          )
      elements long (inr (clean, f)) = ⊎_elim last (λ r. absurd (Memᴰ.not-nil (first_fits r.1))) (first_cases f)
        where
          last : inverse_range_check n inverse ≡ refuse (matrix_range i) → MatrixIndex n transform inverse i
          last q =
              let l = inverse_first (matrix_range i) q in
              let r = subst (FirstFault (λ k. (n * n ≤ k) × (k < n * n + n * n)) (λ k. element_fault (get_or inverse (k - n * n) (pos 0)))) (carried l.1 refl) l.2 in
              inr (long.0, long.1, record { index = r.index.1; faulty = ap element_fault (second_at i r.index.0) ∙ r.faulty; first = before r })
            where
              second_at : (k : ℕ) → n * n ≤ k → get_or (transform ++ inverse) k (pos 0) ≡ get_or inverse (k - n * n) (pos 0)
              second_at k from = behind transform inverse k (omega (arith, long.0, from)) ∙ ap (λ (s : ℕ). get_or inverse (k - s) (pos 0)) long.0

              before : FirstFault (λ k. (n * n ≤ k) × (k < n * n + n * n)) (λ k. element_fault (get_or inverse (k - n * n) (pos 0))) i → (k : ℕ) → k < n * n + n * n → k < i → joined k ≡ false
              before r k within less =
                  go (ltb k (n * n)) refl
                where
                  go : (b : Bool) → ltb k (n * n) ≡ b → joined k ≡ false
                  go true e = let small = ltb-true k (n * n) e in ap element_fault (first_at long.0 k small) ∙ passed (λ k. element_fault (get_or transform k (pos 0))) matrix_range (n * n) clean k small
                  go false e = let from = ltb-false k (n * n) e in ap element_fault (second_at k from) ∙ r.first k (from, within) less

-- ---- the call
module _ (t : Table) (transform inverse : List ℤ) (target : List Float) (out : List ℤ) where
  abbrev n : ℕ
  n = dimension t

  given_numbered : {ns : List ℕ} {vs : List Verdict} → Numbered ns vs → Numbered (2 ∷ 3 ∷ 4 ∷ 5 ∷ 22 ∷ 22 ∷ 22 ∷ 23 ∷ 6 ∷ 6 ∷ 7 ∷ ns) (given_checks largest_dimension t transform inverse target out ++ vs)
  unfolding table_checks matrix_checks
  given_numbered rest =
      table_then largest_dimension t (matrix_then n transform inverse (check (length_number n (length target)) (check (length_number n (length out)) (check (by_index (target_first target)) rest))))

  pub given_indices : FirstIndices (given_checks largest_dimension t transform inverse target out) t target_fault target
  unfolding table_checks matrix_checks
  given_indices = first_indices (given_numbered no_checks) refl refl refl refl (target_first target)

  module _ (budget : ℕ) where
    abbrev x : List Float
    x = transformed_of t inverse target

    abbrev d : Float
    d = ml_radius t x

    abbrev wide : Float
    wide = widened n d

    pub prepared_numbered : Numbered (2 ∷ 3 ∷ 4 ∷ 5 ∷ 22 ∷ 22 ∷ 22 ∷ 23 ∷ 6 ∷ 6 ∷ 7 ∷ 7 ∷ 9 ∷ 11 ∷ 13 ∷ []) (prepared_call_checks t transform inverse target out budget)
    prepared_numbered = given_numbered (check (by_index (target_first x)) (check (budget_number budget) (check (total_number d) (check (widened_number wide) no_checks))))

    pub prepared_clear : All Clear (prepared_call_checks t transform inverse target out budget)
    unfolding table_checks matrix_checks
    prepared_clear =
        table_clear largest_dimension t (matrix_clear n transform inverse
        (more (length_clear n (length target)) (more (length_clear n (length out)) (more (clear.by_index (target_first target)) (more (clear.by_index (target_first x)) (more (budget_clear budget) (more (total_clear d) (more (widened_clear wide) none))))))))

    pub first_22 : (i : ℕ) → FirstFits (prepared_call_checks t transform inverse target out budget) (matrix_range i) → MatrixIndex n transform inverse i
    unfolding table_checks matrix_checks
    first_22 i f = matrix_index n transform inverse (first_of_number prepared_numbered (matrix_range i) f)

    pub prepared_accepts : NoneFits (prepared_call_checks t transform inverse target out budget) ↔ PreparedAccepted t transform inverse target out budget
    unfolding table_checks matrix_checks
    prepared_accepts = (λ f. go (passing (prepared_call_checks t transform inverse target out budget) f), back)
      where
        elements_pass : (m : List ℤ) (e : ℕ → Refusal) → MatrixAccepted n m → refuse_at_first (λ k. element_fault (get_or m k (pos 0))) e (count_from 0 (n * n)) ≡ pass
        elements_pass m e a = no_fault (λ k. element_fault (get_or m k (pos 0))) e (n * n) (λ k less. le-ltb (2 ^ 52) (nat_abs (get_or m k (pos 0))) (a.elements k less))

        go : Passing (prepared_call_checks t transform inverse target out budget) → PreparedAccepted t transform inverse target out budget
        go (more p2 (more p3 (more p4 (more p5 (more l (more a (more b (more p23 (more p6 (more o6 (more p7 (more x7 (more p9 (more p11 (more p13 none))))))))))))))) =
            let long = square_passed n transform inverse l in
            record {
              search = search_accepted largest_dimension t target out p2 p3 p4 p5 p6 o6 p7;
              transform_accepted = record { square = long.0; elements = range_passed transform matrix_range (n * n) a };
              inverse_accepted = record { square = long.1; elements = range_passed inverse (λ k. matrix_range (n * n + k)) (n * n) b };
              inverses = inverses_passed n transform inverse p23;
              transformed = targets_bounded n x (transformed_length n inverse target) x7;
              budget_most = budget_passed budget p9;
              candidate_finite = is_finite d (total_passed d p11);
              widened_finite = is_finite wide (widened_passed wide p13);
            }

        back : PreparedAccepted t transform inverse target out budget → NoneFits (prepared_call_checks t transform inverse target out budget)
        back a =
            let aimed = a.search.table_target in
            let table = aimed.table in
            none_fits
            (more (size_passes largest_dimension t table) (more (finite_entries largest_dimension t table) (more (bounded_entries largest_dimension t table) (more (weights_pass largest_dimension t table)
            (more (square_passes n transform inverse a.transform_accepted.square a.inverse_accepted.square) (more (elements_pass transform matrix_range a.transform_accepted) (more (elements_pass inverse (λ k. matrix_range (n * n + k)) a.inverse_accepted) (more (inverses_pass n transform inverse a.inverses)
            (more (length_passes n (length target) aimed.target_length) (more (length_passes n (length out) a.search.output_length) (more (targets_pass n target aimed.target_length aimed.targets)
            (more (targets_pass n x (transformed_length n inverse target) a.transformed) (more (budget_passes budget a.budget_most) (more (total_passes d a.candidate_finite) (more (widened_passes wide a.widened_finite) none)))))))))))))))

    pub first_6 : (expected found : ℕ) → FirstFits (prepared_call_checks t transform inverse target out budget) (length_mismatch expected found) → WrongLength n target out expected found
    unfolding table_checks matrix_checks
    first_6 expected found f = ⊎_elim of_target (λ r. ⊎_elim (of_output (length_passed n (length target) r.0)) (λ l. absurd (Memᴰ.not-nil (first_fits l.1))) (first_cases r.1)) (first_cases (first_of_number prepared_numbered (length_mismatch expected found) f))
      where
        carried : (m : ℕ) → length_check n m ≡ refuse (length_mismatch expected found) → (expected ≡ n) × (found ≡ m) × (m ≡ n → ⊥)
        carried m q = go (eqb n m) refl q
          where
            go : (b : Bool) → eqb n m ≡ b → refuse_if (not b) (length_mismatch n m) ≡ refuse (length_mismatch expected found) → (expected ≡ n) × (found ≡ m) × (m ≡ n → ⊥)
            go true e q = absurd (refuse≢pass (sym q))
            go false e q =
                let same : length_mismatch n m ≡ length_mismatch expected found = cc in
                let values : (whole n ∷ whole m ∷ []) ≡ (whole expected ∷ whole found ∷ []) = ap (λ (r : Refusal). r.values) same in
                let first : n ≡ expected = cc in
                let second : m ≡ found = cc in
                (sym first, sym second, λ r. eqb-false n m e (sym r))

        of_target : length_check n (length target) ≡ refuse (length_mismatch expected found) → WrongLength n target out expected found
        of_target q = let c = carried (length target) q in (c.0, λ r. c.2 (sym c.1 ∙ r), inl c.1)

        of_output : n ≡ length target → length_check n (length out) ≡ refuse (length_mismatch expected found) → WrongLength n target out expected found
        of_output long q = let c = carried (length out) q in (c.0, λ r. c.2 (sym c.1 ∙ r), inr (sym long, c.1))

    pub first_7 : (i : ℕ) → FirstFits (prepared_call_checks t transform inverse target out budget) (non_finite i) → TargetIndex n target x i
    unfolding table_checks matrix_checks
    first_7 i f = ⊎_elim (λ q. inl (at target refl q)) (λ r. inr (target_passed target r.0, after (first_cases r.1))) (first_cases (first_of_number prepared_numbered (non_finite i) f))
      where
        at : (xs : List Float) {long : ℕ} → length xs ≡ long → target_check xs ≡ refuse (non_finite i) → FirstFault (λ k. k < long) (λ k. target_fault (coordinate xs k)) i
        at xs same q =
            let l = target_first xs (non_finite i) q in
            let v : (whole l.0 ∷ []) ≡ (whole i ∷ []) = ap (λ (r : Refusal). r.values) (sym l.1) in
            let same_index : l.0 ≡ i = cc in
            subst (λ (m : ℕ). FirstFault (λ k. k < m) (λ k. target_fault (coordinate xs k)) i) same (subst (FirstFault (λ k. k < length xs) (λ k. target_fault (coordinate xs k))) same_index l.2)

        after : (target_check x ≡ refuse (non_finite i)) ⊎ ((target_check x ≡ pass) × FirstFits [] (non_finite i)) → FirstFault (λ k. k < n) (λ k. target_fault (coordinate x k)) i
        after (inl q) = at x (transformed_length n inverse target) q
        after (inr r) = absurd (Memᴰ.not-nil (first_fits r.1))

-- `prepared_nearest_ml` keeps its promises, for every input of doubles: those of `nearest_ml` at the transformed target, carried over to the mapped point. Assumes nothing.
use mathlib.Core.Path.{◌≡◌, refl, sym, ap, ◌∙◌, subst}
use mathlib.Core.Bool.{Bool, true, not}
use mathlib.Core.List.Memᴰ
use mathlib.Core.List.{List, [], ◌∷◌, ◌++◌, map, append_assoc}
use mathlib.Core.Logic.{◌⊎◌, inl, inr, ⊎_elim}
use Prim.Native.Nat.{ℕ, zero, suc, ◌≤◌, ◌<◌}
use native.Mathlib.Omega.{arith}
use borrow.Author.Tests.{not-false}
use lib.Dec.{T}
use lib.ListN.{length, get_or}
use lib.IntN.{ℤ, pos}
use lib.Ieee.{Float, binary64, fits, add, mul}
use lib.Ieee.Fits.{and_i, and_l, and_r}
use Rattle.rounding.specs.Integers.{is_i64, to_double}
use Rattle.rounding.proofs.Interface.{sum_fit, zero_nonneg}
use Rattle.lists.specs.All.{none, more}
use Rattle.definitions.specs.Table.{Table, dimension, coordinate, plus_zero, largest_dimension}
use Rattle.definitions.specs.Distance.{distance, has_distance}
use Rattle.definitions.specs.Admitted.{all_i64}
use Rattle.definitions.specs.Seeds.{widened}
use Rattle.definitions.specs.Refusals.{Refusal, whole, length_mismatch, non_finite, budget_exhausted, matrix_range, mapped_range}
use Rattle.definitions.specs.Checks.{Verdict, pass, refuse, first_refusal, count_from, table_checks, length_check}
use Rattle.definitions.specs.Calls.{Answer, found, refused, after, NearestPoint, target_checks, search_checks, ml_radius, ml_checks, widened_search, nearest_ml, nearest_output}
use Rattle.definitions.specs.Prepared.{element, transformed_sum, transformed_target, mapped_coordinate, mapped_point, mapped_range_check, matrix_checks, given_checks, transformed_checks, transformed_of, mapped_answer, prepared_nearest_ml}
use Rattle.definitions.proofs.Verdicts.{or_else, first_append, first_alone, first_passes, append_passes, passes_append, first_fault, no_fault, passed}
use Rattle.definitions.proofs.Admissions.{all_i64_nil, all_i64_intro, vector_length, vector_intro}
use Rattle.definitions.proofs.Answers.{after_pass, after_refuse, found≢refused, refused_same, ml_is, ml_checks_are, output_found, output_refused}
use Rattle.definitions.proofs.Prepared.{transformed_none, transformed_next, mapped_length, mapped_at, mapped_found, map_refused, map_found, map_after, given_passed, prepared_is, prepared_checks_are, prepared_passed, transformed_length, transformed_at}
use Rattle.theorems.specs.Doubles.{all_doubles, of_doubles}
use Rattle.theorems.specs.Refusals.{NoneFits, FirstFits}
use Rattle.theorems.specs.Answers.{Nearest, NoMinusZero, Under, Demand1}
use Rattle.theorems.specs.Promises.{ml_call_checks, MlPromises, NearestNodes, PointWritten}
use Rattle.theorems.specs.Prepared.{rounded_sum, prepared_call_checks, PreparedAccepted, MapsInside, FirstOutside, EndsMapped, MappedFrom, MappedOutside, FromPlane, PreparedPromises}
use Rattle.theorems.proofs.Booleans.{of_true}
use Rattle.theorems.proofs.Doubles.{AllDouble, doubles_tested}
use Rattle.theorems.proofs.FirstFaults.{carrying, counted_first}
use Rattle.theorems.proofs.FirstRefusal.{decision, none_passes, numbers_apart}
use Rattle.theorems.proofs.MinusZero.{one_whole, call_clear}
use Rattle.theorems.proofs.Accepted.{length_passes, ml_accepts}
use Rattle.theorems.proofs.Matrices.{maps_inverse}
use Rattle.theorems.proofs.PreparedChecks.{given_indices, prepared_numbered, prepared_clear, first_22, first_6, first_7, prepared_accepts}
use Rattle.theorems.proofs.RefusedCalls.{demand_apart, output_unchanged}
use Rattle.theorems.proofs.Promises.{ml_promises}

-- ---- the transformed target is of doubles
sum_double : (n : ℕ) (inverse : List ℤ) (target : List Float) (column rows : ℕ) → T (fits binary64 (transformed_sum n inverse target column rows))
sum_double n inverse target column zero = subst (λ (x : Float). T (fits binary64 x)) (sym (transformed_none n inverse target column)) (zero_nonneg binary64).num.fit
sum_double n inverse target column (suc row) = subst (λ (x : Float). T (fits binary64 x)) (sym (transformed_next n inverse target column row)) (sum_fit binary64 _ _)

transformed_doubles : (n : ℕ) (inverse : List ℤ) (target : List Float) → T (all_doubles (transformed_target n inverse target))
unfolding transformed_target
transformed_doubles n inverse target = doubles_tested (each (count_from 0 n))
  where
    each : (columns : List ℕ) → AllDouble (map (λ column. transformed_sum n inverse target column n) columns)
    each [] = none
    each (c ∷ cs) = more (sum_double n inverse target c n) (each cs)

-- ---- and its coordinates are the rounded sums
sum_rounded : (n : ℕ) (inverse : List ℤ) (target : List Float) (column rows : ℕ) → transformed_sum n inverse target column rows ≡ rounded_sum rows (λ row. mul binary64 (coordinate target row) (to_double (element n inverse row column)))
unfolding rounded_sum
sum_rounded n inverse target column zero = transformed_none n inverse target column
sum_rounded n inverse target column (suc row) = transformed_next n inverse target column row ∙ ap (λ (x : Float). add binary64 x (mul binary64 (coordinate target row) (to_double (element n inverse row column)))) (sum_rounded n inverse target column row)

-- ---- integers that are all 64-bit
all_inside : (zs : List ℤ) → ((k : ℕ) → k < length zs → T (is_i64 (get_or zs k (pos 0)))) → T (all_i64 zs)
all_inside [] h = all_i64_nil
all_inside (z ∷ zs) h = all_i64_intro z zs (h 0 (omega arith)) (all_inside zs (λ k less. h (suc k) (omega arith)))

module _ (t : Table) (transform inverse : List ℤ) (target : List Float) (out : List ℤ) (budget : ℕ) where
  abbrev n : ℕ
  n = dimension t

  abbrev x : List Float
  x = transformed_of t inverse target

  abbrev R : Float
  R = widened n (ml_radius t x)

  abbrev checks : List Verdict
  checks = prepared_call_checks t transform inverse target out budget

  abbrev answer : Answer NearestPoint
  answer = prepared_nearest_ml t transform inverse target out budget

  -- the answer before mapping
  abbrev reduced : Answer NearestPoint
  reduced = nearest_ml t x out budget

  abbrev search : Answer NearestPoint
  search = widened_search t x (ml_radius t x) budget

  -- ---- 24
  abbrev Inside : List ℤ → Type 0
  Inside z = MapsInside n transform z

  abbrev Outside : List ℤ → ℕ → Type 0
  Outside z c = FirstOutside n transform z c

  abbrev outside_at : List ℤ → ℕ → Bool
  outside_at z k = not (is_i64 (mapped_coordinate n transform z k))

  inside_passes : (z : List ℤ) → Inside z → mapped_range_check n transform z ≡ pass
  unfolding mapped_range_check
  inside_passes z h = no_fault (outside_at z) mapped_range n (λ k less. ap not (h k less))

  passes_inside : (z : List ℤ) → mapped_range_check n transform z ≡ pass → Inside z
  unfolding mapped_range_check
  passes_inside z q k less = not-false (is_i64 (mapped_coordinate n transform z k)) (passed (outside_at z) mapped_range n q k less)

  outside_refuses : (z : List ℤ) (c : ℕ) → Outside z c → mapped_range_check n transform z ≡ refuse (mapped_range c)
  unfolding mapped_range_check
  outside_refuses z c f = first_fault (outside_at z) mapped_range n c f.index (λ k less. f.first k (omega (arith, f.index, less)) less) f.faulty

  refuses_outside : (z : List ℤ) (e : Refusal) → mapped_range_check n transform z ≡ refuse e → (c : ℕ) × (e ≡ mapped_range c) × Outside z c
  unfolding mapped_range_check
  refuses_outside z = counted_first (carrying 24) (outside_at z) n

  -- ---- the call, and `nearest_ml` at the transformed target
  is : answer ≡ after (first_refusal checks) (mapped_answer n transform search)
  is = prepared_is t transform inverse target out budget ∙ ap (λ (v : Verdict). after v (mapped_answer n transform search)) (prepared_checks_are t transform inverse target out budget)

  accepted : NoneFits checks → PreparedAccepted t transform inverse target out budget
  accepted = (prepared_accepts t transform inverse target out budget).0

  none_ml : NoneFits checks → NoneFits (ml_call_checks t x out budget)
  none_ml f =
      let a = accepted f in
      (ml_accepts t x out budget).1 (record {
        search = record { table_target = record { table = a.search.table_target.table; target_length = transformed_length n inverse target; targets = a.transformed }; output_length = a.search.output_length };
        budget_most = a.budget_most;
        candidate_finite = a.candidate_finite;
        widened_finite = a.widened_finite;
      })

  small : NoneFits checks → n ≤ 23
  small f = (accepted f).search.table_target.table.few

  -- the checks of `nearest_ml` at the transformed target, its table and lengths being right, are those that are left
  abbrev given : List Verdict
  given = given_checks largest_dimension t transform inverse target out

  ml_checks_left : first_refusal given ≡ pass → ml_checks largest_dimension t x out budget ≡ first_refusal (transformed_checks t x budget)
  unfolding search_checks
  ml_checks_left q =
      let p = given_passed largest_dimension t transform inverse target out q in
      let tabled = (append_passes (table_checks largest_dimension t) (matrix_checks n transform inverse) (append_passes (table_checks largest_dimension t ++ matrix_checks n transform inverse) (target_checks n target out) q).0).0 in
      let lengths = length_check n (length x) ∷ length_check n (length out) ∷ [] in
      let both = passes_append (table_checks largest_dimension t) lengths tabled (first_passes (length_check n (length x)) (length_check n (length out) ∷ []) (length_passes n (length x) (transformed_length n inverse target)) ∙ first_alone (length_check n (length out)) ∙ length_passes n (length out) p.output_length) in
      ml_checks_are t x out budget
      ∙ ap first_refusal (sym (append_assoc (table_checks largest_dimension t) lengths (transformed_checks t x budget)))
      ∙ first_append (table_checks largest_dimension t ++ lengths) (transformed_checks t x budget)
      ∙ ap (λ (v : Verdict). or_else v (first_refusal (transformed_checks t x budget))) both

  pub as_ml : NoneFits given → answer ≡ mapped_answer n transform reduced
  as_ml f =
      let q = none_passes given f in
      prepared_passed t transform inverse target out budget q
      ∙ sym (map_after n transform (first_refusal (transformed_checks t x budget)) search)
      ∙ ap (mapped_answer n transform) (sym (ml_is t x out budget ∙ ap (λ (v : Verdict). after v search) (ml_checks_left q)))

  -- the checks before the transformed target are among all of them
  none_given : NoneFits checks → NoneFits given
  none_given f e m = f e (Memᴰ.append_left (transformed_checks t x budget) m)

  from_found : NoneFits checks → (b : NearestPoint) → reduced ≡ found b → mapped_range_check n transform b.point ≡ pass → answer ≡ found (mapped_found n transform b)
  from_found f b q p = as_ml (none_given f) ∙ ap (mapped_answer n transform) q ∙ map_found n transform b ∙ after_pass (mapped_range_check n transform b.point) (found (mapped_found n transform b)) p

  from_outside : NoneFits checks → (b : NearestPoint) → reduced ≡ found b → (e : Refusal) → mapped_range_check n transform b.point ≡ refuse e → answer ≡ refused e
  from_outside f b q e p = as_ml (none_given f) ∙ ap (mapped_answer n transform) q ∙ map_found n transform b ∙ after_refuse (mapped_range_check n transform b.point) (found (mapped_found n transform b)) e p

  from_refused : NoneFits checks → (e : Refusal) → reduced ≡ refused e → answer ≡ refused e
  from_refused f e q = as_ml (none_given f) ∙ ap (mapped_answer n transform) q ∙ map_refused n transform e

  -- ---- the three ends
  abbrev Ends : Type 0
  Ends =
      ((b : NearestPoint) × (reduced ≡ found b) × Inside b.point × (answer ≡ found (mapped_found n transform b)))
      ⊎ (((b : NearestPoint) × (reduced ≡ found b) × (c : ℕ) × Outside b.point c × (answer ≡ refused (mapped_range c))) ⊎ ((e : Refusal) × (reduced ≡ refused e) × (answer ≡ refused e)))

  three_ends : NoneFits checks → Ends
  three_ends f = go reduced refl
    where
      go : (r : Answer NearestPoint) → reduced ≡ r → Ends
      go (refused e) w = inr (inr (e, w, from_refused f e w))
      go (found b) w = by (mapped_range_check n transform b.point) refl
        where
          by : (v : Verdict) → mapped_range_check n transform b.point ≡ v → Ends
          by pass p = inl (b, w, passes_inside b.point p, from_found f b w p)
          by (refuse e) p = let (c, same, o) = refuses_outside b.point e p in inr (inl (b, w, c, o, from_outside f b w e p ∙ ap refused same))

  number_of : {e d : Refusal} → answer ≡ refused e → answer ≡ refused d → e.number ≡ d.number
  number_of p q = ap (λ (r : Refusal). r.number) (refused_same (sym p ∙ q))

  -- a point found, before mapping
  before_found : NoneFits checks → (a : NearestPoint) → answer ≡ found a → (b : NearestPoint) × (reduced ≡ found b) × Inside b.point × (a ≡ mapped_found n transform b)
  before_found f a q = go (three_ends f)
    where
      go : Ends → (b : NearestPoint) × (reduced ≡ found b) × Inside b.point × (a ≡ mapped_found n transform b)
      go (inl (b, w, i, s)) = let e : found a ≡ found (mapped_found n transform b) = sym q ∙ s in let same : a ≡ mapped_found n transform b = cc in (b, w, i, same)
      go (inr (inl (b, w, c, o, s))) = absurd (found≢refused (sym q ∙ s))
      go (inr (inr (e, w, s))) = absurd (found≢refused (sym q ∙ s))

  module _ (doubles : T (of_doubles t target)) where
    ml : MlPromises t x out budget reduced (nearest_output reduced out)
    ml =
        let r = and_r (all_doubles t.weights) _ doubles in
        ml_promises t x out budget (and_i (all_doubles t.weights) _ (and_l (all_doubles t.weights) _ doubles) (and_i (all_doubles t.mu) (all_doubles x) (and_l (all_doubles t.mu) (all_doubles target) r) (transformed_doubles n inverse target)))

    -- before mapping it is refused under 15 alone
    reduced_15 : NoneFits checks → (e : Refusal) → reduced ≡ refused e → e.number ≡ 15
    reduced_15 f e q = go (ml.search.demand_1.answers.0 (none_ml f))
      where
        go : ((a : NearestPoint) × (reduced ≡ found a)) ⊎ ((d : Refusal) × (reduced ≡ refused d) × Under 15 15 d) → e.number ≡ 15
        go (inl (a, w)) = absurd (found≢refused (sym w ∙ q))
        go (inr (d, w, u)) = ap (λ (r : Refusal). r.number) (refused_same (sym q ∙ w)) ∙ ⊎_elim (λ p. p) (λ p. p) u

    own_numbers : NoneFits checks → (e : Refusal) → answer ≡ refused e → Under 15 24 e
    own_numbers f e q = go (three_ends f)
      where
        go : Ends → Under 15 24 e
        go (inl (b, w, i, s)) = absurd (found≢refused (sym s ∙ q))
        go (inr (inl (b, w, c, o, s))) = inr (number_of q s)
        go (inr (inr (d, w, s))) = inl (number_of q s ∙ reduced_15 f d w)

    demand : Demand1 checks 15 24 answer (nearest_output answer out ≡ out)
    demand =
        demand_apart (numbers_apart 15 24 (prepared_numbered t transform inverse target out budget) tt)
        (λ f e q. own_numbers f e (is ∙ after_pass (first_refusal checks) (mapped_answer n transform search) (none_passes checks f) ∙ q))
        is (output_unchanged answer out) (decision checks)

    clear_end : NoneFits checks → (e : Refusal) → mapped_answer n transform search ≡ refused e → NoMinusZero e
    clear_end f e q = go (three_ends f)
      where
        same : answer ≡ refused e
        same = is ∙ after_pass (first_refusal checks) (mapped_answer n transform search) (none_passes checks f) ∙ q

        go : Ends → NoMinusZero e
        go (inl (b, w, i, s)) = absurd (found≢refused (sym s ∙ same))
        go (inr (inl (b, w, c, o, s))) = subst NoMinusZero (refused_same (sym s ∙ same)) one_whole
        go (inr (inr (d, w, s))) = subst NoMinusZero (refused_same (sym s ∙ same)) (ml.search.no_minus_zero d w)

    -- ---- as the walk ends
    left : {b : Answer NearestPoint} → answer ≡ b → nearest_output answer out ≡ nearest_output b out
    left q = ap (λ (a : Answer NearestPoint). nearest_output a out) q

    ends : NoneFits checks → EndsMapped t transform inverse target out budget answer (nearest_output answer out)
    ends f =
        let e = ml.search.ends (small f) (none_ml f) in
        record {
          point = λ z S m w i. let a = from_found f _ (e.point z S m w).0 (inside_passes z i) in (a, left a ∙ output_found _ out);
          outside = λ z S m w c o. let a = from_outside f _ (e.point z S m w).0 (mapped_range c) (outside_refuses z c o) in (a, left a ∙ output_refused _ out);
          exhaustion = λ m S w. let a = from_refused f _ (e.exhaustion m S w).0 in (a, left a ∙ output_refused _ out);
          always_a_best = λ S m w. let late = reduced_15 f _ (e.nothing S m w).0 in omega (arith, late);
        }

    -- ---- a point before mapping
    point_at : {b : NearestPoint} → reduced ≡ found b → nearest_output reduced out ≡ b.point
    point_at {b} w = ap (λ (a : Answer NearestPoint). nearest_output a out) w ∙ output_found b out

    nearest_at : NoneFits checks → (b : NearestPoint) → reduced ≡ found b → Nearest t x R b.point
    nearest_at f b w = subst (Nearest t x R) (point_at w) (ml.search.point (small f) b w)

    point : (a : NearestPoint) → answer ≡ found a → (z : List ℤ) × MappedFrom t transform inverse target out budget a (nearest_output answer out) z
    point a q =
        let f = demand.answers.1 (inl (a, q)) in
        let (b, w, i, same) = before_found f a q in
        let near = nearest_at f b w in
        let held = left q ∙ output_found a out ∙ ap (λ (p : NearestPoint). p.point) same in
        let own = subst (λ (z : List ℤ). (b.distance ≡ distance t x z) × T (has_distance t x z)) (point_at w) (ml.search.own_distance (small f) b w) in (
          b.point,
          subst (λ (o : List ℤ). MappedFrom t transform inverse target out budget a o b.point) (sym held) (record {
            nearest = near;
            own_distance = (ap (λ (p : NearestPoint). p.distance) same ∙ own.0, own.1);
            mapped = mapped_at n transform b.point;
            vector = vector_intro t (mapped_point n transform b.point) (mapped_length n transform b.point) (all_inside (mapped_point n transform b.point) (λ k less. of_true (inside_at b i k less)));
            mapped_back = (maps_inverse n transform inverse (accepted f).inverses).inverse_after_transform b.point (vector_length t b.point near.vector);
          }),
        )
      where
        inside_at : (b : NearestPoint) → Inside b.point → (k : ℕ) → k < length (mapped_point n transform b.point) → is_i64 (get_or (mapped_point n transform b.point) k (pos 0)) ≡ true
        inside_at b i k less = let short : k < n = omega (arith, less, mapped_length n transform b.point) in ap is_i64 (mapped_at n transform b.point k short) ∙ i k short

    -- 24 is none of the checks' numbers
    nearest_of_24 : (c : ℕ) → answer ≡ refused (mapped_range c) → (z : List ℤ) × Nearest t x R z × Outside z c
    nearest_of_24 c q = let f = demand.answers.1 (inr (mapped_range c, q, inr refl)) in go f (three_ends f)
      where
        go : NoneFits checks → Ends → (z : List ℤ) × Nearest t x R z × Outside z c
        go f (inl (b, w, i, s)) = absurd (found≢refused (sym s ∙ q))
        go f (inr (inl (b, w, k, o, s))) =
            let e : mapped_range k ≡ mapped_range c = refused_same (sym s ∙ q) in
            let v : (whole k ∷ []) ≡ (whole c ∷ []) = ap (λ (r : Refusal). r.values) e in
            let same : k ≡ c = cc in
            (b.point, nearest_at f b w, subst (Outside b.point) same o)
        go f (inr (inr (d, w, s))) = let late = number_of q s ∙ reduced_15 f d w in absurd (omega (arith, late))

    -- ---- nodes and budgets
    exhausted_before : NoneFits checks → (m : ℕ) (S : Float) → answer ≡ refused (budget_exhausted m S) → reduced ≡ refused (budget_exhausted m S)
    exhausted_before f m S q = go (three_ends f)
      where
        go : Ends → reduced ≡ refused (budget_exhausted m S)
        go (inl (b, w, i, s)) = absurd (found≢refused (sym s ∙ q))
        go (inr (inl (b, w, c, o, s))) = let late = number_of q s in absurd (omega (arith, late))
        go (inr (inr (d, w, s))) = w ∙ sym s ∙ q

    nodes : NoneFits checks → NearestNodes t x R budget answer
    nodes f =
        let r = ml.search.nodes (small f) (none_ml f) in
        record {
          prefixes = r.prefixes;
          opened_number = r.opened_number;
          enough_budget = λ h m S q. r.enough_budget h m S (exhausted_before f m S q);
          most_nodes = λ a q. let (b, w, i, same) = before_found f a q in subst (λ (p : NearestPoint). p.nodes ≤ r.prefixes) (sym same) (r.most_nodes b w);
          values_of_15 = λ m S q. r.values_of_15 m S (exhausted_before f m S q);
        }

    abbrev Written : Type 0
    Written = PointWritten answer (nearest_output answer out) ⊎ ((c : ℕ) × MappedOutside t transform inverse target out budget answer (nearest_output answer out) c)

    -- a point before mapping is written, or 24
    written : NoneFits checks → PointWritten reduced (nearest_output reduced out) → Written
    written f p = go (three_ends f)
      where
        go : Ends → Written
        go (inl (b, w, i, s)) = inl (mapped_found n transform b, s, left s ∙ output_found _ out)
        go (inr (inl (b, w, c, o, s))) = inr (c, (s, left s ∙ output_refused _ out))
        go (inr (inr (d, w, s))) = absurd (found≢refused (sym p.1 ∙ w))

    empty_point : NoneFits checks → n ≡ 0 → (answer ≡ found (record { nodes = 0; distance = plus_zero; point = [] })) × (nearest_output answer out ≡ [])
    empty_point f e =
        let w = ((ml.from_candidate (none_ml f)).empty_point e).0 in
        let a = from_found f _ w (inside_passes [] (λ k less. absurd (omega (arith, e, less)))) ∙ ap (λ (z : List ℤ). found (record { nodes = 0; distance = plus_zero; point = z })) (nothing (mapped_point n transform []) (mapped_length n transform [] ∙ e)) in
        (a, left a ∙ output_found _ out)
      where
        nothing : (zs : List ℤ) → length zs ≡ 0 → zs ≡ []
        nothing [] q = refl
        nothing (z ∷ zs) q = absurd (omega (arith, q))

    from_plane : NoneFits checks → FromPlane t transform inverse target out budget answer (nearest_output answer out)
    from_plane f =
        let c = ml.from_candidate (none_ml f) in
        record {
          above = c.above;
          empty_point = empty_point f;
          gives_point = λ k o h. written f (c.gives_point k o h);
          point_or_refused = ⊎_elim (λ p. inl (written f p)) (λ r. let a = from_refused f _ r.1 in inr (r.0, a, left a ∙ output_refused _ out)) c.point_or_15;
        }

    -- refused under another number, it is so by the first check that fits
    by_check : (e : Refusal) → answer ≡ refused e → (e.number ≡ 15 → ⊥) → (e.number ≡ 24 → ⊥) → FirstFits checks e
    by_check e q a b = (demand.refuses e).1 (q, ⊎_elim a b)

    pub prepared_promises : PreparedPromises t transform inverse target out budget answer (nearest_output answer out)
    prepared_promises =
        record {
          transformed = λ column less. transformed_at n inverse target column less ∙ sum_rounded n inverse target column n;
          accepts = prepared_accepts t transform inverse target out budget;
          demand_1 = demand;
          order = prepared_numbered t transform inverse target out budget;
          length_values = λ m k q. first_6 t transform inverse target out budget m k (by_check (length_mismatch m k) q (λ s. omega (arith, s)) (λ s. omega (arith, s)));
          given_indices = given_indices t transform inverse target out;
          target_index = λ i q. first_7 t transform inverse target out budget i (by_check (non_finite i) q (λ s. omega (arith, s)) (λ s. omega (arith, s)));
          matrix_index = λ i q. first_22 t transform inverse target out budget i (by_check (matrix_range i) q (λ s. omega (arith, s)) (λ s. omega (arith, s)));
          no_minus_zero = call_clear (prepared_clear t transform inverse target out budget) is clear_end;
          maps_inverse = λ f. maps_inverse n transform inverse (accepted f).inverses;
          ends = ends;
          point = point;
          nearest_of_24 = nearest_of_24;
          nodes = nodes;
          from_plane = from_plane;
          as_ml = as_ml;
        }

-- For every table, target and radius within the limits there is a list that holds each opened prefix once and nothing else, and one of the admitted vectors. Assumes nothing.
use mathlib.Core.Path.{◌≡◌, refl, sym, ap, ◌∙◌, subst}
use Prim.Native.Nat.{ℕ, zero, suc, ◌+◌, ◌*◌, ◌<◌}
use native.Mathlib.Nat.{zero-add, add-zero, one-mul, zero-mul, lt_irrefl, le_of_suc-le, le_refl}
use native.Mathlib.Omega.{arith}
use mathlib.Core.Bool.{Bool, true, false, not, ◌&&◌, ◌||◌, cond}
use mathlib.Core.List.{List, [], ◌∷◌}
use lib.Dec.{T}
use lib.ListN.{length}
use lib.IntN.{ℤ}
use lib.Ieee.{Float, binary64, sub, le, lt}
use lib.Ieee.Fits.{and_i, and_l, and_r}
use Rattle.rounding.specs.Integers.{is_i64}
use Rattle.rounding.specs.Kinds.{Finite}
use Rattle.rounding.proofs.Interface.{sub_number, finite_below}
use Rattle.definitions.specs.Table.{Table, dimension, weight, plus_zero}
use Rattle.definitions.specs.Distance.{center, partial}
use Rattle.definitions.specs.Admitted.{all_i64, first_test, second_test, passes, admitted, opened}
use Rattle.definitions.proofs.Distances.{level_is}
use Rattle.definitions.proofs.Admissions.{all_i64_nil, all_i64_intro, first_test_is, passes_nil, passes_cons}
use Rattle.theorems.specs.Counting.{same_vector, tally, count, EachOnce}
use Rattle.theorems.specs.Children.{times}
use Rattle.theorems.specs.Prefixes.{joined, level_children, opened_below, admitted_below, opened_prefixes, admitted_vectors}
use Rattle.theorems.proofs.Booleans.{of_true, to_true, to_false}
use Rattle.theorems.proofs.Limits.{Limits, center_finite}
use Rattle.theorems.proofs.Sums.{partial_nonneg, passes_within}
use Rattle.theorems.proofs.Counts.{same_vector→eq, same_vector_refl, Each, count_none, each_joined, count_joined}
use Rattle.theorems.proofs.Generators.{is_child_is}
use Rattle.theorems.proofs.Children.{children_once}
use Rattle.theorems.proofs.Paths.{extend, extend_length, path_to, extend_inj, is_empty, opens, opened_path, admitted_path, opened_path_lem, opened_empty, admitted_path_lem}

-- ---- the lists, a clause each
module _ (t : Table) (target : List Float) (R : Float) where
  -- what is opened from the child z on, and what is admitted
  abbrev pub opened_from : ℕ → List ℤ → ℤ → List (List ℤ)
  opened_from level zs z = (z ∷ zs) ∷ cond (second_test t target R z zs) (opened_below t target R level (z ∷ zs)) []

  abbrev pub admitted_from : ℕ → List ℤ → ℤ → List (List ℤ)
  admitted_from level zs z = cond (second_test t target R z zs) (admitted_below t target R level (z ∷ zs)) []

  pub opened_leaf : (zs : List ℤ) → opened_below t target R 0 zs ≡ []
  unfolding opened_below
  opened_leaf zs = refl

  pub opened_level : (level : ℕ) (zs : List ℤ) → opened_below t target R (suc level) zs ≡ joined (opened_from level zs) (level_children t target R level zs)
  unfolding opened_below
  opened_level level zs = refl

  pub admitted_leaf : (zs : List ℤ) → admitted_below t target R 0 zs ≡ zs ∷ []
  unfolding admitted_below
  admitted_leaf zs = refl

  pub admitted_level : (level : ℕ) (zs : List ℤ) → admitted_below t target R (suc level) zs ≡ joined (admitted_from level zs) (level_children t target R level zs)
  unfolding admitted_below
  admitted_level level zs = refl

  -- ---- what stands below zs is the end of a path from zs
  abbrev EndsIn : List ℤ → List ℤ → Type 0
  EndsIn zs x = (us : List ℤ) × (x ≡ extend us zs)

  -- such a path from a child is one from zs
  from_child : (z : ℤ) (zs : List ℤ) (l : List (List ℤ)) → Each (EndsIn (z ∷ zs)) l → Each (EndsIn zs) l
  from_child z zs [] e = tt
  from_child z zs (x ∷ l) e = ((z ∷ e.0.0, e.0.1), from_child z zs l e.1)

  either : (P : List ℤ → Type 0) (b : Bool) (l : List (List ℤ)) → Each P l → Each P (cond b l [])
  either P true l e = e
  either P false l e = tt

  opened_from_ends : (level : ℕ) (zs : List ℤ) (z : ℤ) → Each (EndsIn (z ∷ zs)) (opened_below t target R level (z ∷ zs)) → Each (EndsIn (z ∷ zs)) (opened_from level zs z)
  opened_from_ends level zs z e = (([], refl), either (EndsIn (z ∷ zs)) (second_test t target R z zs) (opened_below t target R level (z ∷ zs)) e)

  opened_ends : (d : ℕ) (zs : List ℤ) → Each (EndsIn zs) (opened_below t target R d zs)
  opened_ends zero zs = subst (Each (EndsIn zs)) (sym (opened_leaf zs)) tt
  opened_ends (suc level) zs =
      subst (Each (EndsIn zs)) (sym (opened_level level zs))
      (each_joined (EndsIn zs) (opened_from level zs) (λ z. from_child z zs (opened_from level zs z) (opened_from_ends level zs z (opened_ends level (z ∷ zs)))) (level_children t target R level zs))

  admitted_ends : (d : ℕ) (zs : List ℤ) → Each (EndsIn zs) (admitted_below t target R d zs)
  admitted_ends zero zs = subst (Each (EndsIn zs)) (sym (admitted_leaf zs)) (([], refl), tt)
  admitted_ends (suc level) zs =
      subst (Each (EndsIn zs)) (sym (admitted_level level zs))
      (each_joined (EndsIn zs) (admitted_from level zs) (λ z. from_child z zs (admitted_from level zs z) (either (EndsIn (z ∷ zs)) (second_test t target R z zs) (admitted_below t target R level (z ∷ zs)) (admitted_ends level (z ∷ zs)))) (level_children t target R level zs))

  -- so a path through y stands in no other child's list
  elsewhere : (ys : List ℤ) (y : ℤ) (zs : List ℤ) (z : ℤ) (l : List (List ℤ)) → Each (EndsIn (z ∷ zs)) l → (y ≡ z → ⊥) → count (extend ys (y ∷ zs)) l ≡ 0
  elsewhere ys y zs z l e n = count_none (EndsIn (z ∷ zs)) (extend ys (y ∷ zs)) l e (λ h. n (head (extend_inj ys h.0 (y ∷ zs) (z ∷ zs) refl h.1)))
    where
      head : y ∷ zs ≡ z ∷ zs → y ≡ z
      head q = cc

-- ---- how often the end of a path stands below zs
module _ (t : Table) (target : List Float) (limits : Limits t target) (R : Float) (finite : Finite binary64 R) (plus : T (not (lt R plus_zero))) where
  -- a level's children are the integers that pass the first test
  pub level_once : (y : ℤ) (level : ℕ) (zs : List ℤ) → suc level + length zs ≡ dimension t → T (all_i64 zs) → T (passes t target R zs) → times y (level_children t target R level zs) ≡ tally (opens t target R y zs)
  level_once y level zs e a p =
      children_once (center t target level zs) (sub binary64 R (partial t target zs)) (weight t level) (center_finite t target limits level zs a e) (limits.weights level (omega arith)) (sub_number finite sum) y
      ∙ ap tally (is_child_is (center t target level zs) (sub binary64 R (partial t target zs)) (weight t level) y
      ∙ ap (λ (x : Float). is_i64 y && le x (sub binary64 R (partial t target zs))) (sym (level_is t target y zs level e))
      ∙ ap (λ (b : Bool). is_i64 y && b) (sym (first_test_is t target R y zs)))
    where
      sum : Finite binary64 (partial t target zs)
      sum = finite_below (partial_nonneg t target limits zs (suc level) (omega arith) a) finite (passes_within t target limits R finite plus zs p)

  -- a child that passes the second test too passes
  pub passes_child : (y : ℤ) (zs : List ℤ) → T (passes t target R zs) → T (opens t target R y zs) → T (second_test t target R y zs) → T (passes t target R (y ∷ zs))
  passes_child y zs p o s =
      subst T (sym (passes_cons t target R y zs))
      (and_i (passes t target R zs) (first_test t target R y zs && second_test t target R y zs) p
      (and_i (first_test t target R y zs) (second_test t target R y zs) (and_r (is_i64 y) (first_test t target R y zs) o) s))

  pub all_child : (y : ℤ) (zs : List ℤ) → T (all_i64 zs) → T (opens t target R y zs) → T (all_i64 (y ∷ zs))
  all_child y zs a o = all_i64_intro y zs (and_l (is_i64 y) (first_test t target R y zs) o) a

  short_path : (ys zs : List ℤ) → same_vector (extend ys zs) zs ≡ is_empty ys
  short_path [] zs = to_true (same_vector zs zs) (same_vector_refl zs)
  short_path (y ∷ ys) zs = to_false (same_vector (extend (y ∷ ys) zs) zs) (λ h. long (length ys) (length zs) (sym (extend_length (y ∷ ys) zs) ∙ ap length (same_vector→eq (extend (y ∷ ys) zs) zs h)))
    where
      long : (i j : ℕ) → suc i + j ≡ j → ⊥
      long i j e = omega arith

  count_opened : (ys : List ℤ) (d : ℕ) (zs : List ℤ) → length zs + d ≡ dimension t → T (all_i64 zs) → T (passes t target R zs) → count (extend ys zs) (opened_below t target R d zs) ≡ tally (opened_path t target R d ys zs)
  count_opened [] d zs e a p = count_none (λ x. length zs < length x) zs (opened_below t target R d zs) (longer d zs) (lt_irrefl (length zs))
    where
      below : (z : ℤ) (zs : List ℤ) (l : List (List ℤ)) → Each (λ x. suc (length zs) < length x) l → Each (λ x. length zs < length x) l
      below z zs [] h = tt
      below z zs (x ∷ l) h = (le_of_suc-le h.0, below z zs l h.1)

      longer : (d : ℕ) (zs : List ℤ) → Each (λ x. length zs < length x) (opened_below t target R d zs)
      longer zero zs = subst (Each (λ x. length zs < length x)) (sym (opened_leaf t target R zs)) tt
      longer (suc level) zs =
          subst (Each (λ x. length zs < length x)) (sym (opened_level t target R level zs))
          (each_joined (λ x. length zs < length x) (opened_from t target R level zs)
          (λ z. (le_refl (suc (length zs)), either t target R (λ x. length zs < length x) (second_test t target R z zs) (opened_below t target R level (z ∷ zs)) (below z zs (opened_below t target R level (z ∷ zs)) (longer level (z ∷ zs)))))
          (level_children t target R level zs))
  count_opened (y ∷ ys) zero zs e a p = ap (count (extend ys (y ∷ zs))) (opened_leaf t target R zs)
  count_opened (y ∷ ys) (suc level) zs e a p =
      ap (count (extend ys (y ∷ zs))) (opened_level t target R level zs)
      ∙ count_joined (extend ys (y ∷ zs)) y (opened_from t target R level zs) (level_children t target R level zs)
      (λ z n. elsewhere t target R ys y zs z (opened_from t target R level zs z) (opened_from_ends t target R level zs z (opened_ends t target R level (z ∷ zs))) n)
      ∙ ap (λ (k : ℕ). k * count (extend ys (y ∷ zs)) (opened_from t target R level zs y)) (level_once y level zs (omega arith) a p)
      ∙ go (opens t target R y zs) refl (λ a' p'. count_opened ys level (y ∷ zs) (omega arith) a' p')
    where
      rest : T (opens t target R y zs) → (b : Bool) → second_test t target R y zs ≡ b → (T (all_i64 (y ∷ zs)) → T (passes t target R (y ∷ zs)) → count (extend ys (y ∷ zs)) (opened_below t target R level (y ∷ zs)) ≡ tally (opened_path t target R level ys (y ∷ zs))) → count (extend ys (y ∷ zs)) (cond b (opened_below t target R level (y ∷ zs)) []) ≡ tally (b && opened_path t target R level ys (y ∷ zs))
      rest o true q ih = ih (all_child y zs a o) (passes_child y zs p o (of_true q))
      rest o false q ih = refl

      sum : (ys : List ℤ) (b : Bool) → tally (is_empty ys) + tally (b && opened_path t target R level ys (y ∷ zs)) ≡ tally (is_empty ys || (b && opened_path t target R level ys (y ∷ zs)))
      sum [] true = refl
      sum [] false = refl
      sum (y' ∷ ys) b = zero-add (tally (b && opened_path t target R level (y' ∷ ys) (y ∷ zs)))

      go : (o : Bool) → opens t target R y zs ≡ o → (T (all_i64 (y ∷ zs)) → T (passes t target R (y ∷ zs)) → count (extend ys (y ∷ zs)) (opened_below t target R level (y ∷ zs)) ≡ tally (opened_path t target R level ys (y ∷ zs))) → tally o * count (extend ys (y ∷ zs)) (opened_from t target R level zs y) ≡ tally (o && (is_empty ys || (second_test t target R y zs && opened_path t target R level ys (y ∷ zs))))
      go true q ih =
          one-mul (count (extend ys (y ∷ zs)) (opened_from t target R level zs y))
          ∙ ap (λ (b : Bool). tally b + count (extend ys (y ∷ zs)) (cond (second_test t target R y zs) (opened_below t target R level (y ∷ zs)) [])) (short_path ys (y ∷ zs))
          ∙ ap (λ (k : ℕ). tally (is_empty ys) + k) (rest (of_true q) (second_test t target R y zs) refl ih)
          ∙ sum ys (second_test t target R y zs)
      go false q ih = zero-mul (count (extend ys (y ∷ zs)) (opened_from t target R level zs y))

  count_admitted : (ys : List ℤ) (d : ℕ) (zs : List ℤ) → length zs + d ≡ dimension t → T (all_i64 zs) → T (passes t target R zs) → count (extend ys zs) (admitted_below t target R d zs) ≡ tally (admitted_path t target R d ys zs)
  count_admitted ys zero zs e a p = ap (count (extend ys zs)) (admitted_leaf t target R zs) ∙ ap (λ (b : Bool). tally b + 0) (short_path ys zs) ∙ go ys
    where
      go : (ys : List ℤ) → tally (is_empty ys) + 0 ≡ tally (admitted_path t target R 0 ys zs)
      go [] = refl
      go (y ∷ ys) = refl
  count_admitted [] (suc level) zs e a p = count_none (λ x. length zs + suc level ≡ length x) zs (admitted_below t target R (suc level) zs) (longer (suc level) zs) (short (length zs) level)
    where
      short : (a l : ℕ) → a + suc l ≡ a → ⊥
      short a l q = omega arith

      longer : (d : ℕ) (zs : List ℤ) → Each (λ x. length zs + d ≡ length x) (admitted_below t target R d zs)
      longer zero zs = subst (Each (λ x. length zs + 0 ≡ length x)) (sym (admitted_leaf t target R zs)) (add-zero (length zs), tt)
      longer (suc level) zs =
          subst (Each (λ x. length zs + suc level ≡ length x)) (sym (admitted_level t target R level zs))
          (each_joined (λ x. length zs + suc level ≡ length x) (admitted_from t target R level zs)
          (λ z. either t target R (λ x. length zs + suc level ≡ length x) (second_test t target R z zs) (admitted_below t target R level (z ∷ zs)) (subst (λ (k : ℕ). Each (λ x. k ≡ length x) (admitted_below t target R level (z ∷ zs))) (move (length zs) level) (longer level (z ∷ zs))))
          (level_children t target R level zs))
        where
          move : (a l : ℕ) → suc a + l ≡ a + suc l
          move a l = omega arith
  count_admitted (y ∷ ys) (suc level) zs e a p =
      ap (count (extend ys (y ∷ zs))) (admitted_level t target R level zs)
      ∙ count_joined (extend ys (y ∷ zs)) y (admitted_from t target R level zs) (level_children t target R level zs)
      (λ z n. elsewhere t target R ys y zs z (admitted_from t target R level zs z) (either t target R (EndsIn t target R (z ∷ zs)) (second_test t target R z zs) (admitted_below t target R level (z ∷ zs)) (admitted_ends t target R level (z ∷ zs))) n)
      ∙ ap (λ (k : ℕ). k * count (extend ys (y ∷ zs)) (admitted_from t target R level zs y)) (level_once y level zs (omega arith) a p)
      ∙ go (opens t target R y zs) refl (λ a' p'. count_admitted ys level (y ∷ zs) (omega arith) a' p')
    where
      rest : T (opens t target R y zs) → (b : Bool) → second_test t target R y zs ≡ b → (T (all_i64 (y ∷ zs)) → T (passes t target R (y ∷ zs)) → count (extend ys (y ∷ zs)) (admitted_below t target R level (y ∷ zs)) ≡ tally (admitted_path t target R level ys (y ∷ zs))) → count (extend ys (y ∷ zs)) (cond b (admitted_below t target R level (y ∷ zs)) []) ≡ tally (b && admitted_path t target R level ys (y ∷ zs))
      rest o true q ih = ih (all_child y zs a o) (passes_child y zs p o (of_true q))
      rest o false q ih = refl

      go : (o : Bool) → opens t target R y zs ≡ o → (T (all_i64 (y ∷ zs)) → T (passes t target R (y ∷ zs)) → count (extend ys (y ∷ zs)) (admitted_below t target R level (y ∷ zs)) ≡ tally (admitted_path t target R level ys (y ∷ zs))) → tally o * count (extend ys (y ∷ zs)) (admitted_from t target R level zs y) ≡ tally (o && (second_test t target R y zs && admitted_path t target R level ys (y ∷ zs)))
      go true q ih =
          one-mul (count (extend ys (y ∷ zs)) (admitted_from t target R level zs y))
          ∙ rest (of_true q) (second_test t target R y zs) refl ih
      go false q ih = zero-mul (count (extend ys (y ∷ zs)) (admitted_from t target R level zs y))

  -- ---- the theorems
  nothing_above : (all_i64 [] && passes t target R []) ≡ true
  nothing_above = to_true (all_i64 [] && passes t target R []) (and_i (all_i64 []) (passes t target R []) all_i64_nil passes_none)
    where
      passes_none : T (passes t target R [])
      passes_none = of_true (passes_nil t target R)

  -- the list of the opened prefixes
  pub opened_once : EachOnce (opened t target R) (opened_prefixes t target R)
  opened_once x = subst (λ (v : List ℤ). count v (opened_prefixes t target R) ≡ tally (opened t target R v)) (path_to x) (go (extend x []))
    where
      go : (ys : List ℤ) → count (extend ys []) (opened_prefixes t target R) ≡ tally (opened t target R (extend ys []))
      go [] = count_opened [] (dimension t) [] (zero-add (dimension t)) all_i64_nil (of_true (passes_nil t target R)) ∙ sym (ap tally (opened_empty t target R))
      go (y ∷ ys) =
          count_opened (y ∷ ys) (dimension t) [] (zero-add (dimension t)) all_i64_nil (of_true (passes_nil t target R))
          ∙ sym (ap tally (opened_path_lem t target R y ys (dimension t) [] (zero-add (dimension t)) ∙ ap (λ (b : Bool). b && opened_path t target R (dimension t) (y ∷ ys) []) nothing_above))

  -- the list of the admitted vectors
  pub admitted_once : EachOnce (admitted t target R) (admitted_vectors t target R)
  admitted_once x = subst (λ (v : List ℤ). count v (admitted_vectors t target R) ≡ tally (admitted t target R v)) (path_to x) (go (extend x []))
    where
      go : (ys : List ℤ) → count (extend ys []) (admitted_vectors t target R) ≡ tally (admitted t target R (extend ys []))
      go ys =
          count_admitted ys (dimension t) [] (zero-add (dimension t)) all_i64_nil (of_true (passes_nil t target R))
          ∙ sym (ap tally (admitted_path_lem t target R ys (dimension t) [] (zero-add (dimension t)) ∙ ap (λ (b : Bool). b && admitted_path t target R (dimension t) ys []) nothing_above))

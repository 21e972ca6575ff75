-- What the walk of `nearest` without a budget comes to below a prefix: its standing radius never grows and no vector there has a distance below it, its best is admitted and stands at that radius, it counts no more nodes than prefixes are opened, and if it has no best it counts just as many and nothing there is admitted. Assumes nothing.
use mathlib.Core.Path.{◌≡◌, refl, sym, ap, ◌∙◌, subst}
use mathlib.Core.Logic.{◌⊎◌, inl, inr}
use Prim.Native.Nat.{ℕ, zero, suc, ◌+◌, ◌≤◌, ◌<◌}
use native.Mathlib.Nat.{le-add_right, le_refl, le_trans, le_of_eq, le_of_lt, add-zero, zero-add, lt_irrefl, add-le-add, add_assoc, lt_of_lt_of_le, le-add_left}
use native.Mathlib.Omega.{arith}
use mathlib.Core.Bool.{Bool, true, false, not, ◌&&◌, cond, true≢false}
use mathlib.Core.List.{List, [], ◌∷◌, ◌++◌}
use lib.Dec.{T}
use lib.ListN.{length, length-append}
use lib.IntN.{ℤ}
use lib.Ieee.{Float, binary64, add, sub, le, lt, eq}
use lib.Ieee.Fits.{and_i, and_l, and_r}
use Rattle.rounding.specs.Integers.{is_i64}
use Rattle.rounding.specs.Kinds.{Finite, NonNegative}
use Rattle.rounding.proofs.Interface.{number, ord, le→ord, ord→le, ord→lt, float_le_refl, float_le_trans, split, sub_number, sub_mono, finite_below}
use Rattle.definitions.specs.Table.{Table, dimension, weight, plus_zero}
use Rattle.definitions.specs.Distance.{center, term, partial}
use Rattle.definitions.specs.Admitted.{all_i64, is_vector, first_test, second_test, passes}
use Rattle.definitions.specs.Walk.{still}
use Rattle.definitions.specs.Nearest.{Best, no_best, best, lexicographic, replaces}
use Rattle.definitions.proofs.Distances.{partial_step, level_is}
use Rattle.definitions.proofs.Admissions.{all_i64_intro, vector_intro, first_test_is, second_test_is}
use Rattle.definitions.proofs.Leaves.{best_is_some, replaces_none, replaces_best}
use Rattle.theorems.specs.Counting.{eq_z, same_vector, tally, count}
use Rattle.theorems.specs.Children.{children, is_child, times, passing_from, zigzag_at, step_limit}
use Rattle.theorems.specs.Unbudgeted.{Progress, counted, walked_below, after_child, all_children, walk_all, nearer}
use Rattle.theorems.specs.Prefixes.{joined, opened_below, admitted_below}
use Rattle.theorems.proofs.Booleans.{tally_some, of_true, refuted, to_true, or_l}
use Rattle.theorems.proofs.Limits.{Limits, center_finite}
use Rattle.theorems.proofs.Sums.{level_nonneg, partial_nonneg, passes_within}
use Rattle.theorems.proofs.Counts.{eq_z→eq, same_vector_refl, times_same, count_append}
use Rattle.theorems.proofs.Passing.{joined_fewer}
use Rattle.theorems.proofs.Generators.{is_child_is}
use Rattle.theorems.proofs.Children.{children_in_order, children_once}
use Rattle.theorems.proofs.Paths.{opens}
use Rattle.theorems.proofs.Prefixes.{opened_from, admitted_from, opened_leaf, opened_level, admitted_leaf, admitted_level, passes_child}
use Rattle.theorems.proofs.Covered.{Covered, covered_less, covered_above, covered_failing}
use Rattle.theorems.proofs.Unbudgeted.{all_nil, all_cons, walk_all_leaf, walk_all_level}

module _ (t : Table) (target : List Float) (limits : Limits t target) (R : Float) (finite : Finite binary64 R) (plus : T (not (lt R plus_zero))) where
  -- with no best the radius is the first one; a best is admitted and stands at its distance
  abbrev pub Held : Best → Float → Type 0
  Held no_best S = S ≡ R
  Held (best z) S = T (is_vector t z) × T (passes t target R z) × (partial t target z ≡ S)

  pub record State (s : Progress Best) : Type 0 where
    pub radius : Finite binary64 s.standing
    pub within : ord binary64 s.standing ≤ ord binary64 R
    pub held : Held s.kept s.standing

  -- from s to s', past these opened prefixes and admitted vectors
  pub record Through (s s' : Progress Best) (Cover : Float → Type 0) (prefixes vectors : List (List ℤ)) : Type 0 where
    pub state : State s'
    pub less : ord binary64 s'.standing ≤ ord binary64 s.standing
    pub covered : Cover s'.standing
    pub reached : (s'.standing ≡ s.standing) ⊎ ((x : List ℤ) × (0 < count x vectors) × (s'.standing ≡ partial t target x))
    pub few : s'.nodes ≤ s.nodes + length prefixes
    pub none : s'.kept ≡ no_best → (s.kept ≡ no_best) × (s'.nodes ≡ s.nodes + length prefixes) × (vectors ≡ [])

  held_none : (s : Progress Best) → State s → s.kept ≡ no_best → s.standing ≡ R
  held_none s st e = subst (λ (k : Best). Held k s.standing) e st.held

  -- ---- a leaf
  abbrev after : Bool → List ℤ → Progress Best → Progress Best
  after b zs s = record { kept = cond b (best zs) s.kept; standing = cond b (partial t target zs) s.standing; nodes = s.nodes }

  not_smaller : (zs : List ℤ) (k : Best) (S : Float) → replaces zs (partial t target zs) k S ≡ false → (k ≡ no_best → ⊥) × (T (lt (partial t target zs) S) → ⊥)
  not_smaller zs no_best S e = absurd (true≢false (sym (replaces_none zs (partial t target zs) S) ∙ e))
  not_smaller zs (best b) S e = (best_is_some b, λ l. refuted (sym (replaces_best zs (partial t target zs) b S) ∙ e) (or_l (lt (partial t target zs) S) (eq (partial t target zs) S && lexicographic zs b) l))

  leaf_through : (zs : List ℤ) → length zs + 0 ≡ dimension t → T (all_i64 zs) → T (passes t target R zs) → (s : Progress Best) → State s → ord binary64 (partial t target zs) ≤ ord binary64 s.standing → Through s (walk_all nearer (still (center t target)) t 0 zs (partial t target zs) s) (Covered t target 0 zs) (opened_below t target R 0 zs) (admitted_below t target R 0 zs)
  leaf_through zs e a p s st h =
      subst (λ (x : Progress Best). Through s x (Covered t target 0 zs) (opened_below t target R 0 zs) (admitted_below t target R 0 zs)) (sym (walk_all_leaf nearer (still (center t target)) t zs (partial t target zs) s))
      (subst (λ (l : List (List ℤ)). Through s (after (replaces zs (partial t target zs) s.kept s.standing) zs s) (Covered t target 0 zs) l (admitted_below t target R 0 zs)) (sym (opened_leaf t target R zs))
      (go (replaces zs (partial t target zs) s.kept s.standing) refl))
    where
      nonneg : NonNegative binary64 (partial t target zs)
      nonneg = partial_nonneg t target limits zs 0 e a

      stands : 0 < count zs (admitted_below t target R 0 zs)
      stands = subst (λ (k : ℕ). 0 < k) (sym (ap (count zs) (admitted_leaf t target R zs) ∙ ap (λ (b : Bool). tally b + 0) (to_true (same_vector zs zs) (same_vector_refl zs)))) (omega arith)

      at_least : (ord binary64 s.standing ≤ ord binary64 (partial t target zs)) ⊎ (ord binary64 (partial t target zs) < ord binary64 s.standing) → (T (lt (partial t target zs) s.standing) → ⊥) → ord binary64 s.standing ≤ ord binary64 (partial t target zs)
      at_least (inl v) n = v
      at_least (inr v) n = absurd (n (ord→lt binary64 nonneg.num (number st.radius) v))

      go : (b : Bool) → replaces zs (partial t target zs) s.kept s.standing ≡ b → Through s (after b zs s) (Covered t target 0 zs) [] (admitted_below t target R 0 zs)
      go true q = record {
        state = record {
          radius = finite_below nonneg st.radius (ord→le binary64 nonneg.num (number st.radius) h);
          within = le_trans h st.within;
          held = (vector_intro t zs (sym (add-zero (length zs)) ∙ e) a, p, refl);
        };
        less = h;
        covered = le_refl (ord binary64 (partial t target zs));
        reached = inr (zs, stands, refl);
        few = omega arith;
        none = λ v. absurd (best_is_some zs v);
      }
      go false q =
          let n = not_smaller zs s.kept s.standing q in
          record {
            state = record { radius = st.radius; within = st.within; held = st.held };
            less = le_refl (ord binary64 s.standing);
            covered = at_least (split (ord binary64 s.standing) (ord binary64 (partial t target zs))) n.1;
            reached = inl refl;
            few = omega arith;
            none = λ v. absurd (n.0 v);
          }

  -- ---- a level; S is the radius on entry
  module _ (level : ℕ) (zs : List ℤ) (e : suc level + length zs ≡ dimension t) (a : T (all_i64 zs)) (p : T (passes t target R zs)) (S : Float) (f_s : Finite binary64 S) (S_within : ord binary64 S ≤ ord binary64 R) where
    abbrev c : Float
    c = center t target level zs

    abbrev w : Float
    w = weight t level

    abbrev P : Float
    P = partial t target zs

    -- z is a child at the radius r, and the children at it
    abbrev child_at : Float → ℤ → Bool
    child_at r z = is_child c (sub binary64 r P) w z

    abbrev children_at : Float → List ℤ
    children_at r = children c (sub binary64 r P) w

    sum_finite : Finite binary64 P
    sum_finite = finite_below (partial_nonneg t target limits zs (suc level) (omega arith) a) finite (passes_within t target limits R finite plus zs p)

    -- an integer that passes at S passes at R
    wider : (z : ℤ) → T (child_at S z) → T (child_at R z)
    wider z h =
        let k = subst T (is_child_is c (sub binary64 S P) w z) h in
        let i = and_l (is_i64 z) (le (term w c z) (sub binary64 S P)) k in
        subst T (sym (is_child_is c (sub binary64 R P) w z))
        (and_i (is_i64 z) (le (term w c z) (sub binary64 R P)) i
        (float_le_trans binary64 {x = term w c z} {y = sub binary64 S P} {z = sub binary64 R P} (level_nonneg t target limits z zs level e i a).num (sub_number f_s sum_finite) (sub_number finite sum_finite)
        (and_r (is_i64 z) (le (term w c z) (sub binary64 S P)) k)
        (sub_mono f_s sum_finite finite sum_finite (ord→le binary64 (number f_s) (number finite) S_within) (float_le_refl binary64 (number sum_finite)))))

    child_opens : (z : ℤ) → T (child_at R z) → T (opens t target R z zs)
    child_opens z h =
        subst (λ (b : Bool). T (is_i64 z && b)) (sym (first_test_is t target R z zs))
        (subst (λ (x : Float). T (is_i64 z && le x (sub binary64 R P))) (sym (level_is t target z zs level e)) (subst T (is_child_is c (sub binary64 R P) w z) h))

    once : (z : ℤ) → times z (children_at S) ≡ tally (child_at S z)
    once = children_once c (sub binary64 S P) w (center_finite t target limits level zs a e) (limits.weights level (omega arith)) (sub_number f_s sum_finite)

    -- a child at S opens its prefix at R
    pub child_opened : (z : ℤ) → 0 < times z (children_at S) → T (opens t target R z zs)
    child_opened z h = child_opens z (wider z (tally_some (child_at S z) (subst (λ (k : ℕ). 0 < k) (once z) h)))

    -- ---- given the walk below it
    module _ (down : List ℤ → Float → Progress Best → Progress Best)
        (down_through : (z : ℤ) → T (all_i64 (z ∷ zs)) → T (passes t target R (z ∷ zs)) → (s : Progress Best) → State s → ord binary64 (partial t target (z ∷ zs)) ≤ ord binary64 s.standing → Through s (down (z ∷ zs) (partial t target (z ∷ zs)) s) (Covered t target level (z ∷ zs)) (opened_below t target R level (z ∷ zs)) (admitted_below t target R level (z ∷ zs))) where
      -- what is opened at R and admitted at R from a child on
      abbrev prefixes : ℤ → List (List ℤ)
      prefixes z = opened_from t target R level zs z

      abbrev vectors : ℤ → List (List ℤ)
      vectors z = admitted_from t target R level zs z

      abbrev walked : List ℤ → Progress Best → Progress Best
      walked cs s = all_children nearer (still (center t target)) t down level zs P c cs s

      abbrev visited : Float → ℤ → Progress Best → Progress Best
      visited sum z s = after_child nearer (still (center t target)) t (walked_below sum s) down (z ∷ zs) sum s

      -- ---- one child
      child_through : (z : ℤ) → T (child_at S z) → (s : Progress Best) → State s → ord binary64 s.standing ≤ ord binary64 S → Through s (visited (add binary64 P (term w c z)) z s) (Covered t target level (z ∷ zs)) (prefixes z) (vectors z)
      child_through z h s st l =
          subst (λ (x : Float). Through s (visited x z s) (Covered t target level (z ∷ zs)) (prefixes z) (vectors z)) (partial_step t target z zs level e)
          (go (walked_below sum s) refl)
        where
          sum : Float
          sum = partial t target (z ∷ zs)

          opening : T (opens t target R z zs)
          opening = child_opens z (wider z h)

          all : T (all_i64 (z ∷ zs))
          all = all_i64_intro z zs (and_l (is_i64 z) (first_test t target R z zs) opening) a

          nonneg : NonNegative binary64 (partial t target (z ∷ zs))
          nonneg = partial_nonneg t target limits (z ∷ zs) level (omega arith) all

          -- the child's prefix and those below it
          entered : second_test t target R z zs ≡ true → (x : Progress Best) → Through (counted s) x (Covered t target level (z ∷ zs)) (opened_below t target R level (z ∷ zs)) (admitted_below t target R level (z ∷ zs)) → Through s x (Covered t target level (z ∷ zs)) (prefixes z) (vectors z)
          entered q x u =
              subst (λ (b : Bool). Through s x (Covered t target level (z ∷ zs)) ((z ∷ zs) ∷ cond b (opened_below t target R level (z ∷ zs)) []) (cond b (admitted_below t target R level (z ∷ zs)) [])) (sym q)
              (record {
                state = u.state;
                less = u.less;
                covered = u.covered;
                reached = u.reached;
                few = le_trans u.few (le_of_eq (one_more s.nodes (length (opened_below t target R level (z ∷ zs)))));
                none = λ v. ((u.none v).0, (u.none v).1 ∙ one_more s.nodes (length (opened_below t target R level (z ∷ zs))), (u.none v).2);
              })
            where
              one_more : (m n : ℕ) → suc m + n ≡ m + suc n
              one_more m n = omega arith

          over : walked_below (partial t target (z ∷ zs)) s ≡ false → (ord binary64 (partial t target (z ∷ zs)) ≤ ord binary64 s.standing) ⊎ (ord binary64 s.standing < ord binary64 (partial t target (z ∷ zs))) → ord binary64 s.standing ≤ ord binary64 (partial t target (z ∷ zs))
          over q (inl v) = absurd (refuted q (ord→le binary64 nonneg.num (number st.radius) v))
          over q (inr v) = le_of_lt v

          -- with no best the standing radius is R
          closed : walked_below (partial t target (z ∷ zs)) s ≡ false → s.kept ≡ no_best → second_test t target R z zs ≡ false
          closed q v = second_test_is t target R z zs ∙ ap (le (partial t target (z ∷ zs))) (sym (held_none s st v)) ∙ q

          go : (b : Bool) → walked_below (partial t target (z ∷ zs)) s ≡ b → Through s (after_child nearer (still (center t target)) t b down (z ∷ zs) (partial t target (z ∷ zs)) s) (Covered t target level (z ∷ zs)) (prefixes z) (vectors z)
          go true q =
              let o = le→ord binary64 nonneg.num (number st.radius) (of_true q) in
              let second : T (second_test t target R z zs) = subst T (sym (second_test_is t target R z zs)) (ord→le binary64 nonneg.num (number finite) (le_trans o st.within)) in
              entered (to_true (second_test t target R z zs) second) (down (z ∷ zs) (partial t target (z ∷ zs)) (counted s))
              (down_through z all (passes_child t target limits R finite plus z zs p opening second) (counted s) (record { radius = st.radius; within = st.within; held = st.held }) o)
          go false q = record {
            state = record { radius = st.radius; within = st.within; held = st.held };
            less = le_refl (ord binary64 s.standing);
            covered = covered_above t target limits level (z ∷ zs) s.standing (omega arith) all (over q (split (ord binary64 (partial t target (z ∷ zs))) (ord binary64 s.standing)));
            reached = inl refl;
            few = reach s.nodes (length (cond (second_test t target R z zs) (opened_below t target R level (z ∷ zs)) []));
            none = λ v. (v, just s.nodes ∙ ap (λ (b : Bool). s.nodes + suc (length (cond b (opened_below t target R level (z ∷ zs)) []))) (sym (closed q v)), ap (λ (b : Bool). cond b (admitted_below t target R level (z ∷ zs)) []) (closed q v));
          }
            where
              reach : (m n : ℕ) → suc m ≤ m + suc n
              reach m n = omega arith

              just : (m : ℕ) → suc m ≡ m + suc 0
              just m = omega arith

      -- ---- the children in turn
      abbrev CoversAll : List ℤ → Float → Type 0
      CoversAll cs r = (y : ℤ) → 0 < times y cs → Covered t target level (y ∷ zs) r

      two_through : (z : ℤ) (cs : List ℤ) (s s₁ s₂ : Progress Best) → Through s s₁ (Covered t target level (z ∷ zs)) (prefixes z) (vectors z) → Through s₁ s₂ (CoversAll cs) (joined prefixes cs) (joined vectors cs) → Through s s₂ (CoversAll (z ∷ cs)) (joined prefixes (z ∷ cs)) (joined vectors (z ∷ cs))
      two_through z cs s s₁ s₂ u v = record {
        state = v.state;
        less = le_trans v.less u.less;
        covered = λ y h. pick y (eq_z y z) refl h;
        reached = earlier v.reached u.reached;
        few = le_trans v.few (le_trans (add-le-add u.few (le_refl (length (joined prefixes cs)))) (le_of_eq lengths));
        none = λ n. let second = v.none n in let first = u.none second.0 in (first.0, second.1 ∙ ap (λ (k : ℕ). k + length (joined prefixes cs)) first.1 ∙ lengths, ap (λ (l : List (List ℤ)). l ++ joined vectors cs) first.2 ∙ second.2);
      }
        where
          lengths : s.nodes + length (prefixes z) + length (joined prefixes cs) ≡ s.nodes + length (prefixes z ++ joined prefixes cs)
          lengths = add_assoc s.nodes (length (prefixes z)) (length (joined prefixes cs)) ∙ ap (λ (k : ℕ). s.nodes + k) (sym (length-append (prefixes z) (joined prefixes cs)))

          pick : (y : ℤ) (b : Bool) → eq_z y z ≡ b → 0 < tally (eq_z y z) + times y cs → Covered t target level (y ∷ zs) s₂.standing
          pick y true q h = subst (λ (x : ℤ). Covered t target level (x ∷ zs) s₂.standing) (sym (eq_z→eq y z (of_true q))) (covered_less t target level (z ∷ zs) s₁.standing s₂.standing v.less u.covered)
          pick y false q h = v.covered y (subst (λ (k : ℕ). 0 < k) (ap (λ (b : Bool). tally b + times y cs) q ∙ zero-add (times y cs)) h)

          earlier : (s₂.standing ≡ s₁.standing) ⊎ ((x : List ℤ) × (0 < count x (joined vectors cs)) × (s₂.standing ≡ partial t target x)) → (s₁.standing ≡ s.standing) ⊎ ((x : List ℤ) × (0 < count x (vectors z)) × (s₁.standing ≡ partial t target x)) → (s₂.standing ≡ s.standing) ⊎ ((x : List ℤ) × (0 < count x (vectors z ++ joined vectors cs)) × (s₂.standing ≡ partial t target x))
          earlier (inl q) (inl r) = inl (q ∙ r)
          earlier (inl q) (inr (x, h, r)) = inr (x, subst (λ (k : ℕ). 0 < k) (sym (count_append x (vectors z) (joined vectors cs))) (lt_of_lt_of_le h (le-add_right (count x (vectors z)) (count x (joined vectors cs)))), q ∙ r)
          earlier (inr (x, h, q)) r = inr (x, subst (λ (k : ℕ). 0 < k) (sym (count_append x (vectors z) (joined vectors cs))) (lt_of_lt_of_le h (le-add_left (count x (joined vectors cs)) (count x (vectors z)))), q)

      each_through : (cs : List ℤ) → ((y : ℤ) → 0 < times y cs → T (child_at S y)) → (s : Progress Best) → State s → ord binary64 s.standing ≤ ord binary64 S → Through s (walked cs s) (CoversAll cs) (joined prefixes cs) (joined vectors cs)
      each_through [] all s st l =
          subst (λ (x : Progress Best). Through s x (CoversAll []) [] []) (sym (all_nil nearer (still (center t target)) t down level zs P c s))
          (record { state = st; less = le_refl (ord binary64 s.standing); covered = λ y h. absurd (lt_irrefl 0 h); reached = inl refl; few = omega arith; none = λ v. (v, sym (add-zero s.nodes), refl) })
      each_through (z ∷ cs) all s st l =
          let s₁ : Progress Best = visited (add binary64 P (term w c z)) z s in
          let u : Through s s₁ (Covered t target level (z ∷ zs)) (prefixes z) (vectors z) = child_through z (all z first) s st l in
          subst (λ (x : Progress Best). Through s x (CoversAll (z ∷ cs)) (joined prefixes (z ∷ cs)) (joined vectors (z ∷ cs))) (sym (all_cons nearer (still (center t target)) t down level zs P c z cs s))
          (two_through z cs s s₁ (walked cs s₁) u (each_through cs (λ y h. all y (rest y h)) s₁ u.state (le_trans u.less l)))
        where
          first : 0 < times z (z ∷ cs)
          first = subst (λ (k : ℕ). 0 < k) (sym (times_same z z cs refl)) (omega arith)

          rest : (y : ℤ) → 0 < times y cs → 0 < times y (z ∷ cs)
          rest y h = lt_of_lt_of_le h (le-add_left (times y cs) (tally (eq_z y z)))

      -- ---- the children at S are among those at R
      fewer : (measure : List (List ℤ) → ℕ) → ((l m : List (List ℤ)) → measure (l ++ m) ≡ measure l + measure m) → (f : ℤ → List (List ℤ)) → measure (joined f (children_at S)) ≤ measure (joined f (children_at R))
      fewer measure additive f =
          subst (λ (l : List ℤ). measure (joined f l) ≤ measure (joined f (children_at R))) (sym (children_in_order c (sub binary64 S P) w (center_finite t target limits level zs a e) (limits.weights level (omega arith)) (sub_number f_s sum_finite)))
          (subst (λ (l : List ℤ). measure (joined f (passing_from (is_child c (sub binary64 S P) w) (zigzag_at c) (suc step_limit) 0)) ≤ measure (joined f l)) (sym (children_in_order c (sub binary64 R P) w (center_finite t target limits level zs a e) (limits.weights level (omega arith)) (sub_number finite sum_finite)))
          (joined_fewer measure additive f (is_child c (sub binary64 S P) w) (is_child c (sub binary64 R P) w) (zigzag_at c) wider (suc step_limit) 0))

      -- ---- the whole level
      level_through : (s : Progress Best) → s.standing ≡ S → State s → Through s (walked (children_at S) s) (Covered t target (suc level) zs) (opened_below t target R (suc level) zs) (admitted_below t target R (suc level) zs)
      level_through s q st =
          subst (λ (l : List (List ℤ)). Through s s' (Covered t target (suc level) zs) l (admitted_below t target R (suc level) zs)) (sym (opened_level t target R level zs))
          (subst (λ (l : List (List ℤ)). Through s s' (Covered t target (suc level) zs) (joined prefixes (children_at R)) l) (sym (admitted_level t target R level zs))
          (record {
            state = u.state;
            less = u.less;
            covered = λ y i. pick y i (child_at S y) refl;
            reached = among u.reached;
            few = le_trans u.few (add-le-add (le_refl s.nodes) (fewer length length-append prefixes));
            none = λ v.
                let n = u.none v in
                let r : S ≡ R = sym q ∙ held_none s st n.0 in (
                  n.0,
                  n.1 ∙ ap (λ (x : Float). s.nodes + length (joined prefixes (children_at x))) r,
                  ap (λ (x : Float). joined vectors (children_at x)) (sym r) ∙ n.2,
                );
          }))
        where
          s' : Progress Best
          s' = walked (children_at S) s

          u : Through s (walked (children_at S) s) (CoversAll (children_at S)) (joined prefixes (children_at S)) (joined vectors (children_at S))
          u = each_through (children_at S) (λ y h. tally_some (child_at S y) (subst (λ (k : ℕ). 0 < k) (once y) h)) s st (le_of_eq (ap (ord binary64) q))

          pick : (y : ℤ) → T (is_i64 y) → (b : Bool) → child_at S y ≡ b → Covered t target level (y ∷ zs) s'.standing
          pick y i true v = u.covered y (subst (λ (k : ℕ). 0 < k) (sym (once y ∙ ap tally v)) (omega arith))
          pick y i false v = covered_failing t target limits level zs S e a f_s y i (refuted v) s'.standing (le_trans u.less (le_of_eq (ap (ord binary64) q)))

          among : (s'.standing ≡ s.standing) ⊎ ((x : List ℤ) × (0 < count x (joined vectors (children_at S))) × (s'.standing ≡ partial t target x)) → (s'.standing ≡ s.standing) ⊎ ((x : List ℤ) × (0 < count x (joined vectors (children_at R))) × (s'.standing ≡ partial t target x))
          among (inl v) = inl v
          among (inr (x, h, v)) = inr (x, lt_of_lt_of_le h (fewer (count x) (count_append x) vectors), v)

  -- ---- the walk
  pub walk_through : (d : ℕ) (zs : List ℤ) → length zs + d ≡ dimension t → T (all_i64 zs) → T (passes t target R zs) → (s : Progress Best) → State s → ord binary64 (partial t target zs) ≤ ord binary64 s.standing → Through s (walk_all nearer (still (center t target)) t d zs (partial t target zs) s) (Covered t target d zs) (opened_below t target R d zs) (admitted_below t target R d zs)
  walk_through zero zs e a p s st h = leaf_through zs e a p s st h
  walk_through (suc level) zs e a p s st h =
      subst (λ (x : Progress Best). Through s x (Covered t target (suc level) zs) (opened_below t target R (suc level) zs) (admitted_below t target R (suc level) zs)) (sym (walk_all_level nearer (still (center t target)) t level zs (partial t target zs) s))
      (level_through level zs (omega arith) a p s.standing st.radius st.within (walk_all nearer (still (center t target)) t level)
      (λ z a' p' s' st' h'. walk_through level (z ∷ zs) (omega arith) a' p' s' st' h') s refl st)

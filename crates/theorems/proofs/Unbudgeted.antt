-- How the walk ends at a budget, by the walk without one: if that needs no more nodes than the budget, with the same, and otherwise exhausted with the budget as its count. Whatever a leaf keeps, and however a centre is computed. Assumes nothing.
use mathlib.Core.Path.{◌≡◌, refl, sym, ap, ◌∙◌, subst}
use mathlib.Core.Logic.{◌⊎◌, inl, inr}
use Prim.Native.Nat.{ℕ, zero, suc, ◌≤◌, ◌<◌}
use native.Mathlib.Nat.{le_refl, le_trans, le_of_eq, le-suc, le_antisymm, lt_of_lt_of_le}
use mathlib.Core.Bool.{Bool, true, false}
use mathlib.Core.List.{List, [], ◌∷◌}
use lib.Dec.{leb, leb→le, nleb→lt}
use lib.IntN.{ℤ}
use lib.Ieee.{Float, binary64, add, sub, le}
use Rattle.definitions.specs.Table.{Table, weight}
use Rattle.definitions.specs.Distance.{term}
use Rattle.definitions.specs.Walk.{Walked, ended, exhausted, Leaf, Descent, Centers, descend_if, visit, walk}
use Rattle.definitions.proofs.Turns.{visit_exhausted, visit_counted, descends, prunes, leaf_ended, walk_leaf, walk_level}
use Rattle.definitions.proofs.Fuel.{NoFewer, Counting, walk_counts}
use Rattle.theorems.specs.Children.{children}
use Rattle.theorems.specs.Unbudgeted.{Progress, Outcome, counted, walked_below, took, after_child, all_children, walk_all}
use Rattle.theorems.proofs.Booleans.{of_true, of_false}
use Rattle.theorems.proofs.Levels.{try_each, each_nil, each_exhausted, each_cons, enter_each}

-- ---- the walk without a budget, a clause each
module _ {K : Type 0} (outcome : Outcome K) (centers : Centers K) (t : Table) where
  module _ (down : List ℤ → Float → Progress K → Progress K) (level : ℕ) (zs : List ℤ) (p c : Float) where
    pub all_nil : (s : Progress K) → all_children outcome centers t down level zs p c [] s ≡ s
    unfolding all_children
    all_nil s = refl

    pub all_cons : (z : ℤ) (cs : List ℤ) (s : Progress K) → all_children outcome centers t down level zs p c (z ∷ cs) s ≡ all_children outcome centers t down level zs p c cs (after_child outcome centers t (walked_below (add binary64 p (term (weight t level) c z)) s) down (z ∷ zs) (add binary64 p (term (weight t level) c z)) (took outcome centers t level z s))
    unfolding all_children
    all_cons z cs s = refl

  pub walk_all_leaf : (zs : List ℤ) (p : Float) (s : Progress K) → walk_all outcome centers t 0 zs p s ≡ record { kept = (outcome zs p s.kept s.standing).0; standing = (outcome zs p s.kept s.standing).1; nodes = s.nodes }
  unfolding walk_all
  walk_all_leaf zs p s = refl

  pub walk_all_level : (level : ℕ) (zs : List ℤ) (p : Float) (s : Progress K) → walk_all outcome centers t (suc level) zs p s ≡ all_children outcome centers t (walk_all outcome centers t level) level zs p (centers.at level zs s.kept) (children (centers.at level zs s.kept) (sub binary64 s.standing p) (weight t level)) s
  unfolding walk_all
  walk_all_level level zs p s = refl

  -- ---- nodes are only counted on
  module _ (down : List ℤ → Float → Progress K → Progress K) (more : (zs : List ℤ) (p : Float) (s : Progress K) → s.nodes ≤ (down zs p s).nodes) (level : ℕ) (zs : List ℤ) (p c : Float) where
    child_counts : (passed : Bool) (ys : List ℤ) (sum : Float) (s : Progress K) → suc s.nodes ≤ (after_child outcome centers t passed down ys sum s).nodes
    child_counts true ys sum s = more ys sum (counted s)
    child_counts false ys sum s = le_refl (suc s.nodes)

    pub all_count : (cs : List ℤ) (s : Progress K) → s.nodes ≤ (all_children outcome centers t down level zs p c cs s).nodes
    all_count [] s = le_of_eq (ap (λ (x : Progress K). x.nodes) (sym (all_nil down level zs p c s)))
    all_count (z ∷ cs) s =
        let sum = add binary64 p (term (weight t level) c z) in
        le_trans (le-suc s.nodes) (le_trans (child_counts (walked_below sum s) (z ∷ zs) sum (took outcome centers t level z s))
        (le_trans (all_count cs (after_child outcome centers t (walked_below sum s) down (z ∷ zs) sum (took outcome centers t level z s))) (le_of_eq (ap (λ (x : Progress K). x.nodes) (sym (all_cons down level zs p c z cs s))))))

  pub walk_all_counts : (d : ℕ) (zs : List ℤ) (p : Float) (s : Progress K) → s.nodes ≤ (walk_all outcome centers t d zs p s).nodes
  walk_all_counts zero zs p s = le_of_eq (ap (λ (x : Progress K). x.nodes) (sym (walk_all_leaf zs p s)))
  walk_all_counts (suc level) zs p s =
      le_trans (all_count (walk_all outcome centers t level) (walk_all_counts level) level zs p (centers.at level zs s.kept) (children (centers.at level zs s.kept) (sub binary64 s.standing p) (weight t level)) s)
      (le_of_eq (ap (λ (x : Progress K). x.nodes) (sym (walk_all_level level zs p s))))

-- ---- with a budget
-- how a walk ends at the budget that without one comes to f
abbrev pub Agrees : {K : Type 0} → ℕ → Progress K → Walked K → Type 0
Agrees budget f w = ((f.nodes ≤ budget) × (w ≡ ended f.kept f.standing f.nodes)) ⊎ ((budget < f.nodes) × (S : Float) × (w ≡ exhausted budget S))

-- a leaf that is given by its outcome: it never ends the walk, and counts no node
abbrev pub LeafOf : {K : Type 0} → Leaf K → Outcome K → Type 0
LeafOf {K} leaf outcome = (zs : List ℤ) (d : Float) (k : K) (S : Float) (m : ℕ) → leaf zs d k S m ≡ ended (outcome zs d k S).0 (outcome zs d k S).1 m

module _ {K : Type 0} (leaf : Leaf K) (outcome : Outcome K) (leaf_is : LeafOf leaf outcome) (centers : Centers K) (t : Table) (budget : ℕ) where
  abbrev pub from : Progress K → Walked K
  from s = ended s.kept s.standing s.nodes

  module _ (level : ℕ) (zs : List ℤ) (p c : Float)
      (down : Descent K) (down_all : List ℤ → Float → Progress K → Progress K)
      (more : (ys : List ℤ) (q : Float) (s : Progress K) → s.nodes ≤ (down_all ys q s).nodes)
      (agree : (ys : List ℤ) (q : Float) (s : Progress K) → s.nodes ≤ budget → Agrees budget (down_all ys q s) (down ys q (from s))) where
    visit_agrees : (z : ℤ) (sum : Float) (s : Progress K) → s.nodes ≤ budget → Agrees budget (after_child outcome centers t (walked_below sum s) down_all (z ∷ zs) sum s) (visit leaf centers t budget (leb budget s.nodes) down (z ∷ zs) sum s.kept s.standing s.nodes)
    visit_agrees z sum s h = go (leb budget s.nodes) refl
      where
        descended : suc s.nodes ≤ budget → (b : Bool) → Agrees budget (after_child outcome centers t b down_all (z ∷ zs) sum s) (descend_if leaf centers t budget b down (z ∷ zs) sum (from (counted s)))
        descended l true = subst (Agrees budget (down_all (z ∷ zs) sum (counted s))) (sym (descends leaf centers t budget down (z ∷ zs) sum (from (counted s)))) (agree (z ∷ zs) sum (counted s) l)
        descended l false = inl (l, prunes leaf centers t budget down (z ∷ zs) sum (from (counted s)))

        go : (b : Bool) → leb budget s.nodes ≡ b → Agrees budget (after_child outcome centers t (walked_below sum s) down_all (z ∷ zs) sum s) (visit leaf centers t budget b down (z ∷ zs) sum s.kept s.standing s.nodes)
        go true e =
            let same : s.nodes ≡ budget = le_antisymm h (leb→le budget s.nodes (of_true e)) in
            inr (
              lt_of_lt_of_le (le_of_eq (ap suc (sym same))) (child_counts outcome centers t down_all more level zs p c (walked_below sum s) (z ∷ zs) sum s),
              s.standing,
              visit_exhausted leaf centers t budget down (z ∷ zs) sum s.kept s.standing s.nodes ∙ ap (λ (m : ℕ). exhausted m s.standing) same,
            )
        go false e =
            subst (Agrees budget (after_child outcome centers t (walked_below sum s) down_all (z ∷ zs) sum s)) (sym (visit_counted leaf centers t budget down (z ∷ zs) sum s.kept s.standing s.nodes))
            (descended (nleb→lt budget s.nodes (of_false e)) (le sum s.standing))

    each_agrees : (cs : List ℤ) (s : Progress K) → s.nodes ≤ budget → Agrees budget (all_children outcome centers t down_all level zs p c cs s) (try_each leaf centers t budget down level zs p c cs (from s))
    each_agrees [] s h =
        subst (λ (f : Progress K). Agrees budget f (try_each leaf centers t budget down level zs p c [] (from s))) (sym (all_nil outcome centers t down_all level zs p c s))
        (inl (h, each_nil leaf centers t budget down level zs p c (from s)))
    each_agrees (z ∷ cs) s h =
        let sum = add binary64 p (term (weight t level) c z) in
        subst (λ (f : Progress K). Agrees budget f (try_each leaf centers t budget down level zs p c (z ∷ cs) (from s))) (sym (all_cons outcome centers t down_all level zs p c z cs s))
        (subst (Agrees budget (all_children outcome centers t down_all level zs p c cs (after_child outcome centers t (walked_below sum s) down_all (z ∷ zs) sum (took outcome centers t level z s)))) (sym (each_cons leaf centers t budget down level zs p c z cs s.kept s.standing s.nodes))
        (go (after_child outcome centers t (walked_below sum s) down_all (z ∷ zs) sum (took outcome centers t level z s)) (visit leaf centers t budget (leb budget s.nodes) down (z ∷ zs) sum (centers.moved level z s.kept) s.standing s.nodes) (visit_agrees z sum (took outcome centers t level z s) h) (λ f l. each_agrees cs f l)))
      where
        go : (f : Progress K) (w : Walked K) → Agrees budget f w → ((f : Progress K) → f.nodes ≤ budget → Agrees budget (all_children outcome centers t down_all level zs p c cs f) (try_each leaf centers t budget down level zs p c cs (from f))) → Agrees budget (all_children outcome centers t down_all level zs p c cs f) (try_each leaf centers t budget down level zs p c cs w)
        go f w (inl a) r = subst (λ (v : Walked K). Agrees budget (all_children outcome centers t down_all level zs p c cs f) (try_each leaf centers t budget down level zs p c cs v)) (sym a.1) (r f a.0)
        go f w (inr a) r = inr (
          lt_of_lt_of_le a.0 (all_count outcome centers t down_all more level zs p c cs f),
          a.1,
          ap (try_each leaf centers t budget down level zs p c cs) a.2 ∙ each_exhausted leaf centers t budget down level zs p c cs budget a.1,
        )

  pub walk_counting : (d : ℕ) → Counting (walk leaf centers t budget d)
  walk_counting d = walk_counts leaf centers t budget (λ zs p k S m. subst (NoFewer m) (sym (leaf_is zs p k S m)) (le_refl m)) d

  pub walk_agrees : (d : ℕ) (zs : List ℤ) (p : Float) (s : Progress K) → s.nodes ≤ budget → Agrees budget (walk_all outcome centers t d zs p s) (walk leaf centers t budget d zs p (from s))
  walk_agrees zero zs p s h =
      subst (λ (f : Progress K). Agrees budget f (walk leaf centers t budget 0 zs p (from s))) (sym (walk_all_leaf outcome centers t zs p s))
      (inl (h, walk_leaf leaf centers t budget zs p (from s) ∙ leaf_ended leaf centers t budget zs p s.kept s.standing s.nodes ∙ leaf_is zs p s.kept s.standing s.nodes))
  walk_agrees (suc level) zs p s h =
      subst (λ (f : Progress K). Agrees budget f (walk leaf centers t budget (suc level) zs p (from s))) (sym (walk_all_level outcome centers t level zs p s))
      (subst (Agrees budget (all_children outcome centers t (walk_all outcome centers t level) level zs p (centers.at level zs s.kept) (children (centers.at level zs s.kept) (sub binary64 s.standing p) (weight t level)) s))
      (sym (walk_level leaf centers t budget level zs p (from s) ∙ enter_each leaf centers t budget (walk leaf centers t budget level) (walk_counting level) level zs p s.kept s.standing s.nodes))
      (each_agrees level zs p (centers.at level zs s.kept) (walk leaf centers t budget level) (walk_all outcome centers t level) (walk_all_counts outcome centers t level) (λ ys q f l. walk_agrees level ys q f l) (children (centers.at level zs s.kept) (sub binary64 s.standing p) (weight t level)) s h))

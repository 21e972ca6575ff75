-- A level of the walk as the code goes through its children, for any leaf and any centres: the children that are left give what the whole level gives. So it is
-- where the level opens, each turn keeps it, and each end follows from it. Assumes nothing.
use Rattle.std.proofs.Common.{None, Some}
use mathlib.Core.Path.{◌≡◌, ap, sym, ◌∙◌}
use mathlib.Core.Bool.{Bool, true, false}
use mathlib.Core.List.{List, ◌∷◌}
use Prim.Native.Nat.{ℕ, suc, ◌+◌, ◌-◌, ◌*◌, ◌<◌, ◌≤◌}
use native.Mathlib.Omega.{arith}
use lib.IntN.{ℤ}
use lib.Ieee.{Float, binary64, add, sub, le}
use Rattle.rounding.specs.Integers.{to_double, round_away}
use Rattle.definitions.specs.Table.{Table, weight}
use Rattle.definitions.specs.Distance.{term}
use Rattle.definitions.specs.Zigzag.{Zigzag, Next, child, Start, open_level, start, next}
use Rattle.definitions.specs.Walk.{Walked, ended, exhausted, Leaf, Descent, Centers, try_children, walk}
use Rattle.definitions.proofs.Turns.{children_none, children_exhausted}
use Rattle.definitions.proofs.Zigzags.{Follows, start_at, start_opens, next_follows}
use Rattle.children.specs.declared.Children.{Children}
use Rattle.children.specs.declared.Trial.{Trial}
use Rattle.children.specs.View.{zigzag, level_of, child_of}
use Rattle.children.proofs.Outcomes.{open_of, closed_of, at_of, end_of}
use Rattle.search.proofs.Turns.{turn_exhausted, turn_pruned, turn_descends, walk_closed, walk_open}

-- a level as it is entered: the coordinates and the partial sum above it, what is kept, the standing radius and the nodes
pub record Entered (K : Type 0) : Type 0 where
  pub leaf : Leaf K
  pub centers : Centers K
  pub table : Table
  pub budget : ℕ
  pub level : ℕ
  pub above : List ℤ
  pub partial : Float
  pub kept : K
  pub radius : Float
  pub nodes : ℕ

module _ {K : Type 0} (v : Entered K) where
  abbrev pub center_of : Float
  center_of = v.centers.at v.level v.above v.kept

  -- the walk below it, and with it
  abbrev pub down : Descent K
  down = walk v.leaf v.centers v.table v.budget v.level

  abbrev pub whole : Walked K
  whole = walk v.leaf v.centers v.table v.budget (suc v.level) v.above v.partial (ended v.kept v.radius v.nodes)

  -- what its children come to from the next on, with fuel for so many
  abbrev left : ℕ → Next → Walked K → Walked K
  left fuel y w = try_children v.leaf v.centers v.table v.budget down v.level v.above v.partial center_of fuel y w

  -- g is the generator before its next child, and the rest what the walk has come to
  pub record Going (g : Children) (k : K) (R : Float) (m : ℕ) : Type 0 where
    pub fuel : ℕ
    pub enough : v.budget - m < fuel
    pub same : left fuel (next (zigzag g)) (ended k R m) ≡ whole
    pub step_bound : g.step ≤ 2 * m + 1
    pub center_is : g.center ≡ center_of
    pub weight_is : g.weight ≡ weight v.table v.level

  -- ---- how it starts: c is its centre as the code has it
  abbrev remaining : Float
  remaining = sub binary64 v.radius v.partial

  abbrev pub start_of : Float → Start
  start_of c = start c remaining (weight v.table v.level)

  module _ (c : Float) (is : c ≡ center_of) where
    pub closes : None ≡ level_of (start_of c) → ended v.kept v.radius v.nodes ≡ whole
    closes e = sym (walk_closed v.leaf v.centers v.table v.budget v.level v.above v.partial v.kept v.radius v.nodes (ap start_of (sym is) ∙ closed_of _ e))

    module _ (g : Children) (e : Some g ≡ level_of (start_of c)) where
      start_is : start_of center_of ≡ open_level (zigzag g)
      start_is = ap start_of (sym is) ∙ open_of _ g e

      generator_is : zigzag g ≡ start_at center_of remaining (weight v.table v.level) (round_away center_of)
      generator_is = start_opens center_of remaining (weight v.table v.level) (zigzag g) start_is

      -- it has given no child
      pub none_given : g.emitted_nearest ≡ false
      none_given = ap (λ (h : Zigzag). h.emitted_nearest) generator_is

      pub opens : Going g v.kept v.radius v.nodes
      opens =
          let one : g.step ≡ 1 = ap (λ (h : Zigzag). h.step) generator_is in
          record {
            fuel = suc v.budget;
            enough = omega arith;
            same = sym (walk_open v.leaf v.centers v.table v.budget v.level v.above v.partial v.kept v.radius v.nodes (zigzag g) start_is);
            step_bound = omega arith;
            center_is = ap (λ (h : Zigzag). h.center) generator_is;
            weight_is = ap (λ (h : Zigzag). h.weight) generator_is;
          }

-- ---- a turn
module _ {K : Type 0} {v : Entered K} {g : Children} {k : K} {R : Float} {m : ℕ} (u : Going v g k R m) where
  -- there is no child left
  pub children_end : None ≡ child_of (next (zigzag g)) → ended k R m ≡ whole v
  children_end e =
      sym (children_none v.leaf v.centers v.table v.budget (down v) v.level v.above v.partial (center_of v) u.fuel _ k R m)
      ∙ ap (λ (y : Next). left v u.fuel y (ended k R m)) (sym (end_of _ e))
      ∙ u.same

  module _ {trial : Trial} {after : Children} (gives : Some (trial, after) ≡ child_of (next (zigzag g))) where
    abbrev z : ℤ
    z = trial.z

    -- the sum with the child's term
    abbrev sum : Float
    sum = add binary64 v.partial trial.term

    abbrev rest : Walked K → Walked K
    rest w = left v (u.fuel - 1) (next (zigzag after)) w

    some : 0 < u.fuel
    some = omega (arith, u.enough)

    next_is : next (zigzag g) ≡ child z (zigzag after)
    next_is = (at_of (next (zigzag g)) trial after gives).0

    follows : Follows 2 (zigzag g) (zigzag after)
    follows = next_follows (zigzag g) z (zigzag after) next_is

    center_after : after.center ≡ center_of v
    center_after = follows.center ∙ u.center_is

    weight_after : after.weight ≡ weight v.table v.level
    weight_after = follows.weight ∙ u.weight_is

    pub step_after : after.step ≤ 2 * m + 3
    step_after = omega (arith, follows.step, u.step_bound)

    -- the child's double and term
    pub value_at : trial.value ≡ to_double z
    value_at = ap (λ (r : Trial). r.value) (at_of (next (zigzag g)) trial after gives).1

    abbrev term_of : Float
    term_of = term (weight v.table v.level) (center_of v) z

    term_at : trial.term ≡ term_of
    term_at =
        ap (λ (r : Trial). r.term) (at_of (next (zigzag g)) trial after gives).1
        ∙ ap (λ (w : Float). term w after.center z) weight_after
        ∙ ap (λ (c : Float). term (weight v.table v.level) c z) center_after

    sum_at : {a : Bool} → le sum R ≡ a → le (add binary64 v.partial term_of) R ≡ a
    sum_at e = ap (λ (d : Float). le (add binary64 v.partial d) R) (sym term_at) ∙ e

    here : left v u.fuel (child z (zigzag after)) (ended k R m) ≡ whole v
    here = ap (λ (y : Next). left v u.fuel y (ended k R m)) (sym next_is) ∙ u.same

    -- the budget is spent
    pub budget_spent : v.budget ≤ m → exhausted m R ≡ whole v
    budget_spent h = sym (turn_exhausted v.leaf v.centers v.table v.budget (down v) v.level v.above v.partial (center_of v) z (zigzag after) k R m u.fuel some h) ∙ here

    -- what is kept once the level has taken the child
    abbrev pub taken : K
    taken = v.centers.moved v.level z k

    module _ (free : m < v.budget) where
      -- its sum is above the standing radius
      pub child_pruned : le sum R ≡ false → Going v after taken R (m + 1)
      child_pruned e = record {
        fuel = u.fuel - 1;
        enough = omega (arith, u.enough, free);
        same = sym (turn_pruned v.leaf v.centers v.table v.budget (down v) v.level v.above v.partial (center_of v) z (zigzag after) k R m free u.fuel some (sum_at e)) ∙ here;
        step_bound = omega (arith, step_after);
        center_is = center_after;
        weight_is = weight_after;
      }

      -- the walk below it comes to w
      module _ (passes : le sum R ≡ true) (w : Walked K) (is : w ≡ down v (z ∷ v.above) sum (ended taken R (m + 1))) where
        children_left : rest w ≡ whole v
        children_left =
            ap rest (is ∙ ap (λ (d : Float). down v (z ∷ v.above) (add binary64 v.partial d) (ended taken R (m + 1))) term_at)
            ∙ sym (turn_descends v.leaf v.centers v.table v.budget (down v) v.level v.above v.partial (center_of v) z (zigzag after) k R m free u.fuel some (sum_at passes))
            ∙ here

        pub exhausted_below : (m' : ℕ) (R' : Float) → w ≡ exhausted m' R' → exhausted m' R' ≡ whole v
        exhausted_below m' R' e =
            sym (children_exhausted v.leaf v.centers v.table v.budget (down v) v.level v.above v.partial (center_of v) (u.fuel - 1) (next (zigzag after)) m' R')
            ∙ ap rest (sym e)
            ∙ children_left

        pub goes_on : (k' : K) (R' : Float) (m' : ℕ) → w ≡ ended k' R' m' → m < m' → Going v after k' R' m'
        goes_on k' R' m' e more = record {
          fuel = u.fuel - 1;
          enough = omega (arith, u.enough, free);
          same = ap rest (sym e) ∙ children_left;
          step_bound = omega (arith, step_after);
          center_is = center_after;
          weight_is = weight_after;
        }

-- What the next child of a generator is: the first later step that passes, as far as no direction was closed too early. A generator hands out no child after `step_limit`. Assumes nothing.
use mathlib.Core.Path.{◌≡◌, refl, sym, ap, ◌∙◌, subst}
use mathlib.Core.Logic.{◌⊎◌, inl, inr}
use Prim.Native.Nat.{ℕ, zero, suc, ◌+◌, ◌-◌, ◌≤◌, ◌<◌, suc-le-suc}
use native.Mathlib.Nat.{le_refl, le_trans, le-suc, eq-or-lt_of_le, not-suc-le-zero, lt_irrefl, lt_of_lt_of_le, suc_inj, le_of_suc-le-suc}
use native.Mathlib.Omega.{arith}
use mathlib.Core.Bool.{Bool, true, false, not, ◌&&◌, ◌||◌, cond}
use mathlib.Core.List.{List, [], ◌∷◌}
use lib.Dec.{T}
use lib.IntN.{ℤ}
use lib.Ieee.{Float, le}
use lib.Ieee.Fits.{and_l}
use Rattle.rounding.specs.Integers.{is_i64, round_away}
use Rattle.definitions.specs.Distance.{term}
use Rattle.definitions.specs.Zigzag.{Zigzag, Next, child, none, open_level, no_children, start, new_zigzag, one_step, second_step, next}
use Rattle.definitions.proofs.Steps.{second_step_child, second_step_none, next_is}
use Rattle.theorems.specs.Children.{children_from, children_of, children, step_limit, upward_at, zigzag_at, is_child}
use Rattle.theorems.proofs.Booleans.{of_true, refuted}
use Rattle.theorems.proofs.Zigzags.{at_limit}

-- a generator that has handed out its nearest integer
abbrev pub generator : Float → Float → Float → ℕ → Bool → Bool → Zigzag
generator c r w s u d = record { center = c; remaining = r; weight = w; nearest = round_away c; step = s; emitted_nearest = true; positive_done = u; negative_done = d }

pub is_child_is : (c r w : Float) (z : ℤ) → is_child c r w z ≡ (is_i64 z && le (term w c z) r)
unfolding is_child
is_child_is c r w z = refl

-- ---- the definitions at such a generator
step_is : (c r w : Float) (s : ℕ) (u d : Bool) → one_step (generator c r w s u d) ≡ cond (cond (upward_at c s) u d) (none (generator c r w (suc s) u d)) (cond (is_child c r w (zigzag_at c s)) (child (zigzag_at c s) (generator c r w (suc s) u d)) (none (generator c r w (suc s) (upward_at c s || u) (not (upward_at c s) || d))))
unfolding one_step upward_at zigzag_at is_child
step_is c r w s u d = refl

next_fresh : (c r w : Float) → next (new_zigzag c r w) ≡ child (round_away c) (generator c r w 1 false false)
unfolding next new_zigzag
next_fresh c r w = refl

pub start_is : (c r w : Float) → start c r w ≡ cond (le (term w c (round_away c)) r) (open_level (new_zigzag c r w)) no_children
unfolding start
start_is c r w = refl

pub from_zero : (x : Next) → children_from 0 x ≡ []
unfolding children_from
from_zero x = refl

pub from_none : (fuel : ℕ) (g : Zigzag) → children_from fuel (none g) ≡ []
unfolding children_from
from_none zero g = refl
from_none (suc fuel) g = refl

pub from_child : (fuel : ℕ) (z : ℤ) (g : Zigzag) → children_from (suc fuel) (child z g) ≡ z ∷ children_from fuel (next g)
unfolding children_from
from_child fuel z g = refl

pub children_is : (c r w : Float) → children c r w ≡ children_of (start c r w)
unfolding children
children_is c r w = refl

pub of_none : children_of no_children ≡ []
unfolding children_of
of_none = refl

pub of_open : (g : Zigzag) → children_of (open_level g) ≡ children_from (suc (suc step_limit)) (next g)
unfolding children_of
of_open g = refl

-- ---- one call of `next`. `Closed` says what is known of the closed directions at a step, `Missed` of a step that gives no child
module _ (c r w : Float) (Closed : ℕ → Bool → Bool → Type 0) (Missed : ℕ → Type 0)
    (given : (s : ℕ) (u d : Bool) → Closed s u d → Closed (suc s) u d)
    (skipped : (s : ℕ) (u d : Bool) → Closed s u d → T (cond (upward_at c s) u d) → Missed s)
    (closed : (s : ℕ) (u d : Bool) → Closed s u d → (T (is_child c r w (zigzag_at c s)) → ⊥) → Missed s × Closed (suc s) (upward_at c s || u) (not (upward_at c s) || d)) where
  abbrev Stepped : ℕ → Bool → Bool → Next → Type 0
  Stepped s u d (child z g) = (z ≡ zigzag_at c s) × T (is_child c r w (zigzag_at c s)) × (g ≡ generator c r w (suc s) u d) × Closed (suc s) u d
  Stepped s u d (none g) = Missed s × (u' : Bool) × (d' : Bool) × (g ≡ generator c r w (suc s) u' d') × Closed (suc s) u' d'

  step_ok : (s : ℕ) (u d : Bool) → Closed s u d → Stepped s u d (one_step (generator c r w s u d))
  step_ok s u d k = subst (Stepped s u d) (sym (step_is c r w s u d)) (go (cond (upward_at c s) u d) (is_child c r w (zigzag_at c s)) refl refl)
    where
      go : (x y : Bool) → cond (upward_at c s) u d ≡ x → is_child c r w (zigzag_at c s) ≡ y → Stepped s u d (cond x (none (generator c r w (suc s) u d)) (cond y (child (zigzag_at c s) (generator c r w (suc s) u d)) (none (generator c r w (suc s) (upward_at c s || u) (not (upward_at c s) || d)))))
      go true y e f = (skipped s u d k (of_true e), u, d, refl, given s u d k)
      go false true e f = (refl, of_true f, refl, given s u d k)
      go false false e f = let m = closed s u d k (refuted f) in (m.0, upward_at c s || u, not (upward_at c s) || d, refl, m.1)

  -- the steps from s up to k give none
  abbrev pub Between : ℕ → ℕ → Type 0
  Between s k = (s ≤ k) × ((j : ℕ) → s ≤ j → j < k → Missed j)

  between_none : (s : ℕ) → Between s s
  between_none s = (le_refl s, λ j a b. absurd (lt_irrefl j (lt_of_lt_of_le b a)))

  between_one : (s : ℕ) → Missed s → Between s (suc s)
  between_one s m = (le-suc s, λ j a b. subst Missed (only s j a b) m)
    where
      only : (s j : ℕ) → s ≤ j → j < suc s → s ≡ j
      only s j a b = omega arith

  between_more : (s : ℕ) (k : ℕ) → Between s k → Missed k → Between s (suc k)
  between_more s k b m = (le_trans b.0 (le-suc k), λ j p q. pick j p (eq-or-lt_of_le q))
    where
      pick : (j : ℕ) → s ≤ j → (suc j ≡ suc k) ⊎ (suc j < suc k) → Missed j
      pick j p (inl e) = subst Missed (suc_inj (sym e)) m
      pick j p (inr l) = b.1 j p (le_of_suc-le-suc l)

  -- a child is the integer of a step k, and the generator goes on from there; without a child it stands at a step k
  abbrev pub Nexted : ℕ → Next → Type 0
  Nexted s (child z g) = (k : ℕ) × (u : Bool) × (d : Bool) × Between s k × (z ≡ zigzag_at c k) × T (is_child c r w (zigzag_at c k)) × (g ≡ generator c r w (suc k) u d) × Closed (suc k) u d
  Nexted s (none g) = (k : ℕ) × (u : Bool) × (d : Bool) × Between s k × (g ≡ generator c r w k u d) × Closed k u d

  from_step : (s k : ℕ) (u d : Bool) → Between s k → (x : Next) → Stepped k u d x → Nexted s x
  from_step s k u d b (child z g) h = (k, u, d, b, h.0, h.1, h.2, h.3)
  from_step s k u d b (none g) h = (suc k, h.1, h.2, between_more s k b h.0, h.3, h.4)

  second_ok : (s : ℕ) (u d : Bool) (x : Next) → Stepped s u d x → Nexted s (second_step x)
  second_ok s u d (child z g) h = subst (Nexted s) (sym (second_step_child z g)) (from_step s s u d (between_none s) (child z g) h)
  second_ok s u d (none g) h =
      subst (λ (y : Zigzag). Nexted s (second_step (none y))) (sym h.3)
      (subst (Nexted s) (sym (second_step_none (generator c r w (suc s) h.1 h.2))) (go (h.1 && h.2)))
    where
      go : (b : Bool) → Nexted s (cond b (none (generator c r w (suc s) h.1 h.2)) (one_step (generator c r w (suc s) h.1 h.2)))
      go true = (suc s, h.1, h.2, between_one s h.0, refl, h.4)
      go false = from_step s (suc s) h.1 h.2 (between_one s h.0) (one_step (generator c r w (suc s) h.1 h.2)) (step_ok (suc s) h.1 h.2 h.4)

  pub next_ok : (s : ℕ) (u d : Bool) → Closed s u d → Nexted s (next (generator c r w s u d))
  next_ok s u d k = subst (Nexted s) (sym (next_is (generator c r w s u d))) (go (u && d))
    where
      go : (b : Bool) → Nexted s (cond b (none (generator c r w s u d)) (second_step (one_step (generator c r w s u d))))
      go true = (s, u, d, between_none s, refl, k)
      go false = second_ok s u d (one_step (generator c r w s u d)) (step_ok s u d k)

-- ---- no child after the step limit, whatever the centre, the weight and what remains
module _ (c r w : Float) where
  abbrev Stands : ℕ → Next → Type 0
  Stands = Nexted c r w (λ s u d. Unit {0}) (λ s. Unit {0}) (λ s u d k. tt) (λ s u d k h. tt) (λ s u d k h. (tt, tt))

  stands : (s : ℕ) (u d : Bool) → Stands s (next (generator c r w s u d))
  stands s u d = next_ok c r w (λ s u d. Unit {0}) (λ s. Unit {0}) (λ s u d k. tt) (λ s u d k h. tt) (λ s u d k h. (tt, tt)) s u d tt

  pub child_limit : (k : ℕ) → T (is_child c r w (zigzag_at c k)) → k ≤ step_limit
  child_limit k h = at_limit c k (and_l (is_i64 (zigzag_at c k)) (le (term w c (zigzag_at c k)) r) (subst T (is_child_is c r w (zigzag_at c k)) h))

  -- more fuel gives no more children
  more_fuel : (f g s : ℕ) (x : Next) → Stands s x → suc step_limit - s < f → suc step_limit - s < g → children_from f x ≡ children_from g x
  more_fuel zero g s x h a b = absurd (not-suc-le-zero a)
  more_fuel (suc f) zero s x h a b = absurd (not-suc-le-zero b)
  more_fuel (suc f) (suc g) s (none y) h a b = from_none (suc f) y ∙ sym (from_none (suc g) y)
  more_fuel (suc f) (suc g) s (child z y) h a b =
      let k = h.0 in
      let l : k < suc step_limit = suc-le-suc (child_limit k h.5) in
      from_child f z y
      ∙ ap (λ (zs : List ℤ). z ∷ zs)
      (more_fuel f g (suc k) (next y) (subst (λ (v : Zigzag). Stands (suc k) (next v)) (sym h.6) (stands (suc k) h.1 h.2))
      (less (suc step_limit) s k f h.3.0 l a) (less (suc step_limit) s k g h.3.0 l b))
      ∙ sym (from_child g z y)
    where
      less : (L s k f : ℕ) → s ≤ k → k < L → L - s < suc f → L - suc k < f
      less L s k f p q a = omega arith

  -- the children of a level, with any fuel above the step limit
  pub enough_fuel : (n : ℕ) → children_from (suc (suc step_limit) + n) (next (new_zigzag c r w)) ≡ children_from (suc (suc step_limit)) (next (new_zigzag c r w))
  enough_fuel n =
      subst (λ (x : Next). children_from (suc (suc step_limit) + n) x ≡ children_from (suc (suc step_limit)) x) (sym (next_fresh c r w))
      (subst (λ (k : ℕ). children_from k (child (round_away c) (generator c r w 1 false false)) ≡ children_from (suc (suc step_limit)) (child (round_away c) (generator c r w 1 false false))) (sums step_limit n)
      (from_child (suc step_limit + n) (round_away c) (generator c r w 1 false false)
      ∙ ap (λ (zs : List ℤ). round_away c ∷ zs) (more_fuel (suc step_limit + n) (suc step_limit) 1 (next (generator c r w 1 false false)) (stands 1 false false) (omega arith) (omega arith))
      ∙ sym (from_child (suc step_limit) (round_away c) (generator c r w 1 false false))))
    where
      sums : (L n : ℕ) → suc (suc L + n) ≡ suc (suc L) + n
      sums L n = omega arith

  -- the children of a level: its nearest integer and what comes after it, or none if that fails
  pub children_first : children c r w ≡ cond (le (term w c (round_away c)) r) (round_away c ∷ children_from (suc step_limit) (next (generator c r w 1 false false))) []
  children_first = children_is c r w ∙ ap children_of (start_is c r w) ∙ go (le (term w c (round_away c)) r)
    where
      go : (b : Bool) → children_of (cond b (open_level (new_zigzag c r w)) no_children) ≡ cond b (round_away c ∷ children_from (suc step_limit) (next (generator c r w 1 false false))) []
      go true = of_open (new_zigzag c r w) ∙ ap (children_from (suc (suc step_limit))) (next_fresh c r w) ∙ from_child (suc step_limit) (round_away c) (generator c r w 1 false false)
      go false = of_none

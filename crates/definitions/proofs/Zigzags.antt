-- The zigzag, one equation for each outcome: proofs above rewrite with these and open no definition. Then `next` as a number of steps, for a loop that
-- makes them, and what a child leaves unchanged. Assumes nothing.
use mathlib.Core.Path.{◌≡◌, refl, ap, sym, ◌∙◌, subst}
use mathlib.Core.Bool.{Bool, true, false, not, cond, ◌&&◌, beq}
use Prim.Native.Nat.{ℕ, zero, suc, ◌+◌, ◌-◌, ◌%◌, ◌≤◌, ◌<◌}
use native.Mathlib.Omega.{arith}
use lib.Dec.{T, eqb}
use lib.IntN.{ℤ, pos, ◌+ℤ◌, ◌-ℤ◌}
use lib.Ieee.{Float, le}
use Rattle.rounding.specs.Integers.{to_double, round_away, is_i64}
use Rattle.definitions.specs.Distance.{term}
use Rattle.definitions.specs.Zigzag.{Zigzag, Start, open_level, no_children, Next, child, none, passes_test, new_zigzag, start, upward, step_magnitude, candidate, after_step, one_step, both_done, second_step, after_nearest, next}
use Rattle.definitions.proofs.Steps.{Final, none_is_final}

pub passes_is : (g : Zigzag) (z : ℤ) → passes_test g z ≡ le (term g.weight g.center z) g.remaining
unfolding passes_test
passes_is g z = refl

-- ---- the start
-- a generator at its first step, of a centre whose nearest integer is m
abbrev pub start_at : Float → Float → Float → ℤ → Zigzag
start_at c r w m = record {
  center = c;
  remaining = r;
  weight = w;
  nearest = m;
  step = 1;
  emitted_nearest = false;
  positive_done = false;
  negative_done = false;
}

fresh_is : (c r w : Float) → new_zigzag c r w ≡ start_at c r w (round_away c)
unfolding new_zigzag
fresh_is c r w = refl

abbrev start_if : Bool → Zigzag → Start
start_if passed g = cond passed (open_level g) no_children

start_fresh : (c r w : Float) → start c r w ≡ start_if (passes_test (new_zigzag c r w) (new_zigzag c r w).nearest) (new_zigzag c r w)
unfolding start
start_fresh c r w = refl

module _ (c r w : Float) where
  pub start_is : start c r w ≡ cond (le (term w c (round_away c)) r) (open_level (start_at c r w (round_away c))) no_children
  start_is =
      start_fresh c r w
      ∙ ap (λ (g : Zigzag). start_if (passes_test g g.nearest) g) (fresh_is c r w)
      ∙ ap (λ (b : Bool). start_if b (start_at c r w (round_away c))) (passes_is (start_at c r w (round_away c)) (round_away c))

  pub start_opens : (h : Zigzag) → start c r w ≡ open_level h → h ≡ start_at c r w (round_away c)
  start_opens h e = opened (le (term w c (round_away c)) r) (sym start_is ∙ e)
    where
      opened : (b : Bool) → start_if b (start_at c r w (round_away c)) ≡ open_level h → h ≡ start_at c r w (round_away c)
      opened true e = cc
      opened false e = let f : ◌≡◌ {A = ℕ} 0 1 = cc in absurd (omega (arith, f))

  pub start_step : (h : Zigzag) → start c r w ≡ open_level h → h.step ≡ 1
  start_step h e = ap (λ (g : Zigzag). g.step) (start_opens h e)

-- ---- one step
module _ (g : Zigzag) where
  pub upward_is : upward g ≡ beq (eqb (g.step % 2) 1) (le (to_double g.nearest) g.center)
  unfolding upward
  upward_is = refl

  -- the candidate of a direction
  abbrev pub moved : Bool → ℤ
  moved up = cond up (g.nearest +ℤ pos (step_magnitude g)) (g.nearest -ℤ pos (step_magnitude g))

  candidate_is : candidate g ≡ moved (upward g)
  unfolding candidate
  candidate_is = refl

  abbrev pub direction_done : Bool → Bool
  direction_done up = cond up g.positive_done g.negative_done

  -- a step in a direction, by whether that is closed and whether its candidate z is a child
  abbrev step_by : Bool → Bool → Bool → ℤ → Next
  step_by up closed passed z = cond closed (none (after_step false false g)) (cond passed (child z (after_step false false g)) (none (after_step up (not up) g)))

  pub step_is : one_step g ≡ step_by (upward g) (direction_done (upward g)) (is_i64 (candidate g) && passes_test g (candidate g)) (candidate g)
  unfolding one_step
  step_is = refl

  module _ (up : Bool) (direction : up ≡ upward g) where
    step_by_lem : one_step g ≡ step_by up (direction_done up) (is_i64 (moved up) && passes_test g (moved up)) (moved up)
    step_by_lem =
        step_is
        ∙ ap (λ (z : ℤ). step_by (upward g) (direction_done (upward g)) (is_i64 z && passes_test g z) z) candidate_is
        ∙ ap (λ (b : Bool). step_by b (direction_done b) (is_i64 (moved b) && passes_test g (moved b)) (moved b)) (sym direction)

    pub step_done : direction_done up ≡ true → one_step g ≡ none (after_step false false g)
    step_done e = step_by_lem ∙ ap (λ (b : Bool). step_by up b (is_i64 (moved up) && passes_test g (moved up)) (moved up)) e

    module _ (live : direction_done up ≡ false) (passed : Bool) (test : is_i64 (moved up) && passes_test g (moved up) ≡ passed) where
      step_tried : one_step g ≡ step_by up false passed (moved up)
      step_tried =
          step_by_lem
          ∙ ap (λ (b : Bool). step_by up b (is_i64 (moved up) && passes_test g (moved up)) (moved up)) live
          ∙ ap (λ (b : Bool). step_by up false b (moved up)) test

    pub step_child : direction_done up ≡ false → is_i64 (moved up) && passes_test g (moved up) ≡ true → one_step g ≡ child (moved up) (after_step false false g)
    step_child live test = step_tried live true test

    pub step_closes : direction_done up ≡ false → is_i64 (moved up) && passes_test g (moved up) ≡ false → one_step g ≡ none (after_step up (not up) g)
    step_closes live test = step_tried live false test

-- ---- the next child
next_is : (g : Zigzag) → next g ≡ cond g.emitted_nearest (cond (both_done g) (none g) (second_step (one_step g))) (child g.nearest (after_nearest g))
unfolding next
next_is g = refl

pub next_first : (g : Zigzag) → g.emitted_nearest ≡ false → next g ≡ child g.nearest (after_nearest g)
next_first g e = next_is g ∙ ap (λ (b : Bool). cond b (cond (both_done g) (none g) (second_step (one_step g))) (child g.nearest (after_nearest g))) e

-- a child ends the steps, and no child goes on with f
abbrev go_on : (Zigzag → Next) → Next → Next
go_on f (child z h) = child z h
go_on f (none h) = f h

-- at most so many steps, until one gives a child or both directions are closed
unfoldable pub steps : ℕ → Zigzag → Next
unfolding one_step
steps zero g = none g
steps (suc k) g = cond (both_done g) (none g) (go_on (steps k) (one_step g))

steps_zero : (g : Zigzag) → steps zero g ≡ none g
unfolding steps
steps_zero g = refl

steps_suc : (k : ℕ) (g : Zigzag) → steps (suc k) g ≡ cond (both_done g) (none g) (go_on (steps k) (one_step g))
unfolding steps
steps_suc k g = refl

second_is : (x : Next) → second_step x ≡ go_on (steps 1) x
unfolding second_step
second_is (child z h) = refl
second_is (none h) = ap (cond (both_done h) (none h)) (ends (one_step h)) ∙ sym (steps_suc 0 h)
  where
    ends : (x : Next) → x ≡ go_on (steps 0) x
    ends (child z i) = refl
    ends (none i) = sym (steps_zero i)

-- once the nearest integer is handed out, `next` makes at most two steps
pub next_steps : (g : Zigzag) → g.emitted_nearest ≡ true → steps 2 g ≡ next g
next_steps g e =
    steps_suc 1 g
    ∙ ap (cond (both_done g) (none g)) (sym (second_is (one_step g)))
    ∙ ap (λ (b : Bool). cond b (cond (both_done g) (none g) (second_step (one_step g))) (child g.nearest (after_nearest g))) (sym e)
    ∙ sym (next_is g)

-- ---- a loop that makes the steps of `next from`, when at most k are left
module _ (from : Zigzag) (k : ℕ) (g : Zigzag) (left : steps k g ≡ next from) where
  pub ended : both_done g ≡ true → next from ≡ none g
  ended d = sym left ∙ all k
    where
      all : (k : ℕ) → steps k g ≡ none g
      all zero = steps_zero g
      all (suc j) = steps_suc j g ∙ ap (λ (b : Bool). cond b (none g) (go_on (steps j) (one_step g))) d

  module _ (live : both_done g ≡ false) where
    pub one_left : 0 < k
    one_left = at k left
      where
        at : (k : ℕ) → steps k g ≡ next from → 0 < k
        at zero e = absurd (subst T live (subst Final (sym e ∙ steps_zero g) (none_is_final from)))
        at (suc j) e = omega arith

    goes_on : (j : ℕ) → k ≡ suc j → go_on (steps j) (one_step g) ≡ next from
    goes_on j e = ap (λ (b : Bool). cond b (none g) (go_on (steps j) (one_step g))) (sym live) ∙ sym (steps_suc j g) ∙ ap (λ (i : ℕ). steps i g) (sym e) ∙ left

    pub gives : {z : ℤ} {h : Zigzag} → one_step g ≡ child z h → next from ≡ child z h
    gives s = sym (goes_on (k - 1) (omega (arith, one_left))) ∙ ap (go_on (steps (k - 1))) s

    pub one_less : {h : Zigzag} (j : ℕ) → k ≡ suc j → one_step g ≡ none h → steps j h ≡ next from
    one_less j e s = ap (go_on (steps j)) (sym s) ∙ goes_on j e

-- ---- what a child leaves unchanged, and the steps that it takes
abbrev pub generator : Next → Zigzag
generator (child z h) = h
generator (none h) = h

-- h is at most k steps after g, and has its other numbers
pub record Follows (k : ℕ) (g h : Zigzag) : Type 0 where
  pub center : h.center ≡ g.center
  pub remaining : h.remaining ≡ g.remaining
  pub weight : h.weight ≡ g.weight
  pub nearest : h.nearest ≡ g.nearest
  pub step : h.step ≤ g.step + k

follows_cond : {k : ℕ} {g : Zigzag} (b : Bool) (x y : Next) → Follows k g (generator x) → Follows k g (generator y) → Follows k g (generator (cond b x y))
follows_cond true x y p q = p
follows_cond false x y p q = q

no_step : (k : ℕ) (g : Zigzag) → Follows k g g
no_step k g = record { center = refl; remaining = refl; weight = refl; nearest = refl; step = omega arith }

then : {k : ℕ} {g h i : Zigzag} → Follows 1 g h → Follows k h i → Follows (suc k) g i
then p q = record {
  center = q.center ∙ p.center;
  remaining = q.remaining ∙ p.remaining;
  weight = q.weight ∙ p.weight;
  nearest = q.nearest ∙ p.nearest;
  step = omega (arith, p.step, q.step);
}

one_step_lem : (g : Zigzag) → Follows 1 g (generator (one_step g))
one_step_lem g = rw (step_is g) (follows_cond (direction_done g (upward g)) _ _ (stepped false false) (follows_cond (is_i64 (candidate g) && passes_test g (candidate g)) _ _ (stepped false false) (stepped (upward g) (not (upward g)))))
  where
    stepped : (up down : Bool) → Follows 1 g (after_step up down g)
    stepped up down = record { center = refl; remaining = refl; weight = refl; nearest = refl; step = omega arith }

steps_follow : (k : ℕ) (g : Zigzag) → Follows k g (generator (steps k g))
steps_follow zero g = rw (steps_zero g) (no_step 0 g)
steps_follow (suc k) g = rw (steps_suc k g) (follows_cond (both_done g) _ _ (no_step (suc k) g) (further (steps_follow k) (one_step g) (one_step_lem g)))
  where
    further : ((h : Zigzag) → Follows k h (generator (steps k h))) → (x : Next) → Follows 1 g (generator x) → Follows (suc k) g (generator (go_on (steps k) x))
    further all (child z h) p = then p (no_step k h)
    further all (none h) p = then p (all h)

pub next_follows : (g : Zigzag) (z : ℤ) (h : Zigzag) → next g ≡ child z h → Follows 2 g h
next_follows g z h e = subst (λ (x : Next). Follows 2 g (generator x)) e (by g.emitted_nearest refl)
  where
    by : (b : Bool) → g.emitted_nearest ≡ b → Follows 2 g (generator (next g))
    by true t = rw (sym (next_steps g t)) (steps_follow 2 g)
    by false t = rw (next_first g t) (record { center = refl; remaining = refl; weight = refl; nearest = refl; step = omega arith })

-- a child takes at most two steps
pub next_step : (g : Zigzag) (z : ℤ) (h : Zigzag) → next g ≡ child z h → h.step ≤ g.step + 2
next_step g z h e = (next_follows g z h e).step

-- ---- a child's generator has handed out the nearest integer
abbrev Emitted : Next → Type 0
Emitted (child z h) = h.emitted_nearest ≡ true
Emitted (none h) = Unit {0}

emitted_cond : (b : Bool) (x y : Next) → Emitted x → Emitted y → Emitted (cond b x y)
emitted_cond true x y p q = p
emitted_cond false x y p q = q

one_emits : (g : Zigzag) → Emitted (one_step g)
one_emits g = rw (step_is g) (emitted_cond (direction_done g (upward g)) _ _ tt (emitted_cond (is_i64 (candidate g) && passes_test g (candidate g)) _ _ refl tt))

steps_emit : (k : ℕ) (g : Zigzag) → Emitted (steps k g)
steps_emit zero g = rw (steps_zero g) tt
steps_emit (suc k) g = rw (steps_suc k g) (emitted_cond (both_done g) _ _ tt (further (steps_emit k) (one_step g) (one_emits g)))
  where
    further : ((h : Zigzag) → Emitted (steps k h)) → (x : Next) → Emitted x → Emitted (go_on (steps k) x)
    further all (child z h) p = p
    further all (none h) p = all h

pub next_emits : (g : Zigzag) (z : ℤ) (h : Zigzag) → next g ≡ child z h → h.emitted_nearest ≡ true
next_emits g z h e = subst Emitted e (by g.emitted_nearest refl)
  where
    by : (b : Bool) → g.emitted_nearest ≡ b → Emitted (next g)
    by true t = rw (sym (next_steps g t)) (steps_emit 2 g)
    by false t = rw (next_first g t) refl

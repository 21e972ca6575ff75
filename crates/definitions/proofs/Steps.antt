-- `next` makes at most two steps of a zigzag, and that is enough: where it gives no child, both directions are closed, so no further step could give one.
-- Assumes nothing.
use mathlib.Core.Path.{◌≡◌, refl, sym, subst}
use Prim.Native.Nat.{ℕ, zero, suc, ◌%◌}
use native.Mathlib.Omega.{arith}
use mathlib.Core.Bool.{Bool, true, false, not, ◌&&◌, ◌||◌, beq, cond}
use lib.Dec.{T, eqb, eqb→eq}
use lib.IntN.{ℤ}
use lib.Ieee.Fits.{and_i, eq→eqb}
use Rattle.rounding.specs.Integers.{is_i64}
use Rattle.definitions.specs.Zigzag.{Zigzag, Next, child, none, passes_test, upward, candidate, after_step, one_step, second_step, both_done, after_nearest, next}

-- ---- the direction turns with each step
pub odd_or_even : (s : ℕ) (b : Bool) → eqb (s % 2) 1 ≡ b → s % 2 ≡ cond b 1 0
odd_or_even s true e = eqb→eq (s % 2) 1 (subst T (sym e) tt)
odd_or_even s false e = pick (s % 2) refl
  where
    pick : (r : ℕ) → s % 2 ≡ r → s % 2 ≡ 0
    pick zero q = q
    pick (suc zero) q = absurd (subst T e (eq→eqb q))
    pick (suc (suc r)) q = omega arith

pub parity_turns : (b : Bool) (s : ℕ) → beq (eqb (suc s % 2) 1) b ≡ not (beq (eqb (s % 2) 1) b)
parity_turns b s = go b (eqb (s % 2) 1) (eqb (suc s % 2) 1) refl refl
  where
    go : (b o o' : Bool) → eqb (s % 2) 1 ≡ o → eqb (suc s % 2) 1 ≡ o' → beq o' b ≡ not (beq o b)
    go true true false e e' = refl
    go true false true e e' = refl
    go false true false e e' = refl
    go false false true e e' = refl
    go b true true e e' = let k = odd_or_even s true e in let k' = odd_or_even (suc s) true e' in absurd (omega arith)
    go b false false e e' = let k = odd_or_even s false e in let k' = odd_or_even (suc s) false e' in absurd (omega arith)

upward_turns : (closed_up closed_down : Bool) (g : Zigzag) → upward (after_step closed_up closed_down g) ≡ not (upward g)
unfolding upward
upward_turns closed_up closed_down g = parity_turns _ g.step

-- ---- what a step without a child leaves: its direction closed, and closed directions closed
abbrev Left : Zigzag → Bool → Next → Type 0
Left g up (child z h) = Unit {0}
Left g up (none h) =
    T (cond up h.positive_done h.negative_done)
    × (T g.positive_done → T h.positive_done)
    × (T g.negative_done → T h.negative_done)
    × (upward h ≡ not (upward g))

abbrev step_by : Bool → Bool → Zigzag → Next
step_by up passed g =
    cond (cond up g.positive_done g.negative_done) (none (after_step false false g))
    (cond passed (child (candidate g) (after_step false false g)) (none (after_step up (not up) g)))

step_is : (g : Zigzag) → one_step g ≡ step_by (upward g) (is_i64 (candidate g) && passes_test g (candidate g)) g
unfolding one_step
step_is g = refl

step_by_leaves : (up passed : Bool) (g : Zigzag) → Left g up (step_by up passed g)
step_by_leaves up passed g = go up (cond up g.positive_done g.negative_done) refl passed
  where
    go : (up closed : Bool) → cond up g.positive_done g.negative_done ≡ closed → (passed : Bool) → Left g up (cond closed (none (after_step false false g)) (cond passed (child (candidate g) (after_step false false g)) (none (after_step up (not up) g))))
    go up true e passed = (subst T (sym (same up)) (subst T (sym e) tt), λ t. t, λ t. t, upward_turns false false g)
      where
        same : (up : Bool) → cond up (false || g.positive_done) (false || g.negative_done) ≡ cond up g.positive_done g.negative_done
        same true = refl
        same false = refl
    go up false e true = tt
    go true false e false = (tt, λ t. tt, λ t. t, upward_turns true false g)
    go false false e false = (tt, λ t. t, λ t. tt, upward_turns false true g)

step_leaves : (g : Zigzag) → Left g (upward g) (one_step g)
step_leaves g = subst (Left g (upward g)) (sym (step_is g)) (step_by_leaves (upward g) (is_i64 (candidate g) && passes_test g (candidate g)) g)

-- ---- `next`
abbrev pub Final : Next → Type 0
Final (child z g) = Unit {0}
Final (none g) = T (both_done g)

pub second_step_child : (z : ℤ) (g : Zigzag) → second_step (child z g) ≡ child z g
unfolding second_step
second_step_child z g = refl

pub second_step_none : (g : Zigzag) → second_step (none g) ≡ cond (both_done g) (none g) (one_step g)
unfolding second_step
second_step_none g = refl

both : (up : Bool) (h : Zigzag) → T (cond up h.positive_done h.negative_done) → T (cond (not up) h.positive_done h.negative_done) → T (both_done h)
both true h a b = and_i h.positive_done h.negative_done a b
both false h a b = and_i h.positive_done h.negative_done b a

second_final : (g : Zigzag) (x : Next) → Left g (upward g) x → Final (second_step x)
second_final g (child z h) l = subst Final (sym (second_step_child z h)) tt
second_final g (none h) l = subst Final (sym (second_step_none h)) (go (both_done h) refl)
  where
    last : (x : Next) → Left h (upward h) x → Final x
    last (child z i) k = tt
    last (none i) k =
        both (upward g) i (kept (upward g) l.0)
        (subst (λ (b : Bool). T (cond b i.positive_done i.negative_done)) l.3 k.0)
      where
        kept : (up : Bool) → T (cond up h.positive_done h.negative_done) → T (cond up i.positive_done i.negative_done)
        kept true t = k.1 t
        kept false t = k.2 t

    go : (b : Bool) → both_done h ≡ b → Final (cond b (none h) (one_step h))
    go true e = subst T (sym e) tt
    go false e = last (one_step h) (step_leaves h)

pub next_is : (g : Zigzag) → next g ≡ cond g.emitted_nearest (cond (both_done g) (none g) (second_step (one_step g))) (child g.nearest (after_nearest g))
unfolding next
next_is g = refl

-- where `next` gives no child, both directions are closed
pub none_is_final : (g : Zigzag) → Final (next g)
none_is_final g = subst Final (sym (next_is g)) (go g.emitted_nearest (both_done g) refl)
  where
    go : (started done : Bool) → both_done g ≡ done → Final (cond started (cond done (none g) (second_step (one_step g))) (child g.nearest (after_nearest g)))
    go false done e = tt
    go true true e = subst T (sym e) tt
    go true false e = second_final g (one_step g) (step_leaves g)

-- The children of a level are exactly the i64 that pass the first test, in the order of the zigzag and so each once, for every finite centre, every weight and every remaining radius that is a number. Assumes nothing.
use mathlib.Core.Path.{◌≡◌, refl, sym, ap, ◌∙◌, subst}
use mathlib.Core.Logic.{◌⊎◌, inl, inr}
use Prim.Native.Nat.{ℕ, zero, suc, ◌+◌, ◌-◌, ◌≤◌, ◌<◌, zero-le, suc-le-suc}
use native.Mathlib.Nat.{le_refl, le_trans, le-suc, not-suc-le-zero, zero-add}
use native.Mathlib.Omega.{arith}
use mathlib.Core.Bool.{Bool, true, false, not, ◌&&◌, ◌||◌, cond}
use mathlib.Core.List.{List, [], ◌∷◌}
use lib.Dec.{T}
use lib.IntN.{ℤ}
use lib.Ieee.{Float, binary64, le}
use lib.Ieee.Fits.{and_i, and_l, and_r}
use Rattle.rounding.specs.Integers.{is_i64, round_away}
use Rattle.rounding.specs.Kinds.{Number, Finite}
use Rattle.rounding.proofs.Interface.{Weight, float_le_trans, is_i64_between, split, round_away_is_i64, term as term_in, term_nonneg, term_up, term_down, term_least}
use Rattle.definitions.specs.Distance.{term}
use Rattle.definitions.specs.Zigzag.{Zigzag, Next, child, none, both_done, next}
use Rattle.definitions.proofs.Distances.{term_is}
use Rattle.definitions.proofs.Steps.{Final, none_is_final}
use Rattle.theorems.specs.Counting.{tally}
use Rattle.theorems.specs.Children.{children_from, children, step_limit, upward_at, zigzag_at, is_child, passing_from, times}
use Rattle.theorems.proofs.Booleans.{of_true, refuted, tally_false}
use Rattle.theorems.proofs.Passing.{passing_yes, passing_over, passing_none, times_passing, times_fails}
use Rattle.theorems.proofs.Zigzags.{at_zero, at_once, at_all, upward_order, downward_order}
use Rattle.theorems.proofs.Generators.{is_child_is, child_limit, generator, from_none, from_child, children_first, Nexted, next_ok}

-- ---- a test that a later step of a direction passes only if an earlier one does
module _ (c r w : Float) (falls : (j k : ℕ) → j ≤ k → upward_at c j ≡ upward_at c k → T (is_child c r w (zigzag_at c k)) → T (is_child c r w (zigzag_at c j))) where
  abbrev Fails : ℕ → Type 0
  Fails s = T (is_child c r w (zigzag_at c s)) → ⊥

  -- a closed direction has no more children
  record Closed (s : ℕ) (u d : Bool) : Type 0 where
    ups : T u → (k : ℕ) → s ≤ k → upward_at c k ≡ true → Fails k
    downs : T d → (k : ℕ) → s ≤ k → upward_at c k ≡ false → Fails k

  given : (s : ℕ) (u d : Bool) → Closed s u d → Closed (suc s) u d
  given s u d h = record { ups = λ x k a. h.ups x k (le_trans (le-suc s) a); downs = λ x k a. h.downs x k (le_trans (le-suc s) a) }

  skipped : (s : ℕ) (u d : Bool) → Closed s u d → T (cond (upward_at c s) u d) → Fails s
  skipped s u d h x = go (upward_at c s) refl x
    where
      go : (b : Bool) → upward_at c s ≡ b → T (cond b u d) → Fails s
      go true e x = h.ups x s (le_refl s) e
      go false e x = h.downs x s (le_refl s) e

  closes : (s : ℕ) (u d : Bool) → Closed s u d → Fails s → Fails s × Closed (suc s) (upward_at c s || u) (not (upward_at c s) || d)
  closes s u d h f = (f, go (upward_at c s) refl)
    where
      go : (b : Bool) → upward_at c s ≡ b → Closed (suc s) (b || u) (not b || d)
      go true e = record { ups = λ x k a q v. f (falls s k (le_trans (le-suc s) a) (e ∙ sym q) v); downs = (given s u d h).downs }
      go false e = record { ups = (given s u d h).ups; downs = λ x k a q v. f (falls s k (le_trans (le-suc s) a) (e ∙ sym q) v) }

  abbrev Stands : ℕ → Next → Type 0
  Stands = Nexted c r w Closed Fails given skipped closes

  over : (s k : ℕ) (u d : Bool) → Closed k u d → T (u && d) → ((j : ℕ) → s ≤ j → j < k → Fails j) → (j : ℕ) → s ≤ j → Fails j
  over s k u d h x b j a v = pick (split k j) (upward_at c j) refl
    where
      pick : (k ≤ j) ⊎ (j < k) → (y : Bool) → upward_at c j ≡ y → ⊥
      pick (inr l) y e = b j a l v
      pick (inl l) true e = h.ups (and_l u d x) j l e v
      pick (inl l) false e = h.downs (and_r u d x) j l e v

  from_step : (fuel s : ℕ) (x : Next) → Stands s x → Final x → suc step_limit - s < fuel → children_from fuel x ≡ passing_from (is_child c r w) (zigzag_at c) (suc step_limit - s) s
  from_step zero s x h f l = absurd (not-suc-le-zero l)
  from_step (suc fuel) s (none g) h f l =
      from_none (suc fuel) g
      ∙ sym (passing_none (is_child c r w) (zigzag_at c) (suc step_limit - s) s (over s h.0 h.1 h.2 h.5 (subst (λ (y : Zigzag). T (both_done y)) h.4 f) h.3.1))
  from_step (suc fuel) s (child z g) h f l =
      let k = h.0 in
      let top : k ≤ step_limit = child_limit c r w k h.5 in
      let rest : children_from fuel (next g) ≡ passing_from (is_child c r w) (zigzag_at c) (suc step_limit - suc k) (suc k) =
      from_step fuel (suc k) (next g) (subst (λ (y : Zigzag). Stands (suc k) (next y)) (sym h.6) (next_ok c r w Closed Fails given skipped closes (suc k) h.1 h.2 h.7))
      (none_is_final g) (less step_limit s k fuel h.3.0 top l)
      in
      from_child fuel z g
      ∙ ap (λ (y : ℤ). y ∷ children_from fuel (next g)) h.4
      ∙ ap (λ (ys : List ℤ). zigzag_at c k ∷ ys) rest
      ∙ sym
      (ap (λ (j : ℕ). passing_from (is_child c r w) (zigzag_at c) j s) (parts step_limit s k h.3.0 top)
      ∙ passing_over (is_child c r w) (zigzag_at c) (k - s) (suc (suc step_limit - suc k)) s (λ j a b. h.3.1 j a (subst (λ (i : ℕ). j < i) (back s k h.3.0) b))
      ∙ ap (passing_from (is_child c r w) (zigzag_at c) (suc (suc step_limit - suc k))) (back s k h.3.0)
      ∙ passing_yes (is_child c r w) (zigzag_at c) (suc step_limit - suc k) k h.5)
    where
      less : (L s k f : ℕ) → s ≤ k → k ≤ L → suc L - s < suc f → suc L - suc k < f
      less L s k f a b h = omega arith

      parts : (L s k : ℕ) → s ≤ k → k ≤ L → suc L - s ≡ k - s + suc (suc L - suc k)
      parts L s k a b = omega arith

      back : (s k : ℕ) → s ≤ k → s + (k - s) ≡ k
      back s k a = omega arith

  open_directions : Closed 1 false false
  open_directions = record { ups = λ x. absurd x; downs = λ x. absurd x }

  -- if the nearest integer fails, all do
  in_order : ((z : ℤ) → T (is_child c r w z) → T (is_child c r w (round_away c))) → children c r w ≡ passing_from (is_child c r w) (zigzag_at c) (suc step_limit) 0
  in_order least = children_first c r w ∙ go (le (term w c (round_away c)) r) refl
    where
      go : (b : Bool) → le (term w c (round_away c)) r ≡ b → cond b (round_away c ∷ children_from (suc step_limit) (next (generator c r w 1 false false))) [] ≡ passing_from (is_child c r w) (zigzag_at c) (suc step_limit) 0
      go true e =
          ap (λ (ys : List ℤ). round_away c ∷ ys)
          (from_step (suc step_limit) 1 (next (generator c r w 1 false false)) (next_ok c r w Closed Fails given skipped closes 1 false false open_directions) (none_is_final (generator c r w 1 false false)) (omega arith)
          ∙ ap (λ (j : ℕ). passing_from (is_child c r w) (zigzag_at c) j 1) (one step_limit))
          ∙ sym
          (passing_yes (is_child c r w) (zigzag_at c) step_limit 0 (subst (λ (z : ℤ). T (is_child c r w z)) (sym (at_zero c)) (subst T (sym (is_child_is c r w (round_away c))) (and_i (is_i64 (round_away c)) (le (term w c (round_away c)) r) (round_away_is_i64 c) (of_true e))))
          ∙ ap (λ (z : ℤ). z ∷ passing_from (is_child c r w) (zigzag_at c) step_limit 1) (at_zero c))
        where
          one : (L : ℕ) → suc L - 1 ≡ L
          one L = omega arith
      go false e = sym (passing_none (is_child c r w) (zigzag_at c) (suc step_limit) 0 (λ j a v. refuted e (and_r (is_i64 (round_away c)) (le (term w c (round_away c)) r) (subst T (is_child_is c r w (round_away c)) (least (zigzag_at c j) v)))))

-- ---- the law, for a finite centre, a weight, and a remaining radius that is a number
module _ (c r w : Float) (centre : Finite binary64 c) (positive : Weight binary64 w) (number : Number binary64 r) where
  -- what has a smaller term passes too
  smaller : (z z' : ℤ) → T (is_i64 z) → T (le (term w c z) (term w c z')) → T (is_child c r w z') → T (is_child c r w z)
  smaller z z' i l h =
      let i' = and_l (is_i64 z') (le (term w c z') r) (subst T (is_child_is c r w z') h) in
      let p' = and_r (is_i64 z') (le (term w c z') r) (subst T (is_child_is c r w z') h) in
      subst T (sym (is_child_is c r w z))
      (and_i (is_i64 z) (le (term w c z) r) i
      (float_le_trans binary64 {x = term w c z} {y = term w c z'} {z = r} (term_number z i) (term_number z' i') number l p'))
    where
      term_number : (z : ℤ) → T (is_i64 z) → Number binary64 (term w c z)
      term_number z i = subst (Number binary64) (sym (term_is w c z)) (term_nonneg binary64 w c positive centre z i).num

  same_terms : (z z' : ℤ) → T (le (term_in binary64 w c z) (term_in binary64 w c z')) → T (le (term w c z) (term w c z'))
  same_terms z z' h = subst (λ (x : Float). T (le x (term w c z'))) (sym (term_is w c z)) (subst (λ (x : Float). T (le (term_in binary64 w c z) x)) (sym (term_is w c z')) h)

  falls : (j k : ℕ) → j ≤ k → upward_at c j ≡ upward_at c k → T (is_child c r w (zigzag_at c k)) → T (is_child c r w (zigzag_at c j))
  falls j k h e v = go (upward_at c j) refl
    where
      i' : T (is_i64 (zigzag_at c k))
      i' = and_l (is_i64 (zigzag_at c k)) (le (term w c (zigzag_at c k)) r) (subst T (is_child_is c r w (zigzag_at c k)) v)

      go : (b : Bool) → upward_at c j ≡ b → T (is_child c r w (zigzag_at c j))
      go true q =
          let o = upward_order c j k h q (sym e ∙ q) in
          let i = is_i64_between (round_away c) (zigzag_at c j) (zigzag_at c k) (round_away_is_i64 c) i' o.0 o.1 in
          smaller (zigzag_at c j) (zigzag_at c k) i (same_terms (zigzag_at c j) (zigzag_at c k) (term_up binary64 w c positive centre (zigzag_at c j) (zigzag_at c k) i i' o.0 o.1)) v
      go false q =
          let o = downward_order c j k h q (sym e ∙ q) in
          let i = is_i64_between (zigzag_at c k) (zigzag_at c j) (round_away c) i' (round_away_is_i64 c) o.1 o.0 in
          smaller (zigzag_at c j) (zigzag_at c k) i (same_terms (zigzag_at c j) (zigzag_at c k) (term_down binary64 w c positive centre (zigzag_at c j) (zigzag_at c k) i i' o.0 o.1)) v

  -- the children are the integers that pass, in the order of the zigzag
  pub children_in_order : children c r w ≡ passing_from (is_child c r w) (zigzag_at c) (suc step_limit) 0
  children_in_order =
      in_order c r w falls
      (λ z v. smaller (round_away c) z (round_away_is_i64 c) (same_terms (round_away c) z (term_least binary64 w c positive centre z (and_l (is_i64 z) (le (term w c z) r) (subst T (is_child_is c r w z) v)))) v)

  -- each i64 that passes is a child once, and nothing else is one
  pub children_once : (z : ℤ) → times z (children c r w) ≡ tally (is_child c r w z)
  children_once z = ap (times z) children_in_order ∙ go (at_all c z) (is_child c r w z) refl
    where
      go : (s : ℕ) × (zigzag_at c s ≡ z) → (b : Bool) → is_child c r w z ≡ b → times z (passing_from (is_child c r w) (zigzag_at c) (suc step_limit) 0) ≡ tally (is_child c r w z)
      go (s, q) true e =
          subst (λ (y : ℤ). times y (passing_from (is_child c r w) (zigzag_at c) (suc step_limit) 0) ≡ tally (is_child c r w y)) q
          (times_passing (is_child c r w) (zigzag_at c) (at_once c) (suc step_limit) 0 s zero-le
          (subst (λ (j : ℕ). s < j) (sym (zero-add (suc step_limit))) (suc-le-suc (child_limit c r w s (subst (λ (y : ℤ). T (is_child c r w y)) (sym q) (of_true e))))))
      go (s, q) false e = times_fails (is_child c r w) (zigzag_at c) z (refuted e) (suc step_limit) 0 ∙ sym (tally_false (is_child c r w z) (refuted e))

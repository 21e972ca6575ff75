-- The order of a zigzag: its steps try each integer once, those of a direction lead away from the nearest integer, and no step after `step_limit` tries an i64. Assumes nothing.
use mathlib.Core.Path.{◌≡◌, refl, sym, ap, ◌∙◌, subst}
use Prim.Native.Nat.{ℕ, zero, suc, ◌+◌, ◌-◌, ◌/◌, ◌%◌, ◌^◌, ◌≤◌, ◌<◌}
use native.Mathlib.Nat.{le_refl, le_dest, add-zero, add-suc}
use native.Mathlib.Omega.{arith}
use mathlib.Core.Bool.{Bool, true, false, beq, cond, true≢false, false≢true}
use lib.Dec.{T, eqb, ltb, ltb→lt, nltb→le}
use lib.IntN.{ℤ, pos, negsuc, suc_ℤ, pred_ℤ, neg_ℤ, ◌+ℤ◌, ◌-ℤ◌, +ℤ-suc_ℤ, +ℤ-pred_ℤ, +ℤ_idr, +ℤ_assoc, +ℤ_comm, +ℤ_invl, +ℤ_idl, -ℤ-+ℤ_cancel}
use lib.Signed.{le_z, mag}
use lib.Ieee.{Float, le}
use Rattle.rounding.specs.Integers.{to_double, round_away, is_i64}
use Rattle.rounding.proofs.Interface.{le_z_refl, le_z_trans, le_z_suc, le_z_pred, round_away_is_i64}
use Rattle.definitions.proofs.Steps.{odd_or_even}
use Rattle.theorems.specs.Children.{upward_at, zigzag_at, step_limit}
use Rattle.theorems.proofs.Booleans.{of_true, of_false}

-- ---- integers above and below m
pub plus_mono : (m : ℤ) (a b : ℕ) → a ≤ b → T (le_z (m +ℤ pos a) (m +ℤ pos b))
plus_mono m a b h = let d = le_dest h in subst (λ (k : ℕ). T (le_z (m +ℤ pos a) (m +ℤ pos k))) d.1 (go d.0)
  where
    go : (k : ℕ) → T (le_z (m +ℤ pos a) (m +ℤ pos (a + k)))
    go zero = subst (λ (n : ℕ). T (le_z (m +ℤ pos a) (m +ℤ pos n))) (sym (add-zero a)) (le_z_refl (m +ℤ pos a))
    go (suc k) =
        subst (λ (n : ℕ). T (le_z (m +ℤ pos a) (m +ℤ pos n))) (sym (add-suc a k))
        (subst (λ (z : ℤ). T (le_z (m +ℤ pos a) z)) (sym (+ℤ-suc_ℤ m (pos (a + k))))
        (le_z_trans (m +ℤ pos a) (m +ℤ pos (a + k)) (suc_ℤ (m +ℤ pos (a + k))) (go k) (le_z_suc (m +ℤ pos (a + k)))))

minus_suc : (m : ℤ) (k : ℕ) → m -ℤ pos (suc k) ≡ pred_ℤ (m -ℤ pos k)
minus_suc m k = ap (λ (z : ℤ). m +ℤ z) (neg_suc k) ∙ +ℤ-pred_ℤ m (neg_ℤ (pos k))
  where
    neg_suc : (k : ℕ) → neg_ℤ (pos (suc k)) ≡ pred_ℤ (neg_ℤ (pos k))
    neg_suc zero = refl
    neg_suc (suc k) = refl

pub minus_mono : (m : ℤ) (a b : ℕ) → a ≤ b → T (le_z (m -ℤ pos b) (m -ℤ pos a))
minus_mono m a b h = let d = le_dest h in subst (λ (k : ℕ). T (le_z (m -ℤ pos k) (m -ℤ pos a))) d.1 (go d.0)
  where
    go : (k : ℕ) → T (le_z (m -ℤ pos (a + k)) (m -ℤ pos a))
    go zero = subst (λ (n : ℕ). T (le_z (m -ℤ pos n) (m -ℤ pos a))) (sym (add-zero a)) (le_z_refl (m -ℤ pos a))
    go (suc k) =
        subst (λ (n : ℕ). T (le_z (m -ℤ pos n) (m -ℤ pos a))) (sym (add-suc a k))
        (subst (λ (z : ℤ). T (le_z z (m -ℤ pos a))) (sym (minus_suc m (a + k)))
        (le_z_trans (pred_ℤ (m -ℤ pos (a + k))) (m -ℤ pos (a + k)) (m -ℤ pos a) (le_z_pred (m -ℤ pos (a + k))) (go k)))

cancel : (m x y : ℤ) → m +ℤ x ≡ m +ℤ y → x ≡ y
cancel m x y e = sym (back x) ∙ ap (λ (z : ℤ). neg_ℤ m +ℤ z) e ∙ back y
  where
    back : (x : ℤ) → neg_ℤ m +ℤ (m +ℤ x) ≡ x
    back x = sym (+ℤ_assoc (neg_ℤ m) m x) ∙ ap (λ (z : ℤ). z +ℤ x) (+ℤ_invl m) ∙ +ℤ_idl x

pos_inj : (a b : ℕ) → pos a ≡ pos b → a ≡ b
pos_inj a b e = cc

neg_inj : (a b : ℕ) → neg_ℤ (pos a) ≡ neg_ℤ (pos b) → a ≡ b
neg_inj zero zero e = refl
neg_inj zero (suc b) e = let z : ◌≡◌ {A = ℕ} 0 1 = cc in absurd (omega arith)
neg_inj (suc a) zero e = let z : ◌≡◌ {A = ℕ} 0 1 = cc in absurd (omega arith)
neg_inj (suc a) (suc b) e = cc

apart : (a b : ℕ) → pos a ≡ neg_ℤ (pos b) → (a ≡ 0) × (b ≡ 0)
apart a zero e = (cc, refl)
apart a (suc b) e = let z : ◌≡◌ {A = ℕ} 0 1 = cc in absurd (omega arith)

-- how far from m an integer of the same bound can be
plus_bound : (H : ℕ) (m : ℤ) (a : ℕ) → mag m < H → mag (m +ℤ pos a) < H → a ≤ H + H
plus_bound H (pos x) a h k = omega arith
plus_bound H (negsuc x) a h k = go (ltb a (suc x)) refl k
  where
    go : (b : Bool) → ltb a (suc x) ≡ b → mag (cond b (negsuc (suc x - suc a)) (pos (a - suc x))) < H → a ≤ H + H
    go true e k = let l = ltb→lt a (suc x) (of_true e) in omega arith
    go false e k = omega arith

minus_bound : (H : ℕ) (m : ℤ) (a : ℕ) → mag m < H → mag (m -ℤ pos a) < H → a ≤ H + H
minus_bound H m zero h k = omega arith
minus_bound H (negsuc x) (suc a) h k = omega arith
minus_bound H (pos x) (suc a) h k = go (ltb x (suc a)) refl k
  where
    go : (b : Bool) → ltb x (suc a) ≡ b → mag (cond b (negsuc (suc a - suc x)) (pos (x - suc a))) < H → suc a ≤ H + H
    go true e k = omega arith
    go false e k = let l = nltb→le x (suc a) (of_false e) in omega arith

-- ---- parity
same_parity : (j k : ℕ) (b : Bool) → beq (eqb (j % 2) 1) b ≡ beq (eqb (k % 2) 1) b → j % 2 ≡ k % 2
same_parity j k b e = go (eqb (j % 2) 1) (eqb (k % 2) 1) refl refl b e
  where
    go : (x y : Bool) → eqb (j % 2) 1 ≡ x → eqb (k % 2) 1 ≡ y → (b : Bool) → beq x b ≡ beq y b → j % 2 ≡ k % 2
    go true true p q b e = odd_or_even j true p ∙ sym (odd_or_even k true q)
    go false false p q b e = odd_or_even j false p ∙ sym (odd_or_even k false q)
    go true false p q true e = absurd (true≢false e)
    go true false p q false e = absurd (false≢true e)
    go false true p q true e = absurd (false≢true e)
    go false true p q false e = absurd (true≢false e)

same_step : (j k : ℕ) → j % 2 ≡ k % 2 → (j + 1) / 2 ≡ (k + 1) / 2 → j ≡ k
same_step j k p q = omega arith

odd_is : (s : ℕ) → s % 2 ≡ 1 → eqb (s % 2) 1 ≡ true
odd_is s e = ap (λ (r : ℕ). eqb r 1) e

even_is : (s : ℕ) → s % 2 ≡ 0 → eqb (s % 2) 1 ≡ false
even_is s e = ap (λ (r : ℕ). eqb r 1) e

module _ (c : Float) where
  abbrev m : ℤ
  m = round_away c

  -- the magnitude of step s
  abbrev far : ℕ → ℕ
  far s = (s + 1) / 2

  upward_is : (s : ℕ) → upward_at c s ≡ beq (eqb (s % 2) 1) (le (to_double (round_away c)) c)
  unfolding upward_at
  upward_is s = refl

  at_is : (s : ℕ) → zigzag_at c s ≡ cond (upward_at c s) (round_away c +ℤ pos ((s + 1) / 2)) (round_away c -ℤ pos ((s + 1) / 2))
  unfolding zigzag_at
  at_is s = refl

  at_upward : (s : ℕ) → upward_at c s ≡ true → zigzag_at c s ≡ round_away c +ℤ pos ((s + 1) / 2)
  at_upward s e = at_is s ∙ ap (λ (b : Bool). cond b (round_away c +ℤ pos ((s + 1) / 2)) (round_away c -ℤ pos ((s + 1) / 2))) e

  at_downward : (s : ℕ) → upward_at c s ≡ false → zigzag_at c s ≡ round_away c -ℤ pos ((s + 1) / 2)
  at_downward s e = at_is s ∙ ap (λ (b : Bool). cond b (round_away c +ℤ pos ((s + 1) / 2)) (round_away c -ℤ pos ((s + 1) / 2))) e

  -- step 0 is the nearest integer
  pub at_zero : zigzag_at c 0 ≡ round_away c
  at_zero = at_is 0 ∙ go (upward_at c 0)
    where
      go : (b : Bool) → cond b (round_away c +ℤ pos 0) (round_away c -ℤ pos 0) ≡ round_away c
      go true = +ℤ_idr (round_away c)
      go false = +ℤ_idr (round_away c)

  -- no two steps try the same integer
  pub at_once : (j k : ℕ) → zigzag_at c j ≡ zigzag_at c k → j ≡ k
  at_once j k e = go (upward_at c j) (upward_at c k) refl refl
    where
      nought : (s : ℕ) → (s + 1) / 2 ≡ 0 → s ≡ 0
      nought s q = omega arith

      alike : upward_at c j ≡ upward_at c k → (j + 1) / 2 ≡ (k + 1) / 2 → j ≡ k
      alike p q = same_step j k (same_parity j k (le (to_double (round_away c)) c) (sym (upward_is j) ∙ p ∙ upward_is k)) q

      go : (x y : Bool) → upward_at c j ≡ x → upward_at c k ≡ y → j ≡ k
      go true true p q = alike (p ∙ sym q) (pos_inj ((j + 1) / 2) ((k + 1) / 2) (cancel (round_away c) (pos ((j + 1) / 2)) (pos ((k + 1) / 2)) (sym (at_upward j p) ∙ e ∙ at_upward k q)))
      go false false p q = alike (p ∙ sym q) (neg_inj ((j + 1) / 2) ((k + 1) / 2) (cancel (round_away c) (neg_ℤ (pos ((j + 1) / 2))) (neg_ℤ (pos ((k + 1) / 2))) (sym (at_downward j p) ∙ e ∙ at_downward k q)))
      go true false p q =
          let r = apart ((j + 1) / 2) ((k + 1) / 2) (cancel (round_away c) (pos ((j + 1) / 2)) (neg_ℤ (pos ((k + 1) / 2))) (sym (at_upward j p) ∙ e ∙ at_downward k q)) in
          nought j r.0 ∙ sym (nought k r.1)
      go false true p q =
          let r = apart ((k + 1) / 2) ((j + 1) / 2) (cancel (round_away c) (pos ((k + 1) / 2)) (neg_ℤ (pos ((j + 1) / 2))) (sym (at_upward k q) ∙ sym e ∙ at_downward j p)) in
          nought j r.1 ∙ sym (nought k r.0)

  -- each integer has its step
  pub at_all : (z : ℤ) → (s : ℕ) × (zigzag_at c s ≡ z)
  at_all z = go (z -ℤ round_away c) (le (to_double (round_away c)) c) refl (+ℤ_comm (round_away c) (z -ℤ round_away c) ∙ -ℤ-+ℤ_cancel z (round_away c))
    where
      turn : (s : ℕ) (o b : Bool) → eqb (s % 2) 1 ≡ o → le (to_double (round_away c)) c ≡ b → upward_at c s ≡ beq o b
      turn s o b p q = upward_is s ∙ ap (λ (x : Bool). beq x (le (to_double (round_away c)) c)) p ∙ ap (beq o) q

      up : (s a : ℕ) → upward_at c s ≡ true → (s + 1) / 2 ≡ a → round_away c +ℤ pos a ≡ z → (s : ℕ) × (zigzag_at c s ≡ z)
      up s a p q e = (s, at_upward s p ∙ ap (λ (k : ℕ). round_away c +ℤ pos k) q ∙ e)

      down : (s a : ℕ) → upward_at c s ≡ false → (s + 1) / 2 ≡ a → round_away c -ℤ pos a ≡ z → (s : ℕ) × (zigzag_at c s ≡ z)
      down s a p q e = (s, at_downward s p ∙ ap (λ (k : ℕ). round_away c -ℤ pos k) q ∙ e)

      odd : (a : ℕ) → eqb ((a + a + 1) % 2) 1 ≡ true
      odd a = odd_is (a + a + 1) (omega arith)

      even : (a : ℕ) → eqb ((a + a + 2) % 2) 1 ≡ false
      even a = even_is (a + a + 2) (omega arith)

      go : (d : ℤ) (b : Bool) → le (to_double (round_away c)) c ≡ b → round_away c +ℤ d ≡ z → (s : ℕ) × (zigzag_at c s ≡ z)
      go (pos zero) b p e = (0, at_zero ∙ sym (+ℤ_idr (round_away c)) ∙ e)
      go (pos (suc a)) true p e = up (a + a + 1) (suc a) (turn (a + a + 1) true true (odd a) p) (omega arith) e
      go (pos (suc a)) false p e = up (a + a + 2) (suc a) (turn (a + a + 2) false false (even a) p) (omega arith) e
      go (negsuc a) true p e = down (a + a + 2) (suc a) (turn (a + a + 2) false true (even a) p) (omega arith) e
      go (negsuc a) false p e = down (a + a + 1) (suc a) (turn (a + a + 1) true false (odd a) p) (omega arith) e

  -- an i64 has its step up to the limit
  pub at_limit : (s : ℕ) → T (is_i64 (zigzag_at c s)) → s ≤ step_limit
  unfolding step_limit
  at_limit s i = bound (2 ^ 63) (go (upward_at c s) refl) (le_refl (2 ^ 65))
    where
      bound : (H : ℕ) → (s + 1) / 2 ≤ H + H → H + H + H + H ≤ 2 ^ 65 → s ≤ 2 ^ 65
      bound H h k = omega arith

      go : (b : Bool) → upward_at c s ≡ b → (s + 1) / 2 ≤ 2 ^ 63 + 2 ^ 63
      go true e = plus_bound (2 ^ 63) (round_away c) ((s + 1) / 2) (ltb→lt (mag (round_away c)) (2 ^ 63) (round_away_is_i64 c)) (ltb→lt (mag (round_away c +ℤ pos ((s + 1) / 2))) (2 ^ 63) (subst (λ (z : ℤ). T (is_i64 z)) (at_upward s e) i))
      go false e = minus_bound (2 ^ 63) (round_away c) ((s + 1) / 2) (ltb→lt (mag (round_away c)) (2 ^ 63) (round_away_is_i64 c)) (ltb→lt (mag (round_away c -ℤ pos ((s + 1) / 2))) (2 ^ 63) (subst (λ (z : ℤ). T (is_i64 z)) (at_downward s e) i))

  -- ---- the integers of a direction
  half_mono : (j k : ℕ) → j ≤ k → (j + 1) / 2 ≤ (k + 1) / 2
  half_mono j k h = omega arith

  -- an upward step lies between m and each later upward step
  pub upward_order : (j k : ℕ) → j ≤ k → upward_at c j ≡ true → upward_at c k ≡ true → T (le_z (round_away c) (zigzag_at c j)) × T (le_z (zigzag_at c j) (zigzag_at c k))
  upward_order j k h p q = (
    subst (λ (z : ℤ). T (le_z (round_away c) z)) (sym (at_upward j p)) (subst (λ (z : ℤ). T (le_z z (round_away c +ℤ pos ((j + 1) / 2)))) (+ℤ_idr (round_away c)) (plus_mono (round_away c) 0 ((j + 1) / 2) (omega arith))),
    subst (λ (z : ℤ). T (le_z z (zigzag_at c k))) (sym (at_upward j p)) (subst (λ (z : ℤ). T (le_z (round_away c +ℤ pos ((j + 1) / 2)) z)) (sym (at_upward k q)) (plus_mono (round_away c) ((j + 1) / 2) ((k + 1) / 2) (half_mono j k h))),
  )

  pub downward_order : (j k : ℕ) → j ≤ k → upward_at c j ≡ false → upward_at c k ≡ false → T (le_z (zigzag_at c j) (round_away c)) × T (le_z (zigzag_at c k) (zigzag_at c j))
  downward_order j k h p q = (
    subst (λ (z : ℤ). T (le_z z (round_away c))) (sym (at_downward j p)) (subst (λ (z : ℤ). T (le_z (round_away c -ℤ pos ((j + 1) / 2)) z)) (+ℤ_idr (round_away c)) (minus_mono (round_away c) 0 ((j + 1) / 2) (omega arith))),
    subst (λ (z : ℤ). T (le_z (zigzag_at c k) z)) (sym (at_downward j p)) (subst (λ (z : ℤ). T (le_z z (round_away c -ℤ pos ((j + 1) / 2)))) (sym (at_downward k q)) (minus_mono (round_away c) ((j + 1) / 2) ((k + 1) / 2) (half_mono j k h))),
  )

-- The order of the integers by its tests `le_z` and `lt_z`: transitivity, neighbours, and which integers are signed 64-bit ones. Assumes nothing.
use Rattle.std.proofs.Common.{◌≡◌, ℕ, zero, suc, ◌-◌, ◌^◌, ◌<◌, ◌≤◌, Bool, true, false, cond, T, ltb, ◌⊎◌, ℤ, pos, negsuc, sym, ap, inl, inr, zero-le, le_trans, le_refl, lt_of_lt_of_le, le_of_suc-le-suc, not-suc-le-zero, lt_of_le_of_lt, le_of_lt, eq-or-lt_of_le, arith, le→leb, ltb→lt, lt→ltb, leb→le}
use native.Mathlib.Nat.{le-suc}
use lib.IntN.{suc_ℤ, pred_ℤ, sub_ℕ}
use lib.Signed.{mag, le_z, lt_z}
use Rattle.rounding.specs.Integers.{is_i64}
use Rattle.rounding.proofs.Scaled.{split}

pub le_z_lt_z_trans : (a b c : ℤ) → T (le_z a b) → T (lt_z b c) → T (lt_z a c)
le_z_lt_z_trans (pos a) (pos b) (pos c) h k = lt→ltb a c (lt_of_le_of_lt (leb→le a b h) (ltb→lt b c k))
le_z_lt_z_trans (pos a) (pos b) (negsuc c) h k = absurd k
le_z_lt_z_trans (pos a) (negsuc b) c h k = absurd h
le_z_lt_z_trans (negsuc a) (pos b) (pos c) h k = tt
le_z_lt_z_trans (negsuc a) (pos b) (negsuc c) h k = absurd k
le_z_lt_z_trans (negsuc a) (negsuc b) (pos c) h k = tt
le_z_lt_z_trans (negsuc a) (negsuc b) (negsuc c) h k = lt→ltb c a (lt_of_lt_of_le (ltb→lt c b k) (leb→le b a h))

pub lt_z_le_z_trans : (a b c : ℤ) → T (lt_z a b) → T (le_z b c) → T (lt_z a c)
lt_z_le_z_trans (pos a) (pos b) (pos c) h k = lt→ltb a c (lt_of_lt_of_le (ltb→lt a b h) (leb→le b c k))
lt_z_le_z_trans (pos a) (pos b) (negsuc c) h k = absurd k
lt_z_le_z_trans (pos a) (negsuc b) c h k = absurd h
lt_z_le_z_trans (negsuc a) (pos b) (pos c) h k = tt
lt_z_le_z_trans (negsuc a) (pos b) (negsuc c) h k = absurd k
lt_z_le_z_trans (negsuc a) (negsuc b) (pos c) h k = tt
lt_z_le_z_trans (negsuc a) (negsuc b) (negsuc c) h k = lt→ltb c a (lt_of_le_of_lt (leb→le c b k) (ltb→lt b a h))

pub lt_z→suc_le_z : (a b : ℤ) → T (lt_z a b) → T (le_z (suc_ℤ a) b)
lt_z→suc_le_z (pos a) (pos b) h = h
lt_z→suc_le_z (pos a) (negsuc b) h = absurd h
lt_z→suc_le_z (negsuc zero) (pos b) h = le→leb 0 b zero-le
lt_z→suc_le_z (negsuc (suc a)) (pos b) h = tt
lt_z→suc_le_z (negsuc zero) (negsuc b) h = absurd (not-suc-le-zero (ltb→lt b 0 h))
lt_z→suc_le_z (negsuc (suc a)) (negsuc b) h = le→leb b a (le_of_suc-le-suc (ltb→lt b (suc a) h))

pub lt_z→le_z_pred : (a b : ℤ) → T (lt_z a b) → T (le_z a (pred_ℤ b))
lt_z→le_z_pred (pos a) (pos zero) h = absurd (not-suc-le-zero (ltb→lt a 0 h))
lt_z→le_z_pred (pos a) (pos (suc b)) h = le→leb a b (le_of_suc-le-suc (ltb→lt a (suc b) h))
lt_z→le_z_pred (pos a) (negsuc b) h = absurd h
lt_z→le_z_pred (negsuc a) (pos zero) h = le→leb 0 a zero-le
lt_z→le_z_pred (negsuc a) (pos (suc b)) h = tt
lt_z→le_z_pred (negsuc a) (negsuc b) h = h

pub le_z_cases : (a b : ℤ) → T (le_z a b) → (a ≡ b) ⊎ T (lt_z a b)
le_z_cases (pos a) (pos b) h = elim (eq-or-lt_of_le (leb→le a b h)) [ inl e ↦ inl (ap pos e) | inr l ↦ inr (lt→ltb a b l) ]
le_z_cases (pos a) (negsuc b) h = absurd h
le_z_cases (negsuc a) (pos b) h = inr tt
le_z_cases (negsuc a) (negsuc b) h = elim (eq-or-lt_of_le (leb→le b a h)) [ inl e ↦ inl (ap negsuc (sym e)) | inr l ↦ inr (lt→ltb b a l) ]

pub le_z_refl : (a : ℤ) → T (le_z a a)
le_z_refl (pos a) = le→leb a a (le_refl a)
le_z_refl (negsuc a) = le→leb a a (le_refl a)

pub le_z_trans : (a b c : ℤ) → T (le_z a b) → T (le_z b c) → T (le_z a c)
le_z_trans (pos a) (pos b) (pos c) h k = le→leb a c (le_trans (leb→le a b h) (leb→le b c k))
le_z_trans (pos a) (pos b) (negsuc c) h k = absurd k
le_z_trans (pos a) (negsuc b) c h k = absurd h
le_z_trans (negsuc a) (pos b) (pos c) h k = tt
le_z_trans (negsuc a) (pos b) (negsuc c) h k = absurd k
le_z_trans (negsuc a) (negsuc b) (pos c) h k = tt
le_z_trans (negsuc a) (negsuc b) (negsuc c) h k = le→leb c a (le_trans (leb→le c b k) (leb→le b a h))

pub le_z_total : (a b : ℤ) → T (le_z a b) ⊎ T (le_z b a)
le_z_total (pos a) (pos b) = elim (split a b) [ inl h ↦ inl (le→leb a b h) | inr h ↦ inr (le→leb b a (le_of_lt h)) ]
le_z_total (pos a) (negsuc b) = inr tt
le_z_total (negsuc a) (pos b) = inl tt
le_z_total (negsuc a) (negsuc b) = elim (split b a) [ inl h ↦ inl (le→leb b a h) | inr h ↦ inr (le→leb a b (le_of_lt h)) ]

pub le_z_suc : (a : ℤ) → T (le_z a (suc_ℤ a))
le_z_suc (pos a) = le→leb a (suc a) (le-suc a)
le_z_suc (negsuc zero) = tt
le_z_suc (negsuc (suc a)) = le→leb a (suc a) (le-suc a)

pub le_z_pred : (a : ℤ) → T (le_z (pred_ℤ a) a)
le_z_pred (pos zero) = tt
le_z_pred (pos (suc a)) = le→leb a (suc a) (le-suc a)
le_z_pred (negsuc a) = le→leb a (suc a) (le-suc a)

-- ---- signed 64-bit integers

-- the next one, before another and after another
pub is_i64_suc : (a b : ℤ) → T (is_i64 a) → T (is_i64 b) → T (lt_z a b) → T (is_i64 (suc_ℤ a))
is_i64_suc (pos a) (pos b) p q h = lt→ltb (suc a) (2 ^ 63) (lt_of_le_of_lt (ltb→lt a b h) (ltb→lt b (2 ^ 63) q))
is_i64_suc (pos a) (negsuc b) p q h = absurd h
is_i64_suc (negsuc zero) b p q h = tt
is_i64_suc (negsuc (suc a)) b p q h = lt→ltb a (2 ^ 63) (le_of_suc-le-suc (le_trans (ltb→lt (suc a) (2 ^ 63) p) (le-suc (2 ^ 63))))

pub is_i64_pred : (a b : ℤ) → T (is_i64 a) → T (is_i64 b) → T (lt_z a b) → T (is_i64 (pred_ℤ b))
is_i64_pred a (pos zero) p q h = tt
is_i64_pred a (pos (suc b)) p q h = lt→ltb b (2 ^ 63) (le_of_suc-le-suc (le_trans (ltb→lt (suc b) (2 ^ 63) q) (le-suc (2 ^ 63))))
is_i64_pred (pos a) (negsuc b) p q h = absurd h
is_i64_pred (negsuc a) (negsuc b) p q h = lt→ltb (suc b) (2 ^ 63) (lt_of_le_of_lt (ltb→lt b a h) (ltb→lt a (2 ^ 63) p))

pub is_i64_between : (a b c : ℤ) → T (is_i64 a) → T (is_i64 c) → T (le_z a b) → T (le_z b c) → T (is_i64 b)
is_i64_between a (pos b) (pos c) p q h k = lt→ltb b (2 ^ 63) (lt_of_le_of_lt (leb→le b c k) (ltb→lt c (2 ^ 63) q))
is_i64_between a (pos b) (negsuc c) p q h k = absurd k
is_i64_between (pos a) (negsuc b) c p q h k = absurd h
is_i64_between (negsuc a) (negsuc b) c p q h k = lt→ltb b (2 ^ 63) (lt_of_le_of_lt (leb→le b a h) (ltb→lt a (2 ^ 63) p))

-- a difference of two numbers up to h, the second not 0
pub mag_sub : (a b h : ℕ) → a ≤ h → b ≤ h → 0 < b → mag (sub_ℕ a b) < h
mag_sub a b h p q r = by (ltb a b) (omega arith) (omega arith)
  where
    by : (t : Bool) → b - suc a < h → a - b < h → mag (cond t (negsuc (b - suc a)) (pos (a - b))) < h
    by true p q = p
    by false p q = q

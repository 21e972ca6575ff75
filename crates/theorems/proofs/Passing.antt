-- Of the steps of a zigzag, the list of those whose integer passes a test: it holds an integer just if that passes and its step is among them, and once if no other step tries it. Assumes nothing.
use mathlib.Core.Path.{◌≡◌, refl, sym, ap, ◌∙◌, subst}
use mathlib.Core.Logic.{◌⊎◌, inl, inr}
use Prim.Native.Nat.{ℕ, zero, suc, ◌+◌, ◌≤◌, ◌<◌}
use native.Mathlib.Nat.{le_refl, le_trans, le-suc, eq-or-lt_of_le, not-le_of_lt, lt_irrefl, lt_of_lt_of_le, add-zero, zero-add, le_of_eq, le-add_left, add-le-add}
use native.Mathlib.Omega.{arith}
use mathlib.Core.Bool.{Bool, true, false, cond}
use mathlib.Core.List.{List, [], ◌∷◌, ◌++◌}
use lib.Dec.{T}
use lib.IntN.{ℤ}
use Rattle.theorems.specs.Counting.{tally}
use Rattle.theorems.specs.Children.{passing_from, times}
use Rattle.theorems.specs.Prefixes.{joined}
use Rattle.theorems.proofs.Booleans.{of_true, refuted, to_true, to_false, tally_true, tally_false}
use Rattle.theorems.proofs.Counts.{times_same, times_other}

module _ (test : ℤ → Bool) (at : ℕ → ℤ) where
  passing_is : (k s : ℕ) → passing_from test at (suc k) s ≡ cond (test (at s)) (at s ∷ passing_from test at k (suc s)) (passing_from test at k (suc s))
  unfolding passing_from
  passing_is k s = refl

  passing_zero : (s : ℕ) → passing_from test at 0 s ≡ []
  unfolding passing_from
  passing_zero s = refl

  pub passing_yes : (k s : ℕ) → T (test (at s)) → passing_from test at (suc k) s ≡ at s ∷ passing_from test at k (suc s)
  passing_yes k s h = passing_is k s ∙ ap (λ (b : Bool). cond b (at s ∷ passing_from test at k (suc s)) (passing_from test at k (suc s))) (to_true (test (at s)) h)

  pub passing_no : (k s : ℕ) → (T (test (at s)) → ⊥) → passing_from test at (suc k) s ≡ passing_from test at k (suc s)
  passing_no k s h = passing_is k s ∙ ap (λ (b : Bool). cond b (at s ∷ passing_from test at k (suc s)) (passing_from test at k (suc s))) (to_false (test (at s)) h)

  -- steps that fail are passed over
  pub passing_over : (n k s : ℕ) → ((j : ℕ) → s ≤ j → j < s + n → T (test (at j)) → ⊥) → passing_from test at (n + k) s ≡ passing_from test at k (s + n)
  passing_over zero k s h = ap (λ (j : ℕ). passing_from test at j s) (zero-add k) ∙ ap (passing_from test at k) (sym (add-zero s))
  passing_over (suc n) k s h =
      ap (λ (j : ℕ). passing_from test at j s) (left n k)
      ∙ passing_no (n + k) s (h s (le_refl s) (low s n))
      ∙ passing_over n k (suc s) (λ j a b. h j (le_trans (le-suc s) a) (lt_of_lt_of_le b (high s n)))
      ∙ ap (passing_from test at k) (right s n)
    where
      left : (n k : ℕ) → suc n + k ≡ suc (n + k)
      left n k = omega arith

      right : (s n : ℕ) → suc s + n ≡ s + suc n
      right s n = omega arith

      low : (s n : ℕ) → s < s + suc n
      low s n = omega arith

      high : (s n : ℕ) → suc s + n ≤ s + suc n
      high s n = omega arith

  pub passing_none : (k s : ℕ) → ((j : ℕ) → s ≤ j → T (test (at j)) → ⊥) → passing_from test at k s ≡ []
  passing_none zero s h = passing_zero s
  passing_none (suc k) s h = passing_no k s (h s (le_refl s)) ∙ passing_none k (suc s) (λ j a. h j (le_trans (le-suc s) a))

  -- each integer stands there as often as it passes, if its step is among these and no other is
  module _ (once : (j k : ℕ) → at j ≡ at k → j ≡ k) where
    times_before : (n s k : ℕ) → k < s → times (at k) (passing_from test at n s) ≡ 0
    times_before zero s k h = ap (times (at k)) (passing_zero s)
    times_before (suc n) s k h = go (test (at s)) refl (times_before n (suc s) k (le_trans h (le-suc s)))
      where
        go : (b : Bool) → test (at s) ≡ b → times (at k) (passing_from test at n (suc s)) ≡ 0 → times (at k) (passing_from test at (suc n) s) ≡ 0
        go true e r = ap (times (at k)) (passing_yes n s (of_true e)) ∙ times_other (at k) (at s) (passing_from test at n (suc s)) (λ q. lt_irrefl s (subst (λ (j : ℕ). j < s) (once k s q) h)) ∙ r
        go false e r = ap (times (at k)) (passing_no n s (refuted e)) ∙ r

    pub times_passing : (n s k : ℕ) → s ≤ k → k < s + n → times (at k) (passing_from test at n s) ≡ tally (test (at k))
    times_passing zero s k h l = absurd (not-le_of_lt l (subst (λ (j : ℕ). j ≤ k) (sym (add-zero s)) h))
    times_passing (suc n) s k h l = pick (eq-or-lt_of_le h) (λ h'. times_passing n (suc s) k h' (lt_of_lt_of_le l (move s n)))
      where
        move : (s n : ℕ) → s + suc n ≤ suc s + n
        move s n = omega arith

        here : s ≡ k → (b : Bool) → test (at s) ≡ b → times (at k) (passing_from test at (suc n) s) ≡ tally (test (at k))
        here q true e =
            ap (times (at k)) (passing_yes n s (of_true e)) ∙ times_same (at k) (at s) (passing_from test at n (suc s)) (ap at (sym q))
            ∙ ap suc (times_before n (suc s) k (subst (λ (j : ℕ). j < suc s) q (le_refl (suc s)))) ∙ sym (tally_true (test (at k)) (subst (λ (j : ℕ). T (test (at j))) q (of_true e)))
        here q false e =
            ap (times (at k)) (passing_no n s (refuted e)) ∙ times_before n (suc s) k (subst (λ (j : ℕ). j < suc s) q (le_refl (suc s)))
            ∙ sym (tally_false (test (at k)) (λ v. refuted e (subst (λ (j : ℕ). T (test (at j))) (sym q) v)))

        later : s < k → (b : Bool) → test (at s) ≡ b → times (at k) (passing_from test at n (suc s)) ≡ tally (test (at k)) → times (at k) (passing_from test at (suc n) s) ≡ tally (test (at k))
        later q true e r = ap (times (at k)) (passing_yes n s (of_true e)) ∙ times_other (at k) (at s) (passing_from test at n (suc s)) (λ v. lt_irrefl k (subst (λ (j : ℕ). j < k) (sym (once k s v)) q)) ∙ r
        later q false e r = ap (times (at k)) (passing_no n s (refuted e)) ∙ r

        pick : (s ≡ k) ⊎ (s < k) → (suc s ≤ k → times (at k) (passing_from test at n (suc s)) ≡ tally (test (at k))) → times (at k) (passing_from test at (suc n) s) ≡ tally (test (at k))
        pick (inl q) r = here q (test (at s)) refl
        pick (inr q) r = later q (test (at s)) refl (r q)

  -- what fails does not stand there
  pub times_fails : (z : ℤ) → (T (test z) → ⊥) → (n s : ℕ) → times z (passing_from test at n s) ≡ 0
  times_fails z f zero s = ap (times z) (passing_zero s)
  times_fails z f (suc n) s = go (test (at s)) refl (times_fails z f n (suc s))
    where
      go : (b : Bool) → test (at s) ≡ b → times z (passing_from test at n (suc s)) ≡ 0 → times z (passing_from test at (suc n) s) ≡ 0
      go true e r = ap (times z) (passing_yes n s (of_true e)) ∙ times_other z (at s) (passing_from test at n (suc s)) (λ q. f (subst (λ (y : ℤ). T (test y)) (sym q) (of_true e))) ∙ r
      go false e r = ap (times z) (passing_no n s (refuted e)) ∙ r

-- fewer pass a test that is harder to pass, however what belongs to them is counted
pub joined_fewer : (measure : List (List ℤ) → ℕ) → ((a b : List (List ℤ)) → measure (a ++ b) ≡ measure a + measure b) → (f : ℤ → List (List ℤ)) (hard easy : ℤ → Bool) (at : ℕ → ℤ) → ((z : ℤ) → T (hard z) → T (easy z)) → (n s : ℕ) → measure (joined f (passing_from hard at n s)) ≤ measure (joined f (passing_from easy at n s))
joined_fewer measure additive f hard easy at h zero s = le_of_eq (ap (λ (l : List ℤ). measure (joined f l)) (passing_zero hard at s ∙ sym (passing_zero easy at s)))
joined_fewer measure additive f hard easy at h (suc n) s = go (hard (at s)) (easy (at s)) refl refl (joined_fewer measure additive f hard easy at h n (suc s))
  where
    more : (l : List ℤ) → measure (joined f l) ≤ measure (joined f (at s ∷ l))
    more l = le_trans (le-add_left (measure (joined f l)) (measure (f (at s)))) (le_of_eq (sym (additive (f (at s)) (joined f l))))

    both : (l l' : List ℤ) → measure (joined f l) ≤ measure (joined f l') → measure (joined f (at s ∷ l)) ≤ measure (joined f (at s ∷ l'))
    both l l' k = le_trans (le_of_eq (additive (f (at s)) (joined f l))) (le_trans (add-le-add (le_refl (measure (f (at s)))) k) (le_of_eq (sym (additive (f (at s)) (joined f l')))))

    go : (x y : Bool) → hard (at s) ≡ x → easy (at s) ≡ y → measure (joined f (passing_from hard at n (suc s))) ≤ measure (joined f (passing_from easy at n (suc s))) → measure (joined f (passing_from hard at (suc n) s)) ≤ measure (joined f (passing_from easy at (suc n) s))
    go true false p q r = absurd (refuted q (h (at s) (of_true p)))
    go true true p q r =
        subst (λ (l : List ℤ). measure (joined f l) ≤ measure (joined f (passing_from easy at (suc n) s))) (sym (passing_yes hard at n s (of_true p)))
        (subst (λ (l : List ℤ). measure (joined f (at s ∷ passing_from hard at n (suc s))) ≤ measure (joined f l)) (sym (passing_yes easy at n s (of_true q))) (both (passing_from hard at n (suc s)) (passing_from easy at n (suc s)) r))
    go false true p q r =
        subst (λ (l : List ℤ). measure (joined f l) ≤ measure (joined f (passing_from easy at (suc n) s))) (sym (passing_no hard at n s (refuted p)))
        (subst (λ (l : List ℤ). measure (joined f (passing_from hard at n (suc s))) ≤ measure (joined f l)) (sym (passing_yes easy at n s (of_true q))) (le_trans r (more (passing_from easy at n (suc s)))))
    go false false p q r =
        subst (λ (l : List ℤ). measure (joined f l) ≤ measure (joined f (passing_from easy at (suc n) s))) (sym (passing_no hard at n s (refuted p)))
        (subst (λ (l : List ℤ). measure (joined f (passing_from hard at n (suc s))) ≤ measure (joined f l)) (sym (passing_no easy at n s (refuted q))) r)

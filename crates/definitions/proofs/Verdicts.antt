-- What a list of checks says: the first refusal of it, and the first of some indices at which a fault is. Assumes nothing.
use mathlib.Core.Path.{◌≡◌, refl, sym, ap, ◌∙◌}
use mathlib.Core.Bool.{Bool, true, false, cond}
use mathlib.Core.List.Memᴰ
use mathlib.Core.List.{List, [], ◌∷◌, ◌++◌, Memᴰ}
use mathlib.Core.Logic.{⊎_elim}
use Prim.Native.Nat.{ℕ, zero, suc, ◌+◌, ◌≤◌, ◌<◌}
use native.Mathlib.Nat.{eq-or-lt_of_le}
use native.Mathlib.Omega.{arith}
use Rattle.lists.specs.All.{none, more, AllBelow}
use Rattle.definitions.specs.Refusals.{Refusal}
use Rattle.definitions.specs.Checks.{Verdict, pass, refuse, first_refusal, refuse_at_first, count_from}

-- the one check, then the other
abbrev pub or_else : Verdict → Verdict → Verdict
or_else (refuse e) w = refuse e
or_else pass w = w

-- ---- lists of checks
pub first_append : (vs ws : List Verdict) → first_refusal (vs ++ ws) ≡ or_else (first_refusal vs) (first_refusal ws)
unfolding first_refusal
first_append [] ws = refl
first_append (refuse e ∷ vs) ws = refl
first_append (pass ∷ vs) ws = first_append vs ws

-- a check before others
pub first_cons : (v : Verdict) (ws : List Verdict) → first_refusal (v ∷ ws) ≡ or_else v (first_refusal ws)
unfolding first_refusal
first_cons (refuse e) ws = refl
first_cons pass ws = refl

-- by what the first of them says
pub first_refuses : (v : Verdict) (ws : List Verdict) {e : Refusal} → v ≡ refuse e → first_refusal (v ∷ ws) ≡ v
first_refuses v ws q = first_cons v ws ∙ ap (λ (x : Verdict). or_else x (first_refusal ws)) q ∙ sym q

pub first_passes : (v : Verdict) (ws : List Verdict) → v ≡ pass → first_refusal (v ∷ ws) ≡ first_refusal ws
first_passes v ws q = first_cons v ws ∙ ap (λ (x : Verdict). or_else x (first_refusal ws)) q

-- a check alone
pub first_alone : (v : Verdict) → first_refusal (v ∷ []) ≡ v
unfolding first_refusal
first_alone (refuse e) = refl
first_alone pass = refl

pub refuse≢pass : {e : Refusal} → refuse e ≡ pass → ⊥
refuse≢pass q = let z : ◌≡◌ {A = ℕ} 0 1 = cc in omega arith

both : (v w : Verdict) → or_else v w ≡ pass → (v ≡ pass) × (w ≡ pass)
both pass w q = (refl, q)
both (refuse e) w q = absurd (refuse≢pass q)

-- a list passes where both its parts do, and only there
pub passes_append : (vs ws : List Verdict) → first_refusal vs ≡ pass → first_refusal ws ≡ pass → first_refusal (vs ++ ws) ≡ pass
passes_append vs ws p q = first_append vs ws ∙ simp p q

pub append_passes : (vs ws : List Verdict) → first_refusal (vs ++ ws) ≡ pass → (first_refusal vs ≡ pass) × (first_refusal ws ≡ pass)
append_passes vs ws q = both (first_refusal vs) (first_refusal ws) (sym (first_append vs ws) ∙ q)

-- ---- the indices that are counted
pub counted : (first n k : ℕ) → Memᴰ k (count_from first n) → (first ≤ k) × (k < first + n)
unfolding count_from
counted first zero k m = absurd (Memᴰ.not-nil m)
counted first (suc n) k m =
    ⊎_elim
    (λ same. (omega arith, omega arith))
    (λ more. let l = counted (suc first) n k more in (omega arith, omega arith))
    (Memᴰ.cases_cons m)

pub counts : (first n k : ℕ) → first ≤ k → k < first + n → Memᴰ k (count_from first n)
unfolding count_from
counts first zero k from below = absurd (omega arith)
counts first (suc n) k from below =
    ⊎_elim
    (λ same. Memᴰ.head (sym same))
    (λ less. Memᴰ.tail (counts (suc first) n k (omega arith) (omega arith)))
    (eq-or-lt_of_le from)

-- they are below their number
pub counted_below : (first k bound : ℕ) → first + k ≤ bound → AllBelow bound (count_from first k)
unfolding count_from
counted_below first zero bound h = none
counted_below first (suc k) bound h = more {x = first} (omega arith) (counted_below (suc first) k bound (omega arith))

-- ---- the first index of a fault
-- by refusals that are the same
pub refuse_same : (fault : ℕ → Bool) (e e' : ℕ → Refusal) → ((k : ℕ) → e k ≡ e' k) → (is : List ℕ) → refuse_at_first fault e is ≡ refuse_at_first fault e' is
unfolding refuse_at_first
refuse_same fault e e' same [] = refl
refuse_same fault e e' same (i ∷ is) = simp (same i, refuse_same fault e e' same is)

module _ (fault : ℕ → Bool) (e : ℕ → Refusal) where
  at_fault : (i : ℕ) (is : List ℕ) → fault i ≡ true → refuse_at_first fault e (i ∷ is) ≡ refuse (e i)
  unfolding refuse_at_first
  at_fault i is h = simp h

  past : (i : ℕ) (is : List ℕ) → fault i ≡ false → refuse_at_first fault e (i ∷ is) ≡ refuse_at_first fault e is
  unfolding refuse_at_first
  past i is h = simp h

  first_from : (first n i : ℕ) → first ≤ i → i < first + n → ((k : ℕ) → k < i → fault k ≡ false) → fault i ≡ true → refuse_at_first fault e (count_from first n) ≡ refuse (e i)
  unfolding count_from
  first_from first zero i from below clean here = absurd (omega arith)
  first_from first (suc n) i from below clean here =
      ⊎_elim
      (λ q. at_fault first (count_from (suc first) n) (ap fault q ∙ here) ∙ ap (λ (k : ℕ). refuse (e k)) q)
      (λ less. past first (count_from (suc first) n) (clean first less) ∙ first_from (suc first) n i (omega arith) (omega arith) clean here)
      (eq-or-lt_of_le from)

  -- the law of every loop that stops at its first fault
  pub first_fault : (n i : ℕ) → i < n → ((k : ℕ) → k < i → fault k ≡ false) → fault i ≡ true → refuse_at_first fault e (count_from 0 n) ≡ refuse (e i)
  first_fault n i below = first_from 0 n i (omega arith) (omega arith)

  -- a pass says that no index has the fault, and where none has it is a pass
  pub clean_passes : (is : List ℕ) → ((i : ℕ) → Memᴰ i is → fault i ≡ false) → refuse_at_first fault e is ≡ pass
  unfolding refuse_at_first
  clean_passes [] clean = refl
  clean_passes (i ∷ is) clean =
      past i is (clean i (Memᴰ.head refl)) ∙ clean_passes is (λ k m. clean k (Memᴰ.tail m))

  clear : (b : Bool) (later : Verdict) (i : ℕ) → cond b (refuse (e i)) later ≡ pass → (b ≡ false) × (later ≡ pass)
  clear true later i q = absurd (refuse≢pass q)
  clear false later i q = (refl, q)

  pub passes_clean : (is : List ℕ) → refuse_at_first fault e is ≡ pass → (i : ℕ) → Memᴰ i is → fault i ≡ false
  unfolding refuse_at_first
  passes_clean [] q i m = absurd (Memᴰ.not-nil m)
  passes_clean (k ∷ is) q i m =
      let both = clear (fault k) (refuse_at_first fault e is) k q in
      ⊎_elim (λ same. ap fault same ∙ both.0) (λ more. passes_clean is both.1 i more) (Memᴰ.cases_cons m)

  -- the law of every loop that runs through
  pub no_fault : (n : ℕ) → ((k : ℕ) → k < n → fault k ≡ false) → refuse_at_first fault e (count_from 0 n) ≡ pass
  no_fault n clean = clean_passes (count_from 0 n) (λ k m. let l = counted 0 n k m in clean k (omega arith))

  -- what it tells when it passes
  pub passed : (n : ℕ) → refuse_at_first fault e (count_from 0 n) ≡ pass → (k : ℕ) → k < n → fault k ≡ false
  passed n q k below = passes_clean (count_from 0 n) q k (counts 0 n k (omega arith) (omega arith))

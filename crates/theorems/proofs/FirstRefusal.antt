-- The first refusal of a list of checks is the first that fits; where the checks' numbers rise it has the least, and only a check of its number can refuse so. Assumes nothing.
use mathlib.Core.Path.{◌≡◌, refl, sym, ap, ◌∙◌, subst}
use mathlib.Core.Bool.{Bool, true, false, not, ◌&&◌, ◌||◌, cond, false≢true}
use mathlib.Core.List.Memᴰ
use mathlib.Core.List.{List, [], ◌∷◌}
use mathlib.Core.Logic.{◌⊎◌, inl, inr, ⊎_elim}
use Prim.Native.Nat.{ℕ, ◌≤◌, ◌<◌}
use native.Mathlib.Omega.{arith}
use borrow.Author.Tests.{eqb-false, eq-eqb}
use lib.Dec.{T, leb, leb→le, ltb, ltb→lt, eqb}
use lib.ListN.{length}
use lib.Ieee.{Float}
use lib.Ieee.Fits.{and_l, and_r}
use Rattle.definitions.specs.Table.{Table, coordinate}
use Rattle.definitions.specs.Refusals.{Refusal, whole}
use Rattle.definitions.specs.Checks.{Verdict, pass, refuse, first_refusal, mu_non_finite_check, mu_range_check, weight_range_check}
use Rattle.definitions.proofs.Verdicts.{refuse≢pass}
use Rattle.theorems.specs.Refusals.{Fits, NoneFits, FirstFits, refuses_here, passes_here, Numbered, no_checks, check, rising, FirstIsLeast, FirstFault, FirstIndices}
use Rattle.theorems.specs.Answers.{Under}
use Rattle.theorems.proofs.FirstFaults.{carrying, AtFirst, mu_finite_first, mu_range_first, weight_first}

-- a list of checks refuses by the first that fits, or none fits and it passes
abbrev pub Decision : List Verdict → Type 0
Decision vs = ((e : Refusal) × FirstFits vs e × (first_refusal vs ≡ refuse e)) ⊎ (NoneFits vs × (first_refusal vs ≡ pass))

pub decision : (vs : List Verdict) → Decision vs
unfolding first_refusal
decision [] = inr (λ e m. Memᴰ.not-nil m, refl)
decision (refuse e ∷ vs) = inl (e, refuses_here, refl)
decision (pass ∷ vs) =
    ⊎_elim
    (λ some. inl (some.0, passes_here some.1, some.2))
    (λ other. inr (λ e m. ⊎_elim refuse≢pass (other.0 e) (Memᴰ.cases_cons m), other.1))
    (decision vs)

pub first_fits : {vs : List Verdict} {e : Refusal} → FirstFits vs e → Fits vs e
first_fits refuses_here = Memᴰ.head refl
first_fits (passes_here f) = Memᴰ.tail (first_fits f)

-- the first that fits is the call's refusal, and where none fits it passes
pub first_refuses : {vs : List Verdict} {e : Refusal} → FirstFits vs e → first_refusal vs ≡ refuse e
unfolding first_refusal
first_refuses refuses_here = refl
first_refuses (passes_here f) = first_refuses f

pub none_passes : (vs : List Verdict) → NoneFits vs → first_refusal vs ≡ pass
none_passes vs none = ⊎_elim (λ some. absurd (none some.0 (first_fits some.1))) (λ other. other.1) (decision vs)

-- a list of checks of which one fits does not pass
pub fitting_refuses : (vs : List Verdict) (e : Refusal) → Fits vs e → (d : Refusal) × (first_refusal vs ≡ refuse d)
fitting_refuses vs e m = ⊎_elim (λ some. (some.0, some.2)) (λ other. absurd (other.0 e m)) (decision vs)

-- ---- where the numbers stay below another
abbrev pub all_below : ℕ → List ℕ → Bool
all_below top [] = true
all_below top (n ∷ ns) = ltb n top && all_below top ns

pub numbers_below : {ns : List ℕ} {vs : List Verdict} (top : ℕ) → Numbered ns vs → T (all_below top ns) → (e : Refusal) → Fits vs e → e.number < top
numbers_below top no_checks h e m = absurd (Memᴰ.not-nil m)
numbers_below top (check {n} {ns} own more) h e m =
    ⊎_elim
    (λ same. subst (λ (k : ℕ). k < top) (sym (own e (sym same))) (ltb→lt n top (and_l (ltb n top) (all_below top ns) h)))
    (numbers_below top more (and_r (ltb n top) (all_below top ns) h) e)
    (Memᴰ.cases_cons m)

-- ---- where they are other than two
abbrev pub all_apart : ℕ → ℕ → List ℕ → Bool
all_apart j k [] = true
all_apart j k (n ∷ ns) = not (eqb n j || eqb n k) && all_apart j k ns

pub numbers_apart : {ns : List ℕ} {vs : List Verdict} (j k : ℕ) → Numbered ns vs → T (all_apart j k ns) → (e : Refusal) → Fits vs e → Under j k e → ⊥
numbers_apart j k no_checks h e m u = Memᴰ.not-nil m
numbers_apart j k (check {n} {ns} own more) h e m u =
    ⊎_elim
    (λ same. ⊎_elim (λ is. other (eqb n j) (eqb n k) (inl (eq-eqb n j (sym (own e (sym same)) ∙ is))) (and_l (not (eqb n j || eqb n k)) (all_apart j k ns) h)) (λ is. other (eqb n j) (eqb n k) (inr (eq-eqb n k (sym (own e (sym same)) ∙ is))) (and_l (not (eqb n j || eqb n k)) (all_apart j k ns) h)) u)
    (λ later. numbers_apart j k more (and_r (not (eqb n j || eqb n k)) (all_apart j k ns) h) e later u)
    (Memᴰ.cases_cons m)
  where
    other : (a b : Bool) → (a ≡ true) ⊎ (b ≡ true) → T (not (a || b)) → ⊥
    other true b either h = h
    other false true either h = h
    other false false (inl p) h = false≢true p
    other false false (inr p) h = false≢true p

-- ---- where the numbers rise
above : {ns : List ℕ} {vs : List Verdict} (low : ℕ) → Numbered ns vs → T (rising low ns) → (e : Refusal) → Fits vs e → low ≤ e.number
above low no_checks r e m = absurd (Memᴰ.not-nil m)
above low (check {n} {ns} own more) r e m =
    let from = leb→le low n (and_l (leb low n) (rising n ns) r) in
    ⊎_elim
    (λ same. omega (arith, own e (sym same)))
    (λ later. omega (arith, above n more (and_r (leb low n) (rising n ns) r) e later))
    (Memᴰ.cases_cons m)

pub first_least : {ns : List ℕ} {vs : List Verdict} (low : ℕ) → Numbered ns vs → T (rising low ns) → FirstIsLeast vs
first_least low no_checks r e d f m = absurd (Memᴰ.not-nil m)
first_least low (check {n} {ns} own more) r e d refuses_here m =
    let mine = own e refl in
    ⊎_elim
    (λ same. omega (arith, own d (sym same)))
    (λ later. omega (arith, above n more (and_r (leb low n) (rising n ns) r) d later))
    (Memᴰ.cases_cons m)
first_least low (check {n} {ns} own more) r e d (passes_here f) m =
    ⊎_elim
    (λ same. absurd (refuse≢pass same))
    (first_least n more (and_r (leb low n) (rising n ns) r) e d f)
    (Memᴰ.cases_cons m)

-- ---- only a check of its number can refuse under a number
abbrev pub numbered_as : ℕ → List ℕ → List Verdict → List Verdict
numbered_as k [] vs = []
numbered_as k (n ∷ ns) [] = []
numbered_as k (n ∷ ns) (v ∷ vs) = cond (eqb n k) (v ∷ numbered_as k ns vs) (numbered_as k ns vs)

pub only_its_number : {ns : List ℕ} {vs : List Verdict} → Numbered ns vs → (e : Refusal) → Fits vs e → Fits (numbered_as e.number ns vs) e
only_its_number no_checks e m = m
only_its_number (check {n} {ns} {v} {vs} own more) e m = go (eqb n e.number) refl (only_its_number more e) (Memᴰ.cases_cons m)
  where
    go : (b : Bool) → eqb n e.number ≡ b → (Fits vs e → Fits (numbered_as e.number ns vs) e) → (refuse e ≡ v) ⊎ Fits vs e → Fits (cond b (v ∷ numbered_as e.number ns vs) (numbered_as e.number ns vs)) e
    go true q more (inl same) = Memᴰ.head same
    go true q more (inr later) = Memᴰ.tail (more later)
    go false q more (inl same) = absurd (omega (arith, eqb-false n e.number q, own e (sym same)))
    go false q more (inr later) = more later

-- and the first that refuses is the first of that number that does
pub first_cases : {v : Verdict} {vs : List Verdict} {e : Refusal} → FirstFits (v ∷ vs) e → (v ≡ refuse e) ⊎ ((v ≡ pass) × FirstFits vs e)
first_cases refuses_here = inl refl
first_cases (passes_here f) = inr (refl, f)

first_after : (v : Verdict) {vs : List Verdict} {e : Refusal} → v ≡ pass → FirstFits vs e → FirstFits (v ∷ vs) e
first_after pass q f = passes_here f
first_after (refuse d) q f = absurd (refuse≢pass q)

first_by : (v : Verdict) {vs : List Verdict} {e : Refusal} → v ≡ refuse e → FirstFits (v ∷ vs) e
first_by (refuse d) {vs} {e} q = let same : d ≡ e = cc in subst (λ (r : Refusal). FirstFits (refuse d ∷ vs) r) same refuses_here
first_by pass q = absurd (refuse≢pass (sym q))

pub first_of_number : {ns : List ℕ} {vs : List Verdict} → Numbered ns vs → (e : Refusal) → FirstFits vs e → FirstFits (numbered_as e.number ns vs) e
first_of_number (check {n} {ns} {v} {vs} own more) e f = go (eqb n e.number) refl (first_of_number more e) (first_cases f)
  where
    go : (b : Bool) → eqb n e.number ≡ b → (FirstFits vs e → FirstFits (numbered_as e.number ns vs) e) → (v ≡ refuse e) ⊎ ((v ≡ pass) × FirstFits vs e) → FirstFits (cond b (v ∷ numbered_as e.number ns vs) (numbered_as e.number ns vs)) e
    go true q more (inl same) = first_by v same
    go true q more (inr (passed, later)) = first_after v passed (more later)
    go false q more (inl same) = absurd (omega (arith, eqb-false n e.number q, own e same))
    go false q more (inr (passed, later)) = more later
first_of_number no_checks e f = elim f [ ]

-- so its index is the first fault, if one check has that number
pub carries_first : {v : Verdict} {n : ℕ} {Index : ℕ → Type 0} {fault : ℕ → Bool} → AtFirst v n Index fault → {ns : List ℕ} {vs : List Verdict} → Numbered ns vs → numbered_as n ns vs ≡ v ∷ [] → (i : ℕ) → Fits vs (carrying n i) → FirstFault Index fault i
carries_first {v} {n} {Index} {fault} law numbered alone i m =
    let own = Memᴰ.eq_of_singleton (subst (λ (ws : List Verdict). Fits ws (carrying n i)) alone (only_its_number numbered (carrying n i) m)) in
    let l = law (carrying n i) (sym own) in
    let values : (whole l.0 ∷ []) ≡ (whole i ∷ []) = ap (λ (r : Refusal). r.values) (sym l.1) in
    subst (FirstFault Index fault) (cc) l.2

pub first_indices : {ns : List ℕ} {vs : List Verdict} {t : Table} {fault : Float → Bool} {xs : List Float} {v : Verdict} → Numbered ns vs →
    numbered_as 3 ns vs ≡ mu_non_finite_check t ∷ [] → numbered_as 4 ns vs ≡ mu_range_check t ∷ [] → numbered_as 5 ns vs ≡ weight_range_check t ∷ [] → numbered_as 7 ns vs ≡ v ∷ [] →
    AtFirst v 7 (λ k. k < length xs) (λ k. fault (coordinate xs k)) → FirstIndices vs t fault xs
first_indices {t = t} numbered third fourth fifth seventh law =
    record {
      mu_finite = carries_first (mu_finite_first t) numbered third;
      mu_range_lem = carries_first (mu_range_first t) numbered fourth;
      weights = carries_first (weight_first t) numbered fifth;
      numbers = carries_first law numbered seventh;
    }

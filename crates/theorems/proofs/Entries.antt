-- The check that is fed the entries one at a time: it says at each entry what 3 and 4 say of all up to it, and in the end what the calls' own check says. Assumes nothing.
use mathlib.Core.Path.{◌≡◌, refl, sym, ap, ◌∙◌, subst}
use mathlib.Core.Bool.{Bool, true, false, true≢false}
use mathlib.Core.List.Memᴰ
use mathlib.Core.List.{List, [], ◌∷◌, ◌++◌, append-nil, append_assoc, Memᴰ}
use mathlib.Core.Logic.{⊎_elim}
use Prim.Native.Nat.{ℕ, ◌<◌}
use native.Mathlib.Nat.{lt_of_not-le}
use native.Mathlib.Omega.{arith}
use lib.Ieee.{Float}
use Rattle.definitions.specs.Table.{Table, dimension}
use Rattle.definitions.specs.Refusals.{mu_non_finite, mu_range}
use Rattle.definitions.specs.Checks.{Verdict, pass, refuse, first_refusal, read_indices, not_finite, beyond_limit, table_size_check, mu_non_finite_check, mu_range_check, weight_range_check, table_checks}
use Rattle.definitions.specs.Entries.{Entry, fed, fed_all, entries_at, entries_read}
use Rattle.definitions.proofs.Entries.{fed_append, fed_verdict}
use Rattle.theorems.specs.Entries.{RisingIndices, NoEntry, FirstEntry, VerdictOn, gives_3, gives_4, passes, EntryPromises}
use Rattle.theorems.proofs.FirstFaults.{Increasing, next, read_increasing}

-- an entry has a larger index than each one before it
rises_to : (before : List Entry) (e : Entry) (later : List Entry) → RisingIndices (before ++ e ∷ later) → (d : Entry) → Memᴰ d before → d.index < e.index
rises_to [] e later r d m = absurd (Memᴰ.not-nil m)
rises_to (b ∷ []) e later r d m = ⊎_elim (λ same. omega (arith, ap (λ (x : Entry). x.index) same, r.0)) (λ other. absurd (Memᴰ.not-nil other)) (Memᴰ.cases_cons m)
rises_to (b ∷ c ∷ before) e later r d m =
    let above = rises_to (c ∷ before) e later r.1 in
    ⊎_elim (λ same. omega (arith, ap (λ (x : Entry). x.index) same, r.0, above c (Memᴰ.head refl))) (above d) (Memᴰ.cases_cons m)

-- ---- one entry more
module _ (es : List Entry) (e : Entry) where
  abbrev more : List Entry
  more = es ++ e ∷ []

  both : (P : Entry → Type 0) → ((d : Entry) → Memᴰ d es → P d) → P e → (d : Entry) → Memᴰ d more → P d
  both P old new d m = ⊎_elim (old d) (λ last. subst P (sym (Memᴰ.eq_of_singleton last)) new) (Memᴰ.append_cases es m)

  module _ (fault : Float → Bool) where
    none_more : NoEntry fault es → fault e.value ≡ false → NoEntry fault more
    none_more clean = both (λ d. fault d.value ≡ false) clean

    first_more : {i : ℕ} → ((d : Entry) → Memᴰ d es → d.index < e.index) → FirstEntry fault es i → FirstEntry fault more i
    first_more {i} above f =
        record {
          entry = f.entry;
          among = Memᴰ.append_left (e ∷ []) f.among;
          here = f.here;
          faulty = f.faulty;
          first = both (λ d. d.index < i → fault d.value ≡ false) f.first (λ less. absurd (omega (arith, above f.entry f.among, f.here)));
        }

    first_last : NoEntry fault es → fault e.value ≡ true → FirstEntry fault more e.index
    first_last clean bad =
        record {
          entry = e;
          among = Memᴰ.append_right es (Memᴰ.head refl);
          here = refl;
          faulty = bad;
          first = both (λ d. d.index < e.index → fault d.value ≡ false) (λ d m less. clean d m) (λ less. absurd (omega arith));
        }

  fed_next : {v : Verdict} → VerdictOn es v → ((d : Entry) → Memᴰ d es → d.index < e.index) → VerdictOn more (fed v e)
  fed_next (gives_3 f) above = gives_3 (first_more not_finite above f)
  fed_next (gives_4 {i} clean f) above = go (not_finite e.value) refl
    where
      go : (b : Bool) → not_finite e.value ≡ b → VerdictOn more (fed (refuse (mu_range i)) e)
      go true q = subst (VerdictOn more) (simp q) (gives_3 (first_last not_finite clean q))
      go false q = subst (VerdictOn more) (simp q) (gives_4 (none_more not_finite clean q) (first_more beyond_limit above f))
  fed_next (passes finite within) above = go (not_finite e.value) refl (beyond_limit e.value) refl
    where
      go : (a : Bool) → not_finite e.value ≡ a → (b : Bool) → beyond_limit e.value ≡ b → VerdictOn more (fed pass e)
      go true p b q = subst (VerdictOn more) (simp p) (gives_3 (first_last not_finite finite p))
      go false p true q = subst (VerdictOn more) (simp (p, q)) (gives_4 (none_more not_finite finite p) (first_last beyond_limit within q))
      go false p false q = subst (VerdictOn more) (simp (p, q)) (passes (none_more not_finite finite p) (none_more beyond_limit within q))

-- ---- all entries, from the start
fed_onward : (before later : List Entry) {v : Verdict} → VerdictOn before v → RisingIndices (before ++ later) → VerdictOn (before ++ later) (fed_all v later)
unfolding fed_all
fed_onward before [] {v} on r = subst (λ (es : List Entry). VerdictOn es v) (sym (append-nil before)) on
fed_onward before (e ∷ later) {v} on r =
    let split : (before ++ e ∷ []) ++ later ≡ before ++ e ∷ later = append_assoc before (e ∷ []) later in
    subst (λ (es : List Entry). VerdictOn es (fed_all (fed v e) later)) split
    (fed_onward (before ++ e ∷ []) later (fed_next before e on (rises_to before e later r)) (subst RisingIndices (sym split) r))

-- for every list of entries with rising indices the verdict is that of 3 and 4 over them
pub fed_entries : (es : List Entry) → RisingIndices es → VerdictOn es (fed_all pass es)
fed_entries es = fed_onward [] es (passes (λ e m. absurd (Memᴰ.not-nil m)) (λ e m. absurd (Memᴰ.not-nil m)))

-- ---- that verdict is one alone
module _ {es : List Entry} where
  first_of_none : {fault : Float → Bool} {i : ℕ} → NoEntry fault es → FirstEntry fault es i → ⊥
  first_of_none clean f = true≢false (sym f.faulty ∙ clean f.entry f.among)

  not_below : {fault : Float → Bool} {i k : ℕ} → FirstEntry fault es i → FirstEntry fault es k → i < k → ⊥
  not_below f g less = true≢false (sym f.faulty ∙ g.first f.entry f.among (omega (arith, f.here)))

  same_first : {fault : Float → Bool} {i k : ℕ} → FirstEntry fault es i → FirstEntry fault es k → i ≡ k
  same_first f g = omega (arith, lt_of_not-le (not_below f g), lt_of_not-le (not_below g f))

  pub verdict_alone : {v w : Verdict} → VerdictOn es v → VerdictOn es w → v ≡ w
  verdict_alone (gives_3 f) (gives_3 g) = ap (λ (i : ℕ). refuse (mu_non_finite i)) (same_first f g)
  verdict_alone (gives_3 f) (gives_4 clean g) = absurd (first_of_none clean f)
  verdict_alone (gives_3 f) (passes clean within) = absurd (first_of_none clean f)
  verdict_alone (gives_4 clean f) (gives_3 g) = absurd (first_of_none clean g)
  verdict_alone (gives_4 clean f) (gives_4 clean' g) = ap (λ (i : ℕ). refuse (mu_range i)) (same_first f g)
  verdict_alone (gives_4 clean f) (passes clean' within) = absurd (first_of_none within f)
  verdict_alone (passes clean within) (gives_3 g) = absurd (first_of_none clean g)
  verdict_alone (passes clean within) (gives_4 clean' g) = absurd (first_of_none within g)
  verdict_alone (passes clean within) (passes clean' within') = refl

-- ---- the entries that are read
rising_at : (mu : List Float) (is : List ℕ) → Increasing is → RisingIndices (entries_at mu is)
rising_at mu [] rise = tt
rising_at mu (i ∷ []) rise = tt
rising_at mu (i ∷ k ∷ is) (next low more) = (low k (Memᴰ.head refl), rising_at mu (k ∷ is) more)

-- they are listed by rising index
pub read_rising : (t : Table) → RisingIndices (entries_read t)
read_rising t = rising_at t.mu _ (read_increasing (dimension t) (dimension t) (omega arith))

-- the calls' own check; that of a table without entries, too
pub own_verdict : (t : Table) → fed_all pass (entries_read t) ≡ first_refusal (mu_non_finite_check t ∷ mu_range_check t ∷ [])
own_verdict t = fed_verdict t.mu (read_indices (dimension t) (dimension t))

-- the first checks of a call, the middle ones joined
joined : (a b c d : Verdict) (later : List Verdict) → first_refusal ((a ∷ b ∷ c ∷ d ∷ []) ++ later) ≡ first_refusal (a ∷ first_refusal (b ∷ c ∷ []) ∷ d ∷ later)
unfolding first_refusal
joined (refuse e) b c d later = refl
joined pass (refuse e) c d later = refl
joined pass pass (refuse e) d later = refl
joined pass pass pass d later = refl

-- ---- the answer to an entry
pub entry_promises : (before : List Entry) (e : Entry) → EntryPromises before e (fed (fed_all pass before) e)
unfolding fed_all table_checks
entry_promises before e =
    let last : fed_all pass (before ++ e ∷ []) ≡ fed (fed_all pass before) e = fed_append pass before (e ∷ []) in
    let own : (t : Table) → before ++ e ∷ [] ≡ entries_read t → fed (fed_all pass before) e ≡ first_refusal (mu_non_finite_check t ∷ mu_range_check t ∷ []) = λ t all. sym last ∙ ap (fed_all pass) all ∙ own_verdict t in
    record {
      so_far = λ r. subst (VerdictOn (before ++ e ∷ [])) last (fed_entries (before ++ e ∷ []) r);
      own_check = own;
      calls = λ t all largest later.
          joined (table_size_check largest t) (mu_non_finite_check t) (mu_range_check t) (weight_range_check t) later
          ∙ ap (λ (v : Verdict). first_refusal (table_size_check largest t ∷ v ∷ weight_range_check t ∷ later)) (sym (own t all));
    }

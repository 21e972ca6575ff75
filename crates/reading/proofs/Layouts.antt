-- The sections one after another are the job's layout. Assumes nothing.
use mathlib.Core.Path.{◌≡◌, refl, ap, sym, subst, ◌∙◌}
use mathlib.Core.Bool.{Bool, true, false, cond, ◌&&◌}
use mathlib.Core.List.{List, [], ◌∷◌}
use Prim.Native.Nat.{ℕ, ◌+◌, ◌*◌, ◌≤◌, ◌<◌}
use native.Mathlib.Omega.{arith}
use lib.Dec.{leb, ltb, eqb, leb-zero}
use lib.ListN.{length, get_or}
use lib.Ieee.{binary64, of_bits}
use borrow.Author.Tests.{ltb-true, ltb-false, lt-ltb, le-ltb, leb-true, leb-false, eqb-true, eq-eqb, ne_eqb}
use Rattle.definitions.specs.Table.{largest_dimension}
use Rattle.definitions.specs.Settings.{Settings, defaults}
use Rattle.definitions.specs.JobLayout.{items, section_fault, number_at, items_at, section, settings_section, and_then, doubles, triangle, mu_rows, job, layout_fault}
use Rattle.definitions.specs.JobLayout as D
use Rattle.std.specs.Prelude.{Result, Ok, Err}
use Rattle.std.specs.Result.{IsErrAnd}
use Rattle.std.proofs.lemmas.Result.{err_from_is_err_and}
use Rattle.reading.specs.declared.Section.{Section}
use Rattle.reading.specs.declared.LayoutFault.{LayoutFault}
use Rattle.reading.specs.View.{within, items_to, fault, section_of, next_section, next_settings, layout_by_last, JobBytes, LayoutIs, job_at, mu_at, target_at, radius_at, budget_at, settings_at, settings_in, section_end}
use Rattle.definitions.proofs.JobSections.{length_items, section_short, section_wrong, section_cut, section_whole, settings_given, settings_default}

module _ (input : List ℕ) (right : ℕ → Bool) (offset : ℕ) where
  -- a whole section as the code knows it
  pub section_items : offset + 4 ≤ length input → {count : ℕ} → count ≡ number_at input offset 4 → right count ≡ true → section_end offset count ≤ length input → section_of (section input right offset) ≡ items_to count (section_end offset count)
  section_items long {count} is good fits = ap section_of (section_whole input right offset long is good fits) ∙ ap (λ (k : ℕ). items_to k (section_end offset count)) (length_items input (offset + 4) count)

  abbrev count : ℕ
  count = number_at input offset 4

  -- a section is a fault, or its count is right and it ends within the input
  pub section_elim : (P : D.Section → Type 0) → ((v : ℕ) → P (section_fault v)) → ((k : ℕ) → right k ≡ true → section_end offset k ≤ length input → P (items (items_at input (offset + 4) k) (section_end offset k))) → P (section input right offset)
  section_elim P bad good = short (ltb (length input) (offset + 4)) refl
    where
      cut : offset + 4 ≤ length input → right count ≡ true → (b : Bool) → ltb (length input) (section_end offset count) ≡ b → P (section input right offset)
      cut long ok true q = subst P (sym (section_cut input right offset long refl ok (ltb-true (length input) (section_end offset count) q))) (bad (length input))
      cut long ok false q = let fits = ltb-false (length input) (section_end offset count) q in subst P (sym (section_whole input right offset long refl ok fits)) (good count ok fits)

      wrong : offset + 4 ≤ length input → (b : Bool) → right count ≡ b → P (section input right offset)
      wrong long false q = subst P (sym (section_wrong input right offset long refl q)) (bad offset)
      wrong long true q = cut long q (ltb (length input) (section_end offset count)) refl

      short : (b : Bool) → ltb (length input) (offset + 4) ≡ b → P (section input right offset)
      short true q = subst P (sym (section_short input right offset (ltb-true (length input) (offset + 4) q))) (bad (length input))
      short false q = wrong (ltb-false (length input) (offset + 4) q) (right count) refl

-- only the count itself is within it and itself
pub within_one : (count k : ℕ) → eqb count k ≡ within count count k
within_one count k = from (leb count k) refl (leb k count) refl
  where
    from : (a : Bool) → leb count k ≡ a → (b : Bool) → leb k count ≡ b → eqb count k ≡ a && b
    from true p true q = let l = leb-true count k p in let m = leb-true k count q in let e : count ≡ k = omega (arith, l, m) in eq-eqb count k e
    from true p false q = let m = leb-false k count q in ne_eqb count k λ (e : count ≡ k). omega (arith, m, e)
    from false p b q = let l = leb-false count k p in ne_eqb count k λ (e : count ≡ k). omega (arith, l, e)

-- every count is at least 0
pub from_zero : (high k : ℕ) → within 0 high k ≡ leb k high
from_zero high k = ap (λ (b : Bool). b && leb k high) (leb-zero k)

pub at_most : (k : ℕ) → within 0 largest_dimension k ≡ true → k ≤ largest_dimension
at_most k right = leb-true k largest_dimension (sym (from_zero largest_dimension k) ∙ right)

-- a first section has at most so many items
abbrev pub Few : Result Section LayoutFault → Type 0
Few (Ok s) = s.count ≤ largest_dimension
Few (Err e) = Unit {0}

-- two readings of right counts that agree
pub section_same : (input : List ℕ) (p q : ℕ → Bool) (offset : ℕ) → ((k : ℕ) → p k ≡ q k) → section input p offset ≡ section input q offset
unfolding section
section_same input p q offset same =
    ap
    (λ (b : Bool). cond (ltb (length input) (offset + 4)) (section_fault (length input)) (cond b (cond (ltb (length input) (offset + 4 + 8 * number_at input offset 4)) (section_fault (length input)) (items (items_at input (offset + 4) (number_at input offset 4)) (offset + 4 + 8 * number_at input offset 4))) (section_fault offset)))
    (same (number_at input offset 4))

module _ (input : List ℕ) where
  -- a section by its count, then what follows it
  step : (count offset m : ℕ) (go : List ℕ → ℕ → D.Layout) (rest : Result Section LayoutFault → Result ℕ LayoutFault)
      → ((v : ℕ) → LayoutIs input (layout_fault v) (rest (fault v)))
      → (section_end offset count ≤ length input → LayoutIs input (go (items_at input (offset + 4) count) (section_end offset count)) (rest (items_to count (section_end offset count))))
      → LayoutIs input (and_then (section input (eqb count) offset) go) (rest (next_section input count (items_to m offset)))
  unfolding and_then
  step count offset m go rest bad good =
      section_elim input (eqb count) offset (λ (s : D.Section). LayoutIs input (and_then s go) (rest (section_of s))) bad λ k right fits.
      let same : count ≡ k = eqb-true count k right in
      subst
      (λ (k : ℕ). LayoutIs input (go (items_at input (offset + 4) k) (section_end offset k)) (rest (items_to (length (items_at input (offset + 4) k)) (section_end offset k))))
      same
      (subst
      (λ (j : ℕ). LayoutIs input (go (items_at input (offset + 4) count) (section_end offset count)) (rest (items_to j (section_end offset count))))
      (sym (length_items input (offset + 4) count))
      (good (omega (arith, fits, same))))

  -- the layout by its first section
  abbrev pub layout_from : Result Section LayoutFault → Result ℕ LayoutFault
  layout_from (Ok s) = layout_by_last input s.count (next_settings input (next_section input 1 (next_section input 1 (next_section input s.count (next_section input (triangle s.count) (Ok s))))))
  layout_from (Err e) = Err e

  abbrev settings_of : List ℕ → Settings
  settings_of xs = record { p = get_or xs 0 0; q = get_or xs 1 0; places = get_or xs 2 0 }

  pub settings_read_lem : (at : ℕ) → at < length input → {p q places : ℕ} → p ≡ number_at input (at + 4) 8 → q ≡ number_at input (at + 12) 8 → places ≡ number_at input (at + 20) 8 → record { p = p; q = q; places = places } ≡ settings_in input at
  settings_read_lem at more {p} {q} {places} a b c = simp (lt-ltb at (length input) more) (λ i. record { p = a i; q = b i; places = c i })

  given_settings : (at : ℕ) → at < length input → settings_in input at ≡ settings_of (items_at input (at + 4) 3)
  unfolding items_at
  given_settings at more =
      let second : at + 12 ≡ at + 4 + 8 = omega arith in
      let third : at + 20 ≡ at + 4 + 8 + 8 = omega arith in
      sym (settings_read_lem at more refl (ap (λ (o : ℕ). number_at input o 8) (sym second)) (ap (λ (o : ℕ). number_at input o 8) (sym third)))

  pub default_settings : (at : ℕ) → length input ≤ at → settings_in input at ≡ defaults
  default_settings at all = simp (le-ltb at (length input) all)

  -- what follows each section, by the items read so far: the specification's definition, taken apart
  module _ (n : ℕ) (weights : List ℕ) where
    abbrev after_settings : List ℕ → List ℕ → List ℕ → List ℕ → List ℕ → ℕ → D.Layout
    after_settings mu target radius budget settings end =
        cond (ltb end (length input)) (layout_fault end)
        (job
        (record {
          table = record { weights = doubles weights; mu = mu_rows n (doubles mu) n };
          target = doubles target;
          radius = of_bits binary64 (get_or radius 0 0);
          budget = get_or budget 0 0;
          settings = settings_of settings;
        }))

    abbrev after_budget : List ℕ → List ℕ → List ℕ → List ℕ → ℕ → D.Layout
    after_budget mu target radius budget at = and_then (settings_section input at) (after_settings mu target radius budget)

    abbrev after_radius : List ℕ → List ℕ → List ℕ → ℕ → D.Layout
    after_radius mu target radius at = and_then (section input (eqb 1) at) (after_budget mu target radius)

    abbrev after_target : List ℕ → List ℕ → ℕ → D.Layout
    after_target mu target at = and_then (section input (eqb 1) at) (after_radius mu target)

    abbrev after_mu : List ℕ → ℕ → D.Layout
    after_mu mu at = and_then (section input (eqb n) at) (after_target mu)

    abbrev after_weights : ℕ → D.Layout
    after_weights at = and_then (section input (eqb (triangle n)) at) after_mu

  module _ (n : ℕ) (few : n ≤ largest_dimension) where
    abbrev ws : List ℕ
    ws = items_at input (0 + 4) n

    abbrev mus : List ℕ
    mus = items_at input (mu_at n + 4) (triangle n)

    abbrev targets : List ℕ
    targets = items_at input (target_at n + 4) n

    abbrev radii : List ℕ
    radii = items_at input (radius_at n + 4) 1

    abbrev budgets : List ℕ
    budgets = items_at input (budget_at n + 4) 1

    last : (settings : List ℕ) (end : ℕ) → settings_in input (settings_at n) ≡ settings_of settings → end ≤ length input → (length input ≡ end → JobBytes input n)
        → LayoutIs input (after_settings n ws mus targets radii budgets settings end) (layout_by_last input n (items_to 3 end))
    unfolding items_at
    last settings end same fits bytes = by (ltb end (length input)) (λ q. let all = ltb-false end (length input) q in omega (arith, all, fits))
      where
        read : Settings → D.Job
        read s = record { table = (job_at input n).table; target = (job_at input n).target; radius = (job_at input n).radius; budget = (job_at input n).budget; settings = s }

        by : (b : Bool)
            → (b ≡ false → length input ≡ end)
            → LayoutIs input (cond b (layout_fault end) (job (read (settings_of settings)))) (cond b (fault end) (Ok n))
        by true all = record { means = refl; size = tt }
        by false all = record { means = ap (λ (s : Settings). job (read s)) same; size = bytes (all refl) }

    -- the settings, given or not
    settings_good : settings_at n ≤ length input → LayoutIs input (after_budget n ws mus targets radii budgets (settings_at n)) (layout_by_last input n (next_settings input (items_to 1 (settings_at n))))
    unfolding and_then
    settings_good fits = by (ltb (settings_at n) (length input)) refl
      where
        Good : D.Section → Type 0
        Good s = LayoutIs input (and_then s (after_settings n ws mus targets radii budgets)) (layout_by_last input n (section_of s))

        by : (b : Bool) → ltb (settings_at n) (length input) ≡ b → Good (settings_section input (settings_at n))
        by true q =
            let more = ltb-true (settings_at n) (length input) q in
            subst Good (sym (settings_given input (settings_at n) more))
            (step 3 (settings_at n) 1 (after_settings n ws mus targets radii budgets) (layout_by_last input n) (λ v. record { means = refl; size = tt }) λ whole.
            last (items_at input (settings_at n + 4) 3) (section_end (settings_at n) 3) (given_settings (settings_at n) more) whole (λ e. record { small = few; fits = fits; settings = λ _. whole }))
        by false q =
            let all = ltb-false (settings_at n) (length input) q in
            subst Good (sym (settings_default input (settings_at n) all))
            (last (defaults.p ∷ defaults.q ∷ defaults.places ∷ []) (settings_at n) (default_settings (settings_at n) all) fits (λ e. record { small = few; fits = fits; settings = λ less. absurd (omega (arith, less, all)) }))

    rest_good : LayoutIs input (after_weights n ws (mu_at n)) (layout_from (items_to n (mu_at n)))
    rest_good =
        step (triangle n) (mu_at n) n (after_mu n ws) (λ s. layout_by_last input n (next_settings input (next_section input 1 (next_section input 1 (next_section input n s))))) (λ v. record { means = refl; size = tt }) λ _.
        step n (target_at n) (triangle n) (after_target n ws mus) (λ s. layout_by_last input n (next_settings input (next_section input 1 (next_section input 1 s)))) (λ v. record { means = refl; size = tt }) λ _.
        step 1 (radius_at n) n (after_radius n ws mus targets) (λ s. layout_by_last input n (next_settings input (next_section input 1 s))) (λ v. record { means = refl; size = tt }) λ _.
        step 1 (budget_at n) 1 (after_budget n ws mus targets radii) (λ s. layout_by_last input n (next_settings input s)) (λ v. record { means = refl; size = tt }) settings_good

  -- what follows the weights
  abbrev onward : List ℕ → ℕ → D.Layout
  onward weights at = after_weights (length weights) weights at

  few_good : LayoutIs input (and_then (section input (within 0 largest_dimension) 0) onward) (layout_from (section_of (section input (within 0 largest_dimension) 0)))
  unfolding and_then
  few_good =
      section_elim input (within 0 largest_dimension) 0 (λ (s : D.Section). LayoutIs input (and_then s onward) (layout_from (section_of s))) (λ v. record { means = refl; size = tt }) λ k right fits.
      subst (λ (j : ℕ). LayoutIs input (after_weights j (items_at input (0 + 4) k) (mu_at k)) (layout_from (items_to j (mu_at k)))) (sym (length_items input (0 + 4) k)) (rest_good k (at_most k right))

  -- the code's layout is the specification's
  pub layout_good : LayoutIs input (D.job_of input) (layout_from (section_of (section input (within 0 largest_dimension) 0)))
  unfolding D.job_of
  layout_good =
      subst
      (λ (l : D.Layout). LayoutIs input l (layout_from (section_of (section input (within 0 largest_dimension) 0))))
      (ap (λ (s : D.Section). and_then s onward) (section_same input (within 0 largest_dimension) (λ (k : ℕ). leb k largest_dimension) 0 (from_zero largest_dimension)))
      few_good

  pub weights_few : Few (section_of (section input (within 0 largest_dimension) 0))
  weights_few =
      section_elim input (within 0 largest_dimension) 0 (λ (s : D.Section). Few (section_of s)) (λ v. tt) λ k right fits.
      subst (λ (j : ℕ). j ≤ largest_dimension) (sym (length_items input (0 + 4) k)) (at_most k right)

-- ---- the sections as the code reads them: each is what its reading gave, and the layout stands by what is read so far
module _ (input : List ℕ) where
  abbrev Stands : Result ℕ LayoutFault → Type 0
  Stands = LayoutIs input (D.job_of input)

  read_on : (rest : Result Section LayoutFault → Result ℕ LayoutFault) {x r y : Result Section LayoutFault} → Stands (rest x) → r ≡ x → r ≡ y → Stands (rest y)
  read_on rest good is was = subst (λ (s : Result Section LayoutFault). Stands (rest s)) (sym is ∙ was) good

  -- at the exit of a `?`
  pub handed_up : (r : Result ℕ LayoutFault) {e : LayoutFault} → IsErrAnd r (λ y. y ≡ e) → Stands (Err e) → Stands r
  handed_up r h good = let p = err_from_is_err_and r h in subst Stands (sym (p.1 ∙ ap Err p.2)) good

  pub weights_read : {r y : Result Section LayoutFault} → r ≡ section_of (section input (within 0 largest_dimension) 0) → r ≡ y → Stands (layout_from input y)
  weights_read = read_on (layout_from input) (layout_good input)

  module _ (n : ℕ) where
    abbrev by_budget : Result Section LayoutFault → Result ℕ LayoutFault
    by_budget s = layout_by_last input n (next_settings input s)

    abbrev by_radius : Result Section LayoutFault → Result ℕ LayoutFault
    by_radius s = by_budget (next_section input 1 s)

    abbrev by_target : Result Section LayoutFault → Result ℕ LayoutFault
    by_target s = by_radius (next_section input 1 s)

    abbrev by_mu : Result Section LayoutFault → Result ℕ LayoutFault
    by_mu s = by_target (next_section input n s)

  module _ {first : Result Section LayoutFault} {weights : Section} (first_is : first ≡ section_of (section input (within 0 largest_dimension) 0)) (first_was : first ≡ Ok weights) where
    abbrev size : ℕ
    size = weights.count

    pub size_few : size ≤ largest_dimension
    size_few = subst Few (sym first_is ∙ first_was) (weights_few input)

    module _ {entries : ℕ} (entries_is : entries ≡ triangle size) where
      pub mu_read : {r y : Result Section LayoutFault} → r ≡ section_of (section input (eqb entries) weights.end) → r ≡ y → Stands (by_mu size y)
      mu_read is was = read_on (by_mu size) (weights_read first_is first_was) (is ∙ ap (λ (k : ℕ). section_of (section input (eqb k) weights.end)) entries_is) was

      module _ {second : Result Section LayoutFault} {mu : Section} (second_is : second ≡ section_of (section input (eqb entries) weights.end)) (second_was : second ≡ Ok mu) where
        pub target_read : {r y : Result Section LayoutFault} → r ≡ section_of (section input (eqb size) mu.end) → r ≡ y → Stands (by_target size y)
        target_read = read_on (by_target size) (mu_read second_is second_was)

        module _ {third : Result Section LayoutFault} {target : Section} (third_is : third ≡ section_of (section input (eqb size) mu.end)) (third_was : third ≡ Ok target) where
          pub radius_read : {r y : Result Section LayoutFault} → r ≡ section_of (section input (eqb 1) target.end) → r ≡ y → Stands (by_radius size y)
          radius_read = read_on (by_radius size) (target_read third_is third_was)

          module _ {fourth : Result Section LayoutFault} {radius : Section} (fourth_is : fourth ≡ section_of (section input (eqb 1) target.end)) (fourth_was : fourth ≡ Ok radius) where
            pub budget_read : {r y : Result Section LayoutFault} → r ≡ section_of (section input (eqb 1) radius.end) → r ≡ y → Stands (by_budget size y)
            budget_read = read_on (by_budget size) (radius_read fourth_is fourth_was)

            module _ {fifth : Result Section LayoutFault} {budget : Section} (fifth_is : fifth ≡ section_of (section input (eqb 1) radius.end)) (fifth_was : fifth ≡ Ok budget) where
              pub settings_read : {r y : Result Section LayoutFault} → r ≡ section_of (settings_section input budget.end) → r ≡ y → Stands (layout_by_last input size y)
              settings_read = read_on (layout_by_last input size) (budget_read fifth_is fifth_was)

  pub left_over : (n : ℕ) (s : Section) → Stands (layout_by_last input n (Ok s)) → s.end < length input → Stands (fault s.end)
  left_over n s good more = subst (λ (b : Bool). Stands (cond b (fault s.end) (Ok n))) (lt-ltb s.end (length input) more) good

  pub nothing_left : (n : ℕ) (s : Section) → Stands (layout_by_last input n (Ok s)) → length input ≤ s.end → Stands (Ok n)
  nothing_left n s good all = subst (λ (b : Bool). Stands (cond b (fault s.end) (Ok n))) (le-ltb s.end (length input) all) good

-- What `list` promises: every admitted vector once, nothing else, in the list's order; and by the numbers of opened prefixes and admitted vectors, whether it is a list, 15 or 18. Assumes nothing.
use mathlib.Core.Path.{◌≡◌, refl, sym, ap, ◌∙◌, subst}
use mathlib.Core.Logic.{inl, inr}
use Prim.Native.Nat.{ℕ, suc, ◌≤◌, ◌<◌}
use native.Mathlib.Nat.{not-le_of_lt}
use native.Mathlib.Omega.{arith}
use borrow.Author.Tests.{ltb-true, ltb-false}
use mathlib.Core.Bool.{Bool, true, false}
use mathlib.Core.List.{List, [], ◌∷◌}
use lib.Dec.{ltb}
use lib.ListN.{length}
use lib.Ieee.{Float, binary64}
use Rattle.rounding.specs.Kinds.{NonNegative}
use Rattle.definitions.specs.Table.{Table}
use Rattle.definitions.specs.Admitted.{admitted}
use Rattle.definitions.specs.Walk.{Walked, ended, exhausted}
use Rattle.definitions.specs.Listing.{ListPoint, list_walk}
use Rattle.definitions.specs.Running.{list_search}
use Rattle.definitions.specs.Refusals.{Refusal, whole, real, budget_exhausted, list_full}
use Rattle.definitions.specs.Calls.{Answer, found, refused, ListAnswer, end_of_list}
use Rattle.definitions.proofs.Answers.{found≢refused, refused_same, by_dimension, list_search_small, list_search_large, list_exhausted, list_full_lem, list_sorted, list_walked}
use Rattle.theorems.specs.Ordered.{vectors_of, StrictlyOrdered}
use Rattle.theorems.specs.Prefixes.{opened_prefixes, admitted_vectors}
use Rattle.theorems.specs.Answers.{Listed, NoMinusZero}
use Rattle.theorems.specs.Promises.{ListNumbers}
use Rattle.theorems.proofs.Counts.{same_length}
use Rattle.theorems.proofs.Prefixes.{admitted_once}
use Rattle.theorems.proofs.Unbudgeted.{Agrees}
use Rattle.theorems.proofs.Listing.{add_all, stands, list_exact, list_agrees_prefixes}
use Rattle.theorems.proofs.Sorting as S
use Rattle.theorems.proofs.Standing.{list_radius}
use Rattle.theorems.proofs.RunningLists.{running_list_radius}
use Rattle.theorems.proofs.MinusZero.{a_whole, one_whole, one_double}
use Rattle.theorems.proofs.SearchCalls.{Ready, number_of_prefixes, plus_sign}

vectors_length : (ps : List ListPoint) → length (vectors_of ps) ≡ length ps
vectors_length [] = refl
vectors_length (p ∷ ps) = ap suc (vectors_length ps)

-- ---- refusals that are the same, or not
spent_same : {j m : ℕ} {R S : Float} → budget_exhausted j R ≡ budget_exhausted m S → (m ≡ j) × (S ≡ R)
spent_same {j} {m} {R} {S} p = let v : (whole j ∷ real R ∷ []) ≡ (whole m ∷ real S ∷ []) = ap (λ (r : Refusal). r.values) p in (cc, cc)

full_same : {j k : ℕ} → list_full j ≡ list_full k → k ≡ j
full_same {j} {k} p = let v : (whole j ∷ []) ≡ (whole k ∷ []) = ap (λ (r : Refusal). r.values) p in cc

not_both : {j k : ℕ} {R : Float} → budget_exhausted j R ≡ list_full k → ⊥
not_both {j} {k} {R} p = let n : ◌≡◌ {A = ℕ} 15 18 = ap (λ (r : Refusal). r.number) p in omega (arith, n)

-- ---- any call that is the end of a list walk whose radius stays
-- 15 carries R and 18 no double, so neither carries minus zero
pub list_no_minus_zero : {R : Float} → NonNegative binary64 R → (places : ℕ) (w : Walked (List ListPoint)) → ((m : ℕ) (S : Float) → w ≡ exhausted m S → S ≡ R) → (e : Refusal) → end_of_list places w ≡ refused e → NoMinusZero e
list_no_minus_zero nonneg places (exhausted m S) radius e q = subst NoMinusZero (refused_same (sym (list_exhausted places m S) ∙ q)) (a_whole (one_double (plus_sign nonneg (radius m S refl))))
list_no_minus_zero nonneg places (ended ps S m) radius e q = go (ltb places (length ps)) refl
  where
    go : (b : Bool) → ltb places (length ps) ≡ b → NoMinusZero e
    go true full = subst NoMinusZero (refused_same (sym (list_full_lem places ps S m full) ∙ q)) one_whole
    go false room = absurd (found≢refused (sym (list_sorted places ps S m room) ∙ q))

-- the radius of a list stays, whatever n
pub list_search_radius : {t : Table} {target : List Float} {R : Float} → Ready t target R → (budget m : ℕ) (S : Float) → list_search t target R budget ≡ exhausted m S → S ≡ R
list_search_radius {t} {target} {R} r budget m S e = elim (by_dimension t) [
  | inl small ↦ list_radius t target R budget m S (sym (list_search_small t target R budget small) ∙ e)
  | inr large ↦ running_list_radius t target r.limits R r.finite r.nonneg budget m S (sym (list_search_large t target R budget large) ∙ e)
]

-- ---- any call that is the end of the list walk
module _ {t : Table} {target : List Float} {R : Float} (ready : Ready t target R) (budget places : ℕ) {answer : Answer ListAnswer} (is : answer ≡ end_of_list places (list_walk t target R budget)) where
  -- a list has every admitted vector once, nothing else, in the list's order; its nodes are as many as the opened prefixes
  pub list_found : (a : ListAnswer) → answer ≡ found a → Listed t target R a.points a.nodes × StrictlyOrdered a.points
  list_found a q =
      let w = list_walked places (list_walk t target R budget) a (sym is ∙ q) in
      subst (λ (ps : List ListPoint). Listed t target R ps a.nodes × StrictlyOrdered ps) (sym w.3)
      (S.list_sorted t target ready.limits R ready.finite ready.plus budget w.0 w.1 a.nodes w.2)

  abbrev prefixes : ℕ
  prefixes = length (opened_prefixes t target R)

  abbrev vectors : ℕ
  vectors = length (admitted_vectors t target R)

  -- how it ends
  data Ends : Type 0 where
    spends : budget < prefixes → answer ≡ refused (budget_exhausted budget R) → Ends
    fills : prefixes ≤ budget → places < vectors → answer ≡ refused (list_full vectors) → Ends
    lists : prefixes ≤ budget → vectors ≤ places → (a : ListAnswer) → answer ≡ found a → Ends

  ends : Agrees budget (stands t target R (add_all t target R (admitted_vectors t target R) []) prefixes) (list_walk t target R budget) → Ends
  ends (inr (few, S, w)) = spends few (is ∙ ap (end_of_list places) (w ∙ ap (exhausted budget) (list_radius t target R budget budget S w)) ∙ list_exhausted places budget R)
  ends (inl (enough, w)) = go (ltb places (length ps)) refl
    where
      ps : List ListPoint
      ps = add_all t target R (admitted_vectors t target R) []

      all : length ps ≡ vectors
      all = sym (vectors_length ps) ∙ same_length (admitted t target R) (vectors_of ps) (admitted_vectors t target R) (list_exact t target ready.limits R ready.finite ready.plus budget ps R prefixes w).exact (admitted_once t target ready.limits R ready.finite ready.plus)

      go : (b : Bool) → ltb places (length ps) ≡ b → Ends
      go true h = fills enough (subst (λ (k : ℕ). places < k) all (ltb-true places (length ps) h)) (is ∙ ap (end_of_list places) w ∙ list_full_lem places ps R prefixes h ∙ ap (λ (k : ℕ). refused (list_full k)) all)
      go false h = lists enough (subst (λ (k : ℕ). k ≤ places) all (ltb-false places (length ps) h)) _ (is ∙ ap (end_of_list places) w ∙ list_sorted places ps R prefixes h)

  pub list_numbers : ListNumbers t target R budget places answer
  list_numbers =
      record {
        prefixes = prefixes;
        opened_number = number_of_prefixes ready;
        vectors = vectors;
        admitted_number = record { all = admitted_vectors t target R; once = admitted_once t target ready.limits R ready.finite ready.plus; long = refl };
        gives_list = (λ x. room_there e x.0 x.1, room_back e);
        gives_18 = λ k. (full_there e k, full_back e k);
        gives_15 = λ m S. (spent_there e m S, spent_back e m S);
      }
    where
      e : Ends
      e = ends (list_agrees_prefixes t target R budget)

      room_there : Ends → (a : ListAnswer) → answer ≡ found a → (prefixes ≤ budget) × (vectors ≤ places)
      room_there (spends h q) a r = absurd (found≢refused (sym r ∙ q))
      room_there (fills h l q) a r = absurd (found≢refused (sym r ∙ q))
      room_there (lists h l b q) a r = (h, l)

      room_back : Ends → (prefixes ≤ budget) × (vectors ≤ places) → (a : ListAnswer) × (answer ≡ found a)
      room_back (spends h q) (i, j) = absurd (not-le_of_lt h i)
      room_back (fills h l q) (i, j) = absurd (not-le_of_lt l j)
      room_back (lists h l a q) (i, j) = (a, q)

      full_there : Ends → (k : ℕ) → answer ≡ refused (list_full k) → (prefixes ≤ budget) × (places < vectors) × (k ≡ vectors)
      full_there (spends h q) k r = absurd (not_both (refused_same (sym q ∙ r)))
      full_there (fills h l q) k r = (h, l, full_same (refused_same (sym q ∙ r)))
      full_there (lists h l a q) k r = absurd (found≢refused (sym q ∙ r))

      full_back : Ends → (k : ℕ) → (prefixes ≤ budget) × (places < vectors) × (k ≡ vectors) → answer ≡ refused (list_full k)
      full_back (spends h q) k (i, j, s) = absurd (not-le_of_lt h i)
      full_back (fills h l q) k (i, j, s) = q ∙ ap (λ (n : ℕ). refused (list_full n)) (sym s)
      full_back (lists h l a q) k (i, j, s) = absurd (not-le_of_lt j l)

      spent_there : Ends → (m : ℕ) (S : Float) → answer ≡ refused (budget_exhausted m S) → (budget < prefixes) × (m ≡ budget) × (S ≡ R)
      spent_there (spends h q) m S r = let s = spent_same (refused_same (sym q ∙ r)) in (h, s.0, s.1)
      spent_there (fills h l q) m S r = absurd (not_both (refused_same (sym r ∙ q)))
      spent_there (lists h l a q) m S r = absurd (found≢refused (sym q ∙ r))

      spent_back : Ends → (m : ℕ) (S : Float) → (budget < prefixes) × (m ≡ budget) × (S ≡ R) → answer ≡ refused (budget_exhausted m S)
      spent_back (spends h q) m S (i, j, s) = q ∙ ap (λ (n : ℕ). refused (budget_exhausted n R)) (sym j) ∙ ap (λ (x : Float). refused (budget_exhausted m x)) (sym s)
      spent_back (fills h l q) m S (i, j, s) = absurd (not-le_of_lt i h)
      spent_back (lists h l a q) m S (i, j, s) = absurd (not-le_of_lt i h)

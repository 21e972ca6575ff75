-- `turn`: its answer and what it writes. A point has the n coordinates of its search and goes to the first n places; a refusal leaves them. Assumes nothing.
use mathlib.Core.Path.{◌≡◌, refl, sym, ap, ◌∙◌, subst}
use mathlib.Core.Bool.{Bool, true, false, cond}
use mathlib.Core.List.{List, [], ◌++◌}
use mathlib.Core.Logic.{inl, ⊎_elim}
use Prim.Native.Nat.{ℕ}
use lib.ListN.{length, take, drop}
use lib.Seq.{take_at}
use lib.IntN.{ℤ}
use Rattle.definitions.specs.Table.{dimension}
use Rattle.definitions.specs.Walk.{Walked, ended}
use Rattle.definitions.specs.Nearest.{Best, best}
use Rattle.definitions.specs.Machine.{outcome_of}
use Rattle.definitions.specs.Refusals.{Refusal, budget_exhausted}
use Rattle.definitions.specs.Checks.{Verdict}
use Rattle.definitions.specs.Calls.{Answer, found, refused, NearestPoint, nearest_output}
use Rattle.definitions.specs.Kept.{Held, holds, further, answer_of}
use Rattle.definitions.specs.Block.{Block, part_of, slot_in}
use Rattle.definitions.specs.Turn.{served, passes, slice_answer, checks_of_turn, turn, turn_output}
use Rattle.definitions.proofs.Answers.{found≢refused, refused_same, output_found, output_refused}
use Rattle.definitions.proofs.Turn.{turn_output_found, turn_output_refused}
use Rattle.theorems.specs.Refusals.{NoneFits}
use Rattle.theorems.specs.Answers.{Under, Demand1}
use Rattle.theorems.specs.Kept.{IsName, IsBlock}
use Rattle.theorems.proofs.FirstRefusal.{decision, numbers_apart}
use Rattle.theorems.proofs.RefusedCalls.{demand_apart, nearest_own_numbers}
use Rattle.theorems.proofs.Endings.{point_walked}
use Rattle.theorems.proofs.KeptWalks.{BestFits, WalkFits, run_fits}
use Rattle.theorems.proofs.SoundParts.{part_fits}
use Rattle.theorems.proofs.KeptSearches.{outcome_over, answer_going, over_or_going}
use Rattle.theorems.proofs.PickUpCalls.{slot_holds, slot_sound, picked_goes_on}
use Rattle.theorems.proofs.TurnChecks.{turn_numbered, turn_accepts, turn_next}
use Rattle.theorems.proofs.TurnCalls.{turned_n, turned_answer, turned_as_pick_up, turned_past, within_or_past}

-- ---- how many coordinates a point has
answer_length : (h : Held) → WalkFits h.table h.walk → (a : NearestPoint) → answer_of h ≡ found a → length a.point ≡ dimension h.table
answer_length h w a q = ⊎_elim over (λ g. absurd (found≢refused (sym q ∙ answer_going h g))) (over_or_going h)
  where
    over : h.walk.stack ≡ [] → length a.point ≡ dimension h.table
    over e =
        let r : ◌≡◌ {A = Walked Best} (ended h.walk.kept h.walk.standing h.walk.nodes) (ended (best a.point) a.distance a.nodes) = sym (outcome_over h e) ∙ point_walked h.radius (outcome_of h.walk) a q in
        let same : h.walk.kept ≡ best a.point = cc in
        subst (BestFits h.table) same w.best_fits

-- of a search that was held, whoever wrote the block
further_length : (b : Block) (name : ℕ) → IsName name → IsBlock b → (h : Held) → slot_in b name ≡ holds h → (budget : ℕ) (a : NearestPoint) → answer_of (further h budget) ≡ found a → length a.point ≡ dimension h.table
further_length b name i k h held budget a q =
    let p = part_of b name in
    let w = subst (λ (x : Held). WalkFits x.table x.walk) (slot_holds p h held).1 (part_fits p (slot_sound b name i k h held)) in
    answer_length (further h budget) (run_fits h.table h.target budget h.walk w) a q

-- ---- the output at exit
turn_unchanged : (answer : Answer NearestPoint) (out : List ℤ) (e : Refusal) → answer ≡ refused e → turn_output answer out ≡ out
turn_unchanged answer out e q = ap (λ (a : Answer NearestPoint). turn_output a out) q ∙ turn_output_refused e out

-- if a point has n coordinates, its first n places are what a search of n levels leaves of them
first_places : (answer : Answer NearestPoint) (out : List ℤ) (n : ℕ) → ((a : NearestPoint) → answer ≡ found a → length a.point ≡ n) → take n (turn_output answer out) ≡ nearest_output answer (take n out)
first_places (found a) out n l = ap (take n) (turn_output_found a out) ∙ take_at a.point (drop (length a.point) out) n (l a refl) ∙ sym (output_found a (take n out))
first_places (refused e) out n l = ap (take n) (turn_output_refused e out) ∙ sym (output_refused e (take n out))

module _ (b : Block) (last : ℕ) (out : List ℤ) (slice : ℕ) where
  abbrev asked : List Verdict
  asked = checks_of_turn b last out slice

  abbrev told : Answer NearestPoint
  told = (turn b last out slice).answer

  -- once the checks have passed, the walk's own refusals alone are left, and 15 past the limit
  own_numbers : NoneFits asked → (e : Refusal) → slice_answer slice (slot_in b (served b last)) ≡ refused e → Under 15 16 e
  own_numbers f e q = let (h, held) = (turn_next b last out slice f).held in go h (passes h slice) (sym (ap (slice_answer slice) held) ∙ q)
    where
      go : (h : Held) (c : Bool) → cond c (refused (budget_exhausted h.walk.nodes h.walk.standing)) (answer_of (further h slice)) ≡ refused e → Under 15 16 e
      go h true q = inl (ap (λ (r : Refusal). r.number) (sym (refused_same q)))
      go h false q = nearest_own_numbers h.radius (outcome_of (further h slice).walk) e q

  pub turned_demand : Demand1 asked 15 16 told (turn_output told out ≡ out)
  turned_demand = demand_apart (numbers_apart 15 16 (turn_numbered b last out slice) tt) own_numbers (turned_answer b last out slice) (turn_unchanged told out) (decision asked)

  module _ (f : NoneFits asked) (h : Held) (held : slot_in b (served b last) ≡ holds h) where
    pub turned_point : (a : NearestPoint) → told ≡ found a → length a.point ≡ dimension h.table
    turned_point a q =
        ⊎_elim
        (λ l. let s = turned_as_pick_up b last out slice f h held l in further_length b (served b last) (turn_next b last out slice f).is_name ((turn_accepts b last out slice).0 f).is_block h held slice a (sym (s.0 ∙ picked_goes_on b (served b last) (take (dimension h.table) out) slice s.2 h held) ∙ q))
        (λ l. absurd (found≢refused (sym q ∙ (turned_past b last out slice f h held l).0)))
        (within_or_past b last out slice f h held)

    pub turned_first : take (dimension h.table) (turn_output told out) ≡ nearest_output told (take (dimension h.table) out)
    turned_first = first_places told out (dimension h.table) turned_point

  pub turned_writes : (a : NearestPoint) → told ≡ found a → (length a.point ≡ (turn b last out slice).n) × (turn_output told out ≡ a.point ++ drop (turn b last out slice).n out)
  turned_writes a q = (l, ap (λ (x : Answer NearestPoint). turn_output x out) q ∙ turn_output_found a out ∙ ap (λ (n : ℕ). a.point ++ drop n out) l)
    where
      l : length a.point ≡ (turn b last out slice).n
      l =
          let f = turned_demand.answers.1 (inl (a, q)) in
          let (h, held) = (turn_next b last out slice f).held in
          turned_point f h held a q ∙ sym (turned_n b last out slice f h held)

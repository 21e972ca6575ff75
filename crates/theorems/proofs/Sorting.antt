-- Sorting changes only the order of the points, and puts those of a list walk strictly in the list's order. Assumes nothing.
use mathlib.Core.Path.{◌≡◌, refl, sym, ap, ◌∙◌, subst}
use mathlib.Core.Logic.{◌⊎◌, inl, inr}
use Prim.Native.Nat.{ℕ, suc, ◌+◌, ◌≤◌, ◌<◌}
use native.Mathlib.Nat.{add_left_comm, le_trans, le_of_eq, le-add_left, suc-ne-zero}
use native.Mathlib.Omega.{arith}
use mathlib.Core.Bool.{Bool, true, false, not, cond}
use mathlib.Core.List.{List, [], ◌∷◌}
use lib.Dec.{T}
use lib.ListN.{length}
use lib.IntN.{ℤ}
use lib.Ieee.{Float, binary64, lt}
use Rattle.rounding.specs.Kinds.{NonNegative, Finite}
use Rattle.definitions.specs.Table.{Table, dimension, plus_zero}
use Rattle.definitions.specs.Distance.{distance}
use Rattle.definitions.specs.Admitted.{is_vector, admitted}
use Rattle.definitions.specs.Walk.{ended}
use Rattle.definitions.specs.Listing.{ListPoint, list_walk, listed_before, insert, sorted}
use Rattle.definitions.proofs.Admissions.{vector_length, admitted_vector}
use Rattle.definitions.proofs.Leaves.{insert_nil, insert_cons, sorted_nil, sorted_cons}
use Rattle.theorems.specs.Counting.{same_vector, tally, count}
use Rattle.theorems.specs.Ordered.{vectors_of, OwnDistances, BeforeAll, StrictlyOrdered}
use Rattle.theorems.proofs.Booleans.{tally_most, tally_some, of_true, refuted, to_true}
use Rattle.theorems.proofs.Limits.{Limits}
use Rattle.theorems.proofs.Sums.{distance_nonneg}
use Rattle.theorems.proofs.Counts.{same_vector_refl, count_head}
use Rattle.definitions.proofs.ListedOrder.{Listed as Comparable}
use Rattle.theorems.proofs.Orders.{listed_trans, listed_total}
use Rattle.theorems.specs.Answers.{Listed}
use Rattle.theorems.proofs.Listing.{list_exact}

-- ---- what holds of every point holds after sorting
abbrev pub Every : (ListPoint → Type 0) → List ListPoint → Type 0
Every P [] = Unit {0}
Every P (a ∷ rest) = P a × Every P rest

module _ (P : ListPoint → Type 0) where
  every_insert : (a : ListPoint) (bs : List ListPoint) → P a → Every P bs → Every P (insert a bs)
  every_insert a [] p h = subst (Every P) (sym (insert_nil a)) (p, tt)
  every_insert a (b ∷ bs) p h = subst (Every P) (sym (insert_cons a b bs)) (go (listed_before a b) (every_insert a bs p h.1))
    where
      go : (x : Bool) → Every P (insert a bs) → Every P (cond x (a ∷ b ∷ bs) (b ∷ insert a bs))
      go true r = (p, h)
      go false r = (h.0, r)

  pub every_sorted : (ps : List ListPoint) → Every P ps → Every P (sorted ps)
  every_sorted [] h = subst (Every P) (sym sorted_nil) tt
  every_sorted (a ∷ ps) h = subst (Every P) (sym (sorted_cons a ps)) (every_insert a (sorted ps) h.0 (every_sorted ps h.1))

-- ---- only the order changes
insert_count : (x : List ℤ) (a : ListPoint) (bs : List ListPoint) → count x (vectors_of (insert a bs)) ≡ tally (same_vector x a.point) + count x (vectors_of bs)
insert_count x a [] = ap (λ (l : List ListPoint). count x (vectors_of l)) (insert_nil a)
insert_count x a (b ∷ bs) = ap (λ (l : List ListPoint). count x (vectors_of l)) (insert_cons a b bs) ∙ go (listed_before a b) (insert_count x a bs)
  where
    go : (y : Bool) → count x (vectors_of (insert a bs)) ≡ tally (same_vector x a.point) + count x (vectors_of bs) → count x (vectors_of (cond y (a ∷ b ∷ bs) (b ∷ insert a bs))) ≡ tally (same_vector x a.point) + (tally (same_vector x b.point) + count x (vectors_of bs))
    go true h = refl
    go false h = ap (λ (k : ℕ). tally (same_vector x b.point) + k) h ∙ add_left_comm (tally (same_vector x b.point)) (tally (same_vector x a.point)) (count x (vectors_of bs))

-- there are as many points
insert_length : (a : ListPoint) (bs : List ListPoint) → length (insert a bs) ≡ suc (length bs)
insert_length a [] = ap (λ (l : List ListPoint). length l) (insert_nil a)
insert_length a (b ∷ bs) = ap (λ (l : List ListPoint). length l) (insert_cons a b bs) ∙ go (listed_before a b) (insert_length a bs)
  where
    go : (x : Bool) → length (insert a bs) ≡ suc (length bs) → length (cond x (a ∷ b ∷ bs) (b ∷ insert a bs)) ≡ suc (suc (length bs))
    go true h = refl
    go false h = ap suc h

pub sorted_length : (ps : List ListPoint) → length (sorted ps) ≡ length ps
sorted_length [] = ap (λ (l : List ListPoint). length l) sorted_nil
sorted_length (a ∷ ps) = ap (λ (l : List ListPoint). length l) (sorted_cons a ps) ∙ insert_length a (sorted ps) ∙ ap suc (sorted_length ps)

-- each vector stands as often in the sorted list
pub sorted_count : (x : List ℤ) (ps : List ListPoint) → count x (vectors_of (sorted ps)) ≡ count x (vectors_of ps)
sorted_count x [] = ap (λ (l : List ListPoint). count x (vectors_of l)) sorted_nil
sorted_count x (a ∷ ps) = ap (λ (l : List ListPoint). count x (vectors_of l)) (sorted_cons a ps) ∙ insert_count x a (sorted ps) ∙ ap (λ (k : ℕ). tally (same_vector x a.point) + k) (sorted_count x ps)

-- each point keeps its own distance
own_every : (t : Table) (target : List Float) (ps : List ListPoint) → OwnDistances t target ps → Every (λ a. a.distance ≡ distance t target a.point) ps
own_every t target [] o = tt
own_every t target (a ∷ ps) o = (o.0, own_every t target ps o.1)

every_own : (t : Table) (target : List Float) (ps : List ListPoint) → Every (λ a. a.distance ≡ distance t target a.point) ps → OwnDistances t target ps
every_own t target [] h = tt
every_own t target (a ∷ ps) h = (h.0, every_own t target ps h.1)

pub sorted_own : (t : Table) (target : List Float) (ps : List ListPoint) → OwnDistances t target ps → OwnDistances t target (sorted ps)
sorted_own t target ps o = every_own t target (sorted ps) (every_sorted (λ a. a.distance ≡ distance t target a.point) ps (own_every t target ps o))

-- ---- strictly in order, if no vector stands twice
module _ (n : ℕ) where
  before_insert : (x a : ListPoint) (bs : List ListPoint) → T (listed_before x a) → BeforeAll x bs → BeforeAll x (insert a bs)
  before_insert x a [] h k = subst (BeforeAll x) (sym (insert_nil a)) (h, tt)
  before_insert x a (b ∷ bs) h k = subst (BeforeAll x) (sym (insert_cons a b bs)) (go (listed_before a b) (before_insert x a bs h k.1))
    where
      go : (y : Bool) → BeforeAll x (insert a bs) → BeforeAll x (cond y (a ∷ b ∷ bs) (b ∷ insert a bs))
      go true r = (h, k)
      go false r = (k.0, r)

  before_trans : (a b : ListPoint) (cs : List ListPoint) → Comparable n a → Comparable n b → Every (Comparable n) cs → T (listed_before a b) → BeforeAll b cs → BeforeAll a cs
  before_trans a b [] p q r h k = tt
  before_trans a b (c ∷ cs) p q r h k = (listed_trans n a b c p q r.0 h k.0, before_trans a b cs p q r.1 h k.1)

  insert_ordered : (a : ListPoint) (bs : List ListPoint) → Comparable n a → Every (Comparable n) bs → count a.point (vectors_of bs) ≡ 0 → StrictlyOrdered bs → StrictlyOrdered (insert a bs)
  insert_ordered a [] p q z h = subst StrictlyOrdered (sym (insert_nil a)) (tt, tt)
  insert_ordered a (b ∷ bs) p q z h = subst StrictlyOrdered (sym (insert_cons a b bs)) (go (listed_before a b) refl (insert_ordered a bs p q.1 (rest (tally (same_vector a.point b.point)) (count a.point (vectors_of bs)) z) h.1))
    where
      rest : (i j : ℕ) → i + j ≡ 0 → j ≡ 0
      rest i j e = omega arith

      first : (i j : ℕ) → i + j ≡ 0 → i ≡ 0
      first i j e = omega arith

      differ : a.point ≡ b.point → ⊥
      differ e = suc-ne-zero 0 (sym (ap tally (to_true (same_vector a.point b.point) (subst (λ (x : List ℤ). T (same_vector a.point x)) e (same_vector_refl a.point)))) ∙ first (tally (same_vector a.point b.point)) (count a.point (vectors_of bs)) z)

      after : listed_before a b ≡ false → T (listed_before a b) ⊎ T (listed_before b a) → T (listed_before b a)
      after e (inl l) = absurd (refuted e l)
      after e (inr l) = l

      go : (y : Bool) → listed_before a b ≡ y → StrictlyOrdered (insert a bs) → StrictlyOrdered (cond y (a ∷ b ∷ bs) (b ∷ insert a bs))
      go true e r = ((of_true e, before_trans a b bs p q.0 q.1 (of_true e) h.0), h)
      go false e r = (before_insert b a bs (after e (listed_total n a b p q.0 differ)) h.0, r)

  pub sorted_ordered : (ps : List ListPoint) → Every (Comparable n) ps → ((x : List ℤ) → count x (vectors_of ps) ≤ 1) → StrictlyOrdered (sorted ps)
  sorted_ordered [] q u = subst StrictlyOrdered (sym sorted_nil) tt
  sorted_ordered (a ∷ ps) q u =
      subst StrictlyOrdered (sym (sorted_cons a ps))
      (insert_ordered a (sorted ps) q.0 (every_sorted (Comparable n) ps q.1) (sorted_count a.point ps ∙ alone (same_vector a.point a.point) (same_vector_refl a.point) (u a.point))
      (sorted_ordered ps q.1 (λ x. le_trans (le-add_left (count x (vectors_of ps)) (tally (same_vector x a.point))) (u x))))
    where
      alone : (b : Bool) → T b → tally b + count a.point (vectors_of ps) ≤ 1 → count a.point (vectors_of ps) ≡ 0
      alone true t h = omega arith
      alone false t h = absurd t

-- ---- the theorem
module _ (t : Table) (target : List Float) (limits : Limits t target) where
  -- points whose vectors are of the table are comparable in the list's order
  pub comparable : (ps : List ListPoint) → OwnDistances t target ps → ((x : List ℤ) → 0 < count x (vectors_of ps) → T (is_vector t x)) → Every (Comparable (dimension t)) ps
  comparable [] o v = tt
  comparable (a ∷ ps) o v =
      let vector : T (is_vector t a.point) = v a.point (count_head a.point (vectors_of ps)) in (
        record { distance = subst (NonNegative binary64) (sym o.0) (distance_nonneg t target limits a.point vector); coordinates = vector_length t a.point vector },
        comparable ps o.1 (λ x h. v x (le_trans h (le-add_left (count x (vectors_of ps)) (tally (same_vector x a.point))))),
      )

-- what stands in a list of the admitted vectors is a vector
pub listed_vector : {t : Table} {target : List Float} {R : Float} {ps : List ListPoint} {m : ℕ} → Listed t target R ps m → (x : List ℤ) → 0 < count x (vectors_of ps) → T (is_vector t x)
listed_vector {t} {target} {R} l x h = admitted_vector t target R x (tally_some (admitted t target R x) (subst (λ (k : ℕ). 0 < k) (l.exact x) h))

module _ (t : Table) (target : List Float) (limits : Limits t target) (R : Float) (finite : Finite binary64 R) (plus : T (not (lt R plus_zero))) where
  -- the list in its order: every admitted vector once, nothing else, each with its own distance, strictly in the list's order
  pub list_sorted : (budget : ℕ) (found : List ListPoint) (S : Float) (m : ℕ) → list_walk t target R budget ≡ ended found S m → Listed t target R (sorted found) m × StrictlyOrdered (sorted found)
  list_sorted budget found S m e =
      let l = list_exact t target limits R finite plus budget found S m e in (
        record { exact = λ x. sorted_count x found ∙ l.exact x; own = sorted_own t target found l.own; nodes = l.nodes },
        sorted_ordered (dimension t) found
            (comparable t target limits found l.own (listed_vector l))
            (λ x. le_trans (le_of_eq (l.exact x)) (tally_most (admitted t target R x))),
      )

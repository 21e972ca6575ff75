-- What a machine stands for at a budget: the recursive walk's levels that are still open, the lowest first. A step changes nothing of it. Assumes nothing.
use mathlib.Core.Path.{◌≡◌, refl, sym, ap, ◌∙◌, subst}
use Prim.Native.Nat.{ℕ, zero, suc, ◌≤◌, ◌<◌}
use native.Mathlib.Nat.{le_refl}
use native.Mathlib.Omega.{arith}
use mathlib.Core.Bool.{Bool, true, false, cond}
use mathlib.Core.List.{List, [], ◌∷◌}
use lib.IntN.{ℤ}
use lib.Ieee.{Float, binary64, add, sub, le}
use borrow.Author.Tests.{lt-leb, le-leb}
use Rattle.definitions.specs.Table.{Table, weight}
use Rattle.definitions.specs.Distance.{term, center}
use Rattle.definitions.specs.Zigzag.{Next, child, none, Start, open_level, no_children, start, next}
use Rattle.definitions.specs.Walk.{Walked, ended, exhausted, Descent, still, visit, descend_if, try_children, try_level, walk}
use Rattle.definitions.specs.Nearest.{Best, best, replaces, consider}
use Rattle.definitions.proofs.Leaves.{consider_is}
use Rattle.definitions.proofs.Turns.{visit_exhausted, visit_counted, descends, prunes, children_exhausted, children_none, children_child, level_closed, level_open, enter_ended, leaf_ended, walk_leaf, walk_level}
use Rattle.definitions.proofs.Fuel.{NoFewer, Counting, walk_counts, fuel_is_enough}
use Rattle.definitions.specs.Machine.{Frame, Machine, push, opened, best_after, standing_after, descend, visited, advance}
use Rattle.definitions.proofs.Machine.{push_child, push_none, opened_open, opened_closed, descend_leaf, descend_level, visited_true, visited_false, advance_child}

-- a leaf of the walk is the machine's: it never ends the walk, and counts no node
consider_leaf : (zs : List ℤ) (d : Float) (k : Best) (S : Float) (m : ℕ) → consider zs d k S m ≡ ended (best_after zs d k S) (standing_after zs d k S) m
consider_leaf zs d k S m = consider_is zs d k S m ∙ go (replaces zs d k S)
  where
    go : (b : Bool) → cond b (ended (best zs) d m) (ended k S m) ≡ ended (cond b (best zs) k) (cond b d S) m
    go true = refl
    go false = refl

module _ (t : Table) (target : List Float) (budget : ℕ) where
  -- a level of the recursive walk, from what its zigzag gives next
  abbrev children : ℕ → List ℤ → Float → Float → Next → Walked Best → Walked Best
  children level zs p c x w = try_children consider (still (center t target)) t budget (walk consider (still (center t target)) t budget level) level zs p c (suc budget) x w

  -- the open levels in turn
  unfoldable pub resume : List Frame → Walked Best → Walked Best
  resume [] w = w
  resume (f ∷ fs) w = resume fs (children f.level f.above f.partial f.center (child f.waiting f.generator) w)

  pub resume_nil : (w : Walked Best) → resume [] w ≡ w
  unfolding resume
  resume_nil w = refl

  pub resume_cons : (f : Frame) (fs : List Frame) (w : Walked Best) → resume (f ∷ fs) w ≡ resume fs (children f.level f.above f.partial f.center (child f.waiting f.generator) w)
  unfolding resume
  resume_cons f fs w = refl

  pub resume_exhausted : (fs : List Frame) (m : ℕ) (S : Float) → resume fs (exhausted m S) ≡ exhausted m S
  resume_exhausted [] m S = resume_nil (exhausted m S)
  resume_exhausted (f ∷ fs) m S =
      resume_cons f fs (exhausted m S)
      ∙ ap (resume fs) (children_exhausted consider (still (center t target)) t budget (walk consider (still (center t target)) t budget f.level) f.level f.above f.partial f.center (suc budget) (child f.waiting f.generator) m S)
      ∙ resume_exhausted fs m S

  -- a machine from where it stands
  abbrev pub resumed : Machine → Walked Best
  resumed s = resume s.stack (ended s.kept s.standing s.nodes)

  push_resumes : (level : ℕ) (zs : List ℤ) (p c : Float) (x : Next) (fs : List Frame) (w : Walked Best) → resume (push level zs p c x fs) w ≡ resume fs (children level zs p c x w)
  push_resumes level zs p c (child z g) fs w = ap (λ (s : List Frame). resume s w) (push_child level zs p c fs z g) ∙ resume_cons _ fs w
  push_resumes level zs p c (none g) fs w = ap (λ (s : List Frame). resume s w) (push_none level zs p c fs g) ∙ ap (resume fs) (sym (over w))
    where
      over : (w : Walked Best) → children level zs p c (none g) w ≡ w
      over (ended k S m) = children_none consider (still (center t target)) t budget (walk consider (still (center t target)) t budget level) level zs p c (suc budget) g k S m
      over (exhausted m S) = children_exhausted consider (still (center t target)) t budget (walk consider (still (center t target)) t budget level) level zs p c (suc budget) (none g) m S

  opened_resumes : (level : ℕ) (zs : List ℤ) (p c : Float) (x : Start) (fs : List Frame) (w : Walked Best) → resume (opened level zs p c x fs) w ≡ resume fs (try_level consider (still (center t target)) t budget (walk consider (still (center t target)) t budget level) level zs p c x w)
  opened_resumes level zs p c (open_level g) fs w =
      ap (λ (s : List Frame). resume s w) (opened_open level zs p c fs g)
      ∙ push_resumes level zs p c (next g) fs w
      ∙ ap (resume fs) (sym (level_open consider (still (center t target)) t budget (walk consider (still (center t target)) t budget level) level zs p c g w))
  opened_resumes level zs p c no_children fs w =
      ap (λ (s : List Frame). resume s w) (opened_closed level zs p c fs)
      ∙ ap (resume fs) (sym (level_closed consider (still (center t target)) t budget (walk consider (still (center t target)) t budget level) level zs p c w))

  -- a descent stands for the recursive walk below
  pub descend_resumes : (depth : ℕ) (zs : List ℤ) (p : Float) (fs : List Frame) (k : Best) (S : Float) (m : ℕ) → resumed (descend t target depth zs p fs k S m) ≡ resume fs (walk consider (still (center t target)) t budget depth zs p (ended k S m))
  descend_resumes zero zs p fs k S m =
      ap resumed (descend_leaf t target zs p fs k S m)
      ∙ ap (resume fs) (sym (walk_leaf consider (still (center t target)) t budget zs p (ended k S m) ∙ leaf_ended consider (still (center t target)) t budget zs p k S m ∙ consider_leaf zs p k S m))
  descend_resumes (suc level) zs p fs k S m =
      ap resumed (descend_level t target level zs p fs k S m)
      ∙ opened_resumes level zs p (center t target level zs) (start (center t target level zs) (sub binary64 S p) (weight t level)) fs (ended k S m)
      ∙ ap (resume fs) (sym (walk_level consider (still (center t target)) t budget level zs p (ended k S m) ∙ enter_ended consider (still (center t target)) t budget (walk consider (still (center t target)) t budget level) level zs p k S m))

  counting : (depth : ℕ) → Counting (walk consider (still (center t target)) t budget depth)
  counting depth = walk_counts consider (still (center t target)) t budget (λ zs p k S m. subst (NoFewer m) (sym (consider_leaf zs p k S m)) (le_refl m)) depth

  module _ (f : Frame) (fs : List Frame) (k : Best) (S : Float) (m : ℕ) where
    abbrev down : Descent Best
    down = walk consider (still (center t target)) t budget f.level

    abbrev sum : Float
    sum = add binary64 f.partial (term (weight t f.level) f.center f.waiting)

    abbrev coordinates : List ℤ
    coordinates = f.waiting ∷ f.above

    abbrev further : ℕ → Walked Best → Walked Best
    further fuel w = try_children consider (still (center t target)) t budget down f.level f.above f.partial f.center fuel (next f.generator) w

    abbrev left : List Frame
    left = push f.level f.above f.partial f.center (next f.generator) fs

    -- at the budget, the waiting child ends the walk
    pub stops : budget ≤ m → resume (f ∷ fs) (ended k S m) ≡ exhausted m S
    stops h =
        resume_cons f fs (ended k S m)
        ∙ ap (resume fs) (
        children_child consider (still (center t target)) t budget down f.level f.above f.partial f.center budget f.waiting f.generator k S m
        ∙ ap (λ (b : Bool). further budget (visit consider (still (center t target)) t budget b down coordinates sum k S m)) (le-leb budget m h)
        ∙ ap (further budget) (visit_exhausted consider (still (center t target)) t budget down coordinates sum k S m)
        ∙ children_exhausted consider (still (center t target)) t budget down f.level f.above f.partial f.center budget (next f.generator) m S)
        ∙ resume_exhausted fs m S

    -- one unit of fuel more or less
    fueled : m < budget → (w : Walked Best) → NoFewer (suc m) w → further budget w ≡ further (suc budget) w
    fueled h (ended j T n) l = fuel_is_enough consider (still (center t target)) t budget down (counting f.level) f.level f.above f.partial f.center budget (suc budget) (next f.generator) j T n (omega arith) (omega arith)
    fueled h (exhausted n T) l =
        children_exhausted consider (still (center t target)) t budget down f.level f.above f.partial f.center budget (next f.generator) n T
        ∙ sym (children_exhausted consider (still (center t target)) t budget down f.level f.above f.partial f.center (suc budget) (next f.generator) n T)

    passed : m < budget → (b : Bool) → resumed (visited t target b f sum left k S (suc m)) ≡ resume fs (further budget (descend_if consider (still (center t target)) t budget b down coordinates sum (ended k S (suc m))))
    passed h true =
        ap resumed (visited_true t target f sum left k S (suc m))
        ∙ descend_resumes f.level coordinates sum left k S (suc m)
        ∙ push_resumes f.level f.above f.partial f.center (next f.generator) fs (down coordinates sum (ended k S (suc m)))
        ∙ ap (resume fs) (sym (ap (further budget) (descends consider (still (center t target)) t budget down coordinates sum (ended k S (suc m))) ∙ fueled h (down coordinates sum (ended k S (suc m))) (counting f.level coordinates sum k S (suc m))))
    passed h false =
        ap resumed (visited_false t target f sum left k S (suc m))
        ∙ push_resumes f.level f.above f.partial f.center (next f.generator) fs (ended k S (suc m))
        ∙ ap (resume fs) (sym (ap (further budget) (prunes consider (still (center t target)) t budget down coordinates sum (ended k S (suc m))) ∙ fueled h (ended k S (suc m)) (le_refl (suc m))))

    -- below the budget, a step stands for the same
    pub goes_on : m < budget → resumed (advance t target (f ∷ fs) k S m) ≡ resume (f ∷ fs) (ended k S m)
    goes_on h =
        ap resumed (advance_child t target f fs k S m)
        ∙ passed h (le sum S)
        ∙ sym (resume_cons f fs (ended k S m)
        ∙ ap (resume fs) (
        children_child consider (still (center t target)) t budget down f.level f.above f.partial f.center budget f.waiting f.generator k S m
        ∙ ap (λ (b : Bool). further budget (visit consider (still (center t target)) t budget b down coordinates sum k S m)) (lt-leb budget m h)
        ∙ ap (further budget) (visit_counted consider (still (center t target)) t budget down coordinates sum k S m)))

-- A level that is stored with what its zigzag gives, below the open levels: it is the machine's, and the levels fall again. Assumes nothing.
use mathlib.Core.Path.{◌≡◌, refl, sym, ap, ◌∙◌, subst}
use Prim.Native.Nat.{ℕ, suc, ◌+◌, ◌*◌, ◌≤◌, ◌<◌}
use native.Mathlib.Numerals.{add-one}
use native.Mathlib.Omega.{arith}
use mathlib.Core.Bool.{Bool, true}
use mathlib.Core.List.{List, ◌∷◌}
use lib.ListN.{length, get_or, set}
use lib.Seq.{get_or-set_same}
use lib.IntN.{ℤ}
use lib.Ieee.{Float, nan}
use Rattle.rounding.specs.Integers.{round_away}
use Rattle.lists.specs.Places.{places}
use Rattle.definitions.specs.Zigzag.{Zigzag, Next, child, none, Start, open_level, no_children, start, next}
use Rattle.definitions.specs.Machine.{Frame, push, opened}
use Rattle.definitions.proofs.Zigzags.{start_at, start_opens, next_first, next_follows, next_emits}
use Rattle.definitions.proofs.Machine.{push_child, push_none, opened_open, opened_closed}
use Rattle.children.specs.View.{child_of}
use Rattle.resume.specs.declared.OpenLevel.{OpenLevel}
use Rattle.resume.specs.View.{waiting_of, count_of, entered_of, no_level, frame_of, stack_of}
use Rattle.resume.specs.Ready.{Falling}
use Rattle.resume.proofs.Levels.{stack_suc, stack_store, falling_lower, falling_store, falling_push}

-- ---- what a zigzag gives fits a level of weight w and centre c
-- the generator after a child
pub record Fitting (w c : Float) (most : ℕ) (g : Zigzag) : Type 0 where
  pub center : g.center ≡ c
  pub weight : g.weight ≡ w
  pub emitted : g.emitted_nearest ≡ true
  pub step : g.step ≤ most

abbrev pub Fits : Float → Float → ℕ → Next → Type 0
Fits w c most (child z g) = Fitting w c most g
Fits w c most (none g) = Unit {0}

-- the next child of a generator
pub next_fits : (g : Zigzag) (w c : Float) (most : ℕ) → g.center ≡ c → g.weight ≡ w → g.step + 2 ≤ most → Fits w c most (next g)
next_fits g w c most e f few = go (next g) refl
  where
    go : (x : Next) → next g ≡ x → Fits w c most x
    go (child z h) q =
        let n = next_follows g z h q in
        record { center = n.center ∙ e; weight = n.weight ∙ f; emitted = next_emits g z h q; step = omega (arith, n.step) }
    go (none h) q = tt

-- the first child of a level that is made
first_fits : (c r w : Float) (most : ℕ) → 1 ≤ most → (g : Zigzag) → start c r w ≡ open_level g → Fits w c most (next g)
first_fits c r w most few g e = subst (λ (h : Zigzag). Fits w c most (next h)) (sym (start_opens c r w g e)) (subst (Fits w c most) (sym (next_first fresh refl)) (record { center = refl; weight = refl; emitted = refl; step = few }))
  where
    fresh : Zigzag
    fresh = start_at c r w (round_away c)

-- ---- level l, with the partial sum p above it, is stored at place i
module _ (weights : List Float) (levels : List OpenLevel) (i l : ℕ) (p c : Float) (other : OpenLevel) (room : i < length levels) where
  abbrev n : ℕ
  n = length weights

  abbrev w : Float
  w = get_or weights l nan

  module _ (point : List ℤ) where
    abbrev above : List ℤ
    above = places n (l + 1) point

    abbrev framed : Float → Float → Bool → ℤ → Zigzag → Frame
    framed x v b z g = record {
      level = l;
      above = above;
      partial = p;
      center = x;
      waiting = z;
      generator = record {
        center = g.center;
        remaining = g.remaining;
        weight = v;
        nearest = g.nearest;
        step = g.step;
        emitted_nearest = b;
        positive_done = g.positive_done;
        negative_done = g.negative_done;
      };
    }

    pub stack_waiting : (most : ℕ) (x : Next) → Fits w c most x → stack_of weights point (set levels i (waiting_of l p other (child_of x))) (count_of i (child_of x)) ≡ push l above p c x (stack_of weights point levels i)
    stack_waiting most (none g) fit = stack_store weights levels point i i other (omega arith) ∙ sym (push_none l above p c (stack_of weights point levels i) g)
    stack_waiting most (child z g) fit =
        ap (stack_of weights point (set levels i f)) (add-one i)
        ∙ stack_suc weights point (set levels i f) i
        ∙ ap (λ (e : OpenLevel). frame_of weights point e ∷ stack_of weights point (set levels i f) i) (get_or-set_same levels i f no_level room)
        ∙ ap (λ (r : List Frame). frame_of weights point f ∷ r) (stack_store weights levels point i i f (omega arith))
        ∙ ap (λ (e : Frame). e ∷ stack_of weights point levels i) same
        ∙ sym (push_child l above p c (stack_of weights point levels i) z g)
      where
        f : OpenLevel
        f = waiting_of l p other (child_of (child z g))

        same : frame_of weights point (waiting_of l p other (child_of (child z g))) ≡ framed c g.weight g.emitted_nearest z g
        same =
            ap (λ (v : Float). framed g.center v true z g) (sym fit.weight)
            ∙ ap (λ (b : Bool). framed g.center g.weight b z g) (sym fit.emitted)
            ∙ ap (λ (x : Float). framed x g.weight g.emitted_nearest z g) fit.center

    pub stack_entered : (r : Float) (y : Start) → start c r w ≡ y → stack_of weights point (set levels i (waiting_of l p other (entered_of y))) (count_of i (entered_of y)) ≡ opened l above p c y (stack_of weights point levels i)
    stack_entered r (open_level g) e = stack_waiting 1 (next g) (first_fits c r w 1 (omega arith) g e) ∙ sym (opened_open l above p c (stack_of weights point levels i) g)
    stack_entered r no_children e = stack_store weights levels point i i other (omega arith) ∙ sym (opened_closed l above p c (stack_of weights point levels i))

  module _ (nodes low : ℕ) (over : low ≤ l) (under : l < n) (falling : Falling n nodes levels (suc l) i) where
    none_waiting : Falling n nodes (set levels i other) low i
    none_waiting = falling_lower n nodes (set levels i other) (suc l) low i (omega arith) (falling_store n nodes levels (suc l) i i other (omega arith) falling)

    pub falling_waiting : (x : Next) → Fits w c (2 * nodes + 1) x → Falling n nodes (set levels i (waiting_of l p other (child_of x))) low (count_of i (child_of x))
    falling_waiting (none g) fit = none_waiting
    falling_waiting (child z g) fit = falling_push n nodes levels low i (waiting_of l p other (child_of (child z g))) room (record { lowest = over; inside = under; few = fit.step }) falling

    pub falling_entered : (r : Float) (y : Start) → start c r w ≡ y → Falling n nodes (set levels i (waiting_of l p other (entered_of y))) low (count_of i (entered_of y))
    falling_entered r (open_level g) e = falling_waiting (next g) (first_fits c r w (2 * nodes + 1) (omega arith) g e)
    falling_entered r no_children e = none_waiting

-- What a walk that is put down holds, at every node: its open levels rise, their coordinates are those of one point under trial, their generators are those of the table
-- and have made few steps, and a best has n coordinates. Assumes nothing.
use mathlib.Core.Path.{◌≡◌, refl, sym, ap, ◌∙◌, subst}
use Prim.Native.Nat.{ℕ, zero, suc, ◌+◌, ◌*◌, ◌≤◌, ◌<◌}
use native.Mathlib.Numerals.{add-one}
use native.Mathlib.Omega.{arith}
use mathlib.Core.Bool.{Bool, true, false, cond}
use mathlib.Core.List.{List, [], ◌∷◌}
use lib.ListN.{length, set, replicate, length-set, length-replicate}
use lib.Seq.{take_all}
use lib.IntN.{ℤ, pos}
use lib.Ieee.{Float, binary64, add, sub, le}
use Rattle.lists.specs.Places.{places}
use Rattle.lists.proofs.Places.{places_none, places_set, places_other}
use Rattle.definitions.specs.Table.{Table, dimension, weight, plus_zero}
use Rattle.definitions.specs.Distance.{term, center}
use Rattle.definitions.specs.Zigzag.{Zigzag, Next, child, none, Start, open_level, no_children, start, next}
use Rattle.definitions.specs.Nearest.{Best, no_best, best, replaces}
use Rattle.definitions.specs.Machine.{Frame, Machine, machine, push, opened, descend, visited, advance, step, run_for, begin}
use Rattle.definitions.proofs.Zigzags.{start_opens, next_first, next_follows, next_emits}
use Rattle.definitions.proofs.Machine.{push_child, push_none, opened_open, opened_closed, descend_leaf, descend_level, visited_true, visited_false, advance_over, advance_child, step_is, run_zero, run_suc, begin_is}

module _ (t : Table) where
  -- an open level, at least `low`, with so many nodes counted
  pub record FrameFits (nodes : ℕ) (point : List ℤ) (low : ℕ) (f : Frame) : Type 0 where
    pub lowest : low ≤ f.level
    pub inside : f.level < dimension t
    pub above_is : f.above ≡ places (dimension t) (f.level + 1) point
    pub center_is : f.generator.center ≡ f.center
    pub weight_is : f.generator.weight ≡ weight t f.level
    pub emitted : f.generator.emitted_nearest ≡ true
    pub few : f.generator.step ≤ 2 * nodes + 1

  -- open levels that rise from `low`
  abbrev pub FramesFit : ℕ → List ℤ → ℕ → List Frame → Type 0
  FramesFit nodes point low [] = Unit {0}
  FramesFit nodes point low (f ∷ fs) = FrameFits nodes point low f × FramesFit nodes point (suc f.level) fs

  abbrev pub BestFits : Best → Type 0
  BestFits no_best = Unit {0}
  BestFits (best zs) = length zs ≡ dimension t

  pub record WalkFits (s : Machine) : Type 0 where
    pub point : List ℤ
    pub point_length : length point ≡ dimension t
    pub frames : FramesFit s.nodes point 0 s.stack
    pub best_fits : BestFits s.kept

  -- fewer of the low, more nodes
  frames_lower : (nodes : ℕ) (point : List ℤ) (low low' : ℕ) (fs : List Frame) → low' ≤ low → FramesFit nodes point low fs → FramesFit nodes point low' fs
  frames_lower nodes point low low' [] h x = tt
  frames_lower nodes point low low' (f ∷ fs) h x = (record { lowest = lower x.0.lowest; inside = x.0.inside; above_is = x.0.above_is; center_is = x.0.center_is; weight_is = x.0.weight_is; emitted = x.0.emitted; few = x.0.few }, x.1)
    where
      lower : low ≤ f.level → low' ≤ f.level
      lower q = omega arith

  -- a coordinate below them all is set, and a node more
  frames_set : (nodes : ℕ) (point : List ℤ) (low l : ℕ) (z : ℤ) (fs : List Frame) → l < low → l < dimension t → FramesFit nodes point low fs → FramesFit (suc nodes) (set point l z) low fs
  frames_set nodes point low l z [] h b x = tt
  frames_set nodes point low l z (f ∷ fs) h b x = (
    record {
      lowest = x.0.lowest;
      inside = x.0.inside;
      above_is = x.0.above_is ∙ sym (places_other (dimension t) point l (f.level + 1) z b (over x.0.lowest));
      center_is = x.0.center_is;
      weight_is = x.0.weight_is;
      emitted = x.0.emitted;
      few = more x.0.few;
    },
    frames_set nodes point (suc f.level) l z fs (beyond x.0.lowest) b x.1,
  )
    where
      over : low ≤ f.level → l < f.level + 1
      over q = omega arith

      beyond : low ≤ f.level → l < suc f.level
      beyond q = omega arith

      more : f.generator.step ≤ 2 * nodes + 1 → f.generator.step ≤ 2 * suc nodes + 1
      more q = omega arith

  -- ---- a level with what its zigzag gives
  -- what a generator gives at a level with this centre, so many nodes being counted
  abbrev NextFits : ℕ → ℕ → Float → Next → Type 0
  NextFits nodes level c (child z g) = (g.center ≡ c) × (g.weight ≡ weight t level) × (g.emitted_nearest ≡ true) × (g.step ≤ 2 * nodes + 1)
  NextFits nodes level c (none g) = Unit {0}

  push_fits : (nodes : ℕ) (point : List ℤ) (level : ℕ) (zs : List ℤ) (p c : Float) (x : Next) (fs : List Frame) → level < dimension t → zs ≡ places (dimension t) (level + 1) point → NextFits nodes level c x → FramesFit nodes point (suc level) fs → FramesFit nodes point level (push level zs p c x fs)
  push_fits nodes point level zs p c (child z g) fs b a x y = subst (FramesFit nodes point level) (sym (push_child level zs p c fs z g)) (record { lowest = omega arith; inside = b; above_is = a; center_is = x.0; weight_is = x.1; emitted = x.2; few = x.3 }, y)
  push_fits nodes point level zs p c (none g) fs b a x y = subst (FramesFit nodes point level) (sym (push_none level zs p c fs g)) (frames_lower nodes point (suc level) level fs (omega arith) y)

  -- of the level's making
  start_fits : (nodes level : ℕ) (c r : Float) (g : Zigzag) → start c r (weight t level) ≡ open_level g → NextFits nodes level c (next g)
  start_fits nodes level c r g e =
      let o = start_opens c r (weight t level) g e in
      subst (NextFits nodes level c) (sym (next_first g (ap (λ (h : Zigzag). h.emitted_nearest) o))) (ap (λ (h : Zigzag). h.center) o, ap (λ (h : Zigzag). h.weight) o, refl, few g.step (ap (λ (h : Zigzag). h.step) o))
    where
      few : (s : ℕ) → s ≡ 1 → s ≤ 2 * nodes + 1
      few s q = omega arith

  -- of its going on, with a node more
  next_fits : (nodes level : ℕ) (c : Float) (g : Zigzag) → g.center ≡ c → g.weight ≡ weight t level → g.step ≤ 2 * nodes + 1 → NextFits (suc nodes) level c (next g)
  next_fits nodes level c g a b few = go (next g) refl
    where
      go : (x : Next) → next g ≡ x → NextFits (suc nodes) level c x
      go (none h) e = tt
      go (child z h) e = let f = next_follows g z h e in (f.center ∙ a, f.weight ∙ b, next_emits g z h e, more f.step)
        where
          more : h.step ≤ g.step + 2 → h.step ≤ 2 * suc nodes + 1
          more q = omega arith

  opened_fits : (nodes : ℕ) (point : List ℤ) (level : ℕ) (zs : List ℤ) (p c r : Float) (fs : List Frame) → level < dimension t → zs ≡ places (dimension t) (level + 1) point → FramesFit nodes point (suc level) fs → FramesFit nodes point 0 (opened level zs p c (start c r (weight t level)) fs)
  opened_fits nodes point level zs p c r fs b a y = go (start c r (weight t level)) refl
    where
      go : (x : Start) → start c r (weight t level) ≡ x → FramesFit nodes point 0 (opened level zs p c x fs)
      go (open_level g) e = subst (FramesFit nodes point 0) (sym (opened_open level zs p c fs g)) (frames_lower nodes point level 0 (push level zs p c (next g) fs) (omega arith) (push_fits nodes point level zs p c (next g) fs b a (start_fits nodes level c r g e) y))
      go no_children e = subst (FramesFit nodes point 0) (sym (opened_closed level zs p c fs)) (frames_lower nodes point (suc level) 0 fs (omega arith) y)

  module _ (target : List Float) where
    -- ---- a descent, a step, a run
    descend_fits : (depth : ℕ) (point : List ℤ) (zs : List ℤ) (p : Float) (fs : List Frame) (k : Best) (S : Float) (m : ℕ) → depth ≤ dimension t → length point ≡ dimension t → zs ≡ places (dimension t) depth point → FramesFit m point depth fs → BestFits k → WalkFits (descend t target depth zs p fs k S m)
    descend_fits zero point zs p fs k S m h l a y bf =
        subst WalkFits (sym (descend_leaf t target zs p fs k S m))
        (record { point = point; point_length = l; frames = y; best_fits = considered (replaces zs p k S) })
      where
        considered : (b : Bool) → BestFits (cond b (best zs) k)
        considered true = ap length (a ∙ take_all (dimension t) point (within (length point) l)) ∙ l
          where
            within : (x : ℕ) → x ≡ dimension t → x ≤ dimension t
            within x e = omega arith
        considered false = bf
    descend_fits (suc level) point zs p fs k S m h l a y bf =
        subst WalkFits (sym (descend_level t target level zs p fs k S m))
        (record { point = point; point_length = l; frames = opened_fits m point level zs p (center t target level zs) (sub binary64 S p) fs h (a ∙ ap (λ (d : ℕ). places (dimension t) d point) (sym (add-one level))) y; best_fits = bf })

    advance_fits : (stack : List Frame) (k : Best) (S : Float) (m : ℕ) → WalkFits (machine stack k S m) → WalkFits (advance t target stack k S m)
    advance_fits [] k S m w = subst WalkFits (sym (advance_over t target k S m)) w
    advance_fits (f ∷ fs) k S m w = subst WalkFits (sym (advance_child t target f fs k S m)) (go (le sum S))
      where
        n : ℕ
        n = dimension t

        sum : Float
        sum = add binary64 f.partial (term (weight t f.level) f.center f.waiting)

        left : List Frame
        left = push f.level f.above f.partial f.center (next f.generator) fs

        point' : List ℤ
        point' = set w.point f.level f.waiting

        long : n ≤ length w.point
        long = omega (arith, w.point_length)

        left_fits : FramesFit (suc m) point' f.level left
        left_fits =
            let x = w.frames.0 in
            push_fits (suc m) point' f.level f.above f.partial f.center (next f.generator) fs x.inside
            (x.above_is ∙ sym (places_other n w.point f.level (f.level + 1) f.waiting x.inside (omega arith)))
            (next_fits m f.level f.center f.generator x.center_is x.weight_is x.few)
            (frames_set m w.point (suc f.level) f.level f.waiting fs (omega arith) x.inside w.frames.1)

        go : (b : Bool) → WalkFits (visited t target b f sum left k S (suc m))
        go true =
            let x = w.frames.0 in
            subst WalkFits (sym (visited_true t target f sum left k S (suc m)))
            (descend_fits f.level point' (f.waiting ∷ f.above) sum left k S (suc m) (omega (arith, x.inside)) (length-set w.point f.level f.waiting ∙ w.point_length)
            (ap (λ (zs : List ℤ). f.waiting ∷ zs) x.above_is ∙ sym (places_set n w.point long f.level f.waiting x.inside)) left_fits w.best_fits)
        go false =
            subst WalkFits (sym (visited_false t target f sum left k S (suc m)))
            (record { point = point'; point_length = length-set w.point f.level f.waiting ∙ w.point_length; frames = frames_lower (suc m) point' f.level 0 left (omega arith) left_fits; best_fits = w.best_fits })

    pub run_fits : (b : ℕ) (s : Machine) → WalkFits s → WalkFits (run_for t target b s)
    run_fits zero s w = subst WalkFits (sym (run_zero t target s)) w
    run_fits (suc b) s w = subst WalkFits (sym (run_suc t target b s)) (run_fits b (step t target s) (subst WalkFits (sym (step_is t target s)) (advance_fits s.stack s.kept s.standing s.nodes w)))

    pub begin_fits : (R : Float) → WalkFits (begin t target R)
    begin_fits R =
        let n = dimension t in
        let l = length-replicate n (pos 0) in
        subst WalkFits (sym (begin_is t target R))
        (descend_fits n (replicate n (pos 0)) [] plus_zero [] no_best R 0 (omega arith) l (sym (places_none n (replicate n (pos 0)) (omega (arith, l)) n (omega arith))) tt tt)

-- A walk that is written into a name's part is read from it again as it was. Assumes nothing.
use mathlib.Core.Path.{◌≡◌, refl, sym, ap, ◌∙◌, subst}
use Prim.Native.Nat.{ℕ, zero, suc, ◌+◌, ◌-◌, ◌*◌, ◌≤◌, ◌<◌}
use native.Mathlib.Nat.{le_refl, mul-le-mul}
use native.Mathlib.Omega.{arith}
use mathlib.Core.Bool.{Bool, true, false, ◌&&◌, cond}
use mathlib.Core.List.{List, [], ◌∷◌, ◌++◌, map}
use lib.Dec.{leb, ltb}
use lib.ListN.{length, get_or, take, drop, replicate, length-append, length-map, length-drop, length-replicate, get_or-append}
use lib.Seq.{take_at, get_or_at, drop-cons, drop-append-add, drop-drop, take-append-le, length-take-le}
use lib.IntN.{ℤ, pos}
use lib.Ieee.{Float, nan}
use borrow.Author.Tests.{le-leb, lt-ltb}
use Rattle.lists.specs.Places.{places}
use Rattle.lists.proofs.Segments.{part_left, part_right, get_d_right, length_padded, get_d_mapped}
use Rattle.definitions.specs.Table.{Table, dimension, weight, plus_zero, largest_budget}
use Rattle.definitions.specs.Nearest.{Best, no_best, best}
use Rattle.definitions.specs.Machine.{Frame, Machine}
use Rattle.definitions.specs.Kept.{free, holds}
use Rattle.definitions.specs.Block.{Block, nonzero, part_dimension, part_nodes, part_level, part_step, part_table, part_frame, part_best, part_frames, levels_rise, is_sound, part_machine, part_held, part_slot, padded, flag, point_under_trial, best_point, has_best, written_walk}
use Rattle.definitions.proofs.Block.{frames_none, frames_more, rise_none, rise_more, sound_is}
use Rattle.theorems.proofs.KeptWalks.{FrameFits, FramesFit, BestFits, WalkFits}

-- a part has the lengths of one
pub record IsPart (p : Block) : Type 0 where
  pub reals_length : length p.reals ≡ 646
  pub integers_length : length p.integers ≡ 92
  pub counts_length : length p.counts ≡ 96

-- a walk that is not over, of a table that these doubles hold
pub record WalkWritten (front : List Float) (t : Table) (s : Machine) : Type 0 where
  pub front_length : length front ≡ 576
  pub weights_there : take (dimension t) (drop 0 front) ≡ t.weights
  pub mu_there : take (dimension t * dimension t) (drop 23 front) ≡ t.mu
  pub small : dimension t ≤ 23
  pub few : s.nodes ≤ largest_budget
  pub walk : WalkFits t s
  pub going : s.stack ≡ [] → ⊥

and_true : (a b : Bool) → a ≡ true → b ≡ true → (a && b) ≡ true
and_true true b e f = f
and_true false b e f = e

flag_read : (b : Bool) → nonzero (flag b) ≡ b
flag_read true = refl
flag_read false = refl

-- so many levels at most as there are from `low` to n - 1
frames_few : (t : Table) (nodes : ℕ) (point : List ℤ) (low : ℕ) (fs : List Frame) → low ≤ dimension t → FramesFit t nodes point low fs → length fs + low ≤ dimension t
frames_few t nodes point low [] h x = none low h
  where
    none : (low : ℕ) → low ≤ dimension t → 0 + low ≤ dimension t
    none low h = omega arith
frames_few t nodes point low (f ∷ fs) h x = more f.level x.0.lowest (frames_few t nodes point (suc f.level) fs x.0.inside x.1)
  where
    more : (l : ℕ) → low ≤ l → length fs + suc l ≤ dimension t → suc (length fs) + low ≤ dimension t
    more l p q = omega arith

-- the place of a frame, and what stands from there on
frames_at : (t : Table) (nodes : ℕ) (point : List ℤ) (low i : ℕ) (fs : List Frame) (d : Frame) → i < length fs → FramesFit t nodes point low fs → FrameFits t nodes point low (get_or fs i d)
frames_at t nodes point low zero [] d h x = absurd (impossible h)
  where
    impossible : 0 < 0 → ⊥
    impossible h = omega arith
frames_at t nodes point low (suc i) [] d h x = absurd (impossible h)
  where
    impossible : suc i < 0 → ⊥
    impossible h = omega arith
frames_at t nodes point low zero (f ∷ fs) d h x = x.0
frames_at t nodes point low (suc i) (f ∷ fs) d h x =
    let y = frames_at t nodes point (suc f.level) i fs d (omega arith) x.1 in
    record { lowest = lower (get_or fs i d).level x.0.lowest y.lowest; inside = y.inside; above_is = y.above_is; center_is = y.center_is; weight_is = y.weight_is; emitted = y.emitted; few = y.few }
  where
    lower : (l : ℕ) → low ≤ f.level → suc f.level ≤ l → low ≤ l
    lower l p q = omega arith

module _ (front : List Float) (t : Table) (s : Machine) (fits : WalkWritten front t s) where
  abbrev n : ℕ
  n = dimension t

  abbrev fs : List Frame
  fs = s.stack

  abbrev p : Block
  p = written_walk front n s

  few_frames : length fs ≤ 23
  few_frames = omega (arith, fits.small, frames_few t s.nodes fits.walk.point 0 fs (omega arith) fits.walk.frames)

  -- a padded list of the open levels
  level_length : {A : Type 0} (a : A) (f : Frame → A) → length (padded a 23 (map f fs)) ≡ 23
  level_length a f = length_padded a 23 (map f fs) (omega (arith, length-map fs f, few_frames))

  level_read : {A : Type 0} (a : A) (f : Frame → A) (e : A) (i : ℕ) (d : Frame) → i < length fs → get_or (padded a 23 (map f fs)) i e ≡ f (get_or fs i d)
  level_read {A} a f e i d l = get_or-append (map f fs) (replicate (23 - length (map f fs)) a) e i (omega (arith, length-map fs f, l)) ∙ get_d_mapped f fs i d e l

  -- ---- the doubles
  abbrev R : List Float
  R = s.standing ∷ []

  abbrev A : List Float
  A = padded plus_zero 23 (map (λ (f : Frame). f.partial) fs)

  abbrev B : List Float
  B = padded plus_zero 23 (map (λ (f : Frame). f.center) fs)

  abbrev C : List Float
  C = padded plus_zero 23 (map (λ (f : Frame). f.generator.remaining) fs)

  R_length : length (front ++ R) ≡ 577
  R_length = omega (arith, length-append front R, fits.front_length)

  A_length : length (front ++ R ++ A) ≡ 600
  A_length = omega (arith, length-append (front ++ R) A, R_length, level_length plus_zero (λ (f : Frame). f.partial))

  B_length : length (front ++ R ++ A ++ B) ≡ 623
  B_length = omega (arith, length-append (front ++ R ++ A) B, A_length, level_length plus_zero (λ (f : Frame). f.center))

  reals_length : length p.reals ≡ 646
  reals_length = omega (arith, length-append (front ++ R ++ A ++ B) C, B_length, level_length plus_zero (λ (f : Frame). f.generator.remaining))

  -- what lies in front
  front_read : (start k : ℕ) → start + k ≤ 576 → take k (drop start p.reals) ≡ take k (drop start front)
  front_read start k l =
      part_left start k (front ++ R ++ A ++ B) C (omega (arith, B_length))
      ∙ part_left start k (front ++ R ++ A) B (omega (arith, A_length))
      ∙ part_left start k (front ++ R) A (omega (arith, R_length))
      ∙ part_left start k front R (omega (arith, fits.front_length))

  front_place : (i : ℕ) → i < 576 → get_or p.reals i nan ≡ get_or front i nan
  front_place i l =
      get_or-append (front ++ R ++ A ++ B) C nan i (omega (arith, B_length))
      ∙ get_or-append (front ++ R ++ A) B nan i (omega (arith, A_length))
      ∙ get_or-append (front ++ R) A nan i (omega (arith, R_length))
      ∙ get_or-append front R nan i (omega (arith, fits.front_length))

  square_few : n * n ≤ 529
  square_few = mul-le-mul fits.small fits.small

  -- single places
  standing_read : get_or p.reals 576 nan ≡ s.standing
  standing_read =
      get_or-append (front ++ R ++ A ++ B) C nan 576 (omega (arith, B_length))
      ∙ get_or-append (front ++ R ++ A) B nan 576 (omega (arith, A_length))
      ∙ get_or-append (front ++ R) A nan 576 (omega (arith, R_length))
      ∙ get_or_at front s.standing [] nan 576 fits.front_length

  place_A : (i : ℕ) → i < 23 → get_or p.reals (577 + i) nan ≡ get_or A i nan
  place_A i l =
      get_or-append (front ++ R ++ A ++ B) C nan (577 + i) (omega (arith, B_length))
      ∙ get_or-append (front ++ R ++ A) B nan (577 + i) (omega (arith, A_length))
      ∙ get_d_right 577 i (front ++ R) A nan R_length

  place_B : (i : ℕ) → i < 23 → get_or p.reals (600 + i) nan ≡ get_or B i nan
  place_B i l =
      get_or-append (front ++ R ++ A ++ B) C nan (600 + i) (omega (arith, B_length))
      ∙ get_d_right 600 i (front ++ R ++ A) B nan A_length

  place_C : (i : ℕ) → get_or p.reals (623 + i) nan ≡ get_or C i nan
  place_C i = get_d_right 623 i (front ++ R ++ A ++ B) C nan B_length

  -- ---- the integers
  abbrev P : List ℤ
  P = padded (pos 0) 23 (point_under_trial fs)

  abbrev Q : List ℤ
  Q = padded (pos 0) 23 (best_point s.kept)

  abbrev N : List ℤ
  N = padded (pos 0) 23 (map (λ (f : Frame). f.generator.nearest) fs)

  abbrev Z : List ℤ
  Z = padded (pos 0) 23 (map (λ (f : Frame). f.waiting) fs)

  -- the point under trial has n coordinates, and from an open level up those of the walk's
  above_length : (d : ℕ) → length (places n d fits.walk.point) ≡ n - d
  above_length d = length-drop d (take n fits.walk.point) ∙ ap (λ (k : ℕ). k - d) (length-take-le n fits.walk.point (omega (arith, fits.walk.point_length)))

  trial_length : (gs : List Frame) → (gs ≡ [] → ⊥) → FramesFit t s.nodes fits.walk.point 0 gs → length (point_under_trial gs) ≡ n
  trial_length [] e x = absurd (e refl)
  trial_length (f ∷ gs) e x =
      length-append (replicate (suc f.level) (pos 0)) f.above
      ∙ sums (length f.above) (ap length x.0.above_is ∙ above_length (f.level + 1)) (length (replicate (suc f.level) (pos 0))) (length-replicate (suc f.level) (pos 0)) x.0.inside
    where
      sums : (a : ℕ) → a ≡ n - (f.level + 1) → (b : ℕ) → b ≡ suc f.level → f.level < n → b + a ≡ n
      sums a p b q l = omega arith

  trial_above : (gs : List Frame) (l : ℕ) → FramesFit t s.nodes fits.walk.point 0 gs → (f : Frame) (rest : List Frame) → gs ≡ f ∷ rest → f.level ≤ l → drop (l + 1) (point_under_trial gs) ≡ places n (l + 1) fits.walk.point
  trial_above [] l x f rest e b = let z : ◌≡◌ {A = ℕ} 0 1 = cc in absurd (omega arith)
  trial_above (g ∷ gs) l x f rest e b =
      ap (λ (k : ℕ). drop k (replicate (suc g.level) (pos 0) ++ g.above)) (split (length (replicate (suc g.level) (pos 0))) (length-replicate (suc g.level) (pos 0)) lower)
      ∙ drop-append-add (replicate (suc g.level) (pos 0)) g.above (l - g.level)
      ∙ ap (λ (zs : List ℤ). drop (l - g.level) zs) x.0.above_is
      ∙ drop-drop (l - g.level) (g.level + 1) (take n fits.walk.point)
      ∙ ap (λ (k : ℕ). drop k (take n fits.walk.point)) (joined lower)
    where
      same : g ≡ f
      same = cc

      lower : g.level ≤ l
      lower = subst (λ (f : Frame). f.level ≤ l) (sym same) b

      split : (k : ℕ) → k ≡ suc g.level → g.level ≤ l → l + 1 ≡ k + (l - g.level)
      split k q b = omega arith

      joined : g.level ≤ l → g.level + 1 + (l - g.level) ≡ l + 1
      joined b = omega arith

  P_length : length P ≡ 23
  P_length = length_padded (pos 0) 23 (point_under_trial fs) (omega (arith, trial_length fs fits.going fits.walk.frames, fits.small))

  best_few : (k : Best) → BestFits t k → length (best_point k) ≤ 23
  best_few no_best b = omega arith
  best_few (best zs) b = omega (arith, b, fits.small)

  PQ_length : length (P ++ Q) ≡ 46
  PQ_length = omega (arith, length-append P Q, P_length, length_padded (pos 0) 23 (best_point s.kept) (best_few s.kept fits.walk.best_fits))

  PQN_length : length (P ++ Q ++ N) ≡ 69
  PQN_length = omega (arith, length-append (P ++ Q) N, PQ_length, level_length (pos 0) (λ (f : Frame). f.generator.nearest))

  integers_length : length p.integers ≡ 92
  integers_length = omega (arith, length-append (P ++ Q ++ N) Z, PQN_length, level_length (pos 0) (λ (f : Frame). f.waiting))

  point_read : take n p.integers ≡ point_under_trial fs
  point_read =
      take-append-le n (P ++ Q ++ N) Z (omega (arith, PQN_length, fits.small))
      ∙ take-append-le n (P ++ Q) N (omega (arith, PQ_length, fits.small))
      ∙ take-append-le n P Q (omega (arith, P_length, fits.small))
      ∙ take_at (point_under_trial fs) (replicate (23 - length (point_under_trial fs)) (pos 0)) n (trial_length fs fits.going fits.walk.frames)

  place_N : (i : ℕ) → i < 23 → get_or p.integers (46 + i) (pos 0) ≡ get_or N i (pos 0)
  place_N i l = get_or-append (P ++ Q ++ N) Z (pos 0) (46 + i) (omega (arith, PQN_length)) ∙ get_d_right 46 i (P ++ Q) N (pos 0) PQ_length

  place_Z : (i : ℕ) → get_or p.integers (69 + i) (pos 0) ≡ get_or Z i (pos 0)
  place_Z i = get_d_right 69 i (P ++ Q ++ N) Z (pos 0) PQN_length

  best_read : part_best p ≡ s.kept
  best_read = go s.kept refl
    where
      flagged : (b : Bool) (x y : Best) → cond (nonzero (flag b)) x y ≡ cond b x y
      flagged b x y = ap (λ (c : Bool). cond c x y) (flag_read b)

      go : (k : Best) → s.kept ≡ k → part_best p ≡ k
      go no_best e = ap (λ (k : Best). cond (nonzero (flag (has_best k))) (best (take n (drop 23 p.integers))) no_best) e
      go (best zs) e =
          ap (λ (k : Best). cond (nonzero (flag (has_best k))) (best (take n (drop 23 p.integers))) no_best) e
          ∙ ap best (
          part_left 23 n (P ++ Q ++ N) Z (omega (arith, PQN_length, fits.small))
          ∙ part_left 23 n (P ++ Q) N (omega (arith, PQ_length, fits.small))
          ∙ part_right 23 n P Q P_length
          ∙ ap (λ (k : Best). take n (padded (pos 0) 23 (best_point k))) e
          ∙ take_at zs (replicate (23 - length zs) (pos 0)) n (subst (BestFits t) e fits.walk.best_fits))

  -- ---- the counts
  abbrev H : List ℕ
  H = n ∷ s.nodes ∷ flag (has_best s.kept) ∷ length fs ∷ []

  abbrev L : List ℕ
  L = padded 0 23 (map (λ (f : Frame). f.level) fs)

  abbrev S : List ℕ
  S = padded 0 23 (map (λ (f : Frame). f.generator.step) fs)

  abbrev U : List ℕ
  U = padded 0 23 (map (λ (f : Frame). flag f.generator.positive_done) fs)

  abbrev D : List ℕ
  D = padded 0 23 (map (λ (f : Frame). flag f.generator.negative_done) fs)

  HL_length : length (H ++ L) ≡ 27
  HL_length = omega (arith, length-append H L, level_length 0 (λ (f : Frame). f.level))

  HLS_length : length (H ++ L ++ S) ≡ 50
  HLS_length = omega (arith, length-append (H ++ L) S, HL_length, level_length 0 (λ (f : Frame). f.generator.step))

  HLSU_length : length (H ++ L ++ S ++ U) ≡ 73
  HLSU_length = omega (arith, length-append (H ++ L ++ S) U, HLS_length, level_length 0 (λ (f : Frame). flag f.generator.positive_done))

  counts_length : length p.counts ≡ 96
  counts_length = omega (arith, length-append (H ++ L ++ S ++ U) D, HLSU_length, level_length 0 (λ (f : Frame). flag f.generator.negative_done))

  place_L : (i : ℕ) → i < 23 → get_or p.counts (4 + i) 0 ≡ get_or L i 0
  place_L i l =
      get_or-append (H ++ L ++ S ++ U) D 0 (4 + i) (omega (arith, HLSU_length))
      ∙ get_or-append (H ++ L ++ S) U 0 (4 + i) (omega (arith, HLS_length))
      ∙ get_or-append (H ++ L) S 0 (4 + i) (omega (arith, HL_length))
      ∙ get_d_right 4 i H L 0 refl

  place_S : (i : ℕ) → i < 23 → get_or p.counts (27 + i) 0 ≡ get_or S i 0
  place_S i l =
      get_or-append (H ++ L ++ S ++ U) D 0 (27 + i) (omega (arith, HLSU_length))
      ∙ get_or-append (H ++ L ++ S) U 0 (27 + i) (omega (arith, HLS_length))
      ∙ get_d_right 27 i (H ++ L) S 0 HL_length

  place_U : (i : ℕ) → i < 23 → get_or p.counts (50 + i) 0 ≡ get_or U i 0
  place_U i l = get_or-append (H ++ L ++ S ++ U) D 0 (50 + i) (omega (arith, HLSU_length)) ∙ get_d_right 50 i (H ++ L ++ S) U 0 HLS_length

  place_D : (i : ℕ) → get_or p.counts (73 + i) 0 ≡ get_or D i 0
  place_D i = get_d_right 73 i (H ++ L ++ S ++ U) D 0 HLSU_length

  -- ---- the open levels
  table_read : part_table p ≡ t
  table_read = λ i. record {
    weights = (front_read 0 n (omega (arith, fits.small)) ∙ fits.weights_there) i;
    mu = (front_read 23 (n * n) (omega (arith, square_few)) ∙ fits.mu_there) i;
  }

  module _ (d : Frame) (gs : List Frame) (lowest_is : fs ≡ d ∷ gs) (i : ℕ) (l : i < length fs) where
    abbrev f : Frame
    f = get_or fs i d

    f_fits : FrameFits t s.nodes fits.walk.point 0 f
    f_fits = frames_at t s.nodes fits.walk.point 0 i fs d l fits.walk.frames

    level_is : part_level p.counts i ≡ f.level
    level_is = place_L i (omega (arith, few_frames)) ∙ level_read 0 (λ (f : Frame). f.level) 0 i d l

    step_is : part_step p.counts i ≡ f.generator.step
    step_is = place_S i (omega (arith, few_frames)) ∙ level_read 0 (λ (f : Frame). f.generator.step) 0 i d l

    above_lowest_lem : d.level ≤ f.level
    above_lowest_lem = rising fs i gs lowest_is fits.walk.frames l
      where
        rising : (hs : List Frame) (i : ℕ) (gs : List Frame) → hs ≡ d ∷ gs → FramesFit t s.nodes fits.walk.point 0 hs → i < length hs → d.level ≤ (get_or hs i d).level
        rising [] i gs e x l = let z : ◌≡◌ {A = ℕ} 0 1 = cc in absurd (omega arith)
        rising (g ∷ hs) zero gs e x l = let q : g ≡ d = cc in subst (λ (f : Frame). d.level ≤ f.level) (sym q) (le_refl d.level)
        rising (g ∷ hs) (suc i) gs e x l =
            let q : g ≡ d = cc in
            let y = frames_at t s.nodes fits.walk.point (suc g.level) i hs d (omega arith) x.1 in
            later (get_or hs i d).level y.lowest (ap (λ (f : Frame). f.level) q)
          where
            later : (l : ℕ) → suc g.level ≤ l → g.level ≡ d.level → d.level ≤ l
            later l p q = omega arith

    above_read : places n (part_level p.counts i + 1) p.integers ≡ f.above
    above_read =
        ap (λ (k : ℕ). drop (k + 1) (take n p.integers)) level_is
        ∙ ap (λ (zs : List ℤ). drop (f.level + 1) zs) point_read
        ∙ trial_above fs f.level fits.walk.frames d gs lowest_is above_lowest_lem
        ∙ sym f_fits.above_is

    centered : get_or p.reals (600 + i) nan ≡ f.center
    centered = place_B i (omega (arith, few_frames)) ∙ level_read plus_zero (λ (f : Frame). f.center) nan i d l

    partial_read : get_or p.reals (577 + i) nan ≡ f.partial
    partial_read = place_A i (omega (arith, few_frames)) ∙ level_read plus_zero (λ (f : Frame). f.partial) nan i d l

    remaining_read : get_or p.reals (623 + i) nan ≡ f.generator.remaining
    remaining_read = place_C i ∙ level_read plus_zero (λ (f : Frame). f.generator.remaining) nan i d l

    waiting_read : get_or p.integers (69 + i) (pos 0) ≡ f.waiting
    waiting_read = place_Z i ∙ level_read (pos 0) (λ (f : Frame). f.waiting) (pos 0) i d l

    nearest_read : get_or p.integers (46 + i) (pos 0) ≡ f.generator.nearest
    nearest_read = place_N i (omega (arith, few_frames)) ∙ level_read (pos 0) (λ (f : Frame). f.generator.nearest) (pos 0) i d l

    weight_read : weight (part_table p) (part_level p.counts i) ≡ f.generator.weight
    weight_read = ap (λ (t : Table). weight t (part_level p.counts i)) table_read ∙ ap (weight t) level_is ∙ sym f_fits.weight_is

    upward_read : nonzero (get_or p.counts (50 + i) 0) ≡ f.generator.positive_done
    upward_read = ap nonzero (place_U i (omega (arith, few_frames)) ∙ level_read 0 (λ (f : Frame). flag f.generator.positive_done) 0 i d l) ∙ flag_read f.generator.positive_done

    downward_read : nonzero (get_or p.counts (73 + i) 0) ≡ f.generator.negative_done
    downward_read = ap nonzero (place_D i ∙ level_read 0 (λ (f : Frame). flag f.generator.negative_done) 0 i d l) ∙ flag_read f.generator.negative_done

    center_read : get_or p.reals (600 + i) nan ≡ f.generator.center
    center_read = centered ∙ sym f_fits.center_is

    generator_read : (part_frame p i).generator ≡ f.generator
    generator_read = λ k. record {
      center = center_read k;
      remaining = remaining_read k;
      weight = weight_read k;
      nearest = nearest_read k;
      step = step_is k;
      emitted_nearest = sym f_fits.emitted k;
      positive_done = upward_read k;
      negative_done = downward_read k;
    }

    frame_read : part_frame p i ≡ f
    frame_read = λ k. record {
      level = level_is k;
      above = above_read k;
      partial = partial_read k;
      center = centered k;
      waiting = waiting_read k;
      generator = generator_read k;
    }

    rises : (low : ℕ) → low ≤ f.level → (leb low (part_level p.counts i) && ltb (part_level p.counts i) (part_dimension p.counts) && leb (part_step p.counts i) (2 * part_nodes p.counts + 1)) ≡ true
    rises low b =
        and_true _ _
        (and_true _ _ (le-leb low (part_level p.counts i) (subst (λ (k : ℕ). low ≤ k) (sym level_is) b)) (lt-ltb (part_level p.counts i) n (subst (λ (k : ℕ). k < n) (sym level_is) f_fits.inside)))
        (le-leb (part_step p.counts i) (2 * s.nodes + 1) (subst (λ (k : ℕ). k ≤ 2 * s.nodes + 1) (sym step_is) f_fits.few))

  module _ (d : Frame) (gs : List Frame) (lowest_is : fs ≡ d ∷ gs) where
    frames_read : (k i : ℕ) → i + k ≡ length fs → part_frames p i k ≡ drop i fs
    frames_read zero i e = frames_none p i ∙ sym (all (drop i fs) (length-drop i fs ∙ none (length fs) e))
      where
        none : (n : ℕ) → i + 0 ≡ n → n - i ≡ 0
        none n e = omega arith

        all : (xs : List Frame) → length xs ≡ 0 → xs ≡ []
        all [] e = refl
        all (x ∷ xs) e = absurd (omega arith)
    frames_read (suc k) i e =
        frames_more p i k
        ∙ ap (λ (f : Frame). f ∷ part_frames p (suc i) k) (frame_read d gs lowest_is i (inside (length fs) e))
        ∙ ap (λ (r : List Frame). get_or fs i d ∷ r) (frames_read k (suc i) (moved (length fs) e))
        ∙ sym (drop-cons fs i d (inside (length fs) e))
      where
        inside : (n : ℕ) → i + suc k ≡ n → i < n
        inside n e = omega arith

        moved : (n : ℕ) → i + suc k ≡ n → suc i + k ≡ n
        moved n e = omega arith

    rise_read : (k i low : ℕ) → i + k ≡ length fs → FramesFit t s.nodes fits.walk.point low (drop i fs) → levels_rise p.counts low i k ≡ true
    rise_read zero i low e x = rise_none p.counts low i
    rise_read (suc k) i low e x =
        let b = inside (length fs) e in
        let y = subst (FramesFit t s.nodes fits.walk.point low) (drop-cons fs i d b) x in
        rise_more p.counts low i k
        ∙ and_true _ _ (rises d gs lowest_is i b low y.0.lowest)
        (ap (λ (l : ℕ). levels_rise p.counts (suc l) (suc i) k) (level_is d gs lowest_is i b) ∙ rise_read k (suc i) (suc (get_or fs i d).level) (moved (length fs) e) y.1)
      where
        inside : (n : ℕ) → i + suc k ≡ n → i < n
        inside n e = omega arith

        moved : (n : ℕ) → i + suc k ≡ n → suc i + k ≡ n
        moved n e = omega arith

    sound_read : is_sound p.counts ≡ true
    sound_read =
        sound_is p.counts
        ∙ and_true _ _
        (and_true _ _
        (and_true _ _ (and_true _ _ (le-leb n 23 fits.small) (le-leb s.nodes largest_budget fits.few)) (le-leb 1 (length fs) (subst (λ (xs : List Frame). 1 ≤ length xs) (sym lowest_is) (omega arith))))
        (le-leb (length fs) n (omega (arith, frames_few t s.nodes fits.walk.point 0 fs (omega arith) fits.walk.frames))))
        (rise_read (length fs) 0 0 (omega arith) fits.walk.frames)

    machine_read : part_machine p ≡ s
    machine_read = λ k. record {
      stack = frames_read (length fs) 0 (omega arith) k;
      kept = best_read k;
      standing = standing_read k;
      nodes = s.nodes;
    }

    slot_read : part_slot p ≡ holds (record { table = t; target = take n (drop 552 front); radius = get_or front 575 nan; walk = s })
    slot_read =
        ap (λ (b : Bool). cond b (holds (part_held p)) free) sound_read
        ∙ (λ k. holds (record { table = table_read k; target = front_read 552 n (omega (arith, fits.small)) k; radius = front_place 575 (omega arith) k; walk = machine_read k }))

  pub walk_part : IsPart p
  walk_part = record { reals_length = reals_length; integers_length = integers_length; counts_length = counts_length }

  -- what is written is read again
  pub walk_read : part_slot p ≡ holds (record { table = t; target = take n (drop 552 front); radius = get_or front 575 nan; walk = s })
  walk_read = go fs refl
    where
      go : (gs : List Frame) → fs ≡ gs → part_slot p ≡ holds (record { table = t; target = take n (drop 552 front); radius = get_or front 575 nan; walk = s })
      go [] e = absurd (fits.going e)
      go (d ∷ gs) e = slot_read d gs e

-- The walk of `run` from its start is that of `nearest`, with its best, or that of `list`, with the points that had a place. Assumes nothing.
use mathlib.Core.Path.{◌≡◌, refl, ap, sym, ◌∙◌}
use mathlib.Core.Bool.{Bool, true, false, cond}
use mathlib.Core.List.{List, [], ◌++◌}
use Prim.Native.Nat.{ℕ, ◌+◌, ◌-◌, ◌≤◌, min}
use native.Mathlib.Nat.{zero-min}
use native.Mathlib.Omega.{arith}
use lib.IntN.{ℤ, pos}
use lib.ListN.{length, take, drop, replicate, length-replicate, replicate-append-replicate}
use lib.Seq.{take_at, take-nil}
use lib.Ieee.{Float, binary64, of_bits}
use Rattle.rounding.proofs.Interface.{zero_is}
use Rattle.lists.specs.Places.{places}
use Rattle.lists.proofs.Places.{places_none}
use Rattle.lists.proofs.Copies.{prefix_length, prefix_is}
use Rattle.definitions.specs.Table.{Table, table, dimension, plus_zero, largest_searched}
use Rattle.definitions.specs.Walk.{Walked, ended, exhausted, Leaf, walk}
use Rattle.definitions.specs.Nearest.{no_best, consider}
use Rattle.definitions.specs.Listing.{ListPoint, collect}
use Rattle.definitions.specs.Rows.{rows}
use Rattle.definitions.specs.Running.{Running, Beside, beside, with_running, only_kept, leaf_beside, running_centers, initialize_centers, add_rows, running_nearest, running_list}
use Rattle.search.specs.Kept.{Kept, leaf, mapped, best_only, list_only}
use Rattle.search.specs.View.{carried, seen}
use Rattle.search.proofs.ListLeaf.{rows_zero}
use Rattle.search.proofs.Map.{walk_map}
use Rattle.search.proofs.Instances.{nothing, considers, collects}
use Rattle.running.specs.Centers.{running_of, start_centers}
use Rattle.running.specs.Call.{search_of, State, state, Call, walk_of, Ready, Returned}
use Rattle.running.specs.Search.{SearchReady, searched, Searched}
use Rattle.running.specs.declared.Standing.{Standing}
use Rattle.running.proofs.Rows.{start_length}

-- ---- what is kept, seen through f, with the centres beside it
module _ {K L : Type 0} (f : K → L) where
  abbrev through_beside : Beside K → Beside L
  through_beside b = beside (f b.kept) b.running

  with_map : (r : Running) (w : Walked K) → with_running r (mapped f w) ≡ mapped through_beside (with_running r w)
  with_map r (ended k R m) = refl
  with_map r (exhausted m R) = refl

  only_map : (w : Walked (Beside K)) → only_kept (mapped through_beside w) ≡ mapped f (only_kept w)
  only_map (ended b R m) = refl
  only_map (exhausted m R) = refl

  -- leaves that do the same to what is kept give the same walk
  same_walk : (leaf_k : Leaf K) (leaf_l : Leaf L) → ((zs : List ℤ) (d : Float) (k : K) (R : Float) (m : ℕ) → leaf_l zs d (f k) R m ≡ mapped f (leaf_k zs d k R m)) → (t : Table) (b : ℕ) (k : K) (r : Running) (R : Float) → only_kept (walk (leaf_beside leaf_l) (running_centers t) t b (dimension t) [] plus_zero (ended (beside (f k) r) R 0)) ≡ mapped f (only_kept (walk (leaf_beside leaf_k) (running_centers t) t b (dimension t) [] plus_zero (ended (beside k r) R 0)))
  same_walk leaf_k leaf_l same t b k r R =
      ap only_kept (walk_map through_beside (leaf_beside leaf_k) (leaf_beside leaf_l) (running_centers t) (running_centers t) (record { same_at = λ level zs x. refl; same_moved = λ level z x. refl }) t b (λ zs d x S m. ap (with_running x.running) (same zs d x.kept S m) ∙ with_map x.running (leaf_k zs d x.kept S m)) (dimension t) [] plus_zero (ended (beside k r) R 0))
      ∙ only_map (walk (leaf_beside leaf_k) (running_centers t) t b (dimension t) [] plus_zero (ended (beside k r) R 0))

only_kept_lem : {K : Type 0} (r : Running) (w : Walked K) → only_kept (with_running r w) ≡ w
only_kept_lem r (ended k R m) = refl
only_kept_lem r (exhausted m R) = refl

-- ---- the two walks
abbrev from : {K : Type 0} → Leaf K → Table → ℕ → List ℤ → Float → Walked K → Running → Walked K
from leaf_k t b zs p w r = only_kept (walk (leaf_beside leaf_k) (running_centers t) t b (dimension t) zs p (with_running r w))

nearest_is : (t : Table) (target : List Float) (R : Float) (b : ℕ) → running_nearest t target R b ≡ from consider t b [] plus_zero (ended no_best R 0) (initialize_centers t target)
unfolding running_nearest
nearest_is t target R b = refl

list_is : (t : Table) (target : List Float) (R : Float) (b : ℕ) → running_list t target R b ≡ from collect t b [] plus_zero (ended [] R 0) (initialize_centers t target)
unfolding running_list
list_is t target R b = refl

walks : (listing : Bool) (room : ℕ) (t : Table) (target : List Float) (R : Float) (b : ℕ) → from (leaf listing room) t b [] plus_zero (ended nothing R 0) (initialize_centers t target) ≡ searched listing room t target R b
walks false room t target R b = same_walk best_only consider (leaf false room) (considers room) t b no_best (initialize_centers t target) R ∙ ap (mapped best_only) (sym (nearest_is t target R b))
walks true room t target R b =
    ap (λ (l : List ListPoint). from (leaf true room) t b [] plus_zero (ended (record { best = no_best; count = 0; stored = l }) R 0) (initialize_centers t target)) (sym (take-nil room))
    ∙ same_walk (list_only room) collect (leaf true room) (collects room) t b [] (initialize_centers t target) R
    ∙ ap (mapped (list_only room)) (sym (list_is t target R b))

-- ---- the start
abbrev zeros : List ℤ
zeros = replicate largest_searched (pos 0)

take_zeros : (n : ℕ) → n ≤ largest_searched → take n zeros ≡ replicate n (pos 0)
take_zeros n h =
    let e : n + (largest_searched - n) ≡ largest_searched = omega arith in
    ap (λ (k : ℕ). take n (replicate k (pos 0))) (sym e)
    ∙ ap (take n) (sym (replicate-append-replicate n (largest_searched - n) (pos 0)))
    ∙ take_at (replicate n (pos 0)) (replicate (largest_searched - n) (pos 0)) n (length-replicate n (pos 0))

initialize_is : (t : Table) (target : List Float) → initialize_centers t target ≡ record { point = replicate (dimension t) (pos 0); centers = add_rows (dimension t) t.mu target (dimension t) target }
unfolding initialize_centers
initialize_is t target = refl

-- nothing is kept
abbrev begins : Bool → List ℤ → Float → ℕ → Bool → List Float → List Float → List ℤ → State
begins listing best R found spent centers distances points = state (carried listing (search_of zeros best (record { radius = R; nodes = 0 })) found spent) centers distances points

nothing_seen : (listing : Bool) (n : ℕ) (best : List ℤ) (R : Float) (found : ℕ) (spent : Bool) (distances : List Float) (points : List ℤ) → found ≡ 0 → spent ≡ false → seen n (carried listing (search_of zeros best (record { radius = R; nodes = 0 })) found spent) distances points ≡ ended nothing R 0
nothing_seen listing n best R found spent distances points e f =
    ap (λ (x : ℕ). seen n (carried listing (search_of zeros best (record { radius = R; nodes = 0 })) x spent) distances points) e
    ∙ ap (λ (x : Bool). seen n (carried listing (search_of zeros best (record { radius = R; nodes = 0 })) 0 x) distances points) f
    ∙ by listing
  where
    keeping : List ListPoint → Walked Kept
    keeping l = ended (record { best = no_best; count = 0; stored = l }) R 0

    none : keeping (rows n (min 0 (length distances)) distances points) ≡ ended nothing R 0
    none = ap (λ (k : ℕ). keeping (rows n k distances points)) (zero-min (length distances)) ∙ ap keeping (rows_zero n distances points)

    by : (listing : Bool) → seen n (carried listing (search_of zeros best (record { radius = R; nodes = 0 })) 0 false) distances points ≡ ended nothing R 0
    by true = none
    by false = none

none_listed : (listing : Bool) (found : ℕ) → found ≡ 0 → cond listing found 0 ≤ 0
none_listed true found e = omega (arith, e)
none_listed false found e = omega arith

-- ---- the call of `search`: `new` are the centres at the start, written over the first n places of the array `old`
module _ {weights mu target : List Float} {best : List ℤ} {distances : List Float} {points : List ℤ} {found : ℕ} {spent : Bool} {b : ℕ} (ready : SearchReady weights mu target best distances points found spent b) (listing : Bool) (R : Float) (new old : List Float) (is : new ≡ start_centers mu target) (long : length old ≡ largest_searched) where
  abbrev t : Table
  t = table weights mu

  abbrev n : ℕ
  n = length weights

  abbrev centers : List Float
  centers = new ++ drop n old

  same_length : length new ≡ n
  same_length = ap length is ∙ start_length mu target ∙ ready.shape.target_length

  fits : n ≤ length old
  fits = omega (arith, ready.shape.small, long)

  abbrev pub start_call : Call
  start_call = record { listing = listing; table = t; budget = b; depth = n; partial = of_bits binary64 0; from = begins listing best R found spent centers distances points }

  pub ready_at_start : Ready start_call
  ready_at_start = record {
    small = ready.shape.small;
    square = ready.shape.square;
    within = omega arith;
    bounded = ready.bounded;
    counted = omega arith;
    not_exhausted = ready.not_exhausted;
    listed = none_listed listing found ready.none_found;
    point_length = refl;
    best_length = ready.best_length;
    centers_length = prefix_length old new n fits same_length ∙ long;
    few = ready.few;
    points_length = ready.points_length;
  }

  running_at_start : running_of n zeros centers ≡ initialize_centers t target
  running_at_start =
      ap (λ (l : List ℤ). record { point = l; centers = take n centers }) (take_zeros n ready.shape.small)
      ∙ ap (λ (l : List Float). record { point = replicate n (pos 0); centers = l }) (prefix_is old new n fits same_length ∙ is ∙ ap (λ (k : ℕ). add_rows k mu target k target) ready.shape.target_length)
      ∙ sym (initialize_is t target)

  walk_from_start : only_kept (walk_of start_call) ≡ searched listing (length distances) t target R b
  walk_from_start =
      ap (λ (x : Float). from (leaf listing (length distances)) t b (places n n zeros) x (seen n start_call.from.search distances points) (running_of n zeros centers)) zero_is
      ∙ ap (λ (zs : List ℤ). from (leaf listing (length distances)) t b zs plus_zero (seen n start_call.from.search distances points) (running_of n zeros centers)) (places_none n zeros (omega (arith, ready.shape.small)) n (omega arith))
      ∙ ap (λ (w : Walked Kept). from (leaf listing (length distances)) t b [] plus_zero w (running_of n zeros centers)) (nothing_seen listing n best R found spent distances points ready.none_found ready.not_exhausted)
      ∙ ap (from (leaf listing (length distances)) t b [] plus_zero (ended nothing R 0)) running_at_start
      ∙ walks listing (length distances) t target R b

  -- what it has come to
  pub searched_at_end : (point best' : List ℤ) (r : Standing) (found' : ℕ) (spent' : Bool) (centers' distances' : List Float) (points' : List ℤ) → Returned start_call (state (carried listing (search_of point best' r) found' spent') centers' distances' points') → Searched listing t target R b distances points r best' distances' points' found' spent'
  searched_at_end point best' r found' spent' centers' distances' points' x = record {
    seen_as = sym (only_kept_lem (running_of n point centers') (seen n (carried listing (search_of best' best' r) found' spent') distances' points')) ∙ ap only_kept x.seen_as ∙ walk_from_start;
    counted = x.preserved.counted;
    best_length = x.preserved.best_length;
    distances_length = x.preserved.distances_length;
    points_length = x.preserved.points_length;
  }

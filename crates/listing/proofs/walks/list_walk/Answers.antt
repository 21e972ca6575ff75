-- `list_walk` meets its contract: the walk from its start is the list walk, and what it stored are its points. Assumes nothing.
use mathlib.Core.Path.{◌≡◌, refl, ap, sym, ◌∙◌}
use mathlib.Core.Bool.{true}
use mathlib.Core.List.{List}
use Prim.Native.Nat.{ℕ}
use lib.ListN.{length}
use Rattle.definitions.specs.Table.{table}
use Rattle.definitions.specs.Walk.{Walked}
use Rattle.definitions.specs.Listing.{ListPoint, list_walk}
use Rattle.search.specs.View.{carried}
use Rattle.search.specs.Call.{State, state}
use Rattle.search.proofs.Map.{mapped}
use Rattle.search.proofs.States.{view}
use Rattle.search.proofs.Instances.{list_only, list_instance, walk_from_start, ready_at_start}
use Rattle.search.proofs.Outcomes.{is_exhausted, is_listed}
use Rattle.listing.specs.View.{ending_of}
use Rattle.listing.proofs.WalkEnds.{exhausted_unlisted, found_ending, found_stored}
use Rattle.listing.proofs.walks.list_walk.Goals as goal
use Rattle.listing.proofs.walks.list_walk.Goals.{After-run-end}

-- what the search has come to, and the walk that it has made
abbrev end : After-run-end → State
end v = let w = v.run-end.new in state (carried true v.run-end.result w.found w.exhausted) w.rest w.distances w.points

abbrev walk : After-run-end → Walked (List ListPoint)
walk v = let a = v.args in list_walk (table a.weights.now a.mu.now) a.target.now a.radius a.budget

seen_as : (v : After-run-end) → view (length v.args.weights.now) (end v) ≡ mapped (list_only (length (end v).distances)) (walk v)
seen_as v =
    let a = v.args in
    let t = table a.weights.now a.mu.now in
    v.run-end.ensures.seen_as
    ∙ walk_from_start true t a.target.now a.budget a.radius _ v.new.ensures a.distances.now a.points.now v.requires.shape
    ∙ list_instance t a.target.now a.radius a.budget (length a.distances.now)
    ∙ ap (λ (k : ℕ). mapped (list_only k) (walk v)) (sym v.run-end.ensures.preserved.distances_length)

pub run-end-requires : goal.run-end-requires
run-end-requires c =
    let a = c.args in
    ready_at_start true (table a.weights.now a.mu.now) a.target.now a.budget a.radius _ c.new.ensures a.distances.now a.points.now c.requires.shape _ c.requires.bounded refl c.requires.few c.requires.points_length

pub returns-then-exhausted : goal.returns-then-exhausted
returns-then-exhausted c =
    let v = (goal.at.returns-then-exhausted c).After-run-end in
    let left = v.run-end.ensures.preserved in
    let e = is_exhausted (list_only (length (end v).distances)) (length v.args.weights.now) (end v) (walk v) (seen_as v) c.if-exhausted.true in
    record {
      ending = sym (ap ending_of e);
      stored = λ ps R m q. absurd (exhausted_unlisted (walk v) _ _ e ps R m q);
      distances_length = left.distances_length;
      points_length = left.points_length ∙ v.requires.points_length;
    }

pub returns : goal.returns
returns c =
    let v = (goal.at.returns c).After-run-end in
    let n = length v.args.weights.now in
    let left = v.run-end.ensures.preserved in
    let l = is_listed n (end v) (walk v) (seen_as v) c.if-exhausted.false in
    record {
      ending = found_ending n (end v) (walk v) l;
      stored = found_stored n (end v) (walk v) l (length v.args.distances.now) left.distances_length;
      distances_length = left.distances_length;
      points_length = left.points_length ∙ v.requires.points_length;
    }

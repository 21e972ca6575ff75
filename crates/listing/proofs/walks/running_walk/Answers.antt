-- `running_walk` meets its contract: the search with running centres is their list walk, and what it stored are its points. Assumes nothing.
use mathlib.Core.Path.{◌≡◌, ap, sym, ◌∙◌}
use mathlib.Core.Bool.{true}
use mathlib.Core.List.{List, []}
use Prim.Native.Nat.{ℕ}
use lib.ListN.{length}
use Rattle.definitions.specs.Table.{table}
use Rattle.definitions.specs.Walk.{Walked}
use Rattle.definitions.specs.Listing.{ListPoint}
use Rattle.definitions.specs.Running.{running_list}
use Rattle.search.specs.Kept.{mapped, list_only}
use Rattle.search.specs.View.{carried}
use Rattle.search.specs.Call.{State, state}
use Rattle.search.proofs.States.{view}
use Rattle.search.proofs.Outcomes.{is_exhausted, is_listed}
use Rattle.running.specs.Call.{search_of}
use Rattle.listing.specs.View.{ending_of}
use Rattle.listing.proofs.WalkEnds.{exhausted_unlisted, found_ending, found_stored}
use Rattle.listing.proofs.walks.running_walk.Goals as goal
use Rattle.listing.proofs.walks.running_walk.Goals.{After-search-end}

-- what the search has come to, and the walk that it has made
abbrev end : After-search-end → State
end v = state (carried true (search_of v.search-end.new.best v.search-end.new.best v.search-end.result) v.search-end.new.found v.search-end.new.exhausted) [] v.search-end.new.distances v.search-end.new.points

abbrev walk : After-search-end → Walked (List ListPoint)
walk v = let a = v.args in running_list (table a.weights.now a.mu.now) a.target.now a.radius a.budget

seen_as : (v : After-search-end) → view (length v.args.weights.now) (end v) ≡ mapped (list_only (length (end v).distances)) (walk v)
seen_as v = v.search-end.ensures.seen_as ∙ ap (λ (k : ℕ). mapped (list_only k) (walk v)) (sym v.search-end.ensures.distances_length)

pub returns-then-exhausted : goal.returns-then-exhausted
returns-then-exhausted c =
    let v = (goal.at.returns-then-exhausted c).After-search-end in
    let left = v.search-end.ensures in
    let e = is_exhausted (list_only (length (end v).distances)) (length v.args.weights.now) (end v) (walk v) (seen_as v) c.if-exhausted.true in
    record {
      ending = sym (ap ending_of e);
      stored = λ ps R m q. absurd (exhausted_unlisted (walk v) _ _ e ps R m q);
      distances_length = left.distances_length;
      points_length = left.points_length ∙ v.requires.points_length;
    }

pub returns : goal.returns
returns c =
    let v = (goal.at.returns c).After-search-end in
    let n = length v.args.weights.now in
    let left = v.search-end.ensures in
    let l = is_listed n (end v) (walk v) (seen_as v) c.if-exhausted.false in
    record {
      ending = found_ending n (end v) (walk v) l;
      stored = found_stored n (end v) (walk v) l (length v.args.distances.now) left.distances_length;
      distances_length = left.distances_length;
      points_length = left.points_length ∙ v.requires.points_length;
    }

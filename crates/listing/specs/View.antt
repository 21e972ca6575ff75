-- What the code's answers stand for. Definitions only.
use Rattle.std.specs.Prelude.{◌≡◌, Result, Ok, Err, ℕ, List, length, ℤ, Float}
use Rattle.std.specs.Borrow.{Bor, MutBor}
use denote.Triple.Both.{Both}
use Rattle.definitions.specs.Lent.{at_entry, table_at}
use Rattle.definitions.specs.Walk.{Walked, ended, exhausted}
use Rattle.definitions.specs.Listing.{ListPoint}
use Rattle.definitions.specs.Calls.{Answer, found, refused}
use Rattle.definitions.specs.Calls as C
use Rattle.refusals.specs.Numbers.{numbered}
use Rattle.refusals.specs.declared.Refusal.{Refusal}
use Rattle.listing.specs.declared.ListFound.{ListFound}
use Rattle.listing.specs.declared.Exhausted.{Exhausted}

-- the node count of a list and how many points it has: the points themselves go to the lent slices
pub record Counts : Type 0 where
  pub nodes : ℕ
  pub points : ℕ

-- what of the specification's answer the code's answer tells
abbrev pub counts_of : Answer C.ListAnswer → Answer Counts
counts_of (found a) = found (record { nodes = a.nodes; points = length a.points })
counts_of (refused e) = refused e

-- what the code's answer tells
abbrev pub list_answer : Result ListFound Refusal → Answer Counts
list_answer (Ok f) = found (record { nodes = f.nodes; points = f.points })
list_answer (Err e) = refused (numbered e)

-- a call's answer and what it leaves in the lent slices are what the specification's answer l says
pub record ListAnswered (l : Answer C.ListAnswer) (r : Result ListFound Refusal) (distances distances' : List Float) (points points' : List ℤ) : Type 0 where
  pub tells : list_answer r ≡ counts_of l
  pub writes_distances : distances' ≡ C.list_distances l distances
  pub writes_points : points' ≡ C.list_points l points

-- how a list walk ended: with so many points, or out of budget
abbrev pub ending_of : Walked (List ListPoint) → Result ListFound Exhausted
ending_of (ended ps standing nodes) = Ok (record { nodes = nodes; points = length ps })
ending_of (exhausted nodes standing) = Err (record { nodes = nodes; radius = standing })

-- the specification's list of what the slices hold at entry
module _ {A B T D E : Type 0} where
  abbrev pub list_at : Both (Bor (List Float)) A → Both (Bor (List Float)) B → Both (Bor (List Float)) T → Both (MutBor (List Float)) D → Both (MutBor (List ℤ)) E → Float → ℕ → Answer C.ListAnswer
  list_at weights mu target distances points radius budget = C.list (table_at weights mu) (at_entry target) distances.entry.now points.entry.now radius budget

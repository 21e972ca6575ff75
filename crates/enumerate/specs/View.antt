-- What the code's answers stand for. Definitions only.
use Rattle.std.specs.Prelude.{◌≡◌, List, ℤ, Result, Ok, Err}
use Rattle.definitions.specs.Walk.{Walked, ended, exhausted}
use Rattle.definitions.specs.Nearest.{Best, no_best, best}
use Rattle.definitions.specs.Calls.{Answer, found, refused}
use Rattle.definitions.specs.Calls as C
use Rattle.refusals.specs.Numbers.{numbered}
use Rattle.refusals.specs.declared.Refusal.{Refusal}
use Rattle.enumerate.specs.declared.NearestPoint.{NearestPoint}
use Rattle.enumerate.specs.declared.Ending.{Ending}
use Rattle.enumerate.specs.declared.Ending.TheVariants.{Point, Nothing, Exhausted}

-- how a walk ended, out being the output slice at exit
abbrev pub walked_of : Ending → List ℤ → Walked Best
walked_of (Point nodes standing) out = ended (best out) standing nodes
walked_of (Nothing nodes standing) out = ended no_best standing nodes
walked_of (Exhausted nodes standing) out = exhausted nodes standing

-- what a walk leaves in the output slice
abbrev pub walk_output : Walked Best → List ℤ → List ℤ
walk_output (ended (best zs) standing nodes) out = zs
walk_output (ended no_best standing nodes) out = out
walk_output (exhausted nodes standing) out = out

-- the code's walk r, with ' the output slice at exit, is the walk w
pub record NearestWalked (w : Walked Best) (out : List ℤ) (r : Ending) (out' : List ℤ) : Type 0 where
  pub tells : walked_of r out' ≡ w
  pub writes : out' ≡ walk_output w out

-- the answer, out being the output slice at exit
abbrev pub nearest_answer : Result NearestPoint Refusal → List ℤ → Answer C.NearestPoint
nearest_answer (Ok p) out = found (record { nodes = p.nodes; distance = p.distance; point = out })
nearest_answer (Err e) out = refused (numbered e)

-- a call's answer r and what it leaves in the output slice are what the specification's answer a says
pub record NearestAnswered (a : Answer C.NearestPoint) (out : List ℤ) (r : Result NearestPoint Refusal) (out' : List ℤ) : Type 0 where
  pub tells : nearest_answer r out' ≡ a
  pub writes : out' ≡ C.nearest_output a out

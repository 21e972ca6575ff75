-- What the calls leave: the answer, the output and the block. Definitions only.
use Rattle.std.specs.Prelude.{◌≡◌, List, ℤ, Result}
use Rattle.definitions.specs.Calls as C
use Rattle.definitions.specs.Block.{Block}
use Rattle.enumerate.specs.View.{NearestAnswered}
use Rattle.refusals.specs.declared.Refusal.{Refusal}
use Rattle.enumerate.specs.declared.NearestPoint.{NearestPoint}

-- a call's answer r, what it leaves in the output slice and what it leaves in the block are what the specification's answer a and block b say
pub record KeptAnswered (a : C.Answer C.NearestPoint) (b : Block) (out : List ℤ) (r : Result NearestPoint Refusal) (out' : List ℤ) (b' : Block) : Type 0 where
  pub answered : NearestAnswered a out r out'
  pub block_is : b' ≡ b

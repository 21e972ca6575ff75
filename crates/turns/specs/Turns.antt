-- What a turn asks for on the part of one name, and what it tells and leaves; ' marks what is there at exit. Definitions only.
use Rattle.std.specs.Prelude.{◌≡◌, Result, Err, true, List, ℕ, ◌≤◌, length, take, ℤ}
use Rattle.definitions.specs.Table.{largest_dimension}
use Rattle.definitions.specs.Block.{Block, part_dimension, is_sound, part_slot, rewritten, part_of, slot_in, with_part}
use Rattle.definitions.specs.Turn as D
use Rattle.refusals.specs.declared.Refusal.{Refusal}
use Rattle.enumerate.specs.View.{nearest_answer, NearestAnswered}
use Rattle.enumerate.specs.declared.NearestPoint.{NearestPoint}
use Rattle.parts.specs.Parts.{PartLengths}
use Rattle.turns.specs.declared.TurnAnswer.{TurnAnswer}

-- what a check refuses
abbrev pub refused_turn : Refusal → TurnAnswer
refused_turn e = record { name = 0; n = 0; answer = Err e }

-- ---- `serve_part`
pub record PartReady (p : Block) (out : List ℤ) : Type 0 where
  pub lengths : PartLengths p
  pub sound : is_sound p.counts ≡ true
  pub output_length : length out ≡ part_dimension p.counts

pub record PartServed (p : Block) (out : List ℤ) (slice : ℕ) (r : Result NearestPoint Refusal) (out' : List ℤ) (p' : Block) : Type 0 where
  pub answered : NearestAnswered (D.slice_answer slice (part_slot p)) out r out'
  pub part_is : p' ≡ rewritten p (D.slice_slot slice (part_slot p))

-- ---- `serve`
pub record ServeReady (b : Block) (out : List ℤ) (name : ℕ) : Type 0 where
  pub least : 1 ≤ name
  pub most : name ≤ 8
  pub reals_length : length b.reals ≡ 5168
  pub integers_length : length b.integers ≡ 736
  pub counts_length : length b.counts ≡ 768
  pub sound : is_sound (part_of b name).counts ≡ true
  pub output_length : length out ≡ largest_dimension

-- what is told, out being the output slice at exit: a point stands in its first n places
abbrev pub turn_of : TurnAnswer → List ℤ → D.Turn
turn_of r out = record { name = r.name; n = r.n; answer = nearest_answer r.answer (take r.n out) }

pub record NameServed (b : Block) (out : List ℤ) (name slice : ℕ) (r : TurnAnswer) (out' : List ℤ) (b' : Block) : Type 0 where
  pub tells : turn_of r out' ≡ record { name = name; n = D.slot_dimension (slot_in b name); answer = D.slice_answer slice (slot_in b name) }
  pub writes : out' ≡ D.turn_output (D.slice_answer slice (slot_in b name)) out
  pub block_is : b' ≡ with_part b name (rewritten (part_of b name) (D.slice_slot slice (slot_in b name)))

-- ---- `turn`: r, the output, the block and the name last served are what the specification says of this input
pub record TurnAnswered (b : Block) (last : ℕ) (out : List ℤ) (slice : ℕ) (r : TurnAnswer) (out' : List ℤ) (b' : Block) (last' : ℕ) : Type 0 where
  pub tells : turn_of r out' ≡ D.turn b last out slice
  pub writes : out' ≡ D.turn_output (D.turn b last out slice).answer out
  pub block_is : b' ≡ D.block_after_turn b last out slice
  pub last_is : last' ≡ D.last_after_turn b last out slice

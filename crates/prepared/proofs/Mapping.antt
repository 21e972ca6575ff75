-- An answer of a search over the table, in the receiver's coordinates. Assumes nothing.
use mathlib.Core.Path.{◌≡◌, ap, sym, ◌∙◌}
use mathlib.Core.List.{List}
use Prim.Native.Nat.{ℕ}
use lib.IntN.{ℤ}
use Rattle.std.specs.Prelude.{Ok}
use Rattle.definitions.specs.Checks.{pass, refuse}
use Rattle.definitions.specs.Calls.{Answer, found, refused, NearestPoint, nearest_output}
use Rattle.definitions.specs.Prepared.{mapped_point, mapped_range_check, mapped_answer}
use Rattle.definitions.proofs.Answers.{after_pass, after_refuse, output_found}
use Rattle.definitions.proofs.Prepared.{mapped_found, map_found}
use Rattle.refusals.specs.Numbers.{numbered}
use Rattle.refusals.specs.declared.Refusal.{Refusal}
use Rattle.enumerate.specs.declared.NearestPoint.{NearestPoint as CodePoint}
use Rattle.enumerate.specs.View.{nearest_answer, NearestAnswered}

module _ (n : ℕ) (transform point : List ℤ) (p : CodePoint) where
  -- the point that the search found
  abbrev searched : NearestPoint
  searched = record { nodes = p.nodes; distance = p.distance; point = point }

  -- 24
  pub range_refused : (e : Refusal) → refuse (numbered e) ≡ mapped_range_check n transform point → mapped_answer n transform (nearest_answer (Ok p) point) ≡ refused (numbered e)
  range_refused e q = map_found n transform searched ∙ after_refuse _ _ (numbered e) (sym q)

  -- the point is mapped
  pub point_mapped : {out out' : List ℤ} → pass ≡ mapped_range_check n transform point → out' ≡ mapped_point n transform point → NearestAnswered (mapped_answer n transform (nearest_answer (Ok p) point)) out (Ok p) out'
  point_mapped {out} inside written =
      let is = map_found n transform searched ∙ after_pass _ _ (sym inside) in
      record {
        tells = ap (λ (zs : List ℤ). found (record { nodes = p.nodes; distance = p.distance; point = zs })) written ∙ sym is;
        writes = written ∙ sym (ap (λ (a : Answer NearestPoint). nearest_output a out) is ∙ output_found (mapped_found n transform searched) out);
      }

-- `residuals_of` writes the residuals: each below the level is the coordinate less the point's. Assumes nothing.
use native.Mathlib.Omega.{arith}
use lib.ListN.{length}
use Rattle.resume.proofs.Residuals.{beside_written}
use Rattle.resume.proofs.residuals_of.Goals as goal

pub returns : goal.returns
returns c =
    let a = c.args in
    record {
      rest_length = c.loop-level.invariant.long;
      beside = beside_written (length a.target.now) a.target.now c.loop-level.rest a.point.now (omega arith) (omega arith) (λ k h. c.loop-level.invariant.written k (omega arith));
    }

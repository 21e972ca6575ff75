-- `rounding::total_cmp` asks std's where neither is a NaN. Assumes nothing.
use Rattle.std.proofs.Common.{◌≡◌, true, ◌||◌, sym, ◌∙◌, arith}
use Rattle.rounding.proofs.Total.{nan_total, number_total}
use Rattle.rounding.proofs.total_cmp.Goals as goal
use Rattle.rounding.proofs.total_cmp.Goals.{then-first-via-then-first, then-first-via-else-first+then-second}

pub returns-then-first : goal.returns-then-first
returns-then-first c =
    let a = c.is_nan-first in
    let b = c.is_nan-second in
    let one : a.result || b.result ≡ true = elim c.then-first.branch [ then-first-via-then-first w ↦ grind arith | then-first-via-else-first+then-second w ↦ grind arith ] in
    rw (c.cmp.ensures, a.ensures.value, b.ensures.value) (nan_total c.args.x c.args.y (rw (a.ensures.value, b.ensures.value) at one))

pub returns : goal.returns
returns c = c.total_cmp.ensures ∙ number_total c.args.x c.args.y (sym c.is_nan-first.ensures.value ∙ c.if-first.false) (sym c.is_nan-second.ensures.value ∙ c.if-second.false)

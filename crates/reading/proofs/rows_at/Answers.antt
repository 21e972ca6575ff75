-- `rows_at`: the rows passed stand over zeros. Assumes nothing.
use mathlib.Core.Path.{◌≡◌, ap, sym, subst, ◌∙◌}
use mathlib.Core.List.{List}
use Prim.Native.Nat.{ℕ, suc, ◌+◌, ◌-◌, ◌*◌, ◌≤◌, ◌<◌}
use native.Mathlib.Omega.{arith}
use native.Mathlib.Numerals.{add-one}
use native.Mathlib.Nat.{add-zero, mul-le-mul_right, suc-mul}
use borrow.Rule.Slice.PartMut.{put_mid}
use lib.ListN.{length, take, drop, length-drop}
use lib.Seq.{length-take-le}
use lib.Ieee.{Float}
use Rattle.definitions.specs.JobLayout.{triangle}
use Rattle.definitions.proofs.Triangles.{triangle_suc}
use Rattle.reading.proofs.Rows.{triangle_more, part, rows_over_zeros, length_over_zeros, next_row, no_rows, entries, enough}
use Rattle.reading.proofs.rows_at.Goals as goal

-- a row's places lie within mu
row_fits : (j n : ℕ) → j < n → j * n + j ≤ n * n
row_fits j n h = let m = mul-le-mul_right n h in let s = suc-mul j n in omega (arith, m, s, h)

-- a row's entries lie within those given
row_given : (j n : ℕ) → j < n → triangle j + j ≤ triangle n
row_given j n h =
    let all : suc j + (n - suc j) ≡ n = omega (arith, h) in
    let more = subst (λ (m : ℕ). triangle (suc j) ≤ triangle m) all (triangle_more (suc j) (n - suc j)) in
    let s = triangle_suc j in
    omega (arith, more, s)

-- how much of mu is lent for a row
lent : (j n k : ℕ) (mu : List Float) → j < n → length mu ≡ n * n → k ≡ j → length (take k (drop (j * n) mu)) ≡ j
lent j n k mu h whole same =
    let f = row_fits j n h in
    let l = length-drop (j * n) mu in
    length-take-le k (drop (j * n) mu) (omega (arith, f, l, whole, same)) ∙ same

pub loop-j-init : goal.loop-j-init
loop-j-init c =
    let a = c.args in
    let zeros = c.requires.zeros ∙ sym (no_rows a.n (entries a.input.now a.section a.n) (enough a.input.now a.section a.n)) in
    record {
      count = omega arith;
      offset = sym (add-zero (a.section + 4));
      rows-so-far = zeros;
      size = ap length zeros ∙ length_over_zeros a.n (entries a.input.now a.section a.n) (enough a.input.now a.section a.n) 0 (omega arith);
    }

pub loop-j-preserved : goal.loop-j-preserved
loop-j-preserved c =
    let l = c.loop-j in
    let input = c.args.input.now in
    let section = c.args.section in
    let n = c.args.n in
    let es = entries input section n in
    let less = c.loop-j-test.true in
    let k = l.j * n + l.j - l.j * n in
    let same : k ≡ l.j = omega arith in
    let size = lent l.j n k l.mu less l.invariant.size same in
    let row = part input (section + 4) (triangle l.j) l.j (triangle n) (row_given l.j n less) in
    let more = next_row n es (enough input section n) l.j less k same in
    let next : put_mid (l.j * n) k l.mu c.doubles_at.new.out ≡ rows_over_zeros n es (enough input section n) (l.j + 1) = cc (row, more, size, c.doubles_at.ensures, l.invariant.offset, l.invariant.rows-so-far, add-one l.j) in
    let t = triangle_suc l.j in
    let one = ap triangle (add-one l.j) in
    let here = l.invariant.offset in
    record {
      count = omega (arith, less);
      offset = omega (arith, t, one, here);
      rows-so-far = next;
      size = ap length next ∙ length_over_zeros n es (enough input section n) (l.j + 1) (omega (arith, less));
    }

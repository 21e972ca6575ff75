-- Sums of values that are not negative, an infinity among them: a sum is one, it is no smaller than its first part, and it keeps the order in both. A sum that stays below a finite radius leaves its second part within what remains of the radius, as computed. Assumes nothing.
use Rattle.std.proofs.Common.{◌≡◌, ℕ, ◌+◌, ◌-◌, ◌*◌, ◌<◌, ◌≤◌, true, false, T, sym, refl, ap, ◌∙◌, subst, true≢false, le_trans, le_of_eq, lt_of_lt_of_le, lt_of_le_of_lt, lt_of_not-le, not-le_of_lt, arith}
use lib.Ieee.{Float, nan, inf, fin, Format, up, down, round, sum, add, sub, le, lt, is_nan}
use lib.Ieee.Scale.{finite}
use Rattle.rounding.specs.Doubles.{negative}
use Rattle.rounding.specs.Kinds.{Finite, NonNegative}
use Rattle.rounding.proofs.Value.{number, inf_nonneg, finite_lt, finite_of_lt, mid, ord, ord_high, ord_inf, nonneg_ord, nonneg_mid, above_mid, le→ord, ord→le, lt→ord, lt→le, float_le_inf}
use Rattle.rounding.proofs.Rounding.{round_sign, rnd, rnd_mono, rnd_fix}
use Rattle.rounding.proofs.Addition.{add_fin, add_inf, ord_add, add_number, add_mono, add_grows}
use Rattle.rounding.proofs.Subtraction.{ord_sub, sub_number}

inf_add : (f : Format) (y : Float) → NonNegative f y → add f (inf false) y ≡ inf false
unfolding add is_nan
inf_add f nan q = absurd q.num.num
inf_add f (inf true) q = absurd (true≢false q.plus)
inf_add f (inf false) q = refl
inf_add f (fin t n d) q = refl

sum_plus : (f : Format) (A B C : ℕ) → sum f false A false B C ≡ round f false (A + B) C
unfolding sum
sum_plus f A B C = refl

pub record NonNegativeSum (f : Format) (x y : Float) : Type 0 where
  pub sum : NonNegative f (add f x y)
  pub first : ord f x ≤ ord f (add f x y)

pub add_nonneg : (f : Format) (x y : Float) → NonNegative f x → NonNegative f y → NonNegativeSum f x y
add_nonneg f nan y p q = absurd (unfold is_nan in p.num.num)
add_nonneg f (inf true) y p q = absurd (true≢false p.plus)
add_nonneg f (inf false) y p q = record { sum = subst (NonNegative f) (sym (inf_add f y q)) (inf_nonneg f); first = le_of_eq (ap (ord f) (sym (inf_add f y q))) }
add_nonneg f (fin true m e) y p q = absurd (true≢false p.plus)
add_nonneg f (fin false m e) nan p q = absurd (unfold is_nan in q.num.num)
add_nonneg f (fin false m e) (inf true) p q = absurd (true≢false q.plus)
add_nonneg f (fin false m e) (inf false) p q = record {
  sum = subst (NonNegative f) (sym (add_inf f false m e false)) (inf_nonneg f);
  first = le_trans (ord_high f (fin false m e) p.num) (le_of_eq (sym (ord_inf f) ∙ ap (ord f) (sym (add_inf f false m e false))));
}
add_nonneg f (fin false m e) (fin true n d) p q = absurd (true≢false q.plus)
add_nonneg f (fin false m e) (fin false n d) p q =
    let a : Finite f (fin false m e) = record { fit = p.num.fit; fin = tt } in
    let b : Finite f (fin false n d) = record { fit = q.num.fit; fin = tt } in
    let A = m * up e * down d in
    let B = n * up d * down e in
    let C = down e * down d in
    record {
      sum = record { num = add_number a q.num; plus = ap negative (add_fin f false m e false n d ∙ sum_plus f A B C) ∙ round_sign f false (A + B) C };
      first = add_grows a b (nonneg_mid q);
    }

-- x ≤ fl(x + y)
pub add_above : (f : Format) (x y : Float) → NonNegative f x → NonNegative f y → T (le x (add f x y))
add_above f x y p q = let s = add_nonneg f x y p q in ord→le f p.num s.sum.num s.first

-- what is not above a finite value is finite
pub finite_below : {f : Format} {x r : Float} → NonNegative f x → Finite f r → T (le x r) → Finite f x
finite_below {f} {x} {r} p q h =
    let k : ord f x ≤ ord f r = le→ord f p.num (number q) h in
    finite_of_lt p.num (omega (arith, nonneg_ord p, above_mid f r q.fit (le_trans (nonneg_mid p) k), finite_lt q))

pub add_nonneg_mono : {f : Format} {x y x' y' : Float} → NonNegative f x → NonNegative f y → NonNegative f x' → NonNegative f y' → T (le x x') → T (le y y') → T (le (add f x y) (add f x' y'))
add_nonneg_mono {f} {x} {y} {x'} {y'} p q p' q' h k = go x' y' p' q' h k
  where
    top : T (le (add f x y) (inf false))
    top = float_le_inf f (add_nonneg f x y p q).sum.num

    go : (x' y' : Float) → NonNegative f x' → NonNegative f y' → T (le x x') → T (le y y') → T (le (add f x y) (add f x' y'))
    go nan y' p' q' h k = absurd (unfold is_nan in p'.num.num)
    go (inf true) y' p' q' h k = absurd (true≢false p'.plus)
    go (inf false) y' p' q' h k = rw (inf_add f y' q') top
    go (fin s m e) nan p' q' h k = absurd (unfold is_nan in q'.num.num)
    go (fin s m e) (inf true) p' q' h k = absurd (true≢false q'.plus)
    go (fin s m e) (inf false) p' q' h k = rw (add_inf f s m e false) top
    go (fin s m e) (fin t n d) p' q' h k =
        let a : Finite f (fin s m e) = record { fit = p'.num.fit; fin = tt } in
        let b : Finite f (fin t n d) = record { fit = q'.num.fit; fin = tt } in
        add_mono (finite_below p a h) (finite_below q b k) a b h k

-- ---- what remains of a radius

-- of finite values
remaining : {f : Format} {x y r : Float} → Finite f x → Finite f y → Finite f r → T (lt (add f x y) r) → T (le y (sub f r x))
remaining {f} {x} {y} {r} p q w h =
    ord→le f (number q) (sub_number w p)
    (rw (ord_sub f r x w p) (le_trans (le_of_eq (sym (rnd_fix q))) (rnd_mono f (ord f y) (mid f + ord f r - ord f x) (omega (arith, under)))))
  where
    exact : rnd f (ord f x + ord f y - mid f) < rnd f (ord f r)
    exact = lt_of_le_of_lt (le_of_eq (sym (ord_add f x y p q))) (lt_of_lt_of_le (lt→ord f (add_number p (number q)) (number w) h) (le_of_eq (sym (rnd_fix w))))

    under : ord f x + ord f y - mid f < ord f r
    under = lt_of_not-le (λ (k : ord f r ≤ ord f x + ord f y - mid f). not-le_of_lt exact (rnd_mono f (ord f r) (ord f x + ord f y - mid f) k))

-- fl(x + y) < r gives y ≤ fl(r - x)
pub remaining_fits : (f : Format) (x y r : Float) → NonNegative f x → NonNegative f y → Finite f r → T (lt (add f x y) r) → T (le y (sub f r x))
remaining_fits f x y r p q w h = remaining (record { fit = p.num.fit; fin = parts.0 }) (record { fit = q.num.fit; fin = parts.1 }) w h
  where
    go : (x y : Float) → NonNegative f x → NonNegative f y → T (finite (add f x y)) → T (finite x) × T (finite y)
    go nan y p q t = absurd (unfold is_nan in p.num.num)
    go (inf true) y p q t = absurd (true≢false p.plus)
    go (inf false) y p q t = absurd (rw (inf_add f y q) at t)
    go (fin s m e) nan p q t = absurd (unfold is_nan in q.num.num)
    go (fin s m e) (inf u) p q t = absurd (rw (add_inf f s m e u) at t)
    go (fin s m e) (fin u n d) p q t = (tt, tt)

    parts : T (finite x) × T (finite y)
    parts = go x y p q (finite_below (add_nonneg f x y p q).sum w (lt→le (add f x y) r h)).fin

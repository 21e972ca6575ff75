-- The group of a refusal's number, by the range that it is in. Assumes nothing.
use Rattle.std.proofs.Common.{◌≡◌, ℕ, ◌<◌, ◌≤◌, sym, ap, arith, ne_eqb, le-leb}
use borrow.Author.Tests.{lt-leb}
use Rattle.definitions.specs.JobText.{text, group}

pub layout_group : (number : ℕ) → number ≤ 1 → text "layout" ≡ group number
unfolding group
layout_group number h = simp (le-leb number 1 h)

pub table_group : (number : ℕ) → 1 < number → number ≤ 5 → text "table" ≡ group number
unfolding group
table_group number l h = simp (lt-leb number 1 l, le-leb number 5 h)

pub call_group : (number : ℕ) → 5 < number → number ≤ 14 → text "call" ≡ group number
unfolding group
call_group number l h = let k : 1 < number = omega arith in simp (lt-leb number 1 k, lt-leb number 5 l, le-leb number 14 h)

pub settings_group : (number : ℕ) → number ≡ 21 → text "layout" ≡ group number
unfolding group
settings_group number e = ap group (sym e)

pub search_group : (number : ℕ) → 14 < number → (number ≡ 21 → ⊥) → text "search" ≡ group number
unfolding group
search_group number l other =
    let k : 1 < number = omega arith in
    let m : 5 < number = omega arith in
    simp (lt-leb number 1 k, lt-leb number 5 m, lt-leb number 14 l, ne_eqb number 21 other)

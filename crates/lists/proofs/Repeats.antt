-- The first part of an array made by repetition. Assumes nothing.
use mathlib.Core.Path.{◌≡◌, sym, subst}
use Prim.Native.Nat.{ℕ, ◌≤◌}
use lib.ListN.{length, take, replicate, length-replicate}
use lib.Seq.{length-take-le}

pub repeat_prefix : {A : Type 0} (n k : ℕ) (x : A) → k ≤ n → length (take k (replicate n x)) ≡ k
repeat_prefix n k x h = length-take-le k (replicate n x) (subst (λ (m : ℕ). k ≤ m) (sym (length-replicate n x)) h)

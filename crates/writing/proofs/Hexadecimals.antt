-- Hexadecimal digits, from the last. Assumes nothing.
use Rattle.std.proofs.Common.{◌≡◌, ℕ, suc, ◌/◌, ◌%◌, List, [], ◌∷◌, length, refl}
use lib.Ieee.{Float, binary64, to_bits}
use Rattle.definitions.specs.JobText.{digit, hexadecimal_before, hexadecimal}

pub no_digits : (n : ℕ) (rest : List ℕ) → hexadecimal_before 0 n rest ≡ rest
unfolding hexadecimal_before
no_digits n rest = refl

pub more_digits : (width n : ℕ) (rest : List ℕ) → hexadecimal_before (suc width) n rest ≡ hexadecimal_before width (n / 16) (digit (n % 16) ∷ rest)
unfolding hexadecimal_before
more_digits width n rest = refl

pub digits_length : (n : ℕ) → length (hexadecimal_before 16 n []) ≡ 16
unfolding hexadecimal_before
digits_length n = refl

pub double_digits : (x : Float) → hexadecimal_before 16 (to_bits binary64 x) [] ≡ hexadecimal x
unfolding hexadecimal
double_digits x = refl

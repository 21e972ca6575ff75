-- The text of a point's first coordinates. Assumes nothing.
use Rattle.std.proofs.Common.{◌≡◌, ℕ, ◌+◌, ◌<◌, List, [], ◌∷◌, ◌++◌, length, get_or, take, ℤ, pos, sym, refl, ap, ◌∙◌, append_assoc, append-nil, add-one, take-suc}
use Rattle.definitions.specs.JobText.{text, signed_decimal, point_text}

pub no_coordinates : point_text [] ≡ []
unfolding point_text
no_coordinates = refl

one_more : (zs : List ℤ) (z : ℤ) → point_text (zs ++ z ∷ []) ≡ point_text zs ++ (text " " ++ signed_decimal z)
unfolding point_text
one_more [] z = append-nil (text " " ++ signed_decimal z)
one_more (y ∷ zs) z = ap (λ (t : List ℕ). text " " ++ signed_decimal y ++ t) (one_more zs z) ∙ sym (append_assoc (text " " ++ signed_decimal y) (point_text zs) (text " " ++ signed_decimal z))

-- one coordinate more
pub more_coordinates : (zs : List ℤ) (i : ℕ) → i < length zs → point_text (take i zs) ++ text " " ++ signed_decimal (get_or zs i (pos 0)) ≡ point_text (take (i + 1) zs)
more_coordinates zs i h =
    append_assoc (point_text (take i zs)) (text " ") (signed_decimal (get_or zs i (pos 0)))
    ∙ sym (one_more (take i zs) (get_or zs i (pos 0)))
    ∙ ap point_text (sym (take-suc zs i (pos 0) h))
    ∙ ap (λ (k : ℕ). point_text (take k zs)) (sym (add-one i))

-- Digits put into an array from its end. Assumes nothing.
use Rattle.std.proofs.Common.{◌≡◌, ℕ, suc, ◌<◌, List, ◌∷◌, length, drop, set, ap, ◌∙◌, le_refl, drop-cons, get_or-set_same, drop-set-lt, lt-length-set}

-- one digit before the others
pub drop_set : (digits : List ℕ) (i d : ℕ) → i < length digits → drop i (set digits i d) ≡ d ∷ drop (suc i) digits
drop_set digits i d h =
    drop-cons (set digits i d) i d (lt-length-set digits i d h)
    ∙ ap (λ (x : ℕ). x ∷ drop (suc i) (set digits i d)) (get_or-set_same digits i d d h)
    ∙ ap (λ (l : List ℕ). d ∷ l) (drop-set-lt (suc i) digits i d (le_refl (suc i)))

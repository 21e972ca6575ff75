-- The parts of nested pairs by number: what a call leaves of its parameters, and what is known of each, stand so. Assumes nothing.
abbrev pub fourth : {A B C D E : Type 0} → A × (B × (C × (D × E))) → D
fourth p = p.1.1.1.0

abbrev pub fifth : {A B C D E F : Type 0} → A × (B × (C × (D × (E × F)))) → E
fifth p = fourth p.1

abbrev pub sixth : {A B C D E F G : Type 0} → A × (B × (C × (D × (E × (F × G))))) → F
sixth p = fifth p.1

abbrev pub seventh : {A B C D E F G H : Type 0} → A × (B × (C × (D × (E × (F × (G × H)))))) → G
seventh p = sixth p.1

abbrev pub eighth : {A B C D E F G H I : Type 0} → A × (B × (C × (D × (E × (F × (G × (H × I))))))) → H
eighth p = seventh p.1

abbrev pub ninth : {A B C D E F G H I J : Type 0} → A × (B × (C × (D × (E × (F × (G × (H × (I × J)))))))) → I
ninth p = eighth p.1

abbrev pub tenth : {A B C D E F G H I J K : Type 0} → A × (B × (C × (D × (E × (F × (G × (H × (I × (J × K))))))))) → J
tenth p = eighth p.1.1

abbrev pub eleventh : {A B C D E F G H I J K L : Type 0} → A × (B × (C × (D × (E × (F × (G × (H × (I × (J × (K × L)))))))))) → K
eleventh p = eighth p.1.1.1

abbrev pub thirteenth : {A B C D E F G H I J K L M N : Type 0} → A × (B × (C × (D × (E × (F × (G × (H × (I × (J × (K × (L × (M × N)))))))))))) → M
thirteenth p = eleventh p.1.1

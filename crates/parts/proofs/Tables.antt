-- Table, target and radius in a part: four parts, one behind the other. Assumes nothing.
use mathlib.Core.Path.{◌≡◌, ap, ◌∙◌}
use mathlib.Core.List.{List, [], ◌∷◌, ◌++◌}
use Prim.Native.Nat.{ℕ, ◌*◌, ◌≤◌}
use native.Mathlib.Nat.{mul-le-mul}
use native.Mathlib.Omega.{arith}
use lib.ListN.{length, take, drop, set, length-append, length-drop}
use lib.Seq.{length-take-le}
use lib.Ieee.{Float}
use borrow.Rule.Slice.PartMut.{mid_of, put_mid}
use Rattle.lists.proofs.Segments.{length_padded}
use Rattle.lists.proofs.Parts.{part_size, part_padded, place_written}
use Rattle.definitions.specs.Table.{table, plus_zero}
use Rattle.definitions.specs.Block.{padded, written_table}
use Rattle.parts.specs.Parts.{TableReady}

module _ {weights mu target old : List Float} (ready : TableReady weights mu target old) where
  pub mu_few : length mu ≤ 529
  mu_few =
      let square : length weights * length weights ≤ 529 = mul-le-mul ready.shape.small ready.shape.small in
      omega (arith, ready.shape.square)

  pub first_size : length (take 23 old) ≡ 23
  first_size = length-take-le 23 old (omega (arith, ready.reals_length))

  abbrev W : List Float
  W = padded plus_zero 23 weights

  abbrev M : List Float
  M = padded plus_zero 529 mu

  abbrev T : List Float
  T = padded plus_zero 23 target

  W_length : length W ≡ 23
  W_length = length_padded plus_zero 23 weights ready.shape.small

  WM_length : length (W ++ M) ≡ 552
  WM_length = omega (arith, length-append W M, W_length, length_padded plus_zero 529 mu mu_few)

  WMT_length : length (W ++ M ++ T) ≡ 575
  WMT_length = omega (arith, length-append (W ++ M) T, WM_length, length_padded plus_zero 23 target (omega (arith, ready.shape.small, ready.shape.target_length)))

  -- the weights are written
  module _ (w : List Float) (w_is : w ≡ padded plus_zero (length (take 23 old)) weights) where
    abbrev first : List Float
    first = w ++ drop 23 old

    first_is : first ≡ W ++ drop 23 old
    first_is = ap (λ (l : List Float). l ++ drop 23 old) (w_is ∙ ap (λ (k : ℕ). padded plus_zero k weights) first_size)

    pub second_size : length (mid_of 23 529 first) ≡ 529
    second_size = part_size W old first 23 529 first_is W_length (omega (arith, ready.reals_length))

    -- and mu
    module _ (m : List Float) (m_is : m ≡ padded plus_zero (length (mid_of 23 529 first)) mu) where
      abbrev second : List Float
      second = put_mid 23 529 first m

      second_is : second ≡ W ++ M ++ drop 552 old
      second_is = part_padded plus_zero W old first mu m 23 529 first_is W_length (omega (arith, ready.reals_length)) m_is

      pub third_size : length (mid_of 552 23 second) ≡ 23
      third_size = part_size (W ++ M) old second 552 23 second_is WM_length (omega (arith, ready.reals_length))

      -- and target
      module _ (t : List Float) (t_is : t ≡ padded plus_zero (length (mid_of 552 23 second)) target) (radius : Float) where
        pub table_written : set (put_mid 552 23 second t) 575 radius ≡ written_table (table weights mu) target radius ++ drop 576 old
        table_written =
            ap (λ (l : List Float). set l 575 radius) (part_padded plus_zero (W ++ M) old second target t 552 23 second_is WM_length (omega (arith, ready.reals_length)) t_is)
            ∙ place_written (W ++ M ++ T) old radius 575 WMT_length (omega (arith, ready.reals_length))

        pub table_length : length (set (put_mid 552 23 second t) 575 radius) ≡ length old
        table_length =
            ap length table_written
            ∙ length-append (W ++ M ++ T ++ radius ∷ []) (drop 576 old)
            ∙ omega (arith, length-append (W ++ M ++ T) (radius ∷ []), WMT_length, length-drop 576 old, ready.reals_length)

-- A text that stands at the start of a slice, and the answer that it gives. Assumes nothing.
use mathlib.Core.Path.{◌≡◌, refl, ap, sym, subst, ◌∙◌}
use mathlib.Core.Bool.{Bool, true, false, cond}
use mathlib.Core.List.{List}
use Prim.Native.Nat.{ℕ, ◌≤◌, ◌<◌}
use borrow.Author.Tests.{lt-ltb, le-ltb, ltb-false}
use lib.Dec.{ltb}
use lib.ListN.{length}
use Rattle.std.specs.Prelude.{Result, Ok, Err}
use Rattle.definitions.specs.Calls.{written}
use Rattle.job_answer.specs.declared.TooShort.{TooShort}
use Rattle.job_answer.specs.Sizes.{output_size}
use Rattle.job_answer.specs.Answer.{JobAnswered}

module _ (text out : List ℕ) (few : length text ≤ output_size) where
  abbrev either : {A : Type 0} (x y : A) → Bool → A
  either x y b = cond b x y

  abbrev too_short : Result ℕ TooShort
  too_short = Err (record { needed = length text })

  pub too_short_answer : length out < length text → JobAnswered text out too_short out
  too_short_answer h =
      let short = lt-ltb (length out) (length text) h in
      record {
        answers = sym (ap (either too_short (Ok (length text))) short);
        writes = sym (ap (either out (written text out)) short);
        bounded = few;
      }

  pub written_answer : length text ≤ length out → JobAnswered text out (Ok (length text)) (written text out)
  written_answer h =
      let room = le-ltb (length out) (length text) h in
      record {
        answers = sym (ap (either too_short (Ok (length text))) room);
        writes = sym (ap (either out (written text out)) room);
        bounded = few;
      }

-- ---- a text that was written has room

abbrev Within : ℕ → Result ℕ TooShort → Type 0
Within places (Ok size) = size ≤ places
Within places (Err e) = Unit {0}

pub written_fits : {text out : List ℕ} {r : Result ℕ TooShort} {out' : List ℕ} {size : ℕ} → JobAnswered text out r out' → r ≡ Ok size → size ≤ length out
written_fits {text} {out} a e = subst (Within (length out)) (sym a.answers ∙ e) (by (ltb (length out) (length text)) refl)
  where
    by : (b : Bool) → ltb (length out) (length text) ≡ b → Within (length out) (cond b (Err (record { needed = length text })) (Ok (length text)))
    by true q = tt
    by false q = ltb-false (length out) (length text) q

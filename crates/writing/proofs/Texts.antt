-- Texts written one after the other, behind what is there or into a slice. Assumes nothing.
use Rattle.std.proofs.Common.{◌≡◌, ℕ, ◌+◌, ◌≤◌, List, [], ◌++◌, length, sym, ap, ◌∙◌, arith, length-append, append_assoc, append-nil}
use Rattle.lists.specs.Over.{over}
use Rattle.lists.proofs.Over.{over_none, over_length, over_over}
use Rattle.writing.specs.Written.{Written}
use Rattle.writing.specs.Appended.{Appended}

pub written_none : (out : List ℕ) (at : ℕ) → at ≤ length out → Written out at [] 0 at out
written_none out at h = record { index = omega arith; within = omega arith; room = h; bytes = sym (over_none out at) }

module _ {out : List ℕ} {at : ℕ} {a : List ℕ} {m next : ℕ} {mid : List ℕ} (w : Written out at a m next mid) where
  pub written_length : length mid ≡ length out
  written_length = ap length w.bytes ∙ over_length out at a (omega (arith, w.index, w.room))

  -- a text that a call writes where the one before it ends
  pub written_then : {b : List ℕ} {k end : ℕ} {after : List ℕ} → Written mid next b k end after → Written out at (a ++ b) (m + k) end after
  written_then {b} {k} {end} {after} v =
      let h : at ≤ length out = omega (arith, w.index, w.room) in
      record {
        index = omega (arith, length-append a b, w.index, v.index);
        within = omega (arith, w.within, v.within);
        room = omega (arith, v.room, written_length);
        bytes = v.bytes ∙ ap (λ (k : ℕ). over mid k b) w.index ∙ ap (λ (l : List ℕ). over l (at + length a) b) w.bytes ∙ over_over out at a b h;
      }

  -- the text by another name, within a larger bound
  pub written_as : {b : List ℕ} {k : ℕ} → a ≡ b → m ≤ k → Written out at b k next mid
  written_as {b} {k} e h = record {
    index = w.index ∙ ap (λ (t : List ℕ). at + length t) e;
    within = omega (arith, w.within, h);
    room = w.room;
    bytes = w.bytes ∙ ap (over out at) e;
  }

pub appended_none : (before : List ℕ) → Appended before [] 0 before
appended_none before = record { bytes = sym (append-nil before); within = omega arith }

module _ {before a : List ℕ} {m : ℕ} {mid : List ℕ} (w : Appended before a m mid) where
  pub appended_length : length mid ≡ length before + length a
  appended_length = ap length w.bytes ∙ length-append before a

  -- a text that a call writes behind the one before it
  pub appended_then : {b : List ℕ} {k : ℕ} {after : List ℕ} → Appended mid b k after → Appended before (a ++ b) (m + k) after
  appended_then {b} v = record {
    bytes = v.bytes ∙ ap (λ (l : List ℕ). l ++ b) w.bytes ∙ append_assoc before a b;
    within = omega (arith, length-append a b, w.within, v.within);
  }

  -- the text by another name, within a larger bound
  pub appended_as : {b : List ℕ} {k : ℕ} → a ≡ b → m ≤ k → Appended before b k mid
  appended_as {b} {k} e h = record { bytes = w.bytes ∙ ap (λ (t : List ℕ). before ++ t) e; within = omega (arith, ap length e, w.within, h) }

  -- behind the same bytes by another name
  pub appended_behind : {b : List ℕ} → before ≡ b → Appended b a m mid
  appended_behind e = record { bytes = w.bytes ∙ ap (λ (t : List ℕ). t ++ a) e; within = w.within }

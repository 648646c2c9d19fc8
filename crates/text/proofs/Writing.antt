-- A text written at a place of some bytes.
use Prim.Native.Nat.{ℕ, ◌+◌, ◌≤◌}
use native.Mathlib.Nat.{add-zero}
use native.Mathlib.Omega.{arith}
use mathlib.Core.Path.{◌≡◌, refl, sym, ap, ◌∙◌}
use mathlib.Core.List.{List, [], ◌++◌, append_assoc}
use lib.ListN.{length, take, drop, length-append}
use lib.Seq.{take-append_seam, sets, sets-eq, length-sets, drop-drop}
use borrow.Rule.Slice.PartMut.{put_mid}
use Rattle.model.proofs.Setting.{sets-append}

-- what a call says that puts a text at a place
abbrev pub Put : List ℕ → ℕ → List ℕ → ℕ → List ℕ → Type 0
Put memory at text next left = (next ≡ at + length text) × (left ≡ sets memory at text)

-- the text is written at a place of `before`, and `next` is the place after it
pub record Written (before : List ℕ) (at : ℕ) (text out : List ℕ) (next : ℕ) : Type 0 where
  pub place : next ≡ at + length text
  pub bytes : out ≡ sets before at text

module _ {before text out : List ℕ} {at next : ℕ} (x : Written before at text out next) where
  pub written-length : length out ≡ length before
  written-length = rw x.bytes (length-sets before at text)

  -- more text behind it
  pub written-more : (more : List ℕ) → Written before at (text ++ more) (sets out next more) (next + length more)
  written-more more = record {
    place = let l = length-append text more in omega (arith, x.place);
    bytes = rw (x.bytes, x.place, sets-append) refl;
  }

  pub written_put : {after : List ℕ} {end : ℕ} (more : List ℕ) → Put out next more end after → Written before at (text ++ more) after end
  written_put more h = rw (h.0, h.1) (written-more more)

-- nothing is written yet
pub written_none : (before : List ℕ) (at : ℕ) → Written before at [] before at
written_none before at = record { place = sym (add-zero at); bytes = refl }

-- what is taken from the front is the text that is written there
pub front-taken : {before text out : List ℕ} {next : ℕ} → Written before 0 text out next → length text ≤ length before
    → (next ≡ length text) × (take next out ≡ text)
front-taken {before} {text} {out} {next} x room =
    let size : next ≡ length text = omega (arith, x.place) in
    (size, rw (size, x.bytes, sets-eq text before 0 (omega arith)) (take-append_seam text _))

-- a text that is copied to the part of the bytes at a place
pub put_mid-sets : (out : List ℕ) (at k : ℕ) {part text : List ℕ} → part ≡ text → k ≡ length text → at + length text ≤ length out
    → put_mid at k out part ≡ sets out at text
put_mid-sets out at k {part} {text} same size room =
    let after = drop-drop (length text) at out in
    rw (same, size, sets-eq text out at room) (ap (λ (rest : List ℕ). take at out ++ (text ++ rest)) after ∙ sym (append_assoc (take at out) text (drop (at + length text) out)))

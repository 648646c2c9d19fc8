-- A list in which a run of elements is set: what stands beside the run, and what in it.
use Prim.Native.Nat.{ℕ, suc, ◌+◌, ◌-◌, ◌<◌, ◌≤◌}
use native.Mathlib.Nat.{add-zero, zero-add}
use native.Mathlib.Omega.{arith}
use mathlib.Core.Path.{◌≡◌, refl, sym, ap, ◌∙◌}
use mathlib.Core.List.{List, [], ◌∷◌, ◌++◌, append_assoc}
use lib.ListN.{length, get_or, take, drop, set, take-append-drop}
use lib.Seq.{length-take-le, take-set-le, drop-set-lt, drop-set-add, get_or-set_same, get_or-set_other, sets, sets-eq}
use borrow.Author.Count.{below_more}
use Rattle.model.specs.Calls.{over}
use Rattle.model.proofs.Blocks.{Block}

module _ {A : Type 0} where
  -- one element more is set behind those that are right
  pub set_more : (f : ℕ → A) (l : List A) (d : A) {i : ℕ} {x : A} → ((k : ℕ) → k < i → get_or l k d ≡ f k) → i < length l → x ≡ f i
      → (k : ℕ) → k < i + 1 → get_or (set l i x) k d ≡ f k
  set_more f l d {i} {x} before inside e =
      below_more (λ k. get_or (set l i x) k d ≡ f k) i (λ k h. get_or-set_other l i k x d (omega arith) ∙ before k h) (get_or-set_same l i x d inside ∙ e)

  pub sets-append : (l : List A) (i : ℕ) (xs ys : List A) → sets l i (xs ++ ys) ≡ sets (sets l i xs) (i + length xs) ys
  sets-append l i [] ys = rw add-zero
  sets-append l i (x ∷ xs) ys =
      sets-append (set l i x) (suc i) xs ys ∙ ap (λ (k : ℕ). sets (sets (set l i x) (suc i) xs) k ys) (omega arith)

  -- what stands behind the run
  pub drop-sets : (l : List A) (i : ℕ) (vs : List A) (j : ℕ) → i + length vs ≤ j → drop j (sets l i vs) ≡ drop j l
  drop-sets l i [] j h = refl
  drop-sets l i (v ∷ vs) j h = drop-sets (set l i v) (suc i) vs j (omega arith) ∙ drop-set-lt j l i v (omega arith)

  pub get_or-sets : (l : List A) (i : ℕ) (vs : List A) (j : ℕ) (d : A) → i + length vs ≤ j → get_or (sets l i vs) j d ≡ get_or l j d
  get_or-sets l i [] j d h = refl
  get_or-sets l i (v ∷ vs) j d h = get_or-sets (set l i v) (suc i) vs j d (omega arith) ∙ get_or-set_other l i j v d (omega arith)

  -- what stands before it
  pub get_or_before : (l : List A) (i : ℕ) (vs : List A) (j : ℕ) (d : A) → j < i → get_or (sets l i vs) j d ≡ get_or l j d
  get_or_before l i [] j d h = refl
  get_or_before l i (v ∷ vs) j d h = get_or_before (set l i v) (suc i) vs j d (omega arith) ∙ get_or-set_other l i j v d (omega arith)

  part_set : (l : List A) (i : ℕ) (v : A) (j n : ℕ) → j + n ≤ i → take n (drop j (set l i v)) ≡ take n (drop j l)
  part_set l i v j n h =
      ap (λ (k : ℕ). take n (drop j (set l k v))) (omega arith)
      ∙ ap (take n) (drop-set-add j l (i - j) v)
      ∙ take-set-le n (drop j l) (i - j) v (omega arith)

  -- a part that stands before the run
  pub part_sets : (l : List A) (i : ℕ) (vs : List A) (j n : ℕ) → j + n ≤ i → take n (drop j (sets l i vs)) ≡ take n (drop j l)
  part_sets l i [] j n h = refl
  part_sets l i (v ∷ vs) j n h = part_sets (set l i v) (suc i) vs j n (omega arith) ∙ part_set l i v j n h

  -- the run
  pub sets_block : (l : List A) (i : ℕ) (vs : List A) → i + length vs ≤ length l → Block (sets l i vs) i vs
  sets_block l i vs h = record {
    before = take i l;
    after = drop (i + length vs) l;
    whole = sets-eq vs l i h ∙ append_assoc (take i l) vs (drop (i + length vs) l);
    length_before = length-take-le i l (omega arith);
  }

  -- a part is a block
  pub part_block : {b : List A} (l : List A) (i n : ℕ) → i ≤ length l → take n (drop i l) ≡ b → Block l i b
  part_block l i n h e = record {
    before = take i l;
    after = drop n (drop i l);
    whole = sym (take-append-drop i l) ∙ ap (λ (m : List A). take i l ++ m) (sym (take-append-drop n (drop i l)) ∙ ap (λ (m : List A). m ++ drop n (drop i l)) e);
    length_before = length-take-le i l h;
  }

-- words set from the first place on
pub sets_over : (words memory : List ℕ) → length words ≤ length memory → sets memory 0 words ≡ over words memory
sets_over words memory h = let z = zero-add (length words) in sets-eq words memory 0 (omega arith) ∙ rw z refl

-- A block of a list: a run of elements that stands in it from some place on.
use Prim.Native.Nat.{ℕ, suc, ◌+◌, ◌*◌, ◌<◌, ◌≤◌}
use native.Mathlib.Omega.{arith}
use native.Mathlib.Nat.{zero-mul, suc-mul, add_comm, add-zero}
use mathlib.Core.Path.{◌≡◌, refl, sym, ap, ◌∙◌}
use mathlib.Core.List.{List, [], ◌∷◌, ◌++◌, append_assoc}
use lib.ListN.{length, get_or, take, drop, length-append, get_or-append}
use lib.Seq.{split_at, length-take-le, take-append_seam, take_at, drop_at, get_or-drop, drop-append_seam, drop-drop}
use Rattle.model.specs.Lists.{concat_map}

module _ {A : Type 0} where
  pub record Block (list : List A) (place : ℕ) (block : List A) : Type 0 where
    pub before : List A
    pub after : List A
    pub whole : list ≡ before ++ (block ++ after)
    pub length_before : length before ≡ place

  -- the element at a place
  pub element_block : (d : A) (l : List A) (i : ℕ) → i < length l → Block l i (get_or l i d ∷ [])
  element_block d l i h = record { before = take i l; after = drop (suc i) l; whole = split_at l i d h; length_before = length-take-le i l (omega arith) }

  pub block_at : {l b : List A} {i j : ℕ} → i ≡ j → Block l i b → Block l j b
  block_at e x = rw e at x

  pub before_block : {l b : List A} {i : ℕ} (x : Block l i b) → x.before ≡ take i l
  before_block {l} {b} {i} x = sym (ap (take i) x.whole ∙ take_at x.before (b ++ x.after) i x.length_before)

  -- a block stands inside
  pub block_inside : {l b : List A} {i : ℕ} → Block l i b → i + length b ≤ length l
  block_inside {l} {b} x =
      let e = ap length x.whole ∙ length-append x.before (b ++ x.after) in
      let f = length-append b x.after in
      omega arith

  -- a block of a block
  pub inner_block : {l b c : List A} {i j : ℕ} → Block l i b → Block b j c → Block l (i + j) c
  inner_block {l} {b} {c} x y = record {
    before = x.before ++ y.before;
    after = y.after ++ x.after;
    whole = x.whole ∙ ap (λ (m : List A). x.before ++ (m ++ x.after)) y.whole ∙ simp append_assoc;
    length_before = length-append x.before y.before ∙ (cc);
  }

  -- in a longer list
  pub longer_block : {l b : List A} {i : ℕ} → Block l i b → (r : List A) → Block (l ++ r) i b
  longer_block {l} {b} {i} x r = record {
    before = x.before;
    after = x.after ++ r;
    whole = ap (λ (m : List A). m ++ r) x.whole ∙ simp append_assoc;
    length_before = x.length_before;
  }

  pub drop_block : {l b : List A} {i : ℕ} (x : Block l i b) → drop i l ≡ b ++ x.after
  drop_block {l} {b} {i} x = ap (drop i) x.whole ∙ drop_at x.before (b ++ x.after) i x.length_before

  pub take_block : {l b : List A} {i : ℕ} → Block l i b → take (length b) (drop i l) ≡ b
  take_block {l} {b} {i} x = ap (take (length b)) (drop_block x) ∙ take-append_seam b x.after

  pub get_or_block : {l b : List A} {i : ℕ} → Block l i b → (j : ℕ) (d : A) → j < length b → get_or l (i + j) d ≡ get_or b j d
  get_or_block {l} {b} {i} x j d h = sym (get_or-drop i l j d) ∙ ap (λ (m : List A). get_or m j d) (drop_block x) ∙ get_or-append b x.after d j h

  pub head_block : {l b : List A} {i : ℕ} {x : A} → Block l i (x ∷ b) → (d : A) → get_or l i d ≡ x
  head_block {l} {b} {i} {x} y d = rw add-zero at (get_or_block y 0 d (omega arith))

module _ {A B : Type 0} (f : A → List B) where
  pub concat_map-append : (l m : List A) → concat_map f (l ++ m) ≡ concat_map f l ++ concat_map f m
  concat_map-append [] m = refl
  concat_map-append (x ∷ xs) m = rw (concat_map-append xs m) (sym (append_assoc (f x) (concat_map f xs) (concat_map f m)))

  -- what f gives for an element
  pub concat_map_block : {l : List A} {i : ℕ} {x : A} (b : Block l i (x ∷ [])) → Block (concat_map f l) (length (concat_map f b.before)) (f x)
  concat_map_block {l} {i} {x} b = record {
    before = concat_map f b.before;
    after = concat_map f b.after;
    whole = ap (concat_map f) b.whole ∙ concat_map-append b.before (x ∷ b.after);
    length_before = refl;
  }

  module _ (n : ℕ) (h : (a : A) → length (f a) ≡ n) where
    pub length-concat_map : (l : List A) → length (concat_map f l) ≡ length l * n
    length-concat_map [] = sym (zero-mul n)
    length-concat_map (x ∷ xs) = rw (length-append, h x, length-concat_map xs, suc-mul) (add_comm n (length xs * n))

    pub equal_block : {l : List A} {i : ℕ} {x : A} → Block l i (x ∷ []) → Block (concat_map f l) (i * n) (f x)
    equal_block b = block_at (length-concat_map b.before ∙ ap (λ (k : ℕ). k * n) b.length_before) (concat_map_block b)

-- blocks one behind the other
pub joined_block : {A : Type 0} {l a b : List A} {i : ℕ} → Block l i a → Block l (i + length a) b → Block l i (a ++ b)
joined_block {A} {l} {a} {b} {i} x y =
    let rest : x.after ≡ drop (i + length a) l = sym (drop-append_seam a x.after) ∙ ap (drop (length a)) (sym (drop_block x)) ∙ drop-drop (length a) i l in
    record {
      before = x.before;
      after = y.after;
      whole = x.whole ∙ ap (λ (m : List A). x.before ++ (a ++ m)) (rest ∙ drop_block y) ∙ simp append_assoc;
      length_before = x.length_before;
    }

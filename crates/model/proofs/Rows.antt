-- Rows in words: which row stands where, and what is written for one row more.
use Prim.Native.Nat.{ℕ, zero, suc, ◌+◌, ◌*◌, ◌≤◌}
use native.Mathlib.Omega.{arith}
use native.Mathlib.Nat.{add-zero, zero-add, suc-add}
use native.Mathlib.Numerals.{add-one, add-two}
use mathlib.Core.Path.{◌≡◌, refl, sym, ap, ◌∙◌}
use mathlib.Core.List.{List, [], ◌∷◌, ◌++◌}
use lib.ListN.{length, get_or, take, drop, set, length-append}
use lib.Seq.{drop-cons, length-take-le, sets, length-sets}
use Rattle.model.specs.Site.{Row}
use Rattle.model.specs.Store.{row_words, table_words, rows_in}
use Rattle.model.proofs.Blocks.{concat_map-append}
use Rattle.model.proofs.StoreLayout.{length-table}
use Rattle.model.proofs.Setting.{sets-append}

-- row i of those from p on
abbrev pub row_at : List ℕ → ℕ → ℕ → Row
row_at w p i = (get_or w (p + 2 * i) 0, get_or w (p + 2 * i + 1) 0)

first-row : (w : List ℕ) (p m : ℕ) → p + 2 ≤ length w → rows_in (suc m) (drop p w) ≡ row_at w p 0 ∷ rows_in m (drop (p + 2) w)
first-row w p m h =
    rw (drop-cons w p 0 (omega arith), drop-cons w (suc p) 0 (omega arith)) (simp (add-zero, add-one, add-two))

-- row i, the rows before it and the r rows after it
pub rows_at_lem : (w : List ℕ) (p i r : ℕ) → p + 2 * (i + suc r) ≤ length w
    → rows_in (i + suc r) (drop p w) ≡ rows_in i (drop p w) ++ row_at w p i ∷ rows_in r (drop (p + 2 * suc i) w)
rows_at_lem w p zero r h = rw (zero-add, first-row w p r (omega arith)) refl
rows_at_lem w p (suc i) r h =
    rw (suc-add, first-row w p (i + suc r) (omega arith), first-row w p i (omega arith), rows_at_lem w (p + 2) i r (omega arith), later i, later (suc i)) refl
  where
    later : (k : ℕ) → p + 2 * suc k ≡ p + 2 + 2 * k
    later k = omega arith

-- the words of n rows are the first 2n words
pub rows_words : (n : ℕ) (words : List ℕ) → 2 * n ≤ length words → table_words (rows_in n words) ≡ take (2 * n) words
rows_words zero words h = refl
rows_words (suc n) [] h = absurd (omega arith)
rows_words (suc n) (s ∷ []) h = absurd (omega arith)
rows_words (suc n) (s ∷ o ∷ words) h =
    let e : 2 * suc n ≡ suc (suc (2 * n)) = omega arith in
    rw (e, rows_words n words (omega arith)) refl

pub length-rows : (n : ℕ) (words : List ℕ) → 2 * n ≤ length words → length (rows_in n words) ≡ n
length-rows n words h =
    let e = sym (length-table (rows_in n words)) ∙ ap length (rows_words n words h) ∙ length-take-le (2 * n) words h in
    omega arith

pub rows_at_most : (n : ℕ) (words : List ℕ) → length (rows_in n words) ≤ n
rows_at_most zero words = omega arith
rows_at_most (suc n) [] = omega arith
rows_at_most (suc n) (s ∷ []) = omega arith
rows_at_most (suc n) (s ∷ o ∷ words) = omega (arith, rows_at_most n words)

-- rows are written from `to` on, and `next` is the place after them
pub record Written (before : List ℕ) (to : ℕ) (rows : List Row) (out : List ℕ) (next : ℕ) : Type 0 where
  pub place : next ≡ to + 2 * length rows
  pub words : out ≡ sets before to (table_words rows)

pub none_written : (out : List ℕ) (to : ℕ) → Written out to [] out to
none_written out to = record { place = omega arith; words = refl }

module _ {before out : List ℕ} {to next : ℕ} {rows : List Row} (x : Written before to rows out next) where
  pub length-written : length out ≡ length before
  length-written = rw x.words (length-sets before to (table_words rows))

  -- one row more
  pub row_written : (r : Row) → Written before to (rows ++ r ∷ []) (set (set out next r.0) (next + 1) r.1) (next + 2)
  row_written r = record {
    place = rw (x.place, length-append) (omega arith);
    words = rw (x.words, x.place, concat_map-append row_words rows (r ∷ []), sets-append, length-table, add-one) refl;
  }

-- Entries one by one: an entry that passes leaves the entries so far proper, one that does not makes all of them improper.
use Prim.Native.Nat.{ℕ, zero, suc, ◌+◌, ◌-◌, ◌*◌, ◌<◌, ◌≤◌}
use native.Mathlib.Omega.{arith}
use native.Mathlib.Nat.{add-zero, zero-add, suc-add}
use native.Mathlib.Numerals.{add-one, add-two}
use mathlib.Core.Path.{◌≡◌, refl, sym, ap, ◌∙◌, subst}
use mathlib.Core.Logic.{◌⊎◌, ⊎_elim}
use mathlib.Core.Bool.{true, false, and-false}
use mathlib.Core.List.{List, [], ◌∷◌, ◌++◌, map, map-append}
use lib.ListN.{length, get_or, take, drop}
use lib.Seq.{drop-cons, drop-drop, get_or-drop, get_or-take, take-add}
use lib.Dec.{ltb}
use borrow.Author.Tests.{le-leb, lt-leb, le-ltb, lt-ltb}
use Rattle.model.specs.Lists.{sum, above_last}
use Rattle.model.specs.Numbers.{most_term}
use Rattle.model.specs.Site.{most_rows}
use Rattle.model.specs.SiteFile.{Declaration, declared_proper}
use Rattle.model.specs.Store.{rows_start, vp_entry_at, vp_entries}
use Rattle.model.proofs.Booleans.{not_both, to_false, and_cases, and_make}
use Rattle.model.proofs.Growing.{longer, passed_inside, above_snoc, sum_snoc}
use Rattle.model.proofs.SiteFile.{declared_few, declaration_test, declared_grow}
use Rattle.model.proofs.Stores.{same-words, words_same}
use Rattle.tables.proofs.Declared.{declared_snoc}
use Rattle.tables.specs.SiteWords.{declared_in, declared_rows, entries_proper}

-- ---- general

sum_inside : {A : Type 0} (f : A → ℕ) (xs : List A) (y : A) (ys : List A) → sum f (xs ++ y ∷ ys) ≡ sum f xs + (f y + sum f ys)
sum_inside f [] y ys = omega arith
sum_inside f (x ∷ xs) y ys = let r = sum_inside f xs y ys in omega arith

-- ---- the declarations

-- what entry i of those from p on declares
abbrev entry_at : List ℕ → ℕ → ℕ → Declaration
entry_at w p i = (get_or w (p + 3 * i) 0, get_or w (p + 3 * i + 1) 0)

-- entry k + 1 of those from p on is entry k of those from p + 3 on
pub next-entry : (p k : ℕ) → p + 3 * suc k ≡ p + 3 + 3 * k
next-entry p k = omega arith

-- entry i, the entries before it and the m entries after it
declared_at : (w : List ℕ) (p i m : ℕ)
    → declared_in (i + suc m) (drop p w) ≡ declared_in i (drop p w) ++ entry_at w p i ∷ declared_in m (drop (p + 3 * suc i) w)
declared_at w p zero m = rw (zero-add, get_or-drop p w 0 0, get_or-drop p w 1 0, drop-drop 3 p w) (simp add-zero)
declared_at w p (suc i) m = rw (suc-add, drop-drop 3 p w, declared_at w (p + 3) i m, next-entry p i, next-entry p (suc i)) refl

declared_more : (w : List ℕ) (p i : ℕ) → declared_in (i + 1) (drop p w) ≡ declared_in i (drop p w) ++ entry_at w p i ∷ []
declared_more w p i = declared_at w p i 0

pub rows_more : (w : List ℕ) (p i : ℕ) → declared_rows (i + 1) (drop p w) ≡ declared_rows i (drop p w) + get_or w (p + 3 * i + 1) 0
rows_more w p i = rw (declared_more w p i) (sum_snoc (λ d. d.1) (declared_in i (drop p w)) (entry_at w p i))

-- the term before entry i is the last of the first i
last_term : (w : List ℕ) (p i t : ℕ) → 0 < i → above_last ltb (map (λ d. d.0) (declared_in i (drop p w))) t ≡ ltb (get_or w (p + 3 * (i - 1)) 0) t
last_term w p i t l = go (i - 1) (omega arith)
  where
    go : (k : ℕ) → i ≡ k + 1 → above_last ltb (map (λ d. d.0) (declared_in i (drop p w))) t ≡ ltb (get_or w (p + 3 * k) 0) t
    go k last = rw (last, declared_more w p k, map-append) (above_snoc ltb (map (λ d. d.0) (declared_in k (drop p w))) (get_or w (p + 3 * k) 0) t)

-- ---- the starts

-- the third word of entry i
entry-start : (es : List ℕ) (here i m : ℕ) → get_or (vp_entries here (declared_in (i + suc m) es)) (3 * i + 2) 0 ≡ here + 2 * declared_rows i es
entry-start es here zero m = rw zero-add (omega arith)
entry-start es here (suc i) m =
    let place : 3 * suc i + 2 ≡ suc (suc (suc (3 * i + 2))) = omega arith in
    rw (suc-add, place, entry-start (drop 3 es) (here + 2 * get_or es 1 0) i m) (omega arith)

three_words : (w : List ℕ) (p : ℕ) → p + 2 < length w → take 3 (drop p w) ≡ get_or w p 0 ∷ get_or w (p + 1) 0 ∷ get_or w (p + 2) 0 ∷ []
three_words w p h =
    rw (drop-cons w p 0 (omega arith), drop-cons w (suc p) 0 (omega arith), drop-cons w (suc (suc p)) 0 (omega arith)) (simp (add-one, add-two))

-- the first i entries stand in the words, their rows from `here` on
abbrev pub EntriesStand : List ℕ → ℕ → ℕ → Type 0
EntriesStand w here i = take (3 * i) (drop 3 w) ≡ vp_entries here (declared_in i (drop 3 w))

pub stands-more : (w : List ℕ) (here i : ℕ) → vp_entry_at i + 2 < length w → EntriesStand w here i
    → get_or w (vp_entry_at i + 2) 0 ≡ here + 2 * declared_rows i (drop 3 w) → EntriesStand w here (i + 1)
stands-more w here i h stand start =
    let three_more : 3 * (i + 1) ≡ 3 * i + 3 = omega arith in
    rw (three_more, take-add (3 * i) 3 (drop 3 w), stand, declared_more w 3 i, declared_snoc, drop-drop (3 * i) 3 w, ← start, three_words w (vp_entry_at i) h) refl

-- ---- the two halves of what is asked

pub halves : (w : List ℕ) (count : ℕ) → entries_proper count w ≡ true → (declared_proper (declared_in count (drop 3 w)) ≡ true) × EntriesStand w (rows_start count) count
unfolding entries_proper
halves w count proper =
    let c = and_cases (declared_proper (declared_in count (drop 3 w))) _ proper in
    (c.0, same-words (take (3 * count) (drop 3 w)) _ c.1)

-- the first i, where these are all
pub all_passed : (w : List ℕ) (count i : ℕ) → i ≡ count → declared_proper (declared_in i (drop 3 w)) ≡ true → EntriesStand w (rows_start count) i → entries_proper count w ≡ true
unfolding entries_proper
all_passed w count i whole proper stand =
    let stands : EntriesStand w (rows_start count) count = subst (λ (n : ℕ). EntriesStand w (rows_start count) n) whole stand in
    and_make (rw whole at proper) (rw stands (words_same (vp_entries (rows_start count) (declared_in count (drop 3 w)))))

-- the rows of all are within the limit
pub few_rows : (w : List ℕ) (count : ℕ) → entries_proper count w ≡ true → declared_rows count (drop 3 w) ≤ most_rows
few_rows w count proper = declared_few (declared_in count (drop 3 w)) (halves w count proper).0

-- ---- entry i of count

module _ (w : List ℕ) (count i : ℕ) (l : i < count) where
  abbrev declared_before : List Declaration
  declared_before = declared_in i (drop 3 w)

  pub count_split : count ≡ i + suc (count - suc i)
  count_split = omega arith

  declared_split : declared_in count (drop 3 w) ≡ declared_before ++ entry_at w 3 i ∷ declared_in (count - suc i) (drop (vp_entry_at (suc i)) w)
  declared_split = ap (λ (n : ℕ). declared_in n (drop 3 w)) count_split ∙ declared_at w 3 i (count - suc i)

  entry_fails : declaration_test declared_before (entry_at w 3 i) ≡ false → entries_proper count w ≡ false
  entry_fails fails =
      to_false _ (λ proper.
      not_both (passed_inside declared_grow declared_before (entry_at w 3 i) _ (sym (ap declared_proper declared_split) ∙ (halves w count proper).0)) fails)

  -- its rows are among those of all
  pub rows_among : declared_rows i (drop 3 w) + get_or w (vp_entry_at i + 1) 0 ≤ declared_rows count (drop 3 w)
  rows_among = rw (declared_split, sum_inside (λ d. d.1) declared_before (entry_at w 3 i) _) (omega arith)

  pub not_term : most_term < get_or w (vp_entry_at i) 0 → entries_proper count w ≡ false
  not_term t = entry_fails (rw (lt-leb (get_or w (vp_entry_at i) 0) most_term t) refl)

  pub not_ascending : 0 < i → get_or w (vp_entry_at i) 0 ≤ get_or w (vp_entry_at (i - 1)) 0 → entries_proper count w ≡ false
  not_ascending later e = entry_fails (rw (last_term w 3 i (get_or w (vp_entry_at i) 0) later, le-ltb (get_or w (vp_entry_at (i - 1)) 0) (get_or w (vp_entry_at i) 0) e, and-false) refl)

  pub too_many_rows : most_rows < declared_rows i (drop 3 w) + get_or w (vp_entry_at i + 1) 0 → entries_proper count w ≡ false
  too_many_rows t = entry_fails (rw (lt-leb (declared_rows i (drop 3 w) + get_or w (vp_entry_at i + 1) 0) most_rows t, and-false) refl)

  -- its rows start where those before it end
  pub start_proper : entries_proper count w ≡ true → get_or w (vp_entry_at i + 2) 0 ≡ rows_start count + 2 * declared_rows i (drop 3 w)
  start_proper proper =
      let place : vp_entry_at i + 2 ≡ 3 + (3 * i + 2) = omega arith in
      ap (λ (k : ℕ). get_or w k 0) place
      ∙ sym (get_or-drop 3 w (3 * i + 2) 0)
      ∙ sym (get_or-take (3 * count) (drop 3 w) (3 * i + 2) 0 (omega arith))
      ∙ ap (λ (x : List ℕ). get_or x (3 * i + 2) 0) (halves w count proper).1
      ∙ ap (λ (n : ℕ). get_or (vp_entries (rows_start count) (declared_in n (drop 3 w))) (3 * i + 2) 0) count_split
      ∙ entry-start (drop 3 w) (rows_start count) i (count - suc i)

  pub entry-passes : declared_proper declared_before ≡ true → get_or w (vp_entry_at i) 0 ≤ most_term
      → (i ≡ 0) ⊎ ((0 < i) × (get_or w (vp_entry_at (i - 1)) 0 < get_or w (vp_entry_at i) 0))
      → declared_rows i (drop 3 w) + get_or w (vp_entry_at i + 1) 0 ≤ most_rows → declared_proper (declared_in (i + 1) (drop 3 w)) ≡ true
  entry-passes proper term ascends few =
      let last = ⊎_elim (λ first. rw first refl) (λ x. last_term w 3 i (get_or w (vp_entry_at i) 0) x.0 ∙ lt-ltb _ _ x.1) ascends in
      rw (declared_more w 3 i) (longer declared_grow declared_before (entry_at w 3 i) proper (and_make (and_make (le-leb _ _ term) last) (le-leb _ _ few)))

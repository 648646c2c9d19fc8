-- The tables of words one by one, each with the rows that its entry counts and starts.
use Prim.Native.Nat.{ℕ, zero, suc, ◌+◌, ◌*◌, ◌<◌, ◌≤◌}
use native.Mathlib.Omega.{arith}
use native.Mathlib.Nat.{add-zero, suc-add, min-eq_left}
use native.Mathlib.Numerals.{add-one}
use mathlib.Core.Path.{◌≡◌, refl, sym, ap, ◌∙◌}
use mathlib.Core.Bool.{true, and-true}
use mathlib.Core.List.{List, [], ◌∷◌, ◌++◌}
use lib.ListN.{length, get_or, drop}
use lib.Seq.{drop-drop, get_or-drop}
use Rattle.model.specs.Lists.{all, below}
use Rattle.model.specs.Site.{Row, Table, most_rows, rows_proper}
use Rattle.model.specs.Store.{rows_start, rows_in, tables_in, vp_entry_at}
use Rattle.model.proofs.Below.{all_below_last}
use Rattle.model.proofs.Membership.{all_append}
use Rattle.tables.specs.declared.layout.TableEntry.{TableEntry}
use Rattle.tables.specs.Entries.{TableEntryAt}
use Rattle.tables.specs.SiteWords.{declared_rows, entries_proper}
use Rattle.site_validation.proofs.Declared.{next-entry, rows_more, rows_among, few_rows, start_proper}

-- table i, of entries from p on and rows from q on
abbrev table_at : List ℕ → ℕ → ℕ → ℕ → Table
table_at w p q i = record {
  predicate = get_or w (p + 3 * i) 0;
  rows = rows_in (get_or w (p + 3 * i + 1) 0) (drop (q + 2 * declared_rows i (drop p w)) w);
}

-- table i behind the tables before it
one_table_more : (w : List ℕ) (p q i : ℕ) → declared_rows (i + 1) (drop p w) ≤ most_rows
    → tables_in (i + 1) (drop p w) (drop q w) ≡ tables_in i (drop p w) (drop q w) ++ table_at w p q i ∷ []
unfolding tables_in
one_table_more w p q zero h =
    let few : get_or (drop p w) 1 0 ≤ most_rows = omega arith in
    rw (min-eq_left few, get_or-drop p w 0 0, get_or-drop p w 1 0) (simp add-zero)
one_table_more w p q (suc i) h =
    let n = get_or (drop p w) 1 0 in
    let fewer : n + declared_rows (i + 1) (drop 3 (drop p w)) ≤ most_rows = rw suc-add at h in
    let few : n ≤ most_rows = omega arith in
    let rest : declared_rows (i + 1) (drop (p + 3) w) ≤ most_rows = rw (← (drop-drop 3 p w)) (omega arith) in
    let moved : q + 2 * (n + declared_rows i (drop (p + 3) w)) ≡ q + 2 * n + 2 * declared_rows i (drop (p + 3) w) = omega arith in
    rw (suc-add, min-eq_left few, drop-drop 3 p w, drop-drop (2 * n) q w, one_table_more w (p + 3) (q + 2 * n) i rest, next-entry p i, moved) refl

-- the rows of table i, as its entry counts and starts them
abbrev pub rows_at : List ℕ → ℕ → List Row
rows_at w i = rows_in (get_or w (vp_entry_at i + 1) 0) (drop (get_or w (vp_entry_at i + 2) 0) w)

module _ (w : List ℕ) (count : ℕ) (proper : entries_proper count w ≡ true) where
  -- they end inside
  pub rows_end_inside : {i : ℕ} {r : TableEntry} → i < count → TableEntryAt w i r → rows_start count + 2 * declared_rows count (drop 3 w) ≤ length w
      → r.start + 2 * r.rows ≤ length w
  rows_end_inside {i} l entry h = omega (arith, entry.start, entry.rows, start_proper w count i l proper, rows_among w count i l)

  -- the rows of the first i are asked as the tables are
  pub each_table : (i : ℕ) → i ≤ count → all (λ j. rows_proper (rows_at w j)) (below i) ≡ all (λ t. rows_proper t.rows) (tables_in i (drop 3 w) (drop (rows_start count) w))
  unfolding tables_in
  each_table zero h = refl
  each_table (suc i) h =
      let l : i < count = omega arith in
      let few : declared_rows (i + 1) (drop 3 w) ≤ most_rows = omega (arith, rows_more w 3 i, rows_among w count i l, few_rows w count proper) in
      let split : tables_in (suc i) (drop 3 w) (drop (rows_start count) w) ≡ tables_in i (drop 3 w) (drop (rows_start count) w) ++ table_at w 3 (rows_start count) i ∷ [] =
      ap (λ (n : ℕ). tables_in n (drop 3 w) (drop (rows_start count) w)) (sym (add-one i)) ∙ one_table_more w 3 (rows_start count) i few in
      all_below_last (λ j. rows_proper (rows_at w j)) i
      ∙ rw (all_append, each_table i (omega arith), start_proper w count i l proper, and-true) refl
      ∙ ap (all (λ t. rows_proper t.rows)) (sym split)

-- The tables of an image and the copy of their objects: each has a part of the copy, behind those of the tables before it.
use Prim.Native.Nat.{ℕ, zero, suc, ◌+◌, ◌-◌, ◌*◌, ◌/◌, ◌≤◌, ◌<◌}
use native.Mathlib.Nat.{zero-add}
use native.Mathlib.Numerals.{add-one}
use native.Mathlib.Omega.{arith}
use mathlib.Core.Path.{◌≡◌, refl, sym, ap, ◌∙◌}
use mathlib.Core.Logic.{◌≢◌}
use mathlib.Core.Bool.{Bool, true, false, ◌&&◌}
use mathlib.Core.List.{List, [], ◌∷◌, ◌++◌, map, map-append}
use lib.ListN.{length, get_or, take, drop, length-map, get_or-append}
use lib.Seq.{length-take-le, get_or-take, get_or-drop, get_or-append-add}
use lib.Dec.{ltb}
use borrow.Author.Count.{below_more}
use borrow.Author.Tests.{ltb-false}
use Rattle.model.specs.SiteFile.{declarations}
use Rattle.model.specs.Lists.{all, ascends, below}
use Rattle.model.specs.Numbers.{is_term}
use Rattle.model.specs.Site.{Row, row_before, rows_proper, Site, row_total, no_table, table_at}
use Rattle.model.specs.Tables.{Column}
use Rattle.model.specs.Store.{rows_start, rows_in, vp_entries, vp_entry_at}
use Rattle.model.proofs.Booleans.{and_cases, or_left, not_both, to_false}
use Rattle.model.proofs.Membership.{at_place, from_all, filter_same}
use Rattle.model.proofs.Below.{from_below, below_last, length-count_up, get_or-count_up}
use Rattle.model.proofs.Order.{rows}
use Rattle.model.proofs.Sorting.{ascending_sorted}
use Rattle.model.proofs.Partition.{proper}
use Rattle.searching.specs.Search.{word_at, Ascending, SortedRun}
use Rattle.tables.specs.declared.layout.TableEntry.{TableEntry}
use Rattle.tables.specs.Entries.{TableEntryAt}
use Rattle.tables.specs.SiteWords.{site_in, ImageOf}
use Rattle.model.proofs.Rows.{row_at, rows_at_lem}
use Rattle.tables.proofs.Images.{table_in}
use Rattle.statistics.specs.IndexedTables.{passing, SameValues, AllSearchable, ObjectsSorted, AllSorted, CopyOf}
use Rattle.statistics.specs.declared.ranges.ValueRange.{ValueRange}
use Rattle.statistics.specs.Compared.{are_compared}
use Rattle.statistics.specs.Ranges.{range_at, apart}
use Rattle.statistics.proofs.ColumnRanges.{again, apart-again}
use Rattle.statistics.proofs.SortedObjects.{places-sorted}

-- ---- where the tables start

-- the rows of a table stand before those of any later one
rows_earlier : (site : Site) (j i : ℕ) → j < i → row_total (take j site) + length (table_at site j).rows ≤ row_total (take i site)
rows_earlier site j zero h = absurd (omega arith)
rows_earlier [] zero (suc i) h = omega arith
rows_earlier [] (suc j) (suc i) h = omega arith
rows_earlier (t ∷ ts) zero (suc i) h = omega arith
rows_earlier (t ∷ ts) (suc j) (suc i) h = omega (arith, rows_earlier ts j i (omega arith))

-- and among those of all
rows_among : (site : Site) (j : ℕ) → row_total (take j site) + length (table_at site j).rows ≤ row_total site
rows_among [] zero = omega arith
rows_among [] (suc j) = omega arith
rows_among (t ∷ ts) zero = omega arith
rows_among (t ∷ ts) (suc j) = omega (arith, rows_among ts j)

-- the third word of entry i
entry-start : (here : ℕ) (site : Site) (i : ℕ) → i < length site → get_or (vp_entries here (declarations site)) (3 * i + 2) 0 ≡ here + 2 * row_total (take i site)
entry-start here [] i h = absurd (omega arith)
entry-start here (t ∷ ts) zero h = omega arith
entry-start here (t ∷ ts) (suc i) h =
    let place : 3 * suc i + 2 ≡ suc (suc (suc (3 * i + 2))) = omega arith in
    rw (place, entry-start (here + 2 * length t.rows) ts i (omega arith)) (omega arith)

-- ---- rows that ascend

rows-places : (w : List ℕ) (p n : ℕ) → p + 2 * n ≤ length w → rows_in n (drop p w) ≡ map (row_at w p) (below n)
rows-places w p zero h = refl
rows-places w p (suc n) h =
    ap (λ (k : ℕ). rows_in k (drop p w)) (sym (add-one n))
    ∙ rows_at_lem w p n 0 (omega arith)
    ∙ rw (rows-places w p n (omega arith)) refl
    ∙ sym (ap (map (row_at w p)) (below_last n) ∙ map-append (row_at w p) (below n) (n ∷ []))

-- of two rows that are not in descending order the second has no smaller subject
subject_order : (r s : Row) → row_before s r ≡ false → r.0 ≤ s.0
subject_order r s e = ltb-false s.0 r.0 (to_false (ltb s.0 r.0) (λ h. not_both (or_left _ h) e))

module _ (w : List ℕ) (p n : ℕ) (inside : p + 2 * n ≤ length w) where
  abbrev all_rows : List Row
  all_rows = map (row_at w p) (below n)

  row_place : (k : ℕ) → k < n → get_or all_rows k (0, 0) ≡ row_at w p k
  row_place k h = get_or-count_up (row_at w p) 0 n k (0, 0) h ∙ ap (row_at w p) (zero-add k)

  subjects_ascend : ascends row_before (rows_in n (drop p w)) ≡ true → Ascending w p 2 n
  subjects_ascend e i j h l =
      let sorted = ascending_sorted row_before rows all_rows (rw (rows-places w p n inside) at e) in
      let order = places-sorted row_before rows (0, 0) all_rows i j sorted h (omega (arith, length-map (below n) (row_at w p), length-count_up 0 n)) in
      subject_order (row_at w p i) (row_at w p j) (rw (row_place i (omega arith), row_place j l) at order)

-- ---- words that stand elsewhere too

module _ (words moved : List ℕ) (p q n : ℕ) (same : (i : ℕ) → i < n → word_at moved q 1 i ≡ word_at words p 1 i) where
  ascending_moved : Ascending words p 1 n → Ascending moved q 1 n
  ascending_moved a i j h l = omega (arith, a i j h l, same i (omega arith), same j l)

  values_moved : {column : Column} {rows : List Row} → SameValues words p 1 n column rows → SameValues moved q 1 n column rows
  unfolding passing
  values_moved s = record { as_often = λ test. ap length (filter_same _ _ (below n) (λ i m. ap test (same i (from_below n m)))) ∙ s.as_often test }

-- ---- a part put back

-- words from `to` on, in the place of those that stood there
abbrev put_back : List ℕ → ℕ → List ℕ → List ℕ → List ℕ
put_back words to part rest = take to words ++ (part ++ rest)

module _ (words part rest : List ℕ) (to : ℕ) (inside : to ≤ length words) where
  word_before : (p : ℕ) → p < to → get_or (put_back words to part rest) p 0 ≡ get_or words p 0
  word_before p h =
      get_or-append (take to words) (part ++ rest) 0 p (omega (arith, length-take-le to words inside)) ∙ get_or-take to words p 0 h

  word_there : (k : ℕ) → k < length part → word_at (put_back words to part rest) to 1 k ≡ word_at part 0 1 k
  word_there k h =
      ap (λ (p : ℕ). get_or (put_back words to part rest) p 0) (omega (arith, length-take-le to words inside))
      ∙ get_or-append-add (take to words) (part ++ rest) k 0
      ∙ get_or-append part rest 0 k h
      ∙ ap (λ (p : ℕ). get_or part p 0) (omega arith)

-- ---- the tables of an image

module _ {count : ℕ} {w : List ℕ} (o : ImageOf count w) where
  abbrev site : Site
  site = site_in count w

  -- how many rows table i has, and where they start
  abbrev rows_at : ℕ → ℕ
  rows_at i = get_or w (vp_entry_at i + 1) 0

  abbrev start_at : ℕ → ℕ
  start_at i = get_or w (vp_entry_at i + 2) 0

  -- where its part of the copy starts
  abbrev part_at : ℕ → ℕ
  part_at i = (start_at i - rows_start count) / 2

  among : (i : ℕ) → i < count → i < length site
  among i h = rw o.predicates h

  -- the rows start where those of the tables before it end
  start : (i : ℕ) → i < count → start_at i ≡ rows_start count + 2 * row_total (take i site)
  start i h =
      let inside = among i h in
      let place : vp_entry_at i + 2 ≡ 3 + (3 * i + 2) = omega arith in
      ap (λ (k : ℕ). get_or w k 0) place
      ∙ sym (get_or-drop 3 w (3 * i + 2) 0)
      ∙ sym (get_or-take (3 * length site) (drop 3 w) (3 * i + 2) 0 (omega arith))
      ∙ ap (λ (l : List ℕ). get_or l (3 * i + 2) 0) o.holds.entries
      ∙ entry-start (rows_start (length site)) site i inside
      ∙ ap (λ (k : ℕ). rows_start k + 2 * row_total (take i site)) o.predicates

  pub behind-first : (i : ℕ) → i < count → rows_start count ≤ start_at i
  behind-first i h = omega (arith, start i h)

  pub part_fits : (i : ℕ) → i < count → part_at i + rows_at i ≤ row_total site
  part_fits i h = omega (arith, start i h, (table_in o i h).count, rows_among site i)

  -- the part of a table ends before those of later ones
  parts_apart : (j i : ℕ) → j < i → i < count → part_at j + rows_at j ≤ part_at i
  parts_apart j i l h =
      let earlier : j < count = omega arith in
      omega (arith, start i h, start j earlier, (table_in o j earlier).count, rows_earlier site j i l)

  ascending : (i : ℕ) → i < count → Ascending w (start_at i) 2 (rows_at i)
  ascending i h =
      let table = table_in o i h in
      let rs = (table_at site i).rows in
      let good = from_all (λ t. rows_proper t.rows) site (proper site o.proper).rows_proper (at_place site no_table i (among i h)) in
      let order = (and_cases (all (λ r. is_term r.0 && is_term r.1) rs) (ascends row_before rs) good).1 in
      subjects_ascend w (start_at i) (rows_at i) table.inside (ap (ascends row_before) table.back ∙ order)

  subjects_run : (i : ℕ) → i < count → SortedRun w (start_at i) 2 (rows_at i)
  subjects_run i h = record { spaced = omega arith; inside = (table_in o i h).inside; ascending = ascending i h }

  -- as the entry has the table
  pub entry-run : (i : ℕ) → i < count → (r : TableEntry) → TableEntryAt w i r → SortedRun w r.start 2 r.rows
  entry-run i h r entry = rw (entry.start, entry.rows) (subjects_run i h)

  -- each can be searched by its subjects
  pub all_searchable : (objects : List ℕ) → row_total site ≤ length objects → AllSearchable count w objects count
  all_searchable objects room i h = record {
    behind = behind-first i h;
    subjects = subjects_run i h;
    copied = omega (arith, part_fits i h);
  }

  -- the sorted objects of table i are put into its part
  module _ (objects copy rest : List ℕ) (i : ℕ) (h : i < count) (room : row_total site ≤ length objects) (fit : rows_at i ≤ length copy) where
    inside : part_at i ≤ length objects
    inside = omega (arith, part_fits i h)

    earlier_sorted : (j : ℕ) → j < i → ObjectsSorted w objects (rows_start count) (start_at j) (rows_at j)
        → ObjectsSorted w (put_back objects (part_at i) copy rest) (rows_start count) (start_at j) (rows_at j)
    earlier_sorted j l s =
        let now = put_back objects (part_at i) copy rest in
        let same : (k : ℕ) → k < rows_at j → word_at now (part_at j) 1 k ≡ word_at objects (part_at j) 1 k =
        λ k m. word_before objects copy rest (part_at i) inside (part_at j + 1 * k) (omega (arith, parts_apart j i l h)) in
        record {
          objects_ascend = ascending_moved objects now (part_at j) (part_at j) (rows_at j) same s.objects_ascend;
          same_objects = values_moved objects now (part_at j) (part_at j) (rows_at j) same s.same_objects;
        }

    table-sorted : CopyOf w (start_at i) (rows_at i) copy → ObjectsSorted w (put_back objects (part_at i) copy rest) (rows_start count) (start_at i) (rows_at i)
    table-sorted c =
        let now = put_back objects (part_at i) copy rest in
        let same : (k : ℕ) → k < rows_at i → word_at now (part_at i) 1 k ≡ word_at copy 0 1 k =
        λ k m. word_there objects copy rest (part_at i) inside k (omega arith) in
        record {
          objects_ascend = ascending_moved copy now 0 (part_at i) (rows_at i) same c.ascend;
          same_objects = values_moved copy now 0 (part_at i) (rows_at i) same c.same;
        }

    -- if they are reached; with them the third number of their range is written
    pub sorted_more : (ranges : List ValueRange) (whole : Bool) (fits : range_at (i + 1) 0 ≤ length ranges) → AllSorted count w objects ranges i
        → ((p : ℕ) → p < count → (column : ℕ) → column < 2 → are_compared column 1 ≡ true → range_at p column ≢ range_at i 1 → apart ranges (range_at p column) (range_at i 1) ≡ false → CopyOf w (start_at i) (rows_at i) copy)
        → AllSorted count w (put_back objects (part_at i) copy rest) (again ranges i whole fits) (i + 1)
    sorted_more ranges whole fits s c =
        below_more
        (λ j. (p : ℕ) → p < count → (column : ℕ) → column < 2 → are_compared column 1 ≡ true → range_at p column ≢ range_at j 1 → apart (again ranges i whole fits) (range_at p column) (range_at j 1) ≡ false
        → ObjectsSorted w (put_back objects (part_at i) copy rest) (rows_start count) (start_at j) (rows_at j)) i
        (λ j l p m column n compared other e. earlier_sorted j l (s j l p m column n compared other (sym (apart-again ranges i whole fits (range_at p column) (range_at j 1)) ∙ e)))
        (λ p m column n compared other e. table-sorted (c p m column n compared other (sym (apart-again ranges i whole fits (range_at p column) (range_at i 1)) ∙ e)))

-- The site's reader as the code runs it: the tables read so far, and each way out of the file's front.
use Prim.Native.Nat.{ℕ, suc, ◌+◌, ◌-◌, ◌<◌, ◌≤◌}
use native.Mathlib.Omega.{arith}
use mathlib.Core.Path.{◌≡◌, refl, sym, ap, ◌∙◌}
use mathlib.Core.Bool.{true, false}
use mathlib.Core.List.{List, [], ◌∷◌, ◌++◌}
use lib.ListN.{get_or, drop}
use lib.Seq.{drop-drop, get_or-drop}
use lib.Dec.{leb}
use Rattle.model.specs.Store.{vp_entry_at}
use Rattle.model.specs.Reader.{refused, gives, after, ask, repeated, whole_file, all_read}
use Rattle.model.specs.Site.{Row, Site, most_predicates, row_total}
use Rattle.model.specs.SiteFile.{Declaration, declaration, row, tables_under, tables, site_file_under, read_site_under, read_site}
use Rattle.model.proofs.Growing.{sum_snoc}
use Rattle.model.specs.Numbers.{number}
use Rattle.tables.specs.SiteWords.{declared_in, declared_rows}
use Rattle.site_elements.proofs.RowReading.{rows-count}

-- ---- the tables of the entries in an image

module _ (image : List ℕ) (count : ℕ) (bytes : List ℕ) where
  -- of count tables, i were read, and `rest` is left of the bytes
  pub record TablesRead (i : ℕ) (done : Site) (rest : List ℕ) : Type 0 where
    pub left : ℕ
    pub all : i + left ≡ count
    pub same : tables (declared_in count (drop 3 image)) [] bytes ≡ tables (declared_in left (drop (vp_entry_at i) image)) done rest
    pub rows : row_total done + declared_rows left (drop (vp_entry_at i) image) ≡ declared_rows count (drop 3 image)

  pub no_table_read : TablesRead 0 [] bytes
  no_table_read = record { left = count; all = omega arith; same = refl; rows = omega arith }

  module _ {i : ℕ} {done : Site} {rest : List ℕ} (part : TablesRead i done rest) where
    pub all-tables : count ≤ i → tables (declared_in count (drop 3 image)) [] bytes ≡ gives (done, rest)
    unfolding tables_under
    all-tables h = let none : part.left ≡ 0 = omega arith in part.same ∙ rw none refl

    -- the entry of the next table
    abbrev entry : List ℕ
    entry = drop (vp_entry_at i) image

    module _ (more : i < count) {n : ℕ} (known : n ≡ get_or image (vp_entry_at i + 1) 0) where
      table-left : part.left ≡ suc (part.left - 1)
      table-left = omega arith

      entry-count : get_or entry 1 0 ≡ n
      entry-count = get_or-drop (vp_entry_at i) image 1 0 ∙ sym known

      same_more : tables (declared_in count (drop 3 image)) [] bytes ≡ tables (declared_in (suc (part.left - 1)) entry) done rest
      same_more = rw table-left at part.same

      rows_more : row_total done + (n + declared_rows (part.left - 1) (drop 3 entry)) ≡ declared_rows count (drop 3 image)
      rows_more = rw (← entry-count) (rw table-left at part.rows)

      pub table_fits : row_total done + n ≤ declared_rows count (drop 3 image)
      table_fits = omega (arith, rows_more)

      pub table_refused : {m : ℕ} → repeated row n [] rest ≡ refused m → tables (declared_in count (drop 3 image)) [] bytes ≡ refused m
      unfolding tables_under after
      table_refused q = same_more ∙ rw (entry-count, q) refl

      pub table_read : {rows : List Row} {rest' : List ℕ} → repeated row n [] rest ≡ gives (rows, rest')
          → TablesRead (i + 1) (done ++ record { predicate = get_or entry 0 0; rows = rows } ∷ []) rest'
      unfolding tables_under after
      table_read q =
          let place : vp_entry_at i + 3 ≡ vp_entry_at (i + 1) = omega arith in
          let next : drop 3 entry ≡ drop (vp_entry_at (i + 1)) image = drop-drop 3 (vp_entry_at i) image ∙ ap (λ (k : ℕ). drop k image) place in
          record {
            left = part.left - 1;
            all = omega arith;
            same = same_more ∙ rw (entry-count, q, next) refl;
            rows = rw (← next, sum_snoc, rows-count n rest q) (omega (arith, rows_more));
          }

-- ---- the site

module _ (bytes : List ℕ) where
  pub no_predicates : {m : ℕ} → number 2 bytes ≡ refused m → read_site bytes ≡ refused m
  unfolding read_site_under whole_file site_file_under after
  no_predicates e = rw e refl

  module _ {p : ℕ} {rest : List ℕ} (e : number 2 bytes ≡ gives (p, rest)) where
    pub many_predicates : leb p most_predicates ≡ false → read_site bytes ≡ refused 3
    unfolding read_site_under whole_file site_file_under after ask
    many_predicates t = rw (e, t) refl

    module _ (t : leb p most_predicates ≡ true) where
      pub declarations_refused : {m : ℕ} → repeated declaration p [] rest ≡ refused m → read_site bytes ≡ refused m
      unfolding read_site_under whole_file site_file_under after ask
      declarations_refused q = rw (e, t, q) refl

      pub declarations_read : {ds : List Declaration} {behind : List ℕ} → repeated declaration p [] rest ≡ gives (ds, behind)
          → read_site bytes ≡ all_read 8 (tables ds [] behind)
      unfolding read_site_under whole_file site_file_under after ask
      declarations_read q = rw (e, t, q) refl

-- The site file: every site that is read is proper, what is written is read back, and what is accepted is what is written.
use Prim.Native.Nat.{ℕ, ◌+◌, ◌≤◌}
use native.Mathlib.Omega.{arith}
use mathlib.Core.Path.{◌≡◌, refl, sym, ap, ◌∙◌}
use mathlib.Core.Bool.{Bool, true, ◌&&◌}
use mathlib.Core.List.{List, [], ◌∷◌, ◌++◌, map, map-map, append-nil, append_assoc}
use lib.ListN.{length, length-map}
use lib.Seq.{append_snoc}
use lib.Dec.{ltb, leb}
use borrow.Author.Tests.{leb-true}
use Rattle.model.specs.Lists.{all, concat_map, sum, ascends, above_last}
use Rattle.model.specs.Reader.{gives, after, ask, repeated}
use Rattle.model.specs.Numbers.{are_bytes, is_term, number_bytes}
use Rattle.model.specs.ExactFile.{FileIsExact}
use Rattle.model.specs.Site.{Row, row_before, Table, Site, most_predicates, most_rows, row_total, predicates_proper, rows_proper, is_site_under, is_site}
use Rattle.model.specs.SiteFile.{Declaration, declared_terms, declared_total, declared_proper, declaration_under, declaration, row_under, row, tables_under, tables, site_file_under, site_file, read_site_under, read_site, declaration_bytes, row_bytes, declaration_of, site_bytes, declarations}
use Rattle.model.proofs.Booleans.{and_cases, and_make}
use Rattle.model.proofs.Growing.{Grows, all_grows, ascends_grows, both_grow, map_grows, sum_grows}
use Rattle.model.proofs.Readers.{after_gives, ask_gives, Front, front_none, front_then, Reads, returned, repeated_read, repeated-written, file_is_exact}
use Rattle.model.proofs.Numbers.{number-written, number_gives, term_fits, bytes_both, bytes_concat_map, number_bytes_lem}

-- ---- general

module _ {A B : Type 0} (f : A → B) where
  all_map : (p : B → Bool) (l : List A) → all p (map f l) ≡ all (λ x. p (f x)) l
  all_map p [] = refl
  all_map p (x ∷ xs) = rw (all_map p xs) refl

  pub sum-map : (g : B → ℕ) (l : List A) → sum g (map f l) ≡ sum (λ x. g (f x)) l
  sum-map g [] = refl
  sum-map g (x ∷ xs) = rw (sum-map g xs) refl

-- ---- rows

-- asked of the row behind those done
abbrev pub row_test : List Row → Row → Bool
row_test done r = is_term r.0 && is_term r.1 && above_last row_before done r

pub rows_grow : Grows rows_proper row_test
rows_grow = both_grow (all_grows (λ r. is_term r.0 && is_term r.1)) (ascends_grows row_before)

pub row_reads : Reads row row_bytes row_test
unfolding row_under after ask
row_reads = record {
  read = λ done bytes h.
      let s = number_gives _ bytes _ h in
      let a = ask_gives _ (is_term s.0) _ s.3 in
      let o = number_gives _ s.1 _ a.1 in
      let b = ask_gives _ (is_term o.0) _ o.3 in
      let c = ask_gives _ (above_last row_before done (s.0, o.0)) _ b.1 in
      returned (row_test done) row_bytes c.1 (and_make (and_make a.0 b.0) c.0) (front_then s.2 o.2);
  written = λ done r rest t.
      let c = and_cases (is_term r.0 && is_term r.1) (above_last row_before done r) t in
      let d = and_cases (is_term r.0) (is_term r.1) c.0 in
      rw (append_assoc, number-written _ r.0 _ (term_fits r.0 d.0), d.0, number-written _ r.1 _ (term_fits r.1 d.1), d.1, c.1) refl;
}

-- ---- declarations

-- the rows of proper declarations are within the limit
pub declared_few : (ds : List Declaration) → declared_proper ds ≡ true → declared_total ds ≤ most_rows
declared_few ds h = leb-true _ _ (and_cases (all is_term (declared_terms ds) && ascends ltb (declared_terms ds)) _ h).1

abbrev pub declaration_test : List Declaration → Declaration → Bool
declaration_test done d = is_term d.0 && above_last ltb (declared_terms done) d.0 && leb (declared_total done + d.1) most_rows

pub declared_grow : Grows declared_proper declaration_test
declared_grow = both_grow (map_grows (λ d. d.0) (both_grow (all_grows is_term) (ascends_grows ltb))) (sum_grows (λ d. d.1) most_rows)

pub declaration_reads : Reads declaration declaration_bytes declaration_test
unfolding declaration_under after ask
declaration_reads = record {
  read = λ done bytes h.
      let p = number_gives _ bytes _ h in
      let a = ask_gives _ (is_term p.0 && above_last ltb (declared_terms done) p.0) _ p.3 in
      let c = number_gives _ p.1 _ a.1 in
      let b = ask_gives _ (leb (declared_total done + c.0) most_rows) _ c.3 in
      returned (declaration_test done) declaration_bytes b.1 (and_make a.0 b.0) (front_then p.2 c.2);
  written = λ done d rest t.
      let above = above_last ltb (declared_terms done) d.0 in
      let c = and_cases (is_term d.0 && above) (leb (declared_total done + d.1) most_rows) t in
      let p = and_cases (is_term d.0) above c.0 in
      let l = leb-true (declared_total done + d.1) most_rows c.1 in
      rw (append_assoc, number-written _ d.0 _ (term_fits d.0 p.0), c.0, number-written _ d.1 _ (omega arith), c.1) refl;
}

-- ---- tables

abbrev table_bytes : Table → List ℕ
table_bytes t = concat_map row_bytes t.rows

-- tables were read behind those done
record TablesRead (ds : List Declaration) (done : Site) (bytes : List ℕ) (y : Site × List ℕ) : Type 0 where
  tables-behind : Site
  behind : y.0 ≡ done ++ tables-behind
  declared : declarations tables-behind ≡ ds
  proper : all (λ t. rows_proper t.rows) tables-behind ≡ true
  front : Front bytes (concat_map table_bytes tables-behind) y.1

tables_read : (ds : List Declaration) (done : Site) (bytes : List ℕ) {y : Site × List ℕ} → tables ds done bytes ≡ gives y → TablesRead ds done bytes y
unfolding tables_under
tables_read [] done bytes {y} h =
    let e : (done, bytes) ≡ y = cc in
    rw (← e) (record { tables-behind = []; behind = sym (append-nil done); declared = refl; proper = refl; front = front_none })
tables_read (d ∷ ds) done bytes h =
    let a = after_gives (repeated row d.1 [] bytes) _ h in
    let rows = repeated_read row_reads rows_grow d.1 bytes a.2 in
    let t : Table = record { predicate = d.0; rows = a.0 } in
    let r = tables_read ds (done ++ t ∷ []) a.1 a.3 in
    let same : declaration_of t ≡ d = λ i. (d.0, rows.0 i) in
    record {
      tables-behind = t ∷ r.tables-behind;
      behind = r.behind ∙ append_snoc done t r.tables-behind;
      declared = rw (same, r.declared) refl;
      proper = and_make rows.1 r.proper;
      front = front_then rows.2 r.front;
    }

pub all_tables_read : (ds : List Declaration) (bytes : List ℕ) {site : Site} {rest : List ℕ} → tables ds [] bytes ≡ gives (site, rest)
    → (declarations site ≡ ds) × (all (λ t. rows_proper t.rows) site ≡ true) × Front bytes (concat_map table_bytes site) rest
all_tables_read ds bytes h =
    let r = tables_read ds [] bytes h in
    (rw r.behind r.declared, rw r.behind r.proper, rw r.behind r.front)

tables-written : (more done : Site) (rest : List ℕ) → all (λ t. rows_proper t.rows) more ≡ true
    → tables (declarations more) done (concat_map table_bytes more ++ rest) ≡ gives (done ++ more, rest)
unfolding tables_under after
tables-written [] done rest g = rw append-nil refl
tables-written (t ∷ more) done rest g =
    let c = and_cases (rows_proper t.rows) (all (λ t. rows_proper t.rows) more) g in
    rw (append_assoc, ← append_snoc, repeated-written row_reads rows_grow t.rows (concat_map table_bytes more ++ rest) c.0)
    (tables-written more (done ++ t ∷ []) rest c.1)

-- ---- the file

-- what is asked of the declarations is what a site is asked for them
pub declared_site : (site : Site) → declared_proper (declarations site) ≡ (predicates_proper site && leb (row_total site) most_rows)
declared_site site = rw (map-map, all_map, sum-map) refl

pub site_read : (bytes : List ℕ) {site : Site} {rest : List ℕ} → site_file bytes ≡ gives (site, rest)
    → (is_site site ≡ true) × Front bytes (site_bytes site) rest
unfolding site_file_under is_site_under site_bytes
site_read bytes {site} h =
    let p = number_gives _ bytes _ h in
    let a = ask_gives _ (leb p.0 most_predicates) _ p.3 in
    let d = after_gives (repeated declaration p.0 [] p.1) _ a.1 in
    let ds = repeated_read declaration_reads declared_grow p.0 p.1 d.2 in
    let t = all_tables_read d.0 d.1 d.3 in
    let count : length site ≡ p.0 = sym (length-map site declaration_of) ∙ ap length t.0 ∙ ds.0 in
    let c = and_cases (predicates_proper site) (leb (row_total site) most_rows) (sym (declared_site site) ∙ rw t.0 ds.1) in
    let few : leb (length site) most_predicates ≡ true = rw count a.0 in
    (and_make (and_make few c.1) (and_make c.0 t.1), rw (count, t.0) (front_then p.2 (front_then ds.2 t.2)))

-- what is written is read, whatever stands behind it
pub site_back : (site : Site) (rest : List ℕ) → is_site site ≡ true → site_file (site_bytes site ++ rest) ≡ gives (site, rest)
unfolding site_file_under is_site_under site_bytes after ask
site_back site rest e =
    let few = leb (length site) most_predicates in
    let total = leb (row_total site) most_rows in
    let rows = all (λ t. rows_proper t.rows) site in
    let c = and_cases (few && total) (predicates_proper site && rows) e in
    let a = and_cases few total c.0 in
    let b = and_cases (predicates_proper site) rows c.1 in
    let l = leb-true (length site) most_predicates a.0 in
    let g = declared_site site ∙ and_make b.0 a.1 in
    let read = rw length-map at (repeated-written declaration_reads declared_grow (declarations site) (concat_map table_bytes site ++ rest) g) in
    rw (append_assoc, number-written _ (length site) _ (omega arith), a.0, append_assoc, read) (tables-written site [] rest b.1)

-- what is written is bytes
site_bytes_lem : (site : Site) → are_bytes (site_bytes site) ≡ true
unfolding site_bytes
site_bytes_lem site =
    bytes_both (number_bytes (length site)) _ (number_bytes_lem (length site))
    (bytes_both (concat_map declaration_bytes (declarations site)) (concat_map table_bytes site)
    (bytes_concat_map declaration_bytes (λ d. bytes_both (number_bytes d.0) (number_bytes d.1) (number_bytes_lem d.0) (number_bytes_lem d.1)) (declarations site))
    (bytes_concat_map table_bytes (λ t. bytes_concat_map row_bytes (λ r. bytes_both (number_bytes r.0) (number_bytes r.1) (number_bytes_lem r.0) (number_bytes_lem r.1)) t.rows) site))

pub site_file_lem : FileIsExact read_site site_bytes is_site
unfolding read_site_under
site_file_lem = file_is_exact _ (record { read = λ _ bytes h. site_read bytes h; written = λ _ site rest e. site_back site rest e }) site_bytes_lem

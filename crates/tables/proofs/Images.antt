-- The image of a site: it gives the site back, whatever stands beside the entries and the rows.
use Prim.Native.Nat.{ℕ, ◌+◌, ◌*◌, ◌≤◌, ◌<◌}
use native.Mathlib.Nat.{le_refl, mul-le-mul}
use native.Mathlib.Omega.{arith}
use mathlib.Core.Path.{◌≡◌, refl, sym, ap, ap₂, ◌∙◌, subst}
use mathlib.Core.Logic.{◌⊎◌, ⊎_elim}
use mathlib.Core.Bool.{true}
use mathlib.Core.List.{List, ◌++◌}
use lib.ListN.{length, get_or, take, drop, take-append-drop}
use lib.Seq.{sets, length-sets}
use Rattle.model.specs.Site.{Row, Table, Site, is_site, most_predicates, most_rows, no_table, table_at}
use Rattle.model.specs.Tables.{kind_count}
use Rattle.model.specs.Store.{table_words, rows_start, stored_start, rows_in, tables_in, vp_words, vp_entry_at}
use Rattle.model.proofs.Partition.{proper}
use Rattle.model.proofs.Blocks.{Block, block_inside, element_block, drop_block, get_or_block}
use Rattle.model.proofs.StoreLayout.{length-table, entry_and_rows, vp_entry, vp-entries}
use Rattle.model.proofs.Stores.{rows_back, tables_back}
use Rattle.tables.specs.SiteWords.{site_in, image_words, ImageHolds, ImageOf}
use Rattle.model.proofs.Setting.{drop-sets, part_sets, part_block}

-- a list by its front
fronted : {l b : List ℕ} (n : ℕ) → take n l ≡ b → l ≡ b ++ drop n l
fronted {l} n e = sym (take-append-drop n l) ∙ ap (λ (m : List ℕ). m ++ drop n l) e

-- a site that stands in an image is the image's site
pub image_of : (site : Site) (image : List ℕ) → is_site site ≡ true → stored_start site ≤ length image → ImageHolds site image
    → ImageOf (length site) image × (site_in (length site) image ≡ site)
image_of site image yes-site long held =
    let back : site_in (length site) image ≡ site =
    ap₂ (tables_in (length site)) (fronted (3 * length site) held.entries) (fronted (length (vp_words site)) held.rows)
    ∙ tables_back (rows_start (length site)) site _ _ (proper site yes-site).row_limit in (
      record {
        long = rw back long;
        proper = ap is_site back ∙ yes-site;
        predicates = ap length back;
        holds = subst (λ (s : Site). ImageHolds s image) (sym back) held;
      },
      back,
    )

-- words that are set beside the entries and the rows
pub image_unchanged : {count : ℕ} {image : List ℕ} → ImageOf count image → (i : ℕ) (vs : List ℕ)
    → (i + length vs ≤ 3) ⊎ (vp_entry_at count ≤ i) → i + length vs ≤ rows_start count
    → ImageOf count (sets image i vs) × (site_in count (sets image i vs) ≡ site_in count image)
image_unchanged {count} {image} o i vs apart before =
    let site = site_in count image in
    let few : length site ≡ count = o.predicates in
    let held : ImageHolds site (sets image i vs) = record {
      entries =
          ⊎_elim (λ h. ap (take (3 * length site)) (drop-sets image i vs 3 h)) (λ h. part_sets image i vs 3 (3 * length site) (omega arith)) apart
          ∙ o.holds.entries;
      rows = ap (take (length (vp_words site))) (drop-sets image i vs (rows_start (length site)) (rw few before)) ∙ o.holds.rows;
    } in
    subst (λ (k : ℕ). ImageOf k (sets image i vs) × (site_in k (sets image i vs) ≡ site)) few
    (image_of site (sets image i vs) o.proper (rw length-sets o.long) held)

-- ---- how many

abbrev pub most_semi_joins : ℕ
most_semi_joins = most_predicates * (most_predicates * kind_count)

pub few_semi_joins : {count : ℕ} → count ≤ most_predicates → count * (count * kind_count) ≤ most_semi_joins
few_semi_joins h = mul-le-mul h (mul-le-mul h (le_refl kind_count))

pub few_predicates : {count : ℕ} {image : List ℕ} → ImageOf count image → count ≤ most_predicates
few_predicates o = rw o.predicates at (proper _ o.proper).predicate_limit

-- the stored tables' rows begin where those of the largest site do, or before
pub stored_start_limit : (site : Site) → is_site site ≡ true → stored_start site ≤ image_words
stored_start_limit site yes-site =
    let limits = proper site yes-site in
    omega (arith, few_semi_joins limits.predicate_limit)

-- there are words for the entries of count predicates and for the rows
pub rows_room : (count : ℕ) → count ≤ most_predicates → rows_start count + 2 * most_rows ≤ image_words
rows_room count few = omega (arith, mul-le-mul few few)

-- the entries stand inside
pub entries_inside : {count : ℕ} {image : List ℕ} → ImageOf count image → rows_start count ≤ length image
entries_inside {count} {image} o =
    let h : rows_start (length (site_in count image)) ≤ length image = omega (arith, o.long) in
    rw o.predicates at h

-- so does that of each predicate
pub entry_inside : {count : ℕ} {image : List ℕ} → ImageOf count image → (i : ℕ) → i < count → (i < most_predicates) × (vp_entry_at i + 3 ≤ length image)
entry_inside o i h = (omega (arith, few_predicates o), omega (arith, entries_inside o))

-- ---- the tables

-- rows, as the entry at a place counts and starts them
pub record TableIn (image : List ℕ) (place : ℕ) (rows : List Row) : Type 0 where
  pub count : get_or image (place + 1) 0 ≡ length rows
  pub inside : get_or image (place + 2) 0 + 2 * get_or image (place + 1) 0 ≤ length image
  pub back : rows_in (get_or image (place + 1) 0) (drop (get_or image (place + 2) 0) image) ≡ rows

-- an entry, and the rows that it starts
table-at : {image : List ℕ} {place start : ℕ} (t : Table) → Block image place (vp_entry start t) → Block image start (table_words t.rows)
    → TableIn image place t.rows
table-at {image} {place} {start} t entry words =
    let counted : get_or image (place + 1) 0 ≡ length t.rows = get_or_block entry 1 0 (omega arith) in
    let started : get_or image (place + 2) 0 ≡ start = get_or_block entry 2 0 (omega arith) in
    record {
      count = counted;
      inside = rw (counted, started, ← (length-table t.rows)) (block_inside words);
      back = rw (counted, started, drop_block words) (rows_back t.rows words.after);
    }

-- the table of each predicate
pub table_in : {count : ℕ} {image : List ℕ} → ImageOf count image → (i : ℕ) → i < count → TableIn image (vp_entry_at i) (table_at (site_in count image) i).rows
table_in {count} {image} o i h =
    let site = site_in count image in
    let p = length site in
    let few : p ≤ most_predicates = (proper site o.proper).predicate_limit in
    let fewer = few_semi_joins few in
    let es = rw (vp-entries (rows_start p) site) at (part_block image 3 (3 * p) (omega arith) o.holds.entries) in
    let rs = part_block image (rows_start p) (length (vp_words site)) (omega arith) o.holds.rows in
    let found = entry_and_rows (λ t. t.rows) vp_entry 3 (λ here t. refl) es rs (element_block no_table site i (rw o.predicates h)) in
    table-at {start = found.0} (table_at site i) found.1 found.2

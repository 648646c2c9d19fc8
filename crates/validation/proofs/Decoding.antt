-- Question 10 by its parts: what words that are a store hold, and what must hold for them to be one.
use Prim.Native.Nat.{ℕ, zero, suc, ◌+◌, ◌*◌, ◌-◌, ◌≤◌}
use native.Mathlib.Nat.{min-eq_left}
use native.Mathlib.Omega.{arith}
use mathlib.Core.Path.{◌≡◌, refl, sym, ap, ◌∙◌, subst}
use mathlib.Core.Bool.{Bool, true, false, ◌&&◌}
use mathlib.Core.List.{List, [], ◌∷◌, ◌++◌}
use lib.ListN.{length, get_or, take, drop, length-append, length-drop, length-map}
use lib.Seq.{length-take-le, drop-cons, take_at, take-add}
use lib.Dec.{leb}
use borrow.Author.Tests.{le-leb}
use Rattle.model.specs.Lists.{all, sum, same_words}
use Rattle.model.specs.SiteFile.{Declaration, declared_proper, declaration_of, declarations}
use Rattle.model.specs.Site.{Site, is_site_under, is_site, row_total, predicates_proper, rows_proper, most_predicates, most_rows}
use Rattle.model.specs.Tables.{kind_count, most_threshold}
use Rattle.model.specs.Store.{semi_joins, vp_entries, semi_join_entries, rows_start, stored_start, vp_words, stored_words, layout, words_used, Holds, tables_in, decoded, is_store_of, vp_entry_at}
use Rattle.model.proofs.Booleans.{and_cases, and_make, bool_ext}
use Rattle.model.proofs.Partition.{proper}
use Rattle.model.proofs.SiteFile.{declared_site, sum-map}
use Rattle.model.proofs.Blocks.{Block, block_at, longer_block, drop_block, take_block, joined_block}
use Rattle.model.proofs.StoreLayout.{length-all, length-vp_entries, length-semi_join_entries, front, length_before_stored, length-layout, layout_parts, vp_entries_block, semi_join_entries_block, stored_words_block}
use Rattle.model.proofs.Stores.{same-words, words_same}
use Rattle.model.proofs.Decoder.{site_of, threshold_of, store_holds, holds_store, store_whole, store-predicates, store_used, store_inside}
use Rattle.tables.specs.SiteWords.{declared_in, declared_rows, entries_proper, site_in, ImageHolds, ImageOf}
use Rattle.model.proofs.Rows.{rows_words, length-rows}
use Rattle.tables.proofs.Declared.{length-declared_in}
use Rattle.model.proofs.Setting.{part_block}
use Rattle.tables.proofs.Images.{image_of}
use Rattle.site_validation.proofs.Declared.{halves, few_rows}
use Rattle.semi_join_validation.specs.Joins.{joins_hold}

-- ---- the declarations of a site

-- the entries of a site declare its tables
declared_back : (here : ℕ) (site : Site) (rest : List ℕ) → declared_in (length site) (vp_entries here (declarations site) ++ rest) ≡ declarations site
declared_back here [] rest = refl
declared_back here (t ∷ ts) rest = ap (λ (ds : List Declaration). declaration_of t ∷ ds) (declared_back (here + 2 * length t.rows) ts rest)

-- ---- what a store holds

module _ {w : List ℕ} {t : ℕ} {site : Site} (h : Holds w t site) where
  entries : Block w 3 (vp_entries (rows_start (length site)) (declarations site))
  entries = rw (store_whole h) (longer_block (vp_entries_block t site) (drop (words_used w) w))

  declared : declared_in (length site) (drop 3 w) ≡ declarations site
  declared = ap (declared_in (length site)) (drop_block entries) ∙ declared_back _ site _

  site-entries : entries_proper (length site) w ≡ true
  unfolding entries_proper
  site-entries =
      let p = proper site h.proper in
      let here = rows_start (length site) in
      let same : take (3 * length site) (drop 3 w) ≡ vp_entries here (declarations site) =
      ap (take (3 * length site)) (drop_block entries) ∙ take_at _ _ (3 * length site) (length-vp_entries here site) in
      rw (declared, same, words_same (vp_entries here (declarations site)), declared_site site, p.predicate_terms, p.predicates_ascend, le-leb _ _ p.row_limit) refl

-- where the rows of p entries end
abbrev pub rows_end : ℕ → List ℕ → ℕ
rows_end p w = rows_start p + 2 * declared_rows p (drop 3 w)

-- what is asked of words before their rows: the limits, the entries, and where the declared rows end
pub record Parts (w : List ℕ) : Type 0 where
  pub few : get_or w 0 0 ≤ most_predicates
  pub threshold : get_or w 1 0 ≤ most_threshold
  pub inside : get_or w 2 0 ≤ length w
  pub entries : entries_proper (get_or w 0 0) w ≡ true
  pub rows : rows_end (get_or w 0 0) w ≤ get_or w 2 0

-- of words that are a store
pub parts : (w : List ℕ) → is_store_of (decoded w) w ≡ true → Parts w
parts w e =
    let h = store_holds w e in
    let site = site_of w in
    let total : declared_rows (length site) (drop 3 w) ≡ row_total site = ap (sum (λ d. d.1)) (declared h) ∙ sum-map declaration_of (λ d. d.1) site in
    let long = store_used h ∙ length-layout (threshold_of w) site in
    record {
      few = rw (store-predicates h) (proper site h.proper).predicate_limit;
      threshold = h.threshold;
      inside = store_inside h;
      entries = rw (store-predicates h) (site-entries h);
      rows = rw (store-predicates h) (omega arith);
    }

-- ---- the site that the entries declare

-- the tables of entries whose rows are all there
tables_declared : (k : ℕ) (entries words : List ℕ) → declared_rows k entries ≤ most_rows → 2 * declared_rows k entries ≤ length words
    → (declarations (tables_in k entries words) ≡ declared_in k entries) × (vp_words (tables_in k entries words) ≡ take (2 * declared_rows k entries) words)
unfolding tables_in
tables_declared zero entries words few long = (refl, refl)
tables_declared (suc k) entries words few long =
    let n = get_or entries 1 0 in
    let later = declared_rows k (drop 3 entries) in
    let small : n ≤ most_rows = omega arith in
    let left = length-drop (2 * n) words in
    let rest = tables_declared k (drop 3 entries) (drop (2 * n) words) (omega arith) (omega arith) in
    let twice : 2 * (n + later) ≡ 2 * n + 2 * later = omega arith in (
      rw (min-eq_left small, length-rows n words (omega arith), rest.0) refl,
      rw (min-eq_left small, rows_words n words (omega arith), rest.1, twice, take-add (2 * n) (2 * later) words) refl,
    )

decoded-site : (w : List ℕ) → get_or w 0 0 ≤ most_predicates → site_of w ≡ site_in (get_or w 0 0) w
unfolding decoded
decoded-site w few = rw (min-eq_left few) refl

module _ (w : List ℕ) (x : Parts w) where
  abbrev p : ℕ
  p = get_or w 0 0

  abbrev site : Site
  site = site_in p w

  abbrev ds : List Declaration
  ds = declared_in p (drop 3 w)

  asked : (declared_proper ds ≡ true) × (take (3 * p) (drop 3 w) ≡ vp_entries (rows_start p) ds)
  asked = halves w p x.entries

  in_words : (declarations site ≡ ds) × (vp_words site ≡ take (2 * declared_rows p (drop 3 w)) (drop (rows_start p) w))
  in_words = tables_declared p (drop 3 w) (drop (rows_start p) w) (few_rows w p x.entries) (omega (arith, length-drop (rows_start p) w, x.rows, x.inside))

  size : length site ≡ p
  size = sym (length-map site declaration_of) ∙ ap length in_words.0 ∙ length-declared_in p (drop 3 w)

  total : row_total site ≡ declared_rows p (drop 3 w)
  total = sym (sum-map declaration_of (λ d. d.1) site) ∙ ap (sum (λ d. d.1)) in_words.0

  -- the stored rows begin where the declared rows end
  pub stored-start : stored_start site ≡ rows_end p w
  stored-start = rw (size, total) refl

  -- what is left to ask is the rows
  site_by_rows : is_site site ≡ all (λ t. rows_proper t.rows) site
  unfolding is_site_under
  site_by_rows =
      let y = and_cases (predicates_proper site) (leb (row_total site) most_rows) (sym (declared_site site) ∙ ap declared_proper in_words.0 ∙ asked.0) in
      let few : leb (length site) most_predicates ≡ true = le-leb (length site) most_predicates (rw size x.few) in
      rw (few, y.0, y.1) refl

  held : ImageHolds site w
  held = record {
    entries = rw size (asked.1 ∙ ap (vp_entries (rows_start p)) (sym in_words.0));
    rows =
        let e : length (vp_words site) ≡ 2 * declared_rows p (drop 3 w) = length-all (λ t. t.rows) site ∙ ap (λ (k : ℕ). 2 * k) total in
        rw (size, e) (sym in_words.1);
  }

  -- a site by its rows stands in the words
  pub words_image : all (λ t. rows_proper t.rows) site ≡ true → ImageOf p w
  words_image rows =
      subst (λ (k : ℕ). ImageOf k w) size (image_of site w (site_by_rows ∙ rows) (rw stored-start (omega (arith, x.rows, x.inside))) held).0

-- ---- the words of a store, part by part

-- the first three words
first_block : (w : List ℕ) → 3 ≤ length w → Block w 0 (get_or w 0 0 ∷ get_or w 1 0 ∷ get_or w 2 0 ∷ [])
first_block w h = record {
  before = [];
  after = drop 3 w;
  whole = drop-cons w 0 0 (omega arith) ∙ ap (λ (m : List ℕ). get_or w 0 0 ∷ m) (drop-cons w 1 0 (omega arith) ∙ ap (λ (m : List ℕ). get_or w 1 0 ∷ m) (drop-cons w 2 0 (omega arith)));
  length_before = refl;
}

module _ (w : List ℕ) (t : ℕ) (site : Site) where
  abbrev joins : List ℕ
  joins = semi_join_entries t (stored_start site) (semi_joins site)

  abbrev stored : List ℕ
  stored = stored_words t (semi_joins site)

  -- the entries of the semi-joins, and the stored rows
  abbrev JoinsIn : Type 0
  JoinsIn = (take (2 * (length site * (length site * kind_count))) (drop (vp_entry_at (length site)) w) ≡ joins)
      × (take (words_used w - stored_start site) (drop (stored_start site) w) ≡ stored)

  joins_in : Holds w t site → JoinsIn
  joins_in h =
      let long = store_used h ∙ length-layout t site in
      let entries : Block w (vp_entry_at (length site)) joins = rw (store_whole h) (longer_block (semi_join_entries_block t site) (drop (words_used w) w)) in
      let rows : Block w (stored_start site) stored = rw (store_whole h) (longer_block (stored_words_block t site) (drop (words_used w) w)) in
      let n : 2 * (length site * (length site * kind_count)) ≡ length joins = sym (length-semi_join_entries t (stored_start site) site) in
      let m : words_used w - stored_start site ≡ length stored = omega arith in (
        ap (λ (k : ℕ). take k (drop (vp_entry_at (length site)) w)) n ∙ take_block entries,
        ap (λ (k : ℕ). take k (drop (stored_start site) w)) m ∙ take_block rows,
      )

  module _ (p : get_or w 0 0 ≡ length site) (e : get_or w 1 0 ≡ t) (image : ImageHolds site w) (start : stored_start site ≤ words_used w) (end : words_used w ≤ length w) where
    joined : JoinsIn → take (words_used w) w ≡ layout t site
    joined h =
        let here = rows_start (length site) in
        let vp = length-vp_entries here site in
        let js = length-semi_join_entries t (stored_start site) site in
        let both = length-append (vp_entries here (declarations site)) joins in
        let rows = length-all (λ x. x.rows) site in
        let left = length-drop (stored_start site) w in
        let size : length stored ≡ words_used w - stored_start site = ap length (sym h.1) ∙ length-take-le _ (drop (stored_start site) w) (omega arith) in
        let third : get_or w 2 0 ≡ stored_start site + length stored = omega arith in
        let words : (get_or w 0 0 ∷ get_or w 1 0 ∷ get_or w 2 0 ∷ []) ≡ (length site ∷ t ∷ (stored_start site + length stored) ∷ []) = cc in
        let first = subst (Block w 0) words (first_block w (omega arith)) in
        let entries = part_block w 3 (3 * length site) (omega arith) image.entries in
        let joinEntries = part_block w (vp_entry_at (length site)) (2 * (length site * (length site * kind_count))) (omega arith) h.0 in
        let vp_rows = part_block w here (length (vp_words site)) (omega arith) image.rows in
        let stored_block = part_block w (stored_start site) (words_used w - stored_start site) (omega arith) h.1 in
        let before : Block w 0 (front t site ++ vp_words site) =
        joined_block first (joined_block (joined_block entries (block_at (omega arith) joinEntries)) (block_at (omega arith) vp_rows)) in
        let all = joined_block before (block_at (let x = length_before_stored t site in omega arith) stored_block) in
        let n : words_used w ≡ length (layout t site) = third ∙ sym (length-layout t site) in
        rw (n, layout_parts t site) (take_block all)

-- ---- question 10

-- what is left to ask: the rows, the entries of the semi-joins and the stored rows
module _ (w : List ℕ) (x : Parts w) where
  abbrev t : ℕ
  t = get_or w 1 0

  abbrev join_words : List ℕ
  join_words = joins w t (site w x)

  abbrev expected_words : List ℕ
  expected_words = stored w t (site w x)

  -- the entries of the semi-joins of k predicates
  abbrev joins_part : ℕ → List ℕ
  joins_part k = take (2 * (k * (k * kind_count))) (drop (vp_entry_at k) w)

  abbrev stored_part : List ℕ
  stored_part = take (words_used w - stored_start (site w x)) (drop (stored_start (site w x)) w)

  abbrev proper_rows : Bool
  proper_rows = all (λ r. rows_proper r.rows) (site w x)

  abbrev joins_good : Bool
  joins_good = joins_hold t (p w x) w (words_used w)

  store_parts : is_store_of (decoded w) w ≡ true → (proper_rows && joins_good) ≡ true
  unfolding joins_hold
  store_parts e =
      let h = subst (Holds w t) (decoded-site w x.few) (store_holds w e) in
      let y = joins_in w t (site w x) h in
      let first : joins_part (p w x) ≡ join_words = ap joins_part (sym (size w x)) ∙ y.0 in
      and_make (sym (site_by_rows w x) ∙ h.proper)
      (and_make (ap (λ (l : List ℕ). same_words l join_words) first ∙ words_same join_words) (ap (λ (l : List ℕ). same_words l expected_words) y.1 ∙ words_same expected_words))

  parts_store : (proper_rows && joins_good) ≡ true → is_store_of (decoded w) w ≡ true
  unfolding joins_hold
  parts_store e =
      let y = and_cases proper_rows joins_good e in
      let z = and_cases (same_words (joins_part (p w x)) join_words) (same_words stored_part expected_words) y.1 in
      let begins : stored_start (site w x) ≤ words_used w = rw (stored-start w x) x.rows in
      let whole = joined w t (site w x) (sym (size w x)) refl (held w x) begins x.inside (ap joins_part (size w x) ∙ same-words _ _ z.0, same-words _ _ z.1) in
      let h : Holds w t (site w x) = record { threshold = x.threshold; proper = site_by_rows w x ∙ y.0; same = whole } in
      holds_store w (subst (Holds w t) (sym (decoded-site w x.few)) h)

  store_by_parts : is_store_of (decoded w) w ≡ (proper_rows && joins_good)
  store_by_parts = bool_ext (is_store_of (decoded w) w) (proper_rows && joins_good) store_parts parts_store

  -- the answer by the semi-joins, where the rows are proper
  pub rows_good : {r : Bool} → proper_rows ≡ true → r ≡ joins_good → r ≡ is_store_of (decoded w) w
  rows_good e f = rw (store_by_parts, e) f

  pub rows_bad : {r : Bool} → proper_rows ≡ false → r ≡ false → r ≡ is_store_of (decoded w) w
  rows_bad e f = rw (store_by_parts, e) f

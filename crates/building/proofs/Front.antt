-- The front of a store: where it ends, how it is completed in the image of the site, and the store that it is the front of.
use Prim.Native.Nat.{ℕ, suc, ◌+◌, ◌-◌, ◌*◌, ◌^◌, ◌≤◌, ◌<◌}
use native.Mathlib.Nat.{zero-add}
use native.Mathlib.Omega.{arith}
use mathlib.Core.Path.{◌≡◌, refl, sym, ap, ◌∙◌, subst}
use mathlib.Core.List.{List, [], ◌∷◌, ◌++◌}
use lib.ListN.{length, get_or, take, drop, length-append}
use lib.Seq.{sets, length-sets, length-take-le}
use Rattle.model.specs.SiteFile.{declarations}
use Rattle.model.specs.Site.{Table, Site, row_total}
use Rattle.model.specs.Tables.{kind_count}
use Rattle.model.specs.Store.{semi_joins, rows_start, vp_entries, semi_join_entries, stored_start, vp_words, stored_words, layout, vp_entry_at}
use Rattle.model.specs.Calls.{over}
use Rattle.model.proofs.Blocks.{Block, block_at, take_block, get_or_block, joined_block}
use Rattle.model.proofs.StoreLayout.{length-vp_entries, length-semi_join_entries, front, length_before_stored, length-layout, layout_parts}
use Rattle.model.proofs.StoreSize.{store_fits}
use Rattle.tables.specs.SiteWords.{site_in, ImageHolds, ImageOf, CountsIn}
use Rattle.model.proofs.Setting.{sets-append, drop-sets, sets_block, part_block, sets_over}
use Rattle.tables.proofs.Images.{entries_inside}
use Rattle.building.proofs.Filling.{image_fronted, counts_fronted}

-- ---- where it ends

-- the last entry's rows end where all rows end
last_end : (here : ℕ) (t : Table) (ts : Site)
    → get_or (vp_entries here (declarations (t ∷ ts))) (3 * length ts + 2) 0 + 2 * get_or (vp_entries here (declarations (t ∷ ts))) (3 * length ts + 1) 0 ≡ here + 2 * row_total (t ∷ ts)
last_end here t [] = omega arith
last_end here t (u ∷ us) =
    let start : 3 * suc (length us) + 2 ≡ suc (suc (suc (3 * length us + 2))) = omega arith in
    let count : 3 * suc (length us) + 1 ≡ suc (suc (suc (3 * length us + 1))) = omega arith in
    rw (start, count) (last_end (here + 2 * length t.rows) u us ∙ omega arith)

pub last_entry : {count : ℕ} {image : List ℕ} → ImageOf count image → (count ≡ 0 → ⊥)
    → get_or image (vp_entry_at (count - 1) + 2) 0 + 2 * get_or image (vp_entry_at (count - 1) + 1) 0 ≡ stored_start (site_in count image)
last_entry {count} {image} o some =
    go (site_in count image) o.predicates (part_block image 3 (3 * length (site_in count image)) (omega (arith, o.long)) o.holds.entries)
  where
    go : (site : Site) → length site ≡ count → Block image 3 (vp_entries (rows_start (length site)) (declarations site))
        → get_or image (vp_entry_at (count - 1) + 2) 0 + 2 * get_or image (vp_entry_at (count - 1) + 1) 0 ≡ stored_start site
    go [] e b = absurd (some (sym e))
    go (t ∷ ts) e b =
        let here = rows_start (length (t ∷ ts)) in
        let long = length-vp_entries here (t ∷ ts) in
        let start : vp_entry_at (count - 1) + 2 ≡ 3 + (3 * length ts + 2) = omega arith in
        let rows : vp_entry_at (count - 1) + 1 ≡ 3 + (3 * length ts + 1) = omega arith in
        rw (start, rows, get_or_block b (3 * length ts + 2) 0 (omega arith), get_or_block b (3 * length ts + 1) 0 (omega arith)) (last_end here t ts)

-- ---- how many words a store has

pub used_limit : {count : ℕ} {image : List ℕ} → ImageOf count image → (t : ℕ) → length (layout t (site_in count image)) < 2 ^ 32
used_limit o t = omega (arith, store_fits t _ o.proper)

-- ---- the image with all words of the front

-- the four parts are the front
front-words : (t : ℕ) (site : Site) {image : List ℕ} → Block image 0 (length site ∷ t ∷ length (layout t site) ∷ [])
    → Block image 3 (vp_entries (rows_start (length site)) (declarations site))
    → Block image (vp_entry_at (length site)) (semi_join_entries t (stored_start site) (semi_joins site)) → Block image (rows_start (length site)) (vp_words site)
    → take (stored_start site) image ≡ front t site ++ vp_words site
front-words t site {image} first entries joins rows =
    let vp = vp_entries (rows_start (length site)) (declarations site) in
    let length-vp = length-vp_entries (rows_start (length site)) site in
    let length-joins = length-semi_join_entries t (stored_start site) site in
    let length_both = length-append vp (semi_join_entries t (stored_start site) (semi_joins site)) in
    let behind = joined_block (joined_block entries (block_at (omega arith) joins)) (block_at (omega arith) rows) in
    ap (λ (n : ℕ). take n image) (sym (length_before_stored t site)) ∙ take_block (joined_block (rw (length-layout t site) at first) behind)

-- an image of the site, with all words before the stored tables' rows
pub record FrontIn (t count : ℕ) (site : Site) (image : List ℕ) : Type 0 where
  pub image_of : ImageOf count image
  pub same : site_in count image ≡ site
  pub counts : CountsIn count image
  pub words : take (stored_start site) image ≡ front t site ++ vp_words site

module _ (t : ℕ) {count : ℕ} {image : List ℕ} (o : ImageOf count image) where
  abbrev site : Site
  site = site_in count image

  abbrev joins : List ℕ
  joins = semi_join_entries t (stored_start site) (semi_joins site)

  abbrev first : List ℕ
  first = count ∷ t ∷ length (layout t site) ∷ []

  abbrev entered : List ℕ
  entered = sets image (vp_entry_at count) joins

  -- the image with the entries of the semi-joins, and the first three words
  abbrev fronted : List ℕ
  fronted = sets entered 0 first

  fronted_image : ImageOf count fronted × (site_in count fronted ≡ site)
  fronted_image = image_fronted o t (stored_start site) first (omega arith)

  first_block : Block fronted 0 first
  first_block = sets_block entered 0 first (omega (arith, entries_inside o, length-sets image (vp_entry_at count) joins))

  joins_block : Block fronted (vp_entry_at count) joins
  joins_block =
      let long = length-semi_join_entries t (stored_start site) site ∙ ap (λ (k : ℕ). 2 * (k * (k * kind_count))) o.predicates in
      part_block fronted (vp_entry_at count) (length joins) (omega (arith, entries_inside fronted_image.0))
      (ap (take (length joins)) (drop-sets entered 0 first (vp_entry_at count) (omega arith))
      ∙ take_block (sets_block image (vp_entry_at count) joins (omega (arith, entries_inside o))))

  fronted-words : take (stored_start site) fronted ≡ front t site ++ vp_words site
  fronted-words =
      let p : length site ≡ count = o.predicates in
      let inside : rows_start (length site) ≤ length fronted = subst (λ (k : ℕ). rows_start k ≤ length fronted) (sym p) (entries_inside fronted_image.0) in
      let held : ImageHolds site fronted = subst (λ (s : Site). ImageHolds s fronted) fronted_image.1 fronted_image.0.holds in
      front-words t site
      (subst (λ (k : ℕ). Block fronted 0 (k ∷ t ∷ length (layout t site) ∷ [])) (sym p) first_block)
      (part_block fronted 3 (3 * length site) (omega arith) held.entries)
      (block_at (omega arith) joins_block)
      (part_block fronted (rows_start (length site)) (length (vp_words site)) inside held.rows)

  pub front_in : FrontIn t count site fronted
  front_in = record {
    image_of = fronted_image.0;
    same = fronted_image.1;
    counts = counts_fronted o t (stored_start site) first (omega arith);
    words = fronted-words;
  }

-- the same of the words that the code has
pub front_filled : {t count first used : ℕ} {image after : List ℕ} → ImageOf count image → first ≡ stored_start (site_in count image) → used ≡ length (layout t (site_in count image))
    → after ≡ sets image (vp_entry_at count) (semi_join_entries t first (semi_joins (site_in count image)))
    → FrontIn t count (site_in count image) (sets after 0 (count ∷ t ∷ used ∷ []))
front_filled {t} o starts uses fills = rw (fills, uses, starts) (front_in t o)

-- ---- the store

-- it has room for the front
pub front_fits : (t : ℕ) (site : Site) (memory : List ℕ) {first used : ℕ} → first ≡ stored_start site → used ≡ length (layout t site) → used ≤ length memory → first ≤ length memory
front_fits t site memory starts uses h = omega (arith, starts, uses, h, length-layout t site)

module _ {t count first : ℕ} {site : Site} {image : List ℕ} (front-in : FrontIn t count site image) (starts : first ≡ stored_start site) where
  pub length_front : length (take first image) ≡ first
  length_front =
      let inside : stored_start site ≤ length image = rw (← front-in.same) front-in.image_of.long in
      length-take-le first image (rw starts inside)

  -- the words of the front, over those of the store
  pub front_copied : (memory : List ℕ) → first ≤ length memory → take first image ++ drop first memory ≡ sets memory 0 (take first image)
  front_copied memory room = sym (sets_over (take first image) memory (omega (arith, length_front)) ∙ rw length_front refl)

-- the front, and the stored tables' rows behind it
pub store-over : (t : ℕ) (site : Site) (memory : List ℕ) → length (layout t site) ≤ length memory
    → sets (sets memory 0 (front t site ++ vp_words site)) (stored_start site) (stored_words t (semi_joins site)) ≡ over (layout t site) memory
store-over t site memory h =
    let words = front t site ++ vp_words site in
    let rest = stored_words t (semi_joins site) in
    let here : stored_start site ≡ 0 + length words = sym (zero-add (length words) ∙ length_before_stored t site) in
    ap (λ (n : ℕ). sets (sets memory 0 words) n rest) here
    ∙ sym (sets-append memory 0 words rest)
    ∙ ap (sets memory 0) (sym (layout_parts t site))
    ∙ sets_over (layout t site) memory h

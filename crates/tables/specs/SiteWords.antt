-- A site in words, and the semi-joins of it. An image is the front of a store, up to where the stored tables' rows begin.
use Rattle.std.specs.Prelude.{ℕ, zero, suc, ◌+◌, ◌*◌, ◌≤◌, ◌<◌, ◌≡◌, Bool, true, ◌&&◌, List, [], ◌∷◌, length, get_or, take, drop}
use Rattle.model.specs.Lists.{same_words}
use Rattle.model.specs.SiteFile.{Declaration, declared_total, declared_proper, declarations}
use Rattle.model.specs.Site.{Site, is_site, most_predicates, most_rows}
use Rattle.model.specs.Tables.{kind_count}
use Rattle.model.specs.Store.{Reduced, semi_joins, rows_start, tables_in, stored_start, vp_entries, vp_words, vp_entry_at}

-- ---- the entries

-- the declarations of k entries
abbrev pub declared_in : ℕ → List ℕ → List Declaration
declared_in zero entries = []
declared_in (suc k) entries = (get_or entries 0 0, get_or entries 1 0) ∷ declared_in k (drop 3 entries)

-- how many rows k entries declare
abbrev pub declared_rows : ℕ → List ℕ → ℕ
declared_rows k entries = declared_total (declared_in k entries)

-- the entries of k predicates: terms that ascend, rows within the limit, and each start where the rows before end
unfoldable pub entries_proper : ℕ → List ℕ → Bool
entries_proper k words =
    let ds = declared_in k (drop 3 words) in
    declared_proper ds && same_words (take (3 * k) (drop 3 words)) (vp_entries (rows_start k) ds)

-- ---- the site

-- the site whose entries and rows stand in an image
abbrev pub site_in : ℕ → List ℕ → Site
site_in count image = tables_in count (drop 3 image) (drop (rows_start count) image)

-- the words of an image that is enough for every site
abbrev pub image_words : ℕ
image_words = rows_start most_predicates + 2 * most_rows

-- the entries and the rows of a site stand in an image
pub record ImageHolds (site : Site) (image : List ℕ) : Type 0 where
  pub entries : take (3 * length site) (drop 3 image) ≡ vp_entries (rows_start (length site)) (declarations site)
  pub rows : take (length (vp_words site)) (drop (rows_start (length site)) image) ≡ vp_words site

-- an image of `count` predicates
pub record ImageOf (count : ℕ) (image : List ℕ) : Type 0 where
  pub long : stored_start (site_in count image) ≤ length image
  pub proper : is_site (site_in count image) ≡ true
  pub predicates : length (site_in count image) ≡ count
  pub holds : ImageHolds (site_in count image) image

abbrev pub no_reduced : Reduced
no_reduced = record { full = []; rows = [] }

abbrev pub reduced_at : Site → ℕ → Reduced
reduced_at site x = get_or (semi_joins site) x no_reduced

-- the entries of an image have the row counts of the semi-joins
pub record CountsIn (count : ℕ) (image : List ℕ) : Type 0 where
  pub counts : (x : ℕ) → x < count * (count * kind_count) → get_or image (vp_entry_at count + 2 * x) 0 ≡ length (reduced_at (site_in count image) x).rows

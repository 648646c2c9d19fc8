-- The entries and the stored rows of semi-joins, as words hold them.
use Rattle.std.specs.Prelude.{ℕ, ◌+◌, ◌*◌, ◌-◌, ◌≤◌, ◌≡◌, Bool, false, cond, ◌&&◌, Option, Some, None, List, length, get_or, take, drop, eqb, leb}
use Rattle.model.specs.Lists.{all, same_words}
use Rattle.model.specs.Site.{Row}
use Rattle.model.specs.Tables.{Kind, kinds, kind_at, kind_count, most_threshold}
use Rattle.model.specs.Store.{Reduced, semi_joins, is_stored_table, stored_rows, table_words, semi_join_entries, stored_start, stored_words, vp_entry_at, semi_join_entry_at}
use Rattle.tables.specs.Columns.{column_number}
use Rattle.tables.specs.SiteWords.{site_in, ImageOf}
use Rattle.statistics.specs.declared.ranges.ValueRange.{ValueRange}
use Rattle.statistics.specs.Ranges.{range_at, apart}

-- the words of which the semi-joins are asked: an image, a threshold, and stored rows from `first` up to `used`
pub record SemiJoinWords (t count : ℕ) (words : List ℕ) (first used : ℕ) : Type 0 where
  pub image : ImageOf count words
  pub threshold : t ≤ most_threshold
  pub begins : first ≡ stored_start (site_in count words)
  pub ordered : first ≤ used
  pub inside : used ≤ length words

-- rows that are stored at `here`, where `start` says, `left` of them, which end at `used` or before
unfoldable pub stored_holds : List ℕ → List Row → ℕ → ℕ → ℕ → ℕ → Bool
stored_holds words rows start left here used = eqb start here && (leb (here + 2 * left) used && same_words (take (2 * left) (drop here words)) (table_words rows))

-- the entry of n rows that are not stored: their count, and no start
unfoldable pub not_stored_holds : ℕ → ℕ → ℕ → Bool
not_stored_holds left start n = eqb left n && eqb start 0

-- the columns whose ranges stand at a and b are one, and all n rows are left, or are apart, and none is; and an entry says so
unfoldable pub entry_agrees : List ValueRange → ℕ → ℕ → ℕ → ℕ → ℕ → Bool
entry_agrees ranges a b left start n = eqb start 0 && cond (eqb a b) (eqb left n) (eqb left 0 && apart ranges a b)

-- so of the columns that kind k of p against q compares, all rows of p, and the kind's entry
unfoldable pub is_told : ℕ → List ℕ → List ValueRange → ℕ → ℕ → ℕ → Bool
is_told count words ranges p q k =
    let entry = semi_join_entry_at count p q k in
    entry_agrees ranges (range_at p (column_number (kind_at k).0)) (range_at q (column_number (kind_at k).1)) (get_or words entry 0) (get_or words (entry + 1) 0) (get_or words (vp_entry_at p + 1) 0)

-- the entry at a place, and the rows at `here` if they are stored, which end at `used` or before
unfoldable pub join_holds : ℕ → List ℕ → Reduced → ℕ → ℕ → ℕ → Bool
join_holds t words x entry here used =
    (eqb (get_or words entry 0) (length x.rows) && eqb (get_or words (entry + 1) 0) (cond (is_stored_table t x) here 0))
    && (leb (here + 2 * length (stored_rows t x)) used && same_words (take (2 * length (stored_rows t x)) (drop here words)) (table_words (stored_rows t x)))

-- the first x semi-joins hold, and their stored rows end at `here`
pub record Joined (t count : ℕ) (words : List ℕ) (used here x : ℕ) : Type 0 where
  pub place : here ≡ stored_start (site_in count words) + length (stored_words t (take x (semi_joins (site_in count words))))
  pub room : here ≤ used
  pub entries : take (2 * x) (drop (vp_entry_at count) words) ≡ semi_join_entries t (stored_start (site_in count words)) (take x (semi_joins (site_in count words)))
  pub rows : take (length (stored_words t (take x (semi_joins (site_in count words))))) (drop (stored_start (site_in count words)) words) ≡ stored_words t (take x (semi_joins (site_in count words)))

-- all entries, and all stored rows up to `used`
unfoldable pub joins_hold : ℕ → ℕ → List ℕ → ℕ → Bool
joins_hold t count words used =
    let site = site_in count words in
    same_words (take (2 * (count * (count * kind_count))) (drop (vp_entry_at count) words)) (semi_join_entries t (stored_start site) (semi_joins site))
    && same_words (take (used - stored_start site) (drop (stored_start site) words)) (stored_words t (semi_joins site))

-- the columns that a kind of p against q compares are apart
abbrev pub kind_apart : List ValueRange → ℕ → ℕ → Kind → Bool
kind_apart ranges p q kind = apart ranges (range_at p (column_number kind.0)) (range_at q (column_number kind.1))

-- so those of each kind
unfoldable pub kinds_apart : List ValueRange → ℕ → ℕ → Bool
kinds_apart ranges p q = all (kind_apart ranges p q) kinds

-- they are, and the words of the pair's entries are 0
unfoldable pub empty_pair : ℕ → List ℕ → List ValueRange → ℕ → ℕ → Bool
empty_pair count words ranges p q = kinds_apart ranges p q && all (λ x. leb x 0) (take (2 * kind_count) (drop (semi_join_entry_at count p q 0) words))

-- where the stored rows of the first x semi-joins end, which hold; or that not all semi-joins do
abbrev pub HoldUpTo : ℕ → ℕ → List ℕ → ℕ → ℕ → Option ℕ → Type 0
HoldUpTo t count words used x (Some end) = Joined t count words used end x
HoldUpTo t count words used x None = joins_hold t count words used ≡ false

-- The semi-joins of an image: the tables and the kind of each, and how many rows it leaves.
use Prim.Native.Nat.{ℕ, zero, suc, ◌*◌, ◌/◌, ◌%◌, ◌≤◌, ◌<◌}
use native.Mathlib.Nat.{mul-le-mul_right, mod-lt, div-add-mod', div-lt_iff_lt-mul}
use native.Mathlib.Omega.{arith}
use mathlib.Core.Path.{◌≡◌, refl}
use mathlib.Core.List.{List, [], ◌∷◌}
use lib.ListN.{length}
use Rattle.model.specs.Site.{Site, row_total, most_rows, table_at}
use Rattle.model.specs.Tables.{kind_count, semi_join, is_stored}
use Rattle.model.specs.Store.{is_stored_table, semi_join_place}
use Rattle.model.proofs.Partition.{proper}
use Rattle.model.proofs.Blocks.{head_block}
use Rattle.model.proofs.StoreLayout.{left_at, semi_join_block}
use Rattle.model.proofs.Membership.{filter-fewer}
use Rattle.tables.specs.SiteWords.{site_in, ImageOf, no_reduced, reduced_at}

-- ---- the tables and the kind

-- the places of the x-th semi-join's tables, of `count` predicates
abbrev pub own_of : ℕ → ℕ → ℕ
own_of count x = x / kind_count / count

abbrev pub partner_of : ℕ → ℕ → ℕ
partner_of count x = x / kind_count % count

pub some_predicate : (count : ℕ) {x : ℕ} → x < count * (count * kind_count) → 0 < count
some_predicate zero h = absurd (omega arith)
some_predicate (suc count) h = omega arith

pub own_below : {count x : ℕ} → x < count * (count * kind_count) → own_of count x < count
own_below {count} h = (div-lt_iff_lt-mul (some_predicate count h)).1 (omega arith)

pub partner-below : {count x : ℕ} → x < count * (count * kind_count) → partner_of count x < count
partner-below {count} {x} h = mod-lt (x / kind_count) (some_predicate count h)

pub place_below : {count : ℕ} (p q k : ℕ) → p < count → q < count → k < kind_count → semi_join_place count p q k < count * (count * kind_count)
place_below {count} p q k h l m = let square : suc p * count ≤ count * count = mul-le-mul_right count h in omega arith

-- the place is that of its own tables and kind
pub place_again : (count x : ℕ) → semi_join_place count (own_of count x) (partner_of count x) (x % kind_count) ≡ x
place_again count x = rw (div-add-mod' (x / kind_count) count) (div-add-mod' x kind_count)

reduced-at : (site : Site) (x : ℕ) → x < length site * (length site * kind_count)
    → reduced_at site x
    ≡ record { full = (table_at site (own_of (length site) x)).rows; rows = left_at site (own_of (length site) x) (partner_of (length site) x) (x % kind_count) }
reduced-at site x h =
    let p = length site in
    rw (place_again p x) at (head_block (semi_join_block site (own_of p x) (partner_of p x) (x % kind_count) (own_below h) (partner-below h) (omega arith)) no_reduced)

-- ---- how many rows

pub table-fewer : (site : Site) (i : ℕ) → length (table_at site i).rows ≤ row_total site
table-fewer [] i = omega arith
table-fewer (t ∷ ts) zero = omega arith
table-fewer (t ∷ ts) (suc i) = omega (arith, table-fewer ts i)

-- the x-th semi-join leaves n of m rows
pub record Counted (site : Site) (x n m : ℕ) : Type 0 where
  pub left : n ≡ length (reduced_at site x).rows
  pub full : m ≡ length (reduced_at site x).full
  pub few : n ≤ most_rows
  pub full_few : m ≤ most_rows

pub counted_stored : {site : Site} {x n m : ℕ} → Counted site x n m → (t : ℕ) → is_stored t n m ≡ is_stored_table t (reduced_at site x)
counted_stored c t = rw (c.left, c.full) refl

-- ---- of an image

module _ {count : ℕ} {image : List ℕ} (o : ImageOf count image) (x : ℕ) (h : x < count * (count * kind_count)) where
  abbrev site : Site
  site = site_in count image

  reduced_of : reduced_at site x ≡ record { full = (table_at site (own_of count x)).rows; rows = left_at site (own_of count x) (partner_of count x) (x % kind_count) }
  reduced_of = rw o.predicates at (reduced-at site x (rw o.predicates h))

  full_few : length (reduced_at site x).full ≤ most_rows
  full_few = rw reduced_of (omega (arith, table-fewer site (own_of count x), (proper site o.proper).row_limit))

  pub left-fewer : length (reduced_at site x).rows ≤ length (reduced_at site x).full
  unfolding semi_join
  left-fewer = rw reduced_of (filter-fewer _ (table_at site (own_of count x)).rows)

  pub counted_of : {n m : ℕ} → n ≡ length (reduced_at site x).rows → m ≡ length (reduced_at site x).full → Counted site x n m
  counted_of e f = record { left = e; full = f; few = omega (arith, left-fewer, full_few); full_few = omega (arith, full_few) }

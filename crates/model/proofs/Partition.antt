-- Vertical partitioning: VP of a declared predicate is its table.
use Prim.Native.Nat.{ℕ, ◌<◌, ◌≤◌}
use native.Mathlib.Omega.{arith}
use mathlib.Core.Path.{◌≡◌, refl, ap, ◌∙◌, subst}
use mathlib.Core.Logic.{◌⊎◌, inl, inr}
use mathlib.Core.Bool.{Bool, true, false, cond, ◌&&◌}
use mathlib.Core.List.Memᴰ
use mathlib.Core.List.{List, [], ◌∷◌, map, map-append, append-nil}
use lib.ListN.{length}
use lib.Dec.{eqb, ltb, leb}
use borrow.Author.Tests.{ltb-true, leb-true, eqb-true, eq-eqb, ne_eqb}
use Rattle.model.specs.Lists.{◌∈◌, filter, all, concat_map, ascends}
use Rattle.model.specs.Numbers.{is_term}
use Rattle.model.specs.Site.{Row, row_before, Table, Site, within_limits, predicates_proper, rows_proper, is_site_under, is_site, most_predicates, most_rows, row_total, Fact, facts_of, facts, IsFact, is_declared}
use Rattle.model.specs.Tables.{vp}
use Rattle.model.proofs.Booleans.{and_cases, bool_cases, not_both, to_false}
use Rattle.model.proofs.Membership.{from_filter, into_filter, into_any, from_any, from_all, filter-append}
use Rattle.model.proofs.Order.{numbers, first_before, ascends_tail}

-- ---- general

concat_map_nothing : {A B : Type 0} (f : A → List B) (l : List A) → ((a : A) → a ∈ l → f a ≡ []) → concat_map f l ≡ []
concat_map_nothing f [] h = refl
concat_map_nothing f (x ∷ xs) h = rw (h x (Memᴰ.head refl), concat_map_nothing f xs (λ a m. h a (Memᴰ.tail m))) refl

-- ---- what `is_site` says

abbrev predicates : Site → List ℕ
predicates site = map (λ t. t.predicate) site

pub record Proper (site : Site) : Type 0 where
  pub predicate_limit : length site ≤ most_predicates
  pub row_limit : row_total site ≤ most_rows
  pub predicate_terms : all (λ t. is_term t.predicate) site ≡ true
  pub predicates_ascend : ascends ltb (predicates site) ≡ true
  pub rows_proper : all (λ t. rows_proper t.rows) site ≡ true

pub proper : (site : Site) → is_site site ≡ true → Proper site
unfolding is_site_under
proper site h =
    let whole = and_cases (within_limits site) (predicates_proper site && all (λ t. rows_proper t.rows) site) h in
    let limits = and_cases (leb (length site) most_predicates) (leb (row_total site) most_rows) whole.0 in
    let rest = and_cases (predicates_proper site) (all (λ t. rows_proper t.rows) site) whole.1 in
    let ps = and_cases (all (λ t. is_term t.predicate) site) (ascends ltb (predicates site)) rest.0 in
    record {
      predicate_limit = leb-true (length site) most_predicates limits.0;
      row_limit = leb-true (row_total site) most_rows limits.1;
      predicate_terms = ps.0;
      predicates_ascend = ps.1;
      rows_proper = rest.1;
    }

-- ---- the facts with a predicate

abbrev row_of : Fact → Row
row_of f = (f.0, f.2)

abbrev has : ℕ → Fact → Bool
has p f = eqb f.1 p

pub vp_fact : (site : Site) (f : Fact) → IsFact site f → (f.0, f.2) ∈ vp site f.1
unfolding vp
vp_fact site f m = Memᴰ.map row_of (into_filter (has f.1) m (eq-eqb f.1 f.1 refl))

pub fact_vp : (site : Site) (p : ℕ) (r : Row) → r ∈ vp site p → IsFact site (r.0, p, r.1)
unfolding vp
fact_vp site p r m =
    let x = Memᴰ.of_map row_of (filter (has p) (facts site)) m in
    let y = from_filter (has p) (facts site) x.1 in
    let e = eqb-true x.0.1 p y.1 in
    subst (IsFact site) (λ i. ((x.2 i).0, e i, (x.2 i).1)) y.0

-- ---- table by table

-- the rows of a table that stand in VP of p: all, or none
abbrev under : ℕ → Table → List Row
under p t = cond (eqb t.predicate p) t.rows []

all_or_none : (p : ℕ) (t : Table) → map row_of (filter (has p) (facts_of t)) ≡ under p t
all_or_none p t = go (eqb t.predicate p) refl t.rows
  where
    go : (b : Bool) → eqb t.predicate p ≡ b → (rows : List Row)
        → map row_of (filter (has p) (facts_of (record { predicate = t.predicate; rows = rows }))) ≡ cond b rows []
    go true e [] = refl
    go true e (r ∷ rs) = rw e (ap (λ (l : List Row). r ∷ l) (go true e rs))
    go false e [] = refl
    go false e (r ∷ rs) = rw e (go false e rs)

vp-concat_map : (site : Site) (p : ℕ) → vp site p ≡ concat_map (under p) site
unfolding vp facts
vp-concat_map [] p = refl
vp-concat_map (t ∷ ts) p = rw (filter-append (has p) (facts_of t) (facts ts), map-append, all_or_none p t, vp-concat_map ts p) refl

pub vp_undeclared : (site : Site) (p : ℕ) → is_declared site p ≡ false → vp site p ≡ []
vp_undeclared site p h = vp-concat_map site p ∙ concat_map_nothing (under p) site (λ t m. rw (other t m) refl)
  where
    other : (t : Table) → t ∈ site → eqb t.predicate p ≡ false
    other t m = to_false (eqb t.predicate p) (λ e. not_both (into_any (λ u. eqb u.predicate p) m e) h)

-- ---- the table of a site

-- a later table has another predicate
later : (t u : Table) (ts : Site) → ascends ltb (predicates (t ∷ ts)) ≡ true → u ∈ ts → t.predicate < u.predicate
later t u ts h m = ltb-true t.predicate u.predicate (first_before ltb numbers t.predicate (predicates ts) h (Memᴰ.map (λ t. t.predicate) m))

skipped : (p : ℕ) (t : Table) → (t.predicate ≡ p → ⊥) → under p t ≡ []
skipped p t h = rw (ne_eqb t.predicate p h) refl

concat_map-table : {table : Table} {site : Site} → table ∈ site → ascends ltb (predicates site) ≡ true → concat_map (under table.predicate) site ≡ table.rows
concat_map-table {table} (Memᴰ.head {x} {xs} e) h =
    let same : table.predicate ≡ x.predicate = ap (λ (t : Table). t.predicate) e in
    rw (
      concat_map_nothing (under table.predicate) xs (λ u m. skipped table.predicate u (λ q. let k = later x u xs h m in omega arith)),
      e,
      eq-eqb x.predicate x.predicate refl,
    )
    (append-nil x.rows)
concat_map-table {table} (Memᴰ.tail {x} {xs} m) h =
    rw (skipped table.predicate x (λ q. let k = later x table xs h m in omega arith))
    (concat_map-table m (ascends_tail ltb numbers x.predicate (predicates xs) h))

pub vp-table : (site : Site) (table : Table) → is_site site ≡ true → table ∈ site → vp site table.predicate ≡ table.rows
vp-table site table h m = vp-concat_map site table.predicate ∙ concat_map-table m (proper site h).predicates_ascend

pub vp-ascends : (site : Site) (p : ℕ) → is_site site ≡ true → ascends row_before (vp site p) ≡ true
vp-ascends site p h = go (bool_cases (is_declared site p))
  where
    go : (is_declared site p ≡ true) ⊎ (is_declared site p ≡ false) → ascends row_before (vp site p) ≡ true
    go (inl d) =
        let x = from_any (λ t. eqb t.predicate p) site d in
        let rs = x.0.rows in
        let r = from_all (λ t. rows_proper t.rows) site (proper site h).rows_proper x.1 in
        rw (← (eqb-true x.0.predicate p x.2), vp-table site x.0 h x.1)
        (and_cases (all (λ s. is_term s.0 && is_term s.1) rs) (ascends row_before rs) r).1
    go (inr d) = rw (vp_undeclared site p d) refl

-- Semi-joins, for any pair of columns.
use mathlib.Core.Path.{◌≡◌, refl}
use mathlib.Core.Bool.{true}
use mathlib.Core.List.{List}
use borrow.Author.Tests.{eqb-true, eq-eqb}
use Rattle.model.specs.Lists.{◌∈◌, any, ascends}
use Rattle.model.specs.Site.{Row, row_before}
use Rattle.model.specs.Tables.{Column, at, Kind, are_partners, semi_join}
use Rattle.model.proofs.Membership.{from_filter, into_filter, from_any, into_any, filter-all}
use Rattle.model.proofs.Order.{rows, ascends-filter}

-- some row of q has, at the other column, the row's value
abbrev pub Partner : Kind → List Row → Row → Type 0
Partner k q r = (s : Row) × (s ∈ q) × (at k.0 r ≡ at k.1 s)

module _ (k : Kind) (p q : List Row) where
  pub into_semi_join : {r : Row} → r ∈ p → Partner k q r → r ∈ semi_join k p q
  unfolding semi_join
  into_semi_join {r} m s =
      into_filter (λ r. any (are_partners k r) q) m (into_any (are_partners k r) s.1 (eq-eqb (at k.0 r) (at k.1 s.0) s.2))

  pub from_semi_join : {r : Row} → r ∈ semi_join k p q → (r ∈ p) × Partner k q r
  unfolding semi_join
  from_semi_join {r} m =
      let a = from_filter (λ r. any (are_partners k r) q) p m in
      let s = from_any (are_partners k r) q a.1 in
      (a.0, (s.0, s.1, eqb-true (at k.0 r) (at k.1 s.0) s.2))

  -- the order of p, each row once
  pub semi_join-ascends : ascends row_before p ≡ true → ascends row_before (semi_join k p q) ≡ true
  unfolding semi_join
  semi_join-ascends e = ascends-filter row_before rows (λ r. any (are_partners k r) q) p e

-- a table against itself, at one and the same column, keeps all its rows: each is its own partner
pub all_against_itself : (c : Column) (rows : List Row) → semi_join (c, c) rows rows ≡ rows
unfolding semi_join
all_against_itself c rows =
    filter-all (λ r. any (are_partners (c, c) r) rows) rows (λ r m. into_any (are_partners (c, c) r) m (eq-eqb (at c r) (at c r) refl))

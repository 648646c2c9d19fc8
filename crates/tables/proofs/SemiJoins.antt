-- The semi-joins of an image as the code has them: what the entries of the tables say is what the semi-join is of.
use Prim.Native.Nat.{ℕ, ◌<◌}
use mathlib.Core.Path.{◌≡◌, refl, sym, ap, ◌∙◌}
use mathlib.Core.List.{List}
use lib.ListN.{length}
use Rattle.model.specs.Site.{table_at}
use Rattle.model.specs.Store.{Reduced, semi_join_place, semi_join_entry_at}
use Rattle.model.proofs.Blocks.{head_block}
use Rattle.model.proofs.StoreLayout.{left_at, semi_join_block}
use Rattle.model.specs.Tables.{Column}
use Rattle.tables.specs.Kinds.{kind_as, kind_number}
use Rattle.tables.specs.LeftRows.{left_rows}
use Rattle.tables.specs.SiteWords.{site_in, ImageOf, no_reduced, reduced_at}
use Rattle.tables.specs.SemiJoins.{SideOf, SidesOf, SemiJoinOf}
use Rattle.tables.specs.declared.kinds.Kind.{Kind}
use Rattle.tables.specs.declared.semi_joins.SemiJoin.{SemiJoin}
use Rattle.tables.proofs.Images.{table_in}
use Rattle.tables.proofs.KindsOfCode.{column_of_offset, number_below, kind_at_number}

pub sides_of_kind : {image : List ℕ} {p q : ℕ} {own partner : Column} {r : SemiJoin} (kind : Kind)
    → own ≡ (kind_as kind).0 → partner ≡ (kind_as kind).1 → SideOf image p own r.own → SideOf image q partner r.partner
    → SidesOf image p q kind r
sides_of_kind kind own partner mine theirs = record {
  own = record { start = mine.start; rows = mine.rows; compared = mine.compared ∙ own };
  partner = record { start = theirs.start; rows = theirs.rows; compared = theirs.compared ∙ partner };
}

pub semi_join_of_sides : {count : ℕ} {image : List ℕ} → ImageOf count image → (p q : ℕ) (kind : Kind) → p < count → q < count
    → (r : SemiJoin) → r.entry ≡ semi_join_entry_at count p q (kind_number kind) → SidesOf image p q kind r
    → SemiJoinOf (site_in count image) image (semi_join_place count p q (kind_number kind)) r
unfolding left_rows
semi_join_of_sides {count} {image} o p q kind h l r entry sides =
    let site = site_in count image in
    let k = kind_number kind in
    let table = table_in o p h in
    let partner = table_in o q l in
    let among : p < length site = rw o.predicates h in
    let partner_among : q < length site = rw o.predicates l in
    let reduced : reduced_at site (semi_join_place count p q k) ≡ record { full = (table_at site p).rows; rows = left_at site p q k } =
    rw o.predicates at (head_block (semi_join_block site p q k among partner_among (number_below kind)) no_reduced) in
    record {
      entry_place = entry ∙ rw o.predicates refl;
      inside = rw (sides.own.start, sides.own.rows) table.inside;
      partner_inside = rw (sides.partner.start, sides.partner.rows) partner.inside;
      full = sides.own.rows ∙ table.count ∙ sym (ap (λ (r : Reduced). length r.full) reduced);
      left =
          rw (column_of_offset r.own.column, column_of_offset r.partner.column, sides.own.compared, sides.partner.compared, ← (kind_at_number kind), sides.own.start, sides.own.rows, sides.partner.start, sides.partner.rows, table.back, partner.back)
          (sym (ap (λ (r : Reduced). r.rows) reduced));
    }

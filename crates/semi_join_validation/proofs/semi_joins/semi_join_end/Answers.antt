-- The entry stands inside; each way out answers as the test of the entry and of the rows does.
use Prim.Native.Nat.{ℕ, ◌+◌, ◌*◌, ◌<◌, ◌≤◌}
use native.Mathlib.Omega.{arith}
use mathlib.Core.Path.{◌≡◌, refl, sym, ap, ap₂, ◌∙◌}
use mathlib.Core.Logic.{◌≢◌}
use mathlib.Core.Bool.{Bool, false, cond}
use mathlib.Core.List.{List}
use lib.ListN.{length, get_or}
use Rattle.model.specs.Site.{most_predicates}
use Rattle.model.specs.Tables.{is_stored}
use Rattle.model.specs.Store.{Reduced, vp_entry_at, semi_join_place, semi_join_entry_at}
use Rattle.model.proofs.MayChoose.{whole_not_stored}
use Rattle.tables.specs.declared.layout.SemiJoinEntry.{SemiJoinEntry}
use Rattle.tables.specs.declared.semi_joins.SemiJoin.{SemiJoin}
use Rattle.tables.specs.SemiJoins.{left_of, SemiJoinOf}
use Rattle.tables.specs.Entries.{SemiJoinEntryAt}
use Rattle.tables.specs.Kinds.{kind_number}
use Rattle.tables.specs.SiteWords.{site_in, ImageOf, reduced_at}
use Rattle.tables.proofs.Images.{few_predicates}
use Rattle.tables.proofs.KindsOfCode.{offset_below, number_below}
use Rattle.tables.proofs.Entries.{place_below, counted_of, left-fewer}
use Rattle.statistics.specs.declared.ranges.ValueRange.{ValueRange}
use Rattle.statistics.specs.Ranges.{apart}
use Rattle.semi_join_validation.specs.Joins.{not_stored_holds}
use Rattle.std.specs.Prelude.{Some, None}
use Rattle.semi_join_validation.proofs.ToldByRanges.{apart_none, none_stored}
use Rattle.semi_join_validation.proofs.IndexedOperands.{own_place, partner_place, rows_searchable, own_range, partner_range, rows_by_column, partners_by_column, itself_left}
use Rattle.semi_join_validation.proofs.Join.{end, stored_same, ends_wrong, ends_stored, ends_counted}
use Rattle.semi_join_validation.proofs.semi_joins.semi_join_end.Goals as goal

-- the entry as it is read, of the operands as they are known
module _ {count : ℕ} (p q k : ℕ) {words : List ℕ} (image : ImageOf count words) {join : SemiJoin} (known : SemiJoinOf (site_in count words) words (semi_join_place count p q k) join) {e : SemiJoinEntry}
    (read : SemiJoinEntryAt words join.entry e) where
  abbrev entry : ℕ
  entry = semi_join_entry_at count p q k

  abbrev joined : Reduced
  joined = reduced_at (site_in count words) (semi_join_place count p q k)

  entry_place : join.entry ≡ entry
  entry_place = known.entry_place ∙ ap (λ (n : ℕ). vp_entry_at n + 2 * semi_join_place count p q k) image.predicates

  left_read : e.rows ≡ get_or words entry 0
  left_read = read.rows ∙ ap (λ (n : ℕ). get_or words n 0) entry_place

  start_read : e.start ≡ get_or words (entry + 1) 0
  start_read = read.start ∙ ap (λ (n : ℕ). get_or words (n + 1) 0) entry_place

  -- how many rows are left
  counted : {n : ℕ} → n ≡ length (left_of words join) → n ≡ length joined.rows
  counted same = same ∙ ap length known.left

  -- whether the rows would be stored
  asked : (t : ℕ) {b : Bool} → b ≡ is_stored t e.rows join.own.rows → is_stored t (get_or words entry 0) (length joined.full) ≡ b
  asked t same = sym (same ∙ ap₂ (is_stored t) left_read known.full)

  -- the answer by a count of the rows that are left, none of which is stored
  entry_ends : (t here used n : ℕ) → n ≡ length joined.rows → (get_or words entry 0 ≡ n → is_stored t n (length joined.full) ≡ false) → here ≤ used
      → cond (not_stored_holds e.rows e.start n) (Some here) None ≡ end t words joined entry here used
  entry_ends t here used n count unstored inside = rw (left_read, start_read) (ends_counted _ _ _ _ _ _ n count unstored inside)

-- whether the columns are apart, as the call says of where their ranges stand
apart_read : (ranges : List ValueRange) (p q : ℕ) (join : SemiJoin) {a b : ℕ} {r : Bool} → a ≡ own_place p join → b ≡ partner_place q join → r ≡ apart ranges a b
    → apart ranges (own_place p join) (partner_place q join) ≡ r
apart_read ranges p q join first second e = rw (sym first, sym second) (sym e)

-- both predicates are among the most there may be
few : {count : ℕ} {words : List ℕ} → ImageOf count words → (p q : ℕ) → p < count → q < count → (p < most_predicates) × (q < most_predicates)
few image p q h l = (omega (arith, few_predicates image), omega (arith, few_predicates image))

pub range_at-a-requires : goal.range_at-a-requires
range_at-a-requires c =
    let pre = c.requires.image_of in
    (few pre.0 c.args.p c.args.q pre.1 pre.2).0

pub range_at-b-requires : goal.range_at-b-requires
range_at-b-requires c =
    let pre = c.requires.image_of in
    (few pre.0 c.args.p c.args.q pre.1 pre.2).1

pub returns-then-a-b : goal.returns-then-a-b
returns-then-a-b c =
    let a = c.args in
    let pre = c.requires.image_of in
    let join = c.of-join.result in
    let known = c.of-join.ensures.semi_join_of in
    let read = c.semi_join_entry-entry.ensures in
    let same : own_place a.p join ≡ partner_place a.q join = omega (arith, c.range_at-a.ensures, c.range_at-b.ensures) in
    let left = itself_left a.w.now join c.of-join.ensures.sides_of known.inside same in
    c.not_stored_end.ensures
    ∙ entry_ends a.p a.q (kind_number a.kind) pre.0 known read a.t a.here a.used join.own.rows (counted a.p a.q (kind_number a.kind) pre.0 known read left) (λ _. rw (sym known.full) (whole_not_stored a.t join.own.rows pre.3)) pre.4

pub bounds-ranges-a : goal.bounds-ranges-a
bounds-ranges-a c =
    let pre = c.requires.image_of in
    omega (arith, c.range_at-a.ensures, offset_below c.of-join.result.own.column, (few pre.0 c.args.p c.args.q pre.1 pre.2).0)

pub bounds-ranges-b : goal.bounds-ranges-b
bounds-ranges-b c =
    let pre = c.requires.image_of in
    omega (arith, c.range_at-b.ensures, offset_below c.of-join.result.partner.column, (few pre.0 c.args.p c.args.q pre.1 pre.2).1)

pub returns-then-columns_apart : goal.returns-then-columns_apart
returns-then-columns_apart c =
    let a = c.args in
    let pre = c.requires.image_of in
    let join = c.of-join.result in
    let known = c.of-join.ensures.semi_join_of in
    let tables = c.of-join.ensures.sides_of in
    let away = apart_read a.ranges.now a.p a.q join c.range_at-a.ensures c.range_at-b.ensures c.columns_apart.ensures ∙ c.if-columns_apart.true in
    let none =
    apart_none a.ranges.now pre.0 c.requires.indexed_tables.0.measured a.p a.q pre.1 pre.2 a.kind join (entry_place a.p a.q (kind_number a.kind) pre.0 known c.semi_join_entry-entry.ensures) tables away in
    c.not_stored_end-then-columns_apart.ensures
    ∙ entry_ends a.p a.q (kind_number a.kind) pre.0 known c.semi_join_entry-entry.ensures a.t a.here a.used 0 (sym none) (λ _. none_stored _ _ _ refl) pre.4

pub returns-then-rows-left : goal.returns-then-rows-left
returns-then-rows-left c =
    let a = c.args in
    let pre = c.requires.image_of in
    let known = c.of-join.ensures.semi_join_of in
    let fewer = left-fewer pre.0 (semi_join_place a.count a.p a.q (kind_number a.kind)) (place_below a.p a.q (kind_number a.kind) pre.1 pre.2 (number_below a.kind)) in
    ends_wrong _ _ _ _ _ _ (λ j. omega (arith, j.count, fewer, known.full, left_read a.p a.q (kind_number a.kind) pre.0 known c.semi_join_entry-entry.ensures))

pub is_stored-requires : goal.is_stored-requires
is_stored-requires c =
    let a = c.args in
    let pre = c.requires.image_of in
    let known = c.of-join.ensures.semi_join_of in
    let small = (counted_of pre.0 (semi_join_place a.count a.p a.q (kind_number a.kind)) (place_below a.p a.q (kind_number a.kind) pre.1 pre.2 (number_below a.kind)) refl known.full).full_few in
    (pre.3, omega (arith, small), small)

pub stored_end-requires : goal.stored_end-requires
stored_end-requires c =
    let a = c.args in
    let pre = c.requires.image_of in
    let indexed = c.requires.indexed_tables in
    let join = c.of-join.result in
    let known = c.of-join.ensures.semi_join_of in
    let tables = c.of-join.ensures.sides_of in
    let differ : own_place a.p join ≢ partner_place a.q join = λ e. omega (arith, e, c.range_at-a.ensures, c.range_at-b.ensures) in
    let near = apart_read a.ranges.now a.p a.q join c.range_at-a.ensures c.range_at-b.ensures c.columns_apart.ensures ∙ c.if-columns_apart.false in
    record {
      probed = (
        record {
          rows = rows_searchable indexed.0 indexed.1 pre.1 pre.2 join tables;
          partners = partners_by_column indexed.0 indexed.1 pre.1 pre.2 join tables differ near;
        },
        omega arith,
        pre.4,
        pre.5,
      );
      partner_range = rw c.range_at-b.ensures (partner_range indexed.0 indexed.1 pre.1 pre.2 join tables);
    }

pub returns-then-is_stored : goal.returns-then-is_stored
returns-then-is_stored c =
    let a = c.args in
    let pre = c.requires.image_of in
    let known = c.of-join.ensures.semi_join_of in
    let read = c.semi_join_entry-entry.ensures in
    c.stored_end.ensures
    ∙ stored_same _ _ _ _ _ _ known.left (start_read a.p a.q (kind_number a.kind) pre.0 known read) (left_read a.p a.q (kind_number a.kind) pre.0 known read)
    ∙ ends_stored _ _ _ _ _ _ (asked a.p a.q (kind_number a.kind) pre.0 known read a.t c.is_stored.ensures ∙ c.if-is_stored.true) pre.5

pub count_partnered-counted-requires : goal.count_partnered-counted-requires
count_partnered-counted-requires c =
    let a = c.args in
    let pre = c.requires.image_of in
    let indexed = c.requires.indexed_tables in
    let join = c.of-join.result in
    let known = c.of-join.ensures.semi_join_of in
    let tables = c.of-join.ensures.sides_of in
    let small = few pre.0 a.p a.q pre.1 pre.2 in
    let differ : own_place a.p join ≢ partner_place a.q join = λ e. omega (arith, e, c.range_at-a.ensures, c.range_at-b.ensures) in
    let near = apart_read a.ranges.now a.p a.q join c.range_at-a.ensures c.range_at-b.ensures c.columns_apart.ensures ∙ c.if-columns_apart.false in
    record {
      searchable_by = (
        rows_by_column indexed.0 indexed.1 pre.1 pre.2 join tables differ near,
        partners_by_column indexed.0 indexed.1 pre.1 pre.2 join tables differ near,
      );
      own_range = rw c.range_at-a.ensures (own_range indexed.0 indexed.1 pre.1 pre.2 join tables);
      partner_range = rw c.range_at-b.ensures (partner_range indexed.0 indexed.1 pre.1 pre.2 join tables);
    }

pub returns : goal.returns
returns c =
    let a = c.args in
    let pre = c.requires.image_of in
    let known = c.of-join.ensures.semi_join_of in
    let read = c.semi_join_entry-entry.ensures in
    c.not_stored_end-2.ensures
    ∙ entry_ends a.p a.q (kind_number a.kind) pre.0 known read a.t a.here a.used c.count_partnered-counted.result (counted a.p a.q (kind_number a.kind) pre.0 known read c.count_partnered-counted.ensures)
    (λ same. rw (sym same) (asked a.p a.q (kind_number a.kind) pre.0 known read a.t c.is_stored.ensures ∙ c.if-is_stored.false)) pre.4

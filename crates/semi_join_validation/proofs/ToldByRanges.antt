-- Semi-joins whose columns are apart, or are one, told by their ranges: no row is left or all are, and none is stored.
use Prim.Native.Nat.{ℕ, zero, suc, ◌+◌, ◌-◌, ◌*◌, ◌≤◌, ◌<◌}
use native.Mathlib.Nat.{le_refl}
use native.Mathlib.Numerals.{add-one}
use native.Mathlib.Omega.{arith}
use mathlib.Core.Path.{◌≡◌, refl, sym, ap, ◌∙◌}
use mathlib.Core.Logic.{⊎_elim, inl, inr}
use mathlib.Core.Bool.{Bool, true, false, cond, ◌&&◌}
use mathlib.Core.List.{List, map}
use lib.ListN.{length, get_or, take, drop}
use lib.Dec.{eqb, ltb, leb}
use borrow.Author.Tests.{eqb-true, ltb-true, leb-true}
use Rattle.model.specs.Lists.{all}
use Rattle.model.specs.Tables.{Column, subject, object, kinds, kind_at, kind_count, most_threshold, is_stored}
use Rattle.model.specs.Store.{Reduced, is_stored_table, vp_entry_at, semi_join_place, semi_join_entry_at}
use Rattle.model.proofs.Booleans.{and_cases, or_cases}
use Rattle.model.proofs.Membership.{at_place, place_of, into_all, from_all}
use Rattle.model.proofs.MayChoose.{whole_not_stored}
use Rattle.tables.specs.declared.kinds.Kind.{Kind as KindOfCode}
use Rattle.tables.specs.declared.kinds.Kind.TheVariants.{SS, OS, SO, OO}
use Rattle.tables.specs.declared.semi_joins.SemiJoin.{SemiJoin}
use Rattle.tables.specs.SemiJoins.{SidesOf, SemiJoinOf}
use Rattle.tables.proofs.KindsOfCode.{offset_below}
use Rattle.tables.proofs.SemiJoins.{semi_join_of_sides}
use Rattle.tables.specs.Columns.{column_as, column_number, offset_of}
use Rattle.tables.specs.declared.columns.Column.{Column as ColumnOfCode}
use Rattle.tables.specs.declared.columns.Column.TheVariants.{Subject, Object}
use Rattle.tables.specs.Kinds.{kind_as, kind_number}
use Rattle.tables.specs.declared.kinds.TheConstants.Kind.{ALL}
use Rattle.tables.specs.SiteWords.{site_in, ImageOf, reduced_at}
use Rattle.tables.proofs.Images.{entries_inside}
use Rattle.tables.proofs.Entries.{place_below}
use Rattle.row_order.proofs.Proper.{word_passes}
use Rattle.statistics.specs.declared.ranges.ValueRange.{ValueRange}
use Rattle.statistics.specs.Ranges.{range_in, SideRange, AllMeasured, apart}
use Rattle.statistics.proofs.ColumnRanges.{none_left}
use Rattle.statistics.proofs.ComparedColumns.{number_as}
use Rattle.semi_join_validation.specs.Joins.{entry_agrees, is_told, Joined, kind_apart, kinds_apart, empty_pair}
use Rattle.semi_join_validation.proofs.IndexedOperands.{own_place, partner_place, itself_left}
use Rattle.semi_join_validation.proofs.Join.{ends_not_stored}
use Rattle.semi_join_validation.proofs.Joined.{joined-more}

-- the number of a column, as the code has it
pub column_numbered : (c : ColumnOfCode) {column : Column} → column_as c ≡ column → column_number column ≡ offset_of c
column_numbered c e = sym (ap column_number e) ∙ number_as c

-- a column, as the code has it
abbrev coded : Column → ColumnOfCode
coded subject = Subject
coded object = Object

coded_as : (column : Column) → column_as (coded column) ≡ column
coded_as subject = refl
coded_as object = refl

module _ (ranges : List ValueRange) (p q : ℕ) where
  -- the columns that each kind compares are apart
  pub kinds-apart : ((k : ℕ) → k < kind_count → kind_apart ranges p q (kind_at k) ≡ true) → kinds_apart ranges p q ≡ true
  unfolding kinds_apart
  kinds-apart each =
      into_all (kind_apart ranges p q) kinds (λ kind among. let (k, h, e) = place_of (subject, subject) among in rw e at (each k h))

  -- the columns that kind k compares are apart
  pub kind_apart_lem : kinds_apart ranges p q ≡ true → (k : ℕ) → k < kind_count → kind_apart ranges p q (kind_at k) ≡ true
  unfolding kinds_apart
  kind_apart_lem e k h = from_all (kind_apart ranges p q) kinds e (at_place kinds (subject, subject) k h)

-- the entry at a place has the count of the rows that a semi-join leaves and no start, and at no threshold are they stored
pub record NoneStored (words : List ℕ) (x : Reduced) (entry : ℕ) : Type 0 where
  pub counted : get_or words entry 0 ≡ length x.rows
  pub no_start : get_or words (entry + 1) 0 ≡ 0
  pub unstored : (t : ℕ) → t ≤ most_threshold → is_stored_table t x ≡ false

-- no row is stored of none
pub none_stored : (t left rows : ℕ) → left ≡ 0 → is_stored t left rows ≡ false
unfolding is_stored
none_stored t left rows e = rw e refl

module _ {count : ℕ} {words : List ℕ} (ranges : List ValueRange) (image : ImageOf count words) (measured : AllMeasured words ranges count) (p q : ℕ) (h : p < count) (l : q < count) where
  -- the semi-join of kind k, and where its entry stands
  abbrev join_of : ℕ → Reduced
  join_of k = reduced_at (site_in count words) (semi_join_place count p q k)

  abbrev entry_of : ℕ → ℕ
  entry_of k = semi_join_entry_at count p q k

  module _ (kind : KindOfCode) (join : SemiJoin) (entry : join.entry ≡ entry_of (kind_number kind)) (sides : SidesOf words p q kind join) where
    known : SemiJoinOf (site_in count words) words (semi_join_place count p q (kind_number kind)) join
    known = semi_join_of_sides image p q kind h l join entry sides

    -- columns that are apart leave no row
    pub apart_none : apart ranges (own_place p join) (partner_place q join) ≡ true → length (join_of (kind_number kind)).rows ≡ 0
    apart_none e =
        let a = own_place p join in
        let b = partner_place q join in
        let own = join.own in
        let other = join.partner in
        let mine : SideRange words own (range_in ranges a) = rw (sides.own.start, sides.own.rows) (measured p h (offset_of own.column) (offset_below own.column)) in
        let theirs : SideRange words other (range_in ranges b) = rw (sides.partner.start, sides.partner.rows) (measured q l (offset_of other.column) (offset_below other.column)) in
        ap length (sym known.left)
        ∙ none_left words (range_in ranges a) (range_in ranges b) own.start own.rows (offset_of own.column) other.start other.rows (offset_of other.column) (offset_below own.column) known.inside mine theirs
        (⊎_elim (λ x. inl (ltb-true _ _ x)) (λ x. inr (ltb-true _ _ x)) (or_cases (ltb (range_in ranges a).highest (range_in ranges b).lowest) (ltb (range_in ranges b).highest (range_in ranges a).lowest) e)) own.rows (le_refl _)

  -- as the entries of the tables have it
  module _ (kind : KindOfCode) where
    abbrev join_by_entries : SemiJoin
    join_by_entries = record {
      entry = entry_of (kind_number kind);
      own = record { start = get_or words (vp_entry_at p + 2) 0; rows = get_or words (vp_entry_at p + 1) 0; column = coded (kind_as kind).0 };
      partner = record { start = get_or words (vp_entry_at q + 2) 0; rows = get_or words (vp_entry_at q + 1) 0; column = coded (kind_as kind).1 };
    }

    sides : SidesOf words p q kind join_by_entries
    sides = record {
      own = record { start = refl; rows = refl; compared = coded_as (kind_as kind).0 };
      partner = record { start = refl; rows = refl; compared = coded_as (kind_as kind).1 };
    }

    known_by_entries : SemiJoinOf (site_in count words) words (semi_join_place count p q (kind_number kind)) join_by_entries
    known_by_entries = known kind join_by_entries refl sides

    none_apart : apart ranges (own_place p join_by_entries) (partner_place q join_by_entries) ≡ true → length (join_of (kind_number kind)).rows ≡ 0
    none_apart e = apart_none kind join_by_entries refl sides e

    -- one column leaves all
    one_all : own_place p join_by_entries ≡ partner_place q join_by_entries → get_or words (vp_entry_at p + 1) 0 ≡ length (join_of (kind_number kind)).rows
    one_all e = itself_left words join_by_entries sides known_by_entries.inside e ∙ ap length known_by_entries.left

    -- what the ranges tell of it
    told : entry_agrees ranges (own_place p join_by_entries) (partner_place q join_by_entries) (get_or words (entry_of (kind_number kind)) 0) (get_or words (entry_of (kind_number kind) + 1) 0) (get_or words (vp_entry_at p + 1) 0) ≡ true
        → NoneStored words (join_of (kind_number kind)) (entry_of (kind_number kind))
    unfolding entry_agrees
    told e = go (eqb a b) refl said.1
      where
        a : ℕ
        a = own_place p join_by_entries

        b : ℕ
        b = partner_place q join_by_entries

        left : ℕ
        left = get_or words (entry_of (kind_number kind)) 0

        n : ℕ
        n = get_or words (vp_entry_at p + 1) 0

        said : (eqb (get_or words (entry_of (kind_number kind) + 1) 0) 0 ≡ true) × (cond (eqb a b) (eqb left n) (eqb left 0 && apart ranges a b) ≡ true)
        said = and_cases (eqb (get_or words (entry_of (kind_number kind) + 1) 0) 0) (cond (eqb a b) (eqb left n) (eqb left 0 && apart ranges a b)) e

        -- a count that is that of the rows left, which are never stored
        counting : (m : ℕ) → left ≡ m → m ≡ length (join_of (kind_number kind)).rows → ((t : ℕ) → t ≤ most_threshold → is_stored t m (length (join_of (kind_number kind)).full) ≡ false)
            → NoneStored words (join_of (kind_number kind)) (entry_of (kind_number kind))
        counting m same count never = record {
          counted = same ∙ count;
          no_start = eqb-true (get_or words (entry_of (kind_number kind) + 1) 0) 0 said.0;
          unstored = λ t few. rw (sym count) (never t few);
        }

        go : (one : Bool) → eqb a b ≡ one → cond one (eqb left n) (eqb left 0 && apart ranges a b) ≡ true → NoneStored words (join_of (kind_number kind)) (entry_of (kind_number kind))
        go true same e =
            counting n (eqb-true left n e) (one_all (eqb-true a b same)) (λ t few. rw (sym known_by_entries.full) (whole_not_stored t n few))
        go false differ e =
            let (zeros, away) = and_cases (eqb left 0) (apart ranges a b) e in
            counting 0 (eqb-true left 0 zeros) (sym (none_apart away)) (λ t few. none_stored t 0 _ refl)

  pub told_none_stored : (k : ℕ) → k < kind_count → is_told count words ranges p q k ≡ true → NoneStored words (join_of k) (entry_of k)
  unfolding is_told
  told_none_stored zero m e = told SS e
  told_none_stored (suc zero) m e = told OS e
  told_none_stored (suc (suc zero)) m e = told SO e
  told_none_stored (suc (suc (suc zero))) m e = told OO e
  told_none_stored (suc (suc (suc (suc k)))) m e = absurd (omega arith)

  -- columns that are apart, of the kind with a number
  apart_of_kind : (k : ℕ) → k < kind_count → kind_apart ranges p q (kind_at k) ≡ true → length (join_of k).rows ≡ 0
  apart_of_kind zero m e = none_apart SS e
  apart_of_kind (suc zero) m e = none_apart OS e
  apart_of_kind (suc (suc zero)) m e = none_apart SO e
  apart_of_kind (suc (suc (suc zero))) m e = none_apart OO e
  apart_of_kind (suc (suc (suc (suc k)))) m e = absurd (omega arith)

  -- the words of the entries of an empty pair are 0
  zero_word : all (λ x. leb x 0) (take (2 * kind_count) (drop (entry_of 0) words)) ≡ true → (j i : ℕ) → i < 2 * kind_count → j ≡ entry_of 0 + i → get_or words j 0 ≡ 0
  zero_word zeros j i m e =
      let inside = place_below p q (kind_count - 1) h l (omega arith) in
      let word = word_passes (λ x. leb x 0) words (entry_of 0) (2 * kind_count) i (omega (arith, entries_inside image)) zeros m in
      rw e (omega (arith, leb-true (get_or words (entry_of 0 + i) 0) 0 word))

  pub empty_pair_lem : empty_pair count words ranges p q ≡ true → (j : ℕ) → j < kind_count → NoneStored words (join_of j) (entry_of j)
  unfolding empty_pair
  empty_pair_lem e j m =
      let (ranged, zeros) = and_cases (kinds_apart ranges p q) _ e in
      let none = apart_of_kind j m (kind_apart_lem ranges p q ranged j m) in
      record {
        counted = zero_word zeros _ (2 * j) (omega arith) (omega arith) ∙ sym none;
        no_start = zero_word zeros _ (2 * j + 1) (omega arith) (omega arith);
        unstored = λ t few. none_stored t _ _ none;
      }

-- the answers for all kinds, in turn
pub told_in_turn : (asked : ℕ → Bool) (j : ℕ) → j < kind_count → get_or (map (λ kind. asked (kind_number kind)) ALL) j false ≡ asked j
told_in_turn asked zero h = refl
told_in_turn asked (suc zero) h = refl
told_in_turn asked (suc (suc zero)) h = refl
told_in_turn asked (suc (suc (suc zero))) h = refl
told_in_turn asked (suc (suc (suc (suc j)))) h = absurd (omega arith)

module _ {count : ℕ} {words : List ℕ} (t used here : ℕ) (few : t ≤ most_threshold) (image : ImageOf count words) (inside : used ≤ length words) (p q : ℕ) (h : p < count) (l : q < count) where
  -- with one that is told one more holds
  pub kind_joined : (k : ℕ) → k < kind_count → NoneStored words (reduced_at (site_in count words) (semi_join_place count p q k)) (semi_join_entry_at count p q k)
      → Joined t count words used here (semi_join_place count p q k) → Joined t count words used here (semi_join_place count p q (k + 1))
  kind_joined k m x joined =
      let next : semi_join_place count p q (k + 1) ≡ semi_join_place count p q k + 1 = omega arith in
      rw next
      (joined-more _ _ _ _ image inside joined (place_below p q k h l m)
      (ends_not_stored t words _ _ here used (rw x.counted (x.unstored t few)) x.counted x.no_start joined.room) refl)

  -- and so the first n kinds of a pair
  kinds-joined : (n : ℕ) → n ≤ kind_count → ((j : ℕ) → j < kind_count → NoneStored words (reduced_at (site_in count words) (semi_join_place count p q j)) (semi_join_entry_at count p q j))
      → Joined t count words used here (semi_join_place count p q 0) → Joined t count words used here (semi_join_place count p q n)
  kinds-joined zero m each joined = joined
  kinds-joined (suc n) m each joined = rw (← add-one n) (kind_joined n (omega arith) (each n (omega arith)) (kinds-joined n (omega arith) each joined))

  pub pair_joined : ((j : ℕ) → j < kind_count → NoneStored words (reduced_at (site_in count words) (semi_join_place count p q j)) (semi_join_entry_at count p q j))
      → Joined t count words used here (semi_join_place count p q 0) → Joined t count words used here (semi_join_place count p q kind_count)
  pair_joined each joined = kinds-joined kind_count (le_refl _) each joined

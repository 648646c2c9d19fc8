-- Ranges of columns: columns that are apart leave no row, and where the partners' has no gaps all rows within it are left.
use Prim.Native.Nat.{ℕ, zero, suc, ◌+◌, ◌-◌, ◌*◌, ◌≤◌, ◌<◌}
use native.Mathlib.Omega.{arith}
use native.Mathlib.Nat.{le_of_suc-le-suc, lt_of_not-le}
use native.Mathlib.Numerals.{add-one}
use mathlib.Core.Path.{◌≡◌, refl, sym, ap, ◌∙◌}
use mathlib.Core.Logic.{◌⊎◌, ⊎_elim, ◌≢◌}
use mathlib.Core.Bool.{Bool, true, false, false≢true, ◌&&◌, ◌||◌, or_comm, or-false, not}
use mathlib.Core.List.{List}
use lib.ListN.{length, get_or, set, length-append, length-set}
use lib.Seq.{get_or-set_same, get_or-set_other}
use lib.Dec.{eqb, ltb, leb}
use borrow.Author.Count.{below_more}
use borrow.Author.Tests.{ltb-true, ltb-false, leb-true, le-leb, eqb-true, eqb-false, eq-eqb, ne_eqb}
use Rattle.model.specs.Store.{vp_entry_at}
use Rattle.model.specs.Lists.{below}
use Rattle.model.specs.Tables.{semi_join}
use Rattle.model.proofs.Booleans.{not_both, to_false, and_make, or_cases, or_left, or_right}
use Rattle.model.proofs.Membership.{from_all, into_all, any_append, into_any}
use Rattle.model.proofs.Below.{from_below, into_below}
use Rattle.searching.specs.Search.{word_at, Ascending, has_word}
use Rattle.searching.proofs.WordSearch.{word_found, before_first, behind_last}
use Rattle.model.proofs.Rows.{rows_at_lem}
use Rattle.tables.specs.declared.layout.TableEntry.{TableEntry}
use Rattle.tables.specs.Entries.{TableEntryAt}
use Rattle.tables.specs.LeftRows.{left_rows}
use Rattle.tables.proofs.Partners.{has_partner, partner_found, at_column, row-left, row_not_left}
use Rattle.statistics.specs.declared.ranges.ValueRange.{ValueRange}
use Rattle.statistics.specs.Compared.{are_compared}
use Rattle.statistics.specs.Ranges.{is_gapless, RangeOf, no_range, range_in, range_at, has_value, ColumnRange, AllMeasured, apart, meets_other, is_reached, objects_reached}
use Rattle.statistics.proofs.Partnered.{partner_of-value}

-- ---- words without gaps

module _ (words : List ℕ) (base stride : ℕ) where
  -- the word behind the i-th is at most one above it
  abbrev pub Near : ℕ → Type 0
  Near i = word_at words base stride (i + 1) ≤ word_at words base stride i + 1

  near_all : (n : ℕ) → is_gapless words base stride n ≡ true → (i : ℕ) → i + 1 < n → Near i
  unfolding is_gapless
  near_all n e i h =
      leb-true (word_at words base stride (i + 1)) (word_at words base stride i + 1)
      (from_all (λ j. leb (word_at words base stride (j + 1)) (word_at words base stride j + 1)) (below (n - 1)) e (into_below (n - 1) (omega arith)))

  pub all_near : (n : ℕ) → ((i : ℕ) → i + 1 < n → Near i) → true ≡ is_gapless words base stride n
  unfolding is_gapless
  all_near n near =
      sym (into_all (λ j. leb (word_at words base stride (j + 1)) (word_at words base stride j + 1)) (below (n - 1))
      (λ j m. le-leb (word_at words base stride (j + 1)) (word_at words base stride j + 1) (near j (omega (arith, from_below (n - 1) m)))))

  pub not_near : (n i : ℕ) → i + 1 < n → (Near i → ⊥) → false ≡ is_gapless words base stride n
  not_near n i h far = sym (to_false (is_gapless words base stride n) (λ e. far (near_all n e i h)))

  -- one word more has no gap before it
  pub gapless_more : (i : ℕ) → 0 < i → word_at words base stride i ≤ word_at words base stride (i - 1) + 1 → is_gapless words base stride i ≡ true
      → is_gapless words base stride (i + 1) ≡ true
  gapless_more i some near e = sym (all_near (i + 1) (λ j h. below_more Near (i - 1) (λ k l. near_all i e k (omega arith)) last j (omega arith)))
    where
      back : i - 1 + 1 ≡ i
      back = omega arith

      last : Near (i - 1)
      last = rw (ap (word_at words base stride) back) near

  -- each value between the first and the last is one of them
  reached : (n x : ℕ) → ((i : ℕ) → i + 1 < n → Near i) → 0 < n → word_at words base stride 0 ≤ x → x ≤ word_at words base stride (n - 1)
      → (i : ℕ) × (i < n) × (word_at words base stride i ≡ x)
  reached zero x near some low high = absurd (omega arith)
  reached (suc zero) x near some low high = (0, omega arith, omega arith)
  reached (suc (suc n)) x near some low high = go (ltb (word_at words base stride n) x) refl (λ l. reached (suc n) x (λ i h. near i (omega arith)) (omega arith) low (rw last l))
    where
      last : suc n - 1 ≡ n
      last = omega arith

      go : (b : Bool) → ltb (word_at words base stride n) x ≡ b
          → (x ≤ word_at words base stride n → (i : ℕ) × (i < suc n) × (word_at words base stride i ≡ x))
          → (i : ℕ) × (i < suc (suc n)) × (word_at words base stride i ≡ x)
      go true e earlier =
          let above = ltb-true (word_at words base stride n) x e in
          let next : word_at words base stride (n + 1) ≡ word_at words base stride (suc n) = ap (word_at words base stride) (add-one n) in
          let last : word_at words base stride (suc (suc n) - 1) ≡ word_at words base stride (suc n) = ap (word_at words base stride) (omega arith) in
          let step = near n (omega arith) in
          (suc n, omega arith, omega arith)
      go false e earlier = let (i, h, same) = earlier (ltb-false (word_at words base stride n) x e) in (i, omega arith, same)

  pub has_between : (n x : ℕ) → is_gapless words base stride n ≡ true → 0 < n → word_at words base stride 0 ≤ x → x ≤ word_at words base stride (n - 1)
      → has_word words base stride n x ≡ true
  has_between n x e some low high =
      let (i, h, same) = reached n x (near_all n e) some low high in
      sym (word_found words base stride i h same)

-- ---- ranges

-- ascending words are between the first and the last
pub range : (words : List ℕ) (base stride n : ℕ) (whole : Bool) → Ascending words base stride n → 0 < n → (whole ≡ true → is_gapless words base stride n ≡ true)
    → RangeOf (has_word words base stride n) (get_or words base 0) (word_at words base stride (n - 1)) whole
range words base stride n whole ascending some gapless =
    let first : word_at words base stride 0 ≡ get_or words base 0 = ap (λ (p : ℕ). get_or words p 0) (omega arith) in
    record {
      between = λ x e. (
        le_of_suc-le-suc (lt_of_not-le (λ l. not_both e (sym (before_first words base stride ascending l)))),
        le_of_suc-le-suc (lt_of_not-le (λ l. not_both e (sym (behind_last words base stride ascending l)))),
      );
      attained = λ l. (sym (word_found words base stride 0 some first), sym (word_found words base stride (n - 1) (omega arith) refl));
      gapless = λ e x low high. has_between words base stride n x (gapless e) some (omega (arith, first)) high;
    }

-- the range of a test is that of a test that agrees
pub range_same : {p q : ℕ → Bool} {lowest highest : ℕ} {whole : Bool} → ((x : ℕ) → p x ≡ q x) → RangeOf p lowest highest whole → RangeOf q lowest highest whole
range_same {lowest = lowest} {highest = highest} same r = record {
  between = λ x e. r.between x (same x ∙ e);
  attained = λ l. (sym (same lowest) ∙ (r.attained l).0, sym (same highest) ∙ (r.attained l).1);
  gapless = λ e x low high. sym (same x) ∙ r.gapless e x low high;
}

-- the range of one value
pub range_one : {p : ℕ → Bool} (v : ℕ) → ((x : ℕ) → p x ≡ eqb x v) → RangeOf p v v false
range_one v is = record {
  between = λ x e. let same = eqb-true x v (sym (is x) ∙ e) in (omega arith, omega arith);
  attained = λ l. (is v ∙ eq-eqb v v refl, is v ∙ eq-eqb v v refl);
  gapless = λ e. absurd (false≢true e);
}

-- and of one value more
pub range_more : {p q : ℕ → Bool} {lowest highest low high : ℕ} (v : ℕ) → ((x : ℕ) → q x ≡ (p x || eqb x v)) → lowest ≤ highest
    → low ≤ v → low ≤ lowest → (low ≡ v) ⊎ (low ≡ lowest) → v ≤ high → highest ≤ high → (high ≡ v) ⊎ (high ≡ highest)
    → RangeOf p lowest highest false → RangeOf q low high false
range_more {p} {q} {lowest} {highest} {low} {high} v is some low-own low-others low-is high-own high_others high_is r = record {
  between = λ x e. ⊎_elim
      (λ h. let (a, b) = r.between x h in (omega (arith, a), omega (arith, b)))
      (λ h. let same = eqb-true x v h in (omega (arith, same), omega (arith, same)))
      (or_cases (p x) (eqb x v) (sym (is x) ∙ e));
  attained = λ l. (
    is low ∙ ⊎_elim (λ e. or_right (p low) (eq-eqb low v e)) (λ e. or_left _ (ap p e ∙ (r.attained some).0)) low-is,
    is high ∙ ⊎_elim (λ e. or_right (p high) (eq-eqb high v e)) (λ e. or_left _ (ap p e ∙ (r.attained some).1)) high_is,
  );
  gapless = λ e. absurd (false≢true e);
}

-- the values of one row more
module _ (words : List ℕ) (start : ℕ) where
  pub no_values : (column : ℕ) → RangeOf (has_value words start 0 column) 1 0 false
  no_values column = record { between = λ x e. absurd (false≢true e); attained = λ l. absurd (omega arith); gapless = λ e. absurd (false≢true e) }

  pub value-more : (i column : ℕ) → column < 2 → start + 2 * (i + 1) ≤ length words → (x : ℕ)
      → has_value words start (i + 1) column x ≡ (has_value words start i column x || eqb x (get_or words (start + 2 * i + column) 0))
  value-more i column c h x = rw (rows_at_lem words start i 0 h, any_append, or-false, at_column words start i column c) refl

  pub one_value : start + 2 ≤ length words → RangeOf (has_value words start 1 1) (get_or words (start + 1) 0) (get_or words (start + 1) 0) false
  one_value h =
      let first : get_or words (start + 2 * 0 + 1) 0 ≡ get_or words (start + 1) 0 = ap (λ (k : ℕ). get_or words k 0) (omega arith) in
      range_one (get_or words (start + 1) 0) (λ x. value-more 0 1 (omega arith) (omega arith) x ∙ ap (eqb x) first)

-- where the words that ascend and are the values have no gaps, the range has none
pub range_whole : {p : ℕ → Bool} {lowest highest : ℕ} (before whole : Bool) (copy : List ℕ) (n : ℕ)
    → (whole ≡ true → ((x : ℕ) → has_word copy 0 1 n x ≡ p x) × Ascending copy 0 1 n × (is_gapless copy 0 1 n ≡ true))
    → RangeOf p lowest highest before → RangeOf p lowest highest whole
unfolding has_word
range_whole {p} {lowest} {highest} before whole copy n known r = record {
  between = r.between;
  attained = r.attained;
  gapless = λ e x low high. go e x low high (known e) n refl;
}
  where
    go : whole ≡ true → (x : ℕ) → lowest ≤ x → x ≤ highest
        → ((x : ℕ) → has_word copy 0 1 n x ≡ p x) × Ascending copy 0 1 n × (is_gapless copy 0 1 n ≡ true)
        → (m : ℕ) → m ≡ n → p x ≡ true
    go e x low high (same, ascending, whole_copy) zero none =
        let has = ap (λ (k : ℕ). has_word copy 0 1 k lowest) none in
        absurd (false≢true (has ∙ same lowest ∙ (r.attained (omega arith)).0))
    go e x low high (same, ascending, whole_copy) (suc m) some =
        let (has-low, has-high) = r.attained (omega arith) in
        let all = range copy 0 1 n false ascending (omega arith) (λ e. absurd (false≢true e)) in
        let first : word_at copy 0 1 0 ≡ get_or copy 0 0 = ap (λ (k : ℕ). get_or copy k 0) (omega arith) in
        sym (same x)
        ∙ has_between copy 0 1 n x whole_copy (omega arith) (omega (arith, first, (all.between lowest (same lowest ∙ has-low)).0)) (omega (arith, (all.between highest (same highest ∙ has-high)).1))

-- ---- rows by the ranges of their columns

module _ (words : List ℕ) (a b : ValueRange) (p m own q n other : ℕ) (own_column : own < 2) (inside : p + 2 * m ≤ length words)
    (mine : ColumnRange words p m own a) (theirs : ColumnRange words q n other b) where
  -- the value of row i, which is a partner of itself, is in its own column's range
  row_range : (i : ℕ) → i < m → (a.lowest ≤ get_or words (p + 2 * i + own) 0) × (get_or words (p + 2 * i + own) 0 ≤ a.highest)
  row_range i h =
      mine.between (get_or words (p + 2 * i + own) 0)
      (sym (partner_of-value words p i own p m own own_column) ∙ partner_found words p i own p own own_column own_column i m h inside refl)

  -- of the first k rows none is left, if the ranges are apart
  pub none_left : (a.highest < b.lowest) ⊎ (b.highest < a.lowest) → (k : ℕ) → k ≤ m → length (left_rows words p k own q n other) ≡ 0
  unfolding left_rows semi_join
  none_left apart zero h = refl
  none_left apart (suc k) h = rw (← add-one k, row_not_left words p k own q n other (omega arith) (to_false _ no_partner)) (none_left apart k (omega arith))
    where
      no_partner : has_partner words p k own q n other ≡ true → ⊥
      no_partner has =
          let own_range = row_range k h in
          let range = theirs.between (get_or words (p + 2 * k + own) 0) (sym (partner_of-value words p k own q n other own_column) ∙ has) in
          ⊎_elim (λ l. omega (arith, own_range.1, range.0)) (λ l. omega (arith, own_range.0, range.1)) apart

  -- all are, if the one range is within the other, which has no gaps
  pub all_left : b.whole ≡ true → b.lowest ≤ a.lowest → a.highest ≤ b.highest
      → (k : ℕ) → k ≤ m → length (left_rows words p k own q n other) ≡ k
  unfolding left_rows semi_join
  all_left whole low high zero h = refl
  all_left whole low high (suc k) h =
      let own_range = row_range k h in
      let has = partner_of-value words p k own q n other own_column ∙ theirs.gapless whole (get_or words (p + 2 * k + own) 0) (omega (arith, own_range.0)) (omega (arith, own_range.1)) in
      rw (← add-one k, row-left words p k own q n other has (omega arith), length-append, all_left whole low high k (omega arith)) refl

-- ranges are apart in either order
pub apart_turned : (ranges : List ValueRange) (a b : ℕ) → apart ranges a b ≡ apart ranges b a
apart_turned ranges a b = or_comm (ltb (range_in ranges a).highest (range_in ranges b).lowest) (ltb (range_in ranges b).highest (range_in ranges a).lowest)

-- one other column that is compared with them is enough for objects to be reached
pub reached_by : (ranges : List ValueRange) (k i p column : ℕ) → p < k → column < 2 → are_compared column 1 ≡ true → range_at p column ≢ range_at i 1
    → apart ranges (range_at p column) (range_at i 1) ≡ false → objects_reached ranges k i ≡ true
unfolding objects_reached is_reached meets_other
reached_by ranges k i p column h l compared other e =
    go column l compared
    (into_any (λ q. meets_other ranges (range_at q column) (range_at i 1)) (into_below k h) (and_make (ap not (ne_eqb (range_at p column) (range_at i 1) other)) (ap not e)))
  where
    go : (column : ℕ) → column < 2 → are_compared column 1 ≡ true → is_reached ranges k column (range_at i 1) ≡ true → objects_reached ranges k i ≡ true
    go zero l compared met = or_left (are_compared 1 1 && is_reached ranges k 1 (range_at i 1)) (and_make compared met)
    go (suc zero) l compared met = or_right (are_compared 0 1 && is_reached ranges k 0 (range_at i 1)) (and_make compared met)
    go (suc (suc c)) l compared met = absurd (omega arith)

-- ---- where the ranges stand

-- the ranges of table i, as its entry has it, behind those of the tables before it
pub table_measured : (words : List ℕ) (ranges : List ValueRange) (i : ℕ) {subjects objects : ValueRange} (r : TableEntry) → TableEntryAt words i r
    → range_at (i + 1) 0 ≤ length ranges → AllMeasured words ranges i
    → ColumnRange words r.start r.rows 0 subjects → ColumnRange words r.start r.rows 1 objects
    → AllMeasured words (set (set ranges (range_at i 0) subjects) (range_at i 1) objects) (i + 1)
table_measured words ranges i {subjects} {objects} r entry room before first second =
    below_more (λ j. (column : ℕ) → column < 2 → ColumnRange words (get_or words (vp_entry_at j + 2) 0) (get_or words (vp_entry_at j + 1) 0) column (range_in now (range_at j column))) i earlier own
  where
    half : List ValueRange
    half = set ranges (range_at i 0) subjects

    now : List ValueRange
    now = set half (range_at i 1) objects

    earlier : (j : ℕ) → j < i → (column : ℕ) → column < 2
        → ColumnRange words (get_or words (vp_entry_at j + 2) 0) (get_or words (vp_entry_at j + 1) 0) column (range_in now (range_at j column))
    earlier j h column l =
        rw (
          get_or-set_other half (range_at i 1) (range_at j column) objects no_range (λ e. omega arith),
          get_or-set_other ranges (range_at i 0) (range_at j column) subjects no_range (λ e. omega arith),
        ) (before j h column l)

    own : (column : ℕ) → column < 2 → ColumnRange words (get_or words (vp_entry_at i + 2) 0) (get_or words (vp_entry_at i + 1) 0) column (range_in now (range_at i column))
    own zero l =
        rw (
          get_or-set_other half (range_at i 1) (range_at i 0) objects no_range (λ e. omega arith),
          get_or-set_same ranges (range_at i 0) subjects no_range (omega arith),
        ) (rw (entry.start, entry.rows) at first)
    own (suc zero) l =
        rw (get_or-set_same half (range_at i 1) objects no_range (omega (arith, length-set ranges (range_at i 0) subjects)))
        (rw (entry.start, entry.rows) at second)
    own (suc (suc column)) l = absurd (omega arith)

-- ---- whether the range of a table's objects is whole is written again

module _ (ranges : List ValueRange) (i : ℕ) (whole : Bool) (room : range_at (i + 1) 0 ≤ length ranges) where
  -- the range then, and all
  abbrev told_again : ValueRange
  told_again = record { lowest = (range_in ranges (range_at i 1)).lowest; highest = (range_in ranges (range_at i 1)).highest; whole = whole }

  abbrev pub again : List ValueRange
  again = set ranges (range_at i 1) told_again

  again-here : range_in again (range_at i 1) ≡ told_again
  again-here = get_or-set_same ranges (range_at i 1) told_again no_range (omega arith)

  again-other : (k : ℕ) → (k ≡ range_at i 1 → ⊥) → range_in again k ≡ range_in ranges k
  again-other k h = get_or-set_other ranges (range_at i 1) k told_again no_range h

  -- the ends stay
  ends : (k : ℕ) → ((range_in again k).lowest ≡ (range_in ranges k).lowest) × ((range_in again k).highest ≡ (range_in ranges k).highest)
  ends k = go (eqb k (range_at i 1)) refl
    where
      go : (b : Bool) → eqb k (range_at i 1) ≡ b → ((range_in again k).lowest ≡ (range_in ranges k).lowest) × ((range_in again k).highest ≡ (range_in ranges k).highest)
      go true e = let here = eqb-true k (range_at i 1) e in rw (here, again-here) (refl, refl)
      go false e = rw (again-other k (eqb-false k (range_at i 1) e)) (refl, refl)

  -- and so what is apart
  pub apart-again : (a b : ℕ) → apart again a b ≡ apart ranges a b
  apart-again a b = rw ((ends a).0, (ends a).1, (ends b).0, (ends b).1) refl

  pub measured_again : (words : List ℕ) (count : ℕ) → AllMeasured words ranges count
      → RangeOf (has_value words (get_or words (vp_entry_at i + 2) 0) (get_or words (vp_entry_at i + 1) 0) 1) (range_in ranges (range_at i 1)).lowest (range_in ranges (range_at i 1)).highest whole
      → AllMeasured words again count
  measured_again words count measured own j h column l = go (eqb j i) refl column l
    where
      go : (b : Bool) → eqb j i ≡ b → (column : ℕ) → column < 2
          → ColumnRange words (get_or words (vp_entry_at j + 2) 0) (get_or words (vp_entry_at j + 1) 0) column (range_in again (range_at j column))
      go b e zero l = rw (again-other (range_at j 0) (λ d. omega arith)) (measured j h 0 l)
      go false e (suc zero) l = rw (again-other (range_at j 1) (λ d. eqb-false j i e (omega arith))) (measured j h 1 l)
      go true e (suc zero) l = let same : j ≡ i = eqb-true j i e in rw (same, again-here) own
      go b e (suc (suc c)) l = absurd (omega arith)

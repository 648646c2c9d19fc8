-- One semi-join in words: its entry and its stored rows, as the test of them asks, and as they are compared.
use Prim.Native.Nat.{ℕ, ◌+◌, ◌*◌, ◌≤◌}
use native.Mathlib.Omega.{arith}
use mathlib.Core.Path.{◌≡◌, refl, sym, ◌∙◌}
use mathlib.Core.Bool.{Bool, true, false, cond}
use mathlib.Core.List.{List, []}
use lib.ListN.{length, get_or, take, drop}
use lib.Dec.{eqb}
use borrow.Author.Tests.{eqb-true, leb-true, eq-eqb, le-leb}
use Rattle.model.specs.Lists.{same_words}
use Rattle.model.specs.Site.{Row}
use Rattle.model.specs.Tables.{is_stored}
use Rattle.model.specs.Store.{Reduced, is_stored_table, stored_rows, table_words}
use Rattle.model.proofs.Booleans.{and_cases, and_make, not_both, to_false}
use Rattle.stored_rows.proofs.ComparedRows.{as_many}
use Rattle.semi_join_validation.specs.Joins.{stored_holds, not_stored_holds, join_holds}
use Rattle.std.specs.Prelude.{Option, Some, None}
use Rattle.std.specs.Bool.{then_some}

-- a value if a test passes, as the code's method gives it
pub some_if : (b : Bool) (n : ℕ) → then_some b n ≡ cond b (Some n) None
some_if true n = refl
some_if false n = refl

-- ---- rows that are stored

module _ (words : List ℕ) (rows : List Row) (start left here used : ℕ) where
  -- what is compared
  pub record Stored : Type 0 where
    pub begins : start ≡ here
    pub room : here + 2 * left ≤ used
    pub same : same_words (take (2 * left) (drop here words)) (table_words rows) ≡ true

  are_stored : stored_holds words rows start left here used ≡ true → Stored
  unfolding stored_holds
  are_stored e =
      let (begun, rest) = and_cases _ _ e in
      let (fits, stands) = and_cases _ _ rest in
      record { begins = eqb-true _ _ begun; room = leb-true _ _ fits; same = stands }

  stored_hold : Stored → stored_holds words rows start left here used ≡ true
  unfolding stored_holds
  stored_hold x = and_make (eq-eqb _ _ x.begins) (and_make (le-leb _ _ x.room) x.same)

  -- the answer that is given by them
  abbrev pub stored_end : Option ℕ
  stored_end = cond (stored_holds words rows start left here used) (Some (here + 2 * left)) None

  -- by equal rows, a start and a count
  pub stored_same : {left' start' : ℕ} {rows' : List Row} → rows ≡ rows' → start ≡ start' → left ≡ left' → stored_end ≡ cond (stored_holds words rows' start' left' here used) (Some (here + 2 * left')) None
  stored_same a b c = rw (a, b, c) refl

  pub stored_wrong : (Stored → ⊥) → None ≡ stored_end
  stored_wrong h = rw (to_false _ (λ e. h (are_stored e))) refl

  -- where they begin there and have room, it is that of their comparison
  pub stored_by : start ≡ here → here + 2 * left ≤ used → {r : Bool} → r ≡ same_words (take (2 * left) (drop here words)) (table_words rows)
      → then_some r (here + 2 * left) ≡ stored_end
  unfolding stored_holds
  stored_by begins room {r} e = rw (eq-eqb start here begins, le-leb (here + 2 * left) used room, ← e) (some_if r (here + 2 * left))

-- ---- a semi-join

module _ (t : ℕ) (words : List ℕ) (r : Reduced) (entry here used : ℕ) where
  abbrev left : ℕ
  left = get_or words entry 0

  abbrev start : ℕ
  start = get_or words (entry + 1) 0

  -- the test's parts
  pub record Held : Type 0 where
    pub count : left ≡ length r.rows
    pub begins : start ≡ cond (is_stored_table t r) here 0
    pub room : here + 2 * length (stored_rows t r) ≤ used
    pub same : same_words (take (2 * length (stored_rows t r)) (drop here words)) (table_words (stored_rows t r)) ≡ true

  pub held : join_holds t words r entry here used ≡ true → Held
  unfolding join_holds
  held e =
      let (first, second) = and_cases _ _ e in
      let (counted, begun) = and_cases _ _ first in
      let (fits, stands) = and_cases _ _ second in
      record { count = eqb-true _ _ counted; begins = eqb-true _ _ begun; room = leb-true _ _ fits; same = stands }

  pub holds : Held → join_holds t words r entry here used ≡ true
  unfolding join_holds
  holds j = and_make (and_make (eq-eqb _ _ j.count) (eq-eqb _ _ j.begins)) (and_make (le-leb _ _ j.room) j.same)

  -- the answer that the test gives
  abbrev pub end : Option ℕ
  end = cond (join_holds t words r entry here used) (Some (here + 2 * length (stored_rows t r))) None

  pub ends_wrong : (Held → ⊥) → None ≡ end
  ends_wrong h = rw (to_false _ (λ e. h (held e))) refl

  ends_at : {place : ℕ} → Held → place ≡ here + 2 * length (stored_rows t r) → Some place ≡ end
  ends_at j e = rw (holds j, e) refl

  -- ---- rows that are stored, by the count that the entry gives

  module _ (s : is_stored t left (length r.full) ≡ true) where
    stored-all : left ≡ length r.rows → (is_stored_table t r ≡ true) × (stored_rows t r ≡ r.rows)
    unfolding stored_rows
    stored-all e =
        let known : is_stored_table t r ≡ true = rw e at s in
        (known, rw known refl)

    stored : Held → Stored words r.rows start left here used
    stored j =
        let (known, all) = stored-all j.count in
        record { begins = rw known at j.begins; room = rw (j.count, ← all) j.room; same = rw (j.count, ← all) j.same }

    at-end : Stored words r.rows start left here used → used ≤ length words → Some (here + 2 * left) ≡ end
    at-end x inside =
        let count : left ≡ length r.rows = sym (as_many words here left (omega (arith, x.room)) r.rows x.same) in
        let (known, all) = stored-all count in
        ends_at
        (record { count = count; begins = rw known x.begins; room = rw (all, ← count) x.room; same = rw (all, ← count) x.same })
        (rw (all, ← count) refl)

    -- the answer is then that of the rows
    pub ends_stored : used ≤ length words → stored_end words r.rows start left here used ≡ end
    ends_stored inside = go (stored_holds words r.rows start left here used) refl
      where
        go : (b : Bool) → stored_holds words r.rows start left here used ≡ b → cond b (Some (here + 2 * left)) None ≡ end
        go true e = at-end (are_stored _ _ _ _ _ _ e) inside
        go false e = ends_wrong (λ j. not_both (stored_hold _ _ _ _ _ _ (stored j)) e)

  -- ---- rows that are not

  module _ (s : is_stored t left (length r.full) ≡ false) where
    stored_none : left ≡ length r.rows → (is_stored_table t r ≡ false) × (stored_rows t r ≡ [])
    unfolding stored_rows
    stored_none e =
        let known : is_stored_table t r ≡ false = rw e at s in
        (known, rw known refl)

    pub not_stored : Held → start ≡ 0
    not_stored j = rw (stored_none j.count).0 at j.begins

    pub ends_not_stored : left ≡ length r.rows → start ≡ 0 → here ≤ used → Some here ≡ end
    ends_not_stored count begins inside =
        let (known, none) = stored_none count in
        ends_at
        (record { count = count; begins = rw known begins; room = rw none (omega arith); same = rw none refl })
        (rw none (omega arith))

  -- the answer by a count of the rows that are left
  pub ends_counted : (n : ℕ) → n ≡ length r.rows → (left ≡ n → is_stored t n (length r.full) ≡ false) → here ≤ used
      → cond (not_stored_holds left start n) (Some here) None ≡ end
  unfolding not_stored_holds
  ends_counted n counted unstored inside = go (not_stored_holds left start n) refl
    where
      same_left : left ≡ n → is_stored t left (length r.full) ≡ false
      same_left e = rw e (unstored e)

      go : (b : Bool) → not_stored_holds left start n ≡ b → cond b (Some here) None ≡ end
      go true e =
          let (count, begins) = and_cases (eqb left n) (eqb start 0) e in
          let same = eqb-true left n count in
          ends_not_stored (same_left same) (same ∙ counted) (eqb-true start 0 begins) inside
      go false e =
          ends_wrong (λ j.
          let same = j.count ∙ sym counted in
          not_both (and_make (eq-eqb left n same) (eq-eqb start 0 (not_stored (same_left same) j))) e)

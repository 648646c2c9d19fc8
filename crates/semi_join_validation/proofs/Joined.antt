-- The walk over the semi-joins of words: what is known when the first x of them hold, and what it says of all.
use Prim.Native.Nat.{ℕ, suc, ◌+◌, ◌*◌, ◌-◌, ◌≤◌, ◌<◌}
use native.Mathlib.Nat.{le_refl}
use native.Mathlib.Numerals.{add-one}
use native.Mathlib.Omega.{arith}
use mathlib.Core.Path.{◌≡◌, refl, sym, ap, ap₂, ◌∙◌}
use mathlib.Core.Bool.{Bool, true, false, cond}
use mathlib.Core.List.{List, [], ◌∷◌, ◌++◌}
use lib.ListN.{length, get_or, take, drop, length-append, length-drop}
use lib.Seq.{length-take-le, take_all, take-add, drop-drop, drop-cons, split_at}
use lib.Dec.{eqb}
use borrow.Author.Tests.{eqb-true, eq-eqb}
use Rattle.model.specs.Lists.{same_words}
use Rattle.model.specs.Tables.{kind_count}
use Rattle.model.specs.Store.{Reduced, semi_joins, stored_rows, table_words, semi_join_entries, stored_start, stored_words, vp_entry_at}
use Rattle.model.proofs.Booleans.{and_cases, and_make, bool_ext, not_both, to_false}
use Rattle.model.proofs.Blocks.{Block, block_at, inner_block, take_block, get_or_block, head_block, concat_map_block}
use Rattle.model.proofs.Stores.{same-words, words_same}
use Rattle.model.proofs.StoreLayout.{length-table, length-all, entry_block, semi_join_entry, semi_join-entries}
use Rattle.tables.specs.SiteWords.{site_in, ImageOf, no_reduced, reduced_at}
use Rattle.tables.proofs.Reduced.{entries-more, stored_words-more, take_more, length_all_of}
use Rattle.model.proofs.Setting.{part_block}
use Rattle.tables.proofs.Images.{entries_inside}
use Rattle.semi_join_validation.proofs.Join.{Held, held, holds}
use Rattle.semi_join_validation.specs.Joins.{join_holds, Joined, joins_hold}
use Rattle.std.specs.Prelude.{Option, Some, None}

-- ---- words one behind the other

-- a run of words, and the run after it
take_after : {a b : List ℕ} (words : List ℕ) (i n m : ℕ) → take n (drop i words) ≡ a → take m (drop (i + n) words) ≡ b → take (n + m) (drop i words) ≡ a ++ b
take_after words i n m p q = take-add n m (drop i words) ∙ ap₂ ◌++◌ p (ap (take m) (drop-drop n i words) ∙ q)

two_words : (words : List ℕ) (i : ℕ) → i + 1 < length words → take 2 (drop i words) ≡ get_or words i 0 ∷ get_or words (i + 1) 0 ∷ []
two_words words i h =
    ap (take 2) (drop-cons words i 0 (omega arith) ∙ ap (λ (l : List ℕ). get_or words i 0 ∷ l) (drop-cons words (suc i) 0 (omega arith)))
    ∙ rw add-one refl

equal_words : {xs ys : List ℕ} → xs ≡ ys → same_words xs ys ≡ true
equal_words {ys = ys} e = rw e (words_same ys)

-- ---- the answer about a semi-join

ends_at : (b : Bool) (end next : ℕ) → cond b (Some end) None ≡ Some next → (b ≡ true) × (end ≡ next)
ends_at true end next e = (refl, cc)
ends_at false end next e = (cc, cc)

ends_wrong : (b : Bool) (end : ℕ) → cond b (Some end) None ≡ None → b ≡ false
ends_wrong true end e = cc
ends_wrong false end e = refl

-- ---- the semi-joins of words

module _ (t count : ℕ) (words : List ℕ) (used : ℕ) where
  abbrev all : List Reduced
  all = semi_joins (site_in count words)

  abbrev first : ℕ
  first = stored_start (site_in count words)

  pub joined_none : first ≤ used → Joined t count words used first 0
  unfolding semi_join_entries
  joined_none h = record { place = omega arith; room = h; entries = refl; rows = refl }

  -- what `joins_hold` says, as equations
  record AllHeld : Type 0 where
    entries : take (2 * (count * (count * kind_count))) (drop (vp_entry_at count) words) ≡ semi_join_entries t first all
    rows : take (used - first) (drop first words) ≡ stored_words t all

  all_held : joins_hold t count words used ≡ true → AllHeld
  unfolding joins_hold
  all_held e = let halves = and_cases _ _ e in record { entries = same-words _ _ halves.0; rows = same-words _ _ halves.1 }

  all_hold : AllHeld → joins_hold t count words used ≡ true
  unfolding joins_hold
  all_hold h = and_make (equal_words h.entries) (equal_words h.rows)

  module _ (o : ImageOf count words) (inside : used ≤ length words) where
    -- all rows end at `used`
    stored-length : first ≤ used → AllHeld → first + length (stored_words t all) ≡ used
    stored-length h a =
        let n = length-drop first words in
        let m = length-take-le (used - first) (drop first words) (omega arith) in
        omega (arith, ap length a.rows)

    module _ {here x : ℕ} (j : Joined t count words used here x) where
      module _ (h : x < count * (count * kind_count)) where
        abbrev next : Reduced
        next = reduced_at (site_in count words) x

        abbrev entry : ℕ
        entry = vp_entry_at count + 2 * x

        among : x < length all
        among = rw (length_all_of o) h

        -- the answer of `semi_join_end`
        abbrev answer : Option ℕ
        answer = cond (join_holds t words next entry here used) (Some (here + 2 * length (stored_rows t next))) None

        -- if this one holds, the first x + 1 do
        pub joined-more : {r : Option ℕ} {end : ℕ} → r ≡ answer → r ≡ Some end → Joined t count words used end (x + 1)
        joined-more {end = end} a e =
            let (held_here, same) = ends_at _ _ end (sym a ∙ e) in
            let one = held t words next entry here used held_here in
            let stands : take (2 * length (stored_rows t next)) (drop here words) ≡ table_words (stored_rows t next) = same-words _ _ one.same in
            let long = entries_inside o in
            let ks = stored_words t (take x all) in
            let es = semi_join_entries t first (take x all) in
            let n = length-table (stored_rows t next) in
            let keeps : stored_words t (take (x + 1) all) ≡ ks ++ table_words (stored_rows t next) =
            rw (take_more all x among) (stored_words-more t (take x all) next) in
            let enters : semi_join_entries t first (take (x + 1) all) ≡ es ++ semi_join_entry t here next =
            rw (take_more all x among, j.place) (entries-more t first (take x all) next) in
            let twice : 2 * (x + 1) ≡ 2 * x + 2 = omega arith in
            let size : length (stored_words t (take (x + 1) all)) ≡ length ks + 2 * length (stored_rows t next) =
            ap length keeps ∙ length-append ks (table_words (stored_rows t next)) ∙ ap (λ (k : ℕ). length ks + k) n in
            let two : take 2 (drop entry words) ≡ semi_join_entry t here next =
            two_words words entry (omega arith) ∙ ap₂ (λ (a b : ℕ). a ∷ b ∷ []) one.count one.begins in
            record {
              place = omega (arith, j.place);
              room = rw (← same) one.room;
              entries = rw (enters, twice) (take_after words (vp_entry_at count) (2 * x) 2 j.entries two);
              rows = rw (size, keeps) (take_after words first (length ks) (2 * length (stored_rows t next)) j.rows (rw j.place at stands));
            }

        -- if this one does not hold, not all do
        pub one_fails : {r : Option ℕ} → r ≡ answer → r ≡ None → joins_hold t count words used ≡ false
        one_fails a e = to_false _ (λ whole. not_both (holds t words next entry here used (one (all_held whole))) (ends_wrong _ _ (sym a ∙ e)))
          where
            one : AllHeld → Held t words next entry here used
            one a =
                let long = entries_inside o in
                let b : Block all x (next ∷ []) = record {
                  before = take x all;
                  after = drop (suc x) all;
                  whole = split_at all x no_reduced among;
                  length_before = length-take-le x all (omega (arith, among));
                } in
                let es = rw (semi_join-entries t first all) at (part_block words (vp_entry_at count) (2 * (count * (count * kind_count))) (omega arith) a.entries) in
                let found = inner_block es (entry_block (stored_rows t) (semi_join_entry t) 2 (λ here r. refl) first b) in
                let rs = part_block words first (used - first) o.long a.rows in
                let own = concat_map_block (λ (r : Reduced). table_words (stored_rows t r)) b in
                let found_rows : Block words here (table_words (stored_rows t next)) = block_at (sym j.place) (inner_block rs own) in
                let n = length-table (stored_rows t next) in
                let stands : take (2 * length (stored_rows t next)) (drop here words) ≡ table_words (stored_rows t next) = rw (← n) (take_block found_rows) in
                let l = ap length own.whole ∙ length-append own.before (table_words (stored_rows t next) ++ own.after) in
                let m = length-append (table_words (stored_rows t next)) own.after in
                record {
                  count = head_block found 0;
                  begins = rw (j.place, length-all (stored_rows t) (take x all)) (get_or_block found 1 0 (omega arith));
                  room = omega (arith, stored-length (omega arith) a, j.place, own.length_before);
                  same = equal_words stands;
                }

      -- if the first x are all, only the end of the rows is left to ask
      pub joined-all : x ≡ count * (count * kind_count) → eqb here used ≡ joins_hold t count words used
      joined-all e = bool_ext _ _ (λ h. all_hold (held_all (eqb-true _ _ h))) (λ h. eq-eqb _ _ (ends (all_held h)))
        where
          whole : take x all ≡ all
          whole = take_all x all (rw (length_all_of o, e) (le_refl _))

          place : here ≡ first + length (stored_words t all)
          place = rw whole at j.place

          ends : AllHeld → here ≡ used
          ends a = place ∙ stored-length (omega (arith, j.place, j.room)) a

          held_all : here ≡ used → AllHeld
          held_all same =
              let n : used - first ≡ length (stored_words t all) = omega (arith, place) in
              record {
                entries = rw (whole, e) at j.entries;
                rows = rw n (rw whole at j.rows);
              }

-- The tables that may be chosen for a place, as the code finds them, and the best of them one by one.
use Prim.Native.Nat.{ℕ, suc, ◌+◌, ◌*◌, ◌≤◌, ◌<◌}
use native.Mathlib.Numerals.{add-one, one-add}
use native.Mathlib.Omega.{arith}
use mathlib.Core.Path.{◌≡◌, refl, sym, ap, ◌∙◌}
use mathlib.Core.Bool.{Bool, true, false, cond, ◌&&◌}
use mathlib.Core.List.{[], ◌∷◌, ◌++◌, append-nil}
use lib.ListN.{length}
use lib.Dec.{ltb}
use borrow.Author.Tests.{lt-ltb, le-ltb}
use Rattle.model.specs.Lists.{filter, below}
use Rattle.model.specs.Site.{Site, is_site, most_rows, no_table, table_at}
use Rattle.model.specs.Tables.{Column, Kind, semi_join, kind_count, is_stored}
use Rattle.model.specs.Store.{Store}
use Rattle.model.specs.Pattern.{Pattern, position_at, same_variable, predicate_table, full_table}
use Rattle.model.specs.Plan.{partner, kind_of, qualifies, reduced_table, chosen_table, may_choose}
use Rattle.model.specs.Planner.{best, table_rows, choose_table, chosen_rows}
use Rattle.model.specs.declared.pattern.Position.{Position}
use Rattle.model.specs.declared.pattern.TriplePattern.{TriplePattern}
use Rattle.model.proofs.Booleans.{and_cases, to_false}
use Rattle.model.proofs.Membership.{at_place, filter-append, filter-fewer}
use Rattle.model.proofs.Best.{best_last, best-again}
use Rattle.model.proofs.Below.{below_last}
use Rattle.model.proofs.Partition.{proper, vp-table}
use Rattle.model.proofs.Places.{qualifying}
use Rattle.tables.proofs.Entries.{table-fewer}
use Rattle.positions.specs.Members.{member_at, pattern_in, TableOf, PatternCells, PatternHolds}
use Rattle.positions.specs.declared.pattern.Member.{Member}
use Rattle.positions.specs.declared.pattern.Pattern.{Pattern as Members}
use Rattle.positions.proofs.MemberLaws.{pattern-length, triple_member}
use Rattle.choosing.specs.Choices.{qualifies_by, chooseable_table}
use Rattle.std.specs.Prelude.{Option, Some, None, is_some}
use Rattle.std.specs.Bool.{then_some}

-- ---- the tables of a proper site

module _ (site : Site) (yes-site : is_site site ≡ true) where
  -- the VP table of a predicate is the one at its place
  pub member_table : {m : Member} → TableOf site m → predicate_table site m.triple.predicate ≡ (table_at site m.table).rows
  member_table {m} t = rw t.predicate (vp-table site (table_at site m.table) yes-site (at_place site no_table m.table t.inside))

  pub table_few : (i : ℕ) → length (table_at site i).rows ≤ most_rows
  table_few i = omega (arith, table-fewer site i, (proper site yes-site).row_limit)

  pub left_few : (k : Kind) (i j : ℕ) → length (semi_join k (table_at site i).rows (table_at site j).rows) ≤ most_rows
  unfolding semi_join
  left_few k i j =
      let fewer : length (semi_join k (table_at site i).rows (table_at site j).rows) ≤ length (table_at site i).rows = filter-fewer _ (table_at site i).rows in
      omega (arith, table_few i)

-- ---- one table

-- a value if a test passes, as the code's method gives it
pub some_if : (b : Bool) (n : ℕ) → then_some b n ≡ cond b (Some n) None
some_if true n = refl
some_if false n = refl

-- the positions that a kind names, read by the numbers of its columns
pub same_named : {r : Bool} {x y : Position} {own other : Column} (k : Kind) (q s : TriplePattern) → r ≡ same_variable x y
    → x ≡ position_at own q → own ≡ k.0 → y ≡ position_at other s → other ≡ k.1 → r ≡ same_variable (position_at k.0 q) (position_at k.1 s)
same_named k q s e p u p' u' = e ∙ rw (p, u, p', u') refl

-- by its tests, and by what is read of the store: the threshold, the rows left and the rows of the full table
pub open_by : {store : Store} {a b : Member} (i j : ℕ) (kind : Kind) {t n m : ℕ} {named stored : Bool}
    → is_site store.site ≡ true → TableOf store.site a → TableOf store.site b
    → t ≡ store.threshold → n ≡ length (semi_join kind (table_at store.site a.table).rows (table_at store.site b.table).rows)
    → m ≡ length (table_at store.site a.table).rows
    → qualifies_by a.triple i b.triple j kind ≡ named → is_stored t n m ≡ stored
    → chooseable_table store a i b j kind ≡ cond (named && stored) (Some n) None
unfolding chooseable_table
open_by {store} i j kind yes-site own other et en em es ek =
    rw (member_table store.site yes-site own, member_table store.site yes-site other, ← et, ← en, ← em, es, ek) refl

-- the table that a choice names, given without its 1
abbrev pub chooseable_at : Store → Members → ℕ → ℕ → Option ℕ
chooseable_at store pattern i c = chooseable_table store (member_at pattern i) i (member_at pattern (partner c)) (partner c) (kind_of c)

-- so by the place and the kind that it names
pub named_by : (store : Store) (pattern : Members) (i c : ℕ) {j : ℕ} {kind : Kind} {found : Option ℕ} → j ≡ partner c → kind ≡ kind_of c
    → found ≡ chooseable_table store (member_at pattern i) i (member_at pattern j) j kind → found ≡ chooseable_at store pattern i c
named_by store pattern i c place same f = f ∙ rw (place, same) refl

module _ (store : Store) {pattern : Members} (i c : ℕ) (cells : PatternCells pattern) (h : i < pattern.count) (l : partner c < pattern.count) where
  open_choice : chooseable_at store pattern i c ≡ cond (may_choose store (pattern_in pattern) i (suc c)) (Some (table_rows store (pattern_in pattern) i (suc c))) None
  unfolding chooseable_table may_choose qualifies table_rows chosen_table reduced_table full_table
  open_choice =
      rw (triple_member pattern i h, triple_member pattern (partner c) l, pattern-length cells, lt-ltb i _ h, lt-ltb (partner c) _ l) refl

  pub choice_open : {found : Option ℕ} {r : ℕ} → found ≡ chooseable_at store pattern i c → found ≡ Some r
      → (may_choose store (pattern_in pattern) i (suc c) ≡ true) × (r ≡ table_rows store (pattern_in pattern) i (suc c))
  choice_open {r} f e = go (may_choose store (pattern_in pattern) i (suc c)) (table_rows store (pattern_in pattern) i (suc c)) (sym open_choice ∙ sym f ∙ e)
    where
      go : (b : Bool) (n : ℕ) → cond b (Some n) None ≡ Some r → (b ≡ true) × (r ≡ n)
      go true n e = (refl, cc)
      go false n e = (cc, cc)

  -- whether the code finds it
  pub choice_found : {found : Option ℕ} → found ≡ chooseable_at store pattern i c → is_some found ≡ may_choose store (pattern_in pattern) i (suc c)
  choice_found f = ap is_some (f ∙ open_choice) ∙ go (may_choose store (pattern_in pattern) i (suc c)) (table_rows store (pattern_in pattern) i (suc c))
    where
      go : (b : Bool) (n : ℕ) → is_some (cond b (Some n) None) ≡ b
      go true n = refl
      go false n = refl

  pub choice_closed : {found : Option ℕ} → found ≡ chooseable_at store pattern i c → found ≡ None → may_choose store (pattern_in pattern) i (suc c) ≡ false
  choice_closed f e = go (may_choose store (pattern_in pattern) i (suc c)) (table_rows store (pattern_in pattern) i (suc c)) (sym open_choice ∙ sym f ∙ e)
    where
      go : (b : Bool) (n : ℕ) → cond b (Some n) None ≡ None → b ≡ false
      go true n e = cc
      go false n e = refl

-- a choice against a place that the pattern does not have
pub past_pattern : (store : Store) (pattern : Members) (i c : ℕ) → PatternCells pattern → pattern.count ≤ partner c
    → may_choose store (pattern_in pattern) i (suc c) ≡ false
unfolding may_choose
past_pattern store pattern i c cells h =
    to_false _ λ e.
    let q = qualifying (pattern_in pattern) i (partner c) (kind_of c) (and_cases _ _ e).0 in
    omega (arith, q.there, pattern-length cells)

-- the rows of the full table
pub full_rows : (store : Store) (pattern : Members) (i : ℕ) → is_site store.site ≡ true → PatternHolds store.site pattern → i < pattern.count
    → length (table_at store.site (member_at pattern i).table).rows ≡ table_rows store (pattern_in pattern) i 0
unfolding table_rows chosen_table full_table
full_rows store pattern i yes-site holds h =
    rw (triple_member pattern i h, member_table store.site yes-site (holds.tables i h)) refl

-- ---- the best of the choices

module _ (store : Store) (pattern : Pattern) (i : ℕ) where
  abbrev may : ℕ → Bool
  may = may_choose store pattern i

  abbrev rows_of : ℕ → ℕ
  rows_of = table_rows store pattern i

  -- the best of VP and the c choices behind it
  abbrev best_to : ℕ → ℕ
  best_to c = best (λ x y. ltb (rows_of x) (rows_of y)) 0 (filter may (below (suc c)))

  pub record BestTo (c number rows : ℕ) : Type 0 where
    pub chosen : number ≡ best_to c
    pub counted : rows ≡ rows_of number

  pub best_none : {rows : ℕ} → rows ≡ rows_of 0 → BestTo 0 0 rows
  unfolding may_choose
  best_none e = record { chosen = sym (best-again (λ x y. ltb (rows_of x) (rows_of y)) 0 []); counted = e }

  pub best-all : {c number rows : ℕ} → BestTo c number rows → c ≡ length pattern * kind_count
      → (number ≡ choose_table store pattern i) × (rows ≡ chosen_rows store pattern i)
  unfolding choose_table chosen_rows
  best-all {c} {number} v e =
      let whole : suc c ≡ 1 + length pattern * kind_count = omega arith in
      let same : number ≡ choose_table store pattern i = v.chosen ∙ ap (λ n. best (λ x y. ltb (rows_of x) (rows_of y)) 0 (filter may (below n))) whole in
      (same, v.counted ∙ ap rows_of same)

  -- one choice more
  best-next : {c number rows : ℕ} (b d : Bool) → BestTo c number rows → may (suc c) ≡ b → ltb (rows_of (suc c)) rows ≡ d
      → cond b (cond d (suc c) number) number ≡ best_to (suc c)
  best-next {c} {number} {rows} b d v p q =
      sym
      (ap (λ l. best fewer 0 (filter may l)) (below_last (suc c))
      ∙ ap (best fewer 0) (filter-append may (below (suc c)) (suc c ∷ []))
      ∙ rw p (go b))
    where
      fewer : ℕ → ℕ → Bool
      fewer x y = ltb (rows_of x) (rows_of y)

      go : (b : Bool) → best fewer 0 (filter may (below (suc c)) ++ cond b (suc c ∷ []) []) ≡ cond b (cond d (suc c) number) number
      go true = best_last fewer 0 (filter may (below (suc c))) (suc c) ∙ rw (← v.chosen, ← v.counted, q) refl
      go false = ap (best fewer 0) (append-nil (filter may (below (suc c)))) ∙ sym v.chosen

-- the answer for the next choice, and what the code makes of it
module _ {store : Store} {pattern : Members} {i c number rows number' rows' : ℕ} {found : Option ℕ} (cells : PatternCells pattern) (h : i < pattern.count)
    (v : BestTo store (pattern_in pattern) i c number rows) (l : c < pattern.count * kind_count) (f : found ≡ chooseable_at store pattern i c) where
  pub best_better : {r : ℕ} → found ≡ Some r → r < rows → number' ≡ 1 + c → rows' ≡ r → BestTo store (pattern_in pattern) i (c + 1) number' rows'
  best_better e k p q =
      let (allowed, same) = choice_open store i c cells h (omega arith) f e in
      let fewer = lt-ltb (table_rows store (pattern_in pattern) i (suc c)) rows (omega arith) in
      rw (add-one c, p ∙ one-add c, q) (record { chosen = best-next store (pattern_in pattern) i true true v allowed fewer; counted = same })

  pub best_kept : {r : ℕ} → found ≡ Some r → rows ≤ r → number' ≡ number → rows' ≡ rows → BestTo store (pattern_in pattern) i (c + 1) number' rows'
  best_kept e k p q =
      let (allowed, same) = choice_open store i c cells h (omega arith) f e in
      let no_fewer = le-ltb (table_rows store (pattern_in pattern) i (suc c)) rows (omega arith) in
      rw (add-one c, p, q) (record { chosen = best-next store (pattern_in pattern) i true false v allowed no_fewer; counted = v.counted })

  pub best_closed : found ≡ None → number' ≡ number → rows' ≡ rows → BestTo store (pattern_in pattern) i (c + 1) number' rows'
  best_closed e p q =
      let shut = choice_closed store i c cells h (omega arith) f e in
      rw (add-one c, p, q) (record { chosen = best-next store (pattern_in pattern) i false _ v shut refl; counted = v.counted })

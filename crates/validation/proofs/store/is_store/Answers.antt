-- Each return by the part of question 10 that it asks.
use Prim.Native.Nat.{ℕ, ◌≤◌}
use native.Mathlib.Omega.{arith}
use mathlib.Core.Path.{◌≡◌, refl, sym, ◌∙◌}
use mathlib.Core.Bool.{Bool, true, false, cond}
use mathlib.Core.List.{List}
use mathlib.Core.Logic.{⊎_elim}
use lib.ListN.{length, get_or}
use Rattle.std.specs.Prelude.{Option, Some, None}
use Rattle.model.specs.Site.{most_predicates}
use Rattle.model.specs.Tables.{most_threshold}
use Rattle.model.specs.Store.{decoded, is_store_of}
use Rattle.tables.specs.SiteWords.{entries_proper}
use Rattle.model.proofs.Booleans.{to_false, not_both}
use Rattle.validation.proofs.Decoding.{rows_end, Parts, parts, stored-start, words_image, rows_good, rows_bad}
use Rattle.validation.proofs.store.is_store.Goals.{then-w-used-via-then-w-used, then-w-used-via-else-w-used+then-used-rows_start}
use Rattle.validation.proofs.store.is_store.Goals as goal

-- words that are a store are none of those refused
no_store : (w : List ℕ) → (Parts w → ⊥) → false ≡ is_store_of (decoded w) w
no_store w h = sym (to_false _ (λ e. h (parts w e)))

-- what the answer of `rows_end` says
was_none : (b : Bool) (n : ℕ) → cond b (Some n) None ≡ None → b ≡ false
was_none true n e = cc
was_none false n e = refl

was_some : (b : Bool) (n m : ℕ) → cond b (Some n) None ≡ Some m → (b ≡ true) × (m ≡ n)
was_some true n m e = (refl, cc)
was_some false n m e = (cc, cc)

-- the entries are proper, and `first` is where the declared rows end
module _ (w : List ℕ) {found : Option ℕ} {first : ℕ} (told : found ≡ cond (entries_proper (get_or w 0 0) w) (Some (rows_end (get_or w 0 0) w)) None) (is : found ≡ Some first) where
  ended : (entries_proper (get_or w 0 0) w ≡ true) × (first ≡ rows_end (get_or w 0 0) w)
  ended = was_some _ _ _ (sym told ∙ is)

  -- what is asked before the rows
  asked : get_or w 0 0 ≤ most_predicates → get_or w 1 0 ≤ most_threshold → get_or w 2 0 ≤ length w → first ≤ get_or w 2 0 → Parts w
  asked few threshold inside room =
      record { few = few; threshold = threshold; inside = inside; entries = ended.0; rows = omega (arith, room, ended.1) }

pub returns-in_default : goal.returns-in_default
returns-in_default c = no_store _ (λ x. omega (arith, x.inside, x.rows, c.in_default.len_below))

pub returns-then-count-gt-MOST_PREDICATES : goal.returns-then-count-gt-MOST_PREDICATES
returns-then-count-gt-MOST_PREDICATES c =
    no_store _ (λ x. ⊎_elim (λ a. omega (arith, x.few, a)) (λ a. omega (arith, x.threshold, a.1)) c.then-count-gt-MOST_PREDICATES.either)

pub returns-then-w-used : goal.returns-then-w-used
returns-then-w-used c =
    no_store _ (λ x. elim c.then-w-used.branch [
      | then-w-used-via-then-w-used w ↦ omega (arith, x.inside, w.if-w-used.true)
      | then-w-used-via-else-w-used+then-used-rows_start w ↦ omega (arith, x.rows, w.rows_start.ensures, w.if-used-rows_start.true)
    ])

pub returns-in_default-rows_end : goal.returns-in_default-rows_end
returns-in_default-rows_end c = no_store _ (λ x. not_both x.entries (was_none _ _ (sym c.rows_end.ensures ∙ c.in_default-rows_end.is)))

pub returns-then-used-first : goal.returns-then-used-first
returns-then-used-first c =
    no_store _ (λ x. omega (arith, x.rows, c.if-used-first.true, (ended c.args.w.now c.rows_end.ensures c.in-Some.is).1))

pub tables_proper-requires : goal.tables_proper-requires
tables_proper-requires c =
    let x = asked c.args.w.now c.rows_end.ensures c.in-Some.is (omega arith) (omega arith) (omega arith) (omega arith) in
    (x.few, x.entries, omega (arith, x.rows, x.inside))

pub semi_joins_hold-requires : goal.semi_joins_hold-requires
semi_joins_hold-requires c =
    let x = asked c.args.w.now c.rows_end.ensures c.in-Some.is (omega arith) (omega arith) (omega arith) (omega arith) in
    record {
      image = words_image _ x (sym c.tables_proper.ensures ∙ c.if-tables_proper.true);
      threshold = x.threshold;
      begins = (ended c.args.w.now c.rows_end.ensures c.in-Some.is).1 ∙ sym (stored-start _ x);
      ordered = c.if-used-first.false;
      inside = x.inside;
    }

pub returns-then-tables_proper : goal.returns-then-tables_proper
returns-then-tables_proper c =
    let x = asked c.args.w.now c.rows_end.ensures c.in-Some.is (omega arith) (omega arith) (omega arith) (omega arith) in
    rows_good _ x (sym c.tables_proper.ensures ∙ c.if-tables_proper.true) c.semi_joins_hold.ensures

pub returns-else-tables_proper : goal.returns-else-tables_proper
returns-else-tables_proper c =
    let x = asked c.args.w.now c.rows_end.ensures c.in-Some.is (omega arith) (omega arith) (omega arith) (omega arith) in
    rows_bad _ x (sym c.tables_proper.ensures ∙ c.if-tables_proper.false) c.if-tables_proper.false

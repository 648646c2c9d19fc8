-- How many words a store has at most.
use Prim.Native.Nat.{ℕ, ◌*◌, ◌≤◌}
use native.Mathlib.Nat.{mul-le-mul}
use native.Mathlib.Omega.{arith}
use mathlib.Core.Path.{◌≡◌}
use mathlib.Core.Bool.{Bool, true, false, cond}
use mathlib.Core.List.{List, [], ◌∷◌, map}
use lib.ListN.{length, length-append}
use Rattle.model.specs.Lists.{concat_map}
use Rattle.model.specs.Site.{Table, Site, is_site, row_total}
use Rattle.model.specs.Tables.{Kind, kinds, kind_count, semi_join}
use Rattle.model.specs.Store.{semi_joins, is_stored_table, stored_rows, stored_words, layout, most_store_words}
use Rattle.model.proofs.Membership.{filter-fewer}
use Rattle.model.proofs.Partition.{proper}
use Rattle.model.proofs.Blocks.{concat_map-append}
use Rattle.model.proofs.StoreLayout.{length-table, reduced, against_all, length-layout}

module _ (t : ℕ) where
  stored-fewer : (p q : Table) (k : Kind) → length (stored_rows t (reduced p q k)) ≤ length p.rows
  unfolding stored_rows semi_join
  stored-fewer p q k = go (is_stored_table t (reduced p q k))
    where
      go : (b : Bool) → length (cond b (reduced p q k).rows []) ≤ length p.rows
      go true = filter-fewer _ p.rows
      go false = omega arith

  -- the words stored of one predicate against another
  words_of_kinds : (p q : Table) (ks : List Kind) → length (stored_words t (map (reduced p q) ks)) ≤ 2 * (length p.rows * length ks)
  words_of_kinds p q [] = omega arith
  words_of_kinds p q (k ∷ ks) = rw (length-append, length-table) (omega (arith, stored-fewer p q k, words_of_kinds p q ks))

  -- against all
  words_of_one : (p : Table) (qs : Site) → length (stored_words t (against_all qs p)) ≤ 2 * (length p.rows * (length qs * kind_count))
  words_of_one p [] = omega arith
  words_of_one p (q ∷ qs) = rw (concat_map-append, length-append) (omega (arith, words_of_kinds p q kinds, words_of_one p qs))

  -- and of each predicate of a site against all of another
  words_of_all : (ps qs : Site) → length (stored_words t (concat_map (against_all qs) ps)) ≤ 2 * (row_total ps * (length qs * kind_count))
  words_of_all [] qs = omega arith
  words_of_all (p ∷ ps) qs = rw (concat_map-append, length-append) (omega (arith, words_of_one p qs, words_of_all ps qs))

pub store_fits : (t : ℕ) (site : Site) → is_site site ≡ true → length (layout t site) ≤ most_store_words
unfolding semi_joins
store_fits t site yes-site =
    let predicates = (proper site yes-site).predicate_limit in
    let rows = (proper site yes-site).row_limit in
    rw length-layout (omega (arith, mul-le-mul predicates predicates, mul-le-mul rows predicates, words_of_all t site site))

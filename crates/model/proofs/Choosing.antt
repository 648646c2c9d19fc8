-- The table chosen for a place: of those that may be chosen the first with fewest rows.
use Prim.Native.Nat.{ℕ, zero, suc, ◌+◌, ◌*◌, ◌≤◌, ◌<◌}
use native.Mathlib.Omega.{arith}
use native.Mathlib.Numerals.{one-add}
use mathlib.Core.Path.{◌≡◌, sym, subst}
use mathlib.Core.Logic.{◌⊎◌, inl, inr}
use mathlib.Core.Bool.{Bool, true}
use lib.ListN.{length}
use lib.Dec.{ltb}
use borrow.Author.Tests.{ltb-true}
use Rattle.model.specs.Lists.{filter, count_up, below}
use Rattle.model.specs.Tables.{kind_count}
use Rattle.model.specs.Store.{Store}
use Rattle.model.specs.Pattern.{Pattern}
use Rattle.model.specs.Plan.{is_place, partner, kind_of, qualifies, may_choose}
use Rattle.model.specs.Planner.{best, choices, table_rows, choose_table}
use Rattle.model.proofs.Booleans.{and_cases}
use Rattle.model.proofs.Membership.{from_filter, into_filter}
use Rattle.model.proofs.Below.{into_below, count_up-ascends}
use Rattle.model.proofs.Order.{numbers, ascends-filter}
use Rattle.model.proofs.Best.{Relation, Fewest, Lowest, IsFirst, fewest, best-first, best-again}

-- ---- choice numbers

-- choices against one place come before those against a later place
pub choice_order : (j k l m : ℕ) → k < kind_count → j < l → 1 + (j * kind_count + k) < 1 + (l * kind_count + m)
choice_order j k l m h r = omega arith

-- ---- the choice

-- it may be chosen, none that may has fewer rows, and any with as few comes later
pub record ChosenTable (store : Store) (pattern : Pattern) (i : ℕ) : Type 0 where
  pub allowed : may_choose store pattern i (choose_table store pattern i) ≡ true
  pub fewest : (d : ℕ) → may_choose store pattern i d ≡ true
      → table_rows store pattern i (choose_table store pattern i) ≤ table_rows store pattern i d
  pub first : (d : ℕ) → may_choose store pattern i d ≡ true
      → table_rows store pattern i d ≡ table_rows store pattern i (choose_table store pattern i) → choose_table store pattern i ≤ d

module _ (store : Store) (pattern : Pattern) (i : ℕ) where
  -- a choice that may be made is against a place of the pattern
  allowed_below : (d : ℕ) → may_choose store pattern i d ≡ true → d < 1 + length pattern * kind_count
  unfolding may_choose qualifies
  allowed_below zero h = omega arith
  allowed_below (suc c) h =
      let q = (and_cases _ _ (and_cases (qualifies pattern i (partner c) (kind_of c)) _ h).0).0 in
      let p = ltb-true (partner c) (length pattern) (and_cases _ _ (and_cases (is_place pattern i) _ q).1).0 in
      omega arith

  abbrev may : ℕ → Bool
  may = may_choose store pattern i

  abbrev rows_of : ℕ → ℕ
  rows_of = table_rows store pattern i

  abbrev Sooner : Relation
  Sooner = Fewest rows_of Lowest

  abbrev fewer : ℕ → ℕ → Bool
  fewer c d = ltb (rows_of c) (rows_of d)

  -- VP, choice 0, may always be chosen, so the choices begin with it
  chosen-first : IsFirst Sooner (filter may (choices pattern)) (choose_table store pattern i)
  unfolding choose_table may_choose
  chosen-first =
      let n = length pattern * kind_count in
      subst (λ m. IsFirst Sooner (filter may (below m)) (best fewer 0 (filter may (below m)))) (sym (one-add n))
      (rw (best-again fewer 0 (filter may (count_up 1 n)))
      (best-first (fewest rows_of) 0 (filter may (count_up 1 n))
      (ascends-filter ltb numbers may (below (suc n)) (count_up-ascends 0 (suc n)))))

  pub chosen-table : ChosenTable store pattern i
  chosen-table = record {
    allowed = (from_filter may (choices pattern) chosen-first.member).1;
    fewest = λ d h. no_fewer d (others d h);
    first = λ d h e. no_sooner d e (others d h);
  }
    where
      Comes : ℕ → Type 0
      Comes d = (d ≡ choose_table store pattern i) ⊎ Sooner (choose_table store pattern i) d

      others : (d : ℕ) → may d ≡ true → Comes d
      others d h = chosen-first.before d (into_filter may (into_below _ (allowed_below d h)) h)

      no_fewer : (d : ℕ) → Comes d → rows_of (choose_table store pattern i) ≤ rows_of d
      no_fewer d (inl q) = rw q (omega arith)
      no_fewer d (inr (inl l)) = omega arith
      no_fewer d (inr (inr t)) = omega arith

      no_sooner : (d : ℕ) → rows_of d ≡ rows_of (choose_table store pattern i) → Comes d → choose_table store pattern i ≤ d
      no_sooner d e (inl q) = omega arith
      no_sooner d e (inr (inl l)) = absurd (omega arith)
      no_sooner d e (inr (inr t)) = omega arith

-- The plan that the planner gives is proper: each place once, with a table that may be chosen.
use Prim.Native.Nat.{ℕ, zero, suc}
use mathlib.Core.Path.{◌≡◌, refl, sym, ap, subst}
use mathlib.Core.Bool.{true, not}
use mathlib.Core.List.Memᴰ
use mathlib.Core.List.{List, [], ◌∷◌, ◌++◌}
use lib.ListN.{length, length-map}
use lib.Dec.{eqb}
use borrow.Author.Tests.{lt-ltb, eq-eqb, eqb-true, not-true}
use Rattle.model.specs.Lists.{◌∈◌, any}
use Rattle.model.specs.Store.{Store}
use Rattle.model.specs.Pattern.{Pattern, places}
use Rattle.model.specs.Plan.{Step, may_choose, places_of, distinct, is_step, is_proper}
use Rattle.model.specs.Planner.{without, order, planned}
use Rattle.model.proofs.Booleans.{and_make, not_both, to_false}
use Rattle.model.proofs.Membership.{from_filter, from_any, into_all}
use Rattle.model.proofs.Below.{from_below}
use Rattle.model.proofs.Choosing.{chosen-table}
use Rattle.model.proofs.Ordering.{Ordered, from_ordered, ordered}

module _ (store : Store) (pattern : Pattern) where
  -- what is picked remains no more
  ordered_distinct : (taken remaining is : List ℕ) → Ordered store pattern taken remaining is → distinct is ≡ true
  ordered_distinct taken remaining [] o = refl
  ordered_distinct taken remaining (i ∷ is) o =
      and_make (ap not (to_false (any (eqb i) is) again)) (ordered_distinct (taken ++ i ∷ []) (without i remaining) is o.1)
    where
      again : any (eqb i) is ≡ true → ⊥
      again e =
          let r = from_any (eqb i) is e in
          let k = (from_filter (λ j. not (eqb j i)) remaining (from_ordered store pattern (taken ++ i ∷ []) (without i remaining) is o.1 r.1)).1 in
          not_both (eq-eqb r.0 i (sym (eqb-true i r.0 r.2))) (not-true (eqb r.0 i) k)

  order-length : (n : ℕ) (taken remaining : List ℕ) → length (order store pattern n taken remaining) ≡ n
  unfolding order
  order-length zero taken remaining = refl
  order-length (suc n) taken remaining = ap suc (order-length n _ _)

  pub planned-length : length (planned store pattern) ≡ length pattern
  unfolding planned
  planned-length = rw length-map (order-length (length pattern) [] (places pattern))

  planned_steps : (x : Step) → x ∈ planned store pattern → is_step store pattern x ≡ true
  unfolding planned
  planned_steps x m =
      let place = from_ordered store pattern [] (places pattern) (places_of (planned store pattern)) (ordered store pattern) (Memᴰ.map (λ y. y.place) m) in
      let r = Memᴰ.of_map _ (order store pattern (length pattern) [] (places pattern)) m in
      and_make (lt-ltb x.place (length pattern) (from_below (length pattern) place))
      (subst (λ y. may_choose store pattern y.place y.choice ≡ true) r.2 (chosen-table store pattern r.0).allowed)

  pub planned_proper : is_proper store pattern (planned store pattern) ≡ true
  unfolding is_proper
  planned_proper =
      and_make (eq-eqb (length (planned store pattern)) (length pattern) planned-length)
      (and_make (into_all (is_step store pattern) (planned store pattern) planned_steps)
      (ordered_distinct [] (places pattern) (places_of (planned store pattern)) (ordered store pattern)))

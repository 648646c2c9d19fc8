-- What may be chosen, exactly; which table a choice names; and which places share a variable.
use Prim.Native.Nat.{ℕ, zero, suc, ◌+◌, ◌*◌, ◌%◌, ◌≤◌, ◌<◌}
use native.Mathlib.Omega.{arith}
use native.Mathlib.Numerals.{one-add}
use native.Mathlib.Nat.{mul-le-mul_right}
use mathlib.Core.Path.{◌≡◌, refl, sym}
use mathlib.Core.Logic.{◌⊎◌, inl, inr, ◌↔◌}
use mathlib.Core.Bool.{true, false}
use mathlib.Core.List.Memᴰ
use mathlib.Core.List.{List}
use lib.ListN.{length}
use lib.Dec.{ltb}
use borrow.Author.Tests.{ltb-true, lt-ltb, eq-eqb}
use Rattle.model.specs.Lists.{◌∈◌, any}
use Rattle.model.specs.Site.{Site}
use Rattle.model.specs.Tables.{kind_at, kind_count, most_threshold, is_stored}
use Rattle.model.specs.Store.{Store}
use Rattle.model.specs.Pattern.{Pattern, positions, triple_at, same_variable}
use Rattle.model.specs.Plan.{partner, qualifies, reduced_table, chosen_table, may_choose, StoredChoice}
use Rattle.model.specs.Planner.{share_variable, is_joined}
use Rattle.model.specs.declared.pattern.Position.TheVariants.{Var}
use Rattle.model.specs.declared.pattern.TriplePattern.{TriplePattern}
use Rattle.model.proofs.Booleans.{and_cases, and_make, to_false}
use Rattle.model.proofs.Membership.{from_any, into_any}
use Rattle.model.proofs.Places.{one_variable}

-- ---- stored

pub stored_exactly : (t n m : ℕ) → (is_stored t n m ≡ true) ↔ ((1 ≤ n) × (1000 * n < t * m))
unfolding is_stored
stored_exactly t n m = (
  (λ h. let c = and_cases (ltb 0 n) (ltb (1000 * n) (t * m)) h in (ltb-true 0 n c.0, ltb-true (1000 * n) (t * m) c.1)),
  λ c. and_make (lt-ltb 0 n c.0) (lt-ltb (1000 * n) (t * m) c.1),
)

-- a table that keeps all its rows is not, at any T
pub whole_not_stored : (t n : ℕ) → t ≤ most_threshold → is_stored t n n ≡ false
whole_not_stored t n h = to_false (is_stored t n n) (λ e. omega (arith, ((stored_exactly t n n).0 e).1, mul-le-mul_right n h))

-- ---- choices

-- the place and the kind of choice 1 + 4j + k
numbers_back : (j k : ℕ) → k < kind_count → (partner (kind_count * j + k) ≡ j) × ((kind_count * j + k) % kind_count ≡ k)
numbers_back j k h = (omega arith, omega arith)

pub chosen-reduced : (site : Site) (pattern : Pattern) (i j k : ℕ) → k < kind_count
    → chosen_table site pattern i (suc (kind_count * j + k)) ≡ reduced_table site pattern i j (kind_at k)
unfolding chosen_table
chosen-reduced site pattern i j k h = let b = numbers_back j k h in rw (b.0, b.1) refl

module _ (store : Store) (pattern : Pattern) (i : ℕ) where
  pub may_choose_lem : (c : ℕ) → may_choose store pattern i c ≡ true → (c ≡ 0) ⊎ StoredChoice store pattern i c
  unfolding may_choose chosen_table
  may_choose_lem zero h = inl refl
  may_choose_lem (suc c) h =
      let j = partner c in
      let k = c % kind_count in
      let parts = and_cases (qualifies pattern i j (kind_at k)) _ h in
      let stored = (stored_exactly store.threshold (length (reduced_table store.site pattern i j (kind_at k))) _).0 parts.1 in
      inr (record { j = j; k = k; one_of_four = omega arith; number = omega arith; qualified = parts.0; some_row = stored.0; within_threshold = stored.1 })

  pub may_be_chosen : (c : ℕ) → (c ≡ 0) ⊎ StoredChoice store pattern i c → may_choose store pattern i c ≡ true
  unfolding may_choose
  may_be_chosen c (inl e) = rw e refl
  may_be_chosen c (inr s) =
      let b = numbers_back s.j s.k s.one_of_four in
      rw (s.number, one-add, chosen-reduced store.site pattern i s.j s.k s.one_of_four, b.0, b.1)
      (and_make s.qualified ((stored_exactly store.threshold _ _).1 (s.some_row, s.within_threshold)))

-- ---- shared variables

pub shares : (q r : TriplePattern) → (share_variable q r ≡ true) ↔ ((v : ℕ) × (Var v ∈ positions q) × (Var v ∈ positions r))
shares q r = (from, λ s. into_any (λ x. any (same_variable x) (positions r)) s.1 (into_any (same_variable (Var s.0)) s.2 (eq-eqb s.0 s.0 refl)))
  where
    from : share_variable q r ≡ true → (v : ℕ) × (Var v ∈ positions q) × (Var v ∈ positions r)
    from h =
        let x = from_any (λ x. any (same_variable x) (positions r)) (positions q) h in
        let y = from_any (same_variable x.0) (positions r) x.2 in
        let v = one_variable x.0 y.0 y.2 in
        (v.0, Memᴰ.cast (sym v.1) x.1, Memᴰ.cast (sym v.2) y.1)

pub joined_exactly : (pattern : Pattern) (taken : List ℕ) (i : ℕ)
    → (is_joined pattern taken i ≡ true)
    ↔ ((j : ℕ) × (j ∈ taken) × ((v : ℕ) × (Var v ∈ positions (triple_at pattern i)) × (Var v ∈ positions (triple_at pattern j))))
unfolding is_joined
joined_exactly pattern taken i = (
  (λ h. let j = from_any _ taken h in (j.0, j.1, (shares (triple_at pattern i) (triple_at pattern j.0)).0 j.2)),
  λ s. into_any _ s.1 ((shares (triple_at pattern i) (triple_at pattern s.0)).1 s.2),
)

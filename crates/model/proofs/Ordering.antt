-- The order of a plan: each pick is the first competitor by most terms, then fewest rows, then lowest place.
use Prim.Native.Nat.{ℕ, zero, suc}
use native.Mathlib.Omega.{arith}
use mathlib.Core.Path.{◌≡◌, refl, sym, ap, subst}
use mathlib.Core.Logic.{◌⊎◌, inl, inr, ⊎_elim, ⊎_map}
use mathlib.Core.Bool.{Bool, true, false, not}
use mathlib.Core.List.Memᴰ
use mathlib.Core.List.{List, [], ◌∷◌, ◌++◌, map, append-nil, map-map, map-id}
use lib.ListN.{length}
use lib.Seq.{append_snoc}
use lib.Dec.{eqb, ltb}
use borrow.Author.Tests.{ltb-true, eqb-true, eq-eqb, ne_eqb}
use Rattle.model.specs.Lists.{◌∈◌, filter, ascends}
use Rattle.model.specs.Store.{Store}
use Rattle.model.specs.Pattern.{Pattern, places}
use Rattle.model.specs.Plan.{places_of}
use Rattle.model.specs.Planner.{choose_table, is_joined, term_count, chosen_rows, beats, or_else, competitors, best_of, without, pick, order, planned, Competes, Precedes}
use Rattle.model.proofs.Booleans.{not_both, to_false}
use Rattle.model.proofs.Membership.{no_element, at_place, from_filter, into_filter, filter-all}
use Rattle.model.proofs.Order.{numbers, first_before, ascends_tail, ascends-filter}
use Rattle.model.proofs.Best.{Relation, Decides, fewest, most, IsFirst, best_of-first}
use Rattle.model.proofs.Below.{length-count_up, count_up-ascends}

-- ---- one taken away

-- an ascending list has each number once
length_without : {i : ℕ} (xs : List ℕ) → ascends ltb xs ≡ true → i ∈ xs → suc (length (without i xs)) ≡ length xs
length_without [] e m = elim m [ ]
length_without {i} (x ∷ xs) e (Memᴰ.head q) =
    rw (eq-eqb x i (sym q)) (ap (λ l. suc (length l)) (filter-all (λ j. not (eqb j i)) xs other))
  where
    other : (j : ℕ) → j ∈ xs → not (eqb j i) ≡ true
    other j m = let h = ltb-true x j (first_before ltb numbers x xs e m) in rw (ne_eqb j i (omega arith)) refl
length_without {i} (x ∷ xs) e (Memᴰ.tail m) =
    let h = ltb-true x i (first_before ltb numbers x xs e m) in
    rw (ne_eqb x i (omega arith)) (ap suc (length_without xs (ascends_tail ltb numbers x xs e) m))

-- ---- what is said

-- a competitor that no competitor beats
pub record Picked (store : Store) (pattern : Pattern) (taken remaining : List ℕ) (i : ℕ) : Type 0 where
  pub remains : i ∈ remaining
  pub competes : Competes pattern taken remaining i
  pub unbeaten : (j : ℕ) → j ∈ remaining → Competes pattern taken remaining j → (j ≡ i → ⊥) → Precedes store pattern taken i j

-- each is picked when those before it are taken, until none remains
abbrev pub Ordered : Store → Pattern → List ℕ → List ℕ → List ℕ → Type 0
Ordered store pattern taken remaining [] = remaining ≡ []
Ordered store pattern taken remaining (i ∷ is) =
    Picked store pattern taken remaining i × Ordered store pattern (taken ++ i ∷ []) (without i remaining) is

-- ---- one pick

module _ (store : Store) (pattern : Pattern) (taken remaining : List ℕ) where
  abbrev joins : ℕ → Bool
  joins = is_joined pattern taken

  abbrev Before : Relation
  Before = Precedes store pattern taken

  decides : Decides (beats store pattern taken) Before
  unfolding beats
  decides = most (term_count pattern taken) (fewest (chosen_rows store pattern))

  -- the first comes before every other
  another : {i j : ℕ} → (j ≡ i) ⊎ Before i j → (j ≡ i → ⊥) → Before i j
  another c h = ⊎_elim (λ q. absurd (h q)) (λ p. p) c

  -- none shares a variable: all compete
  of_all : {i : ℕ} → ((j : ℕ) → j ∈ remaining → joins j ≡ false) → IsFirst Before remaining i → Picked store pattern taken remaining i
  of_all apart f = record { remains = f.member; competes = inr apart; unbeaten = λ j m c h. another (f.before j m) h }

  -- some do: only they compete
  of_joined : {i x : ℕ} → x ∈ filter joins remaining → IsFirst Before (filter joins remaining) i → Picked store pattern taken remaining i
  of_joined {i} {x} n f =
      let r = from_filter joins remaining f.member in
      record { remains = r.0; competes = inl r.1; unbeaten = λ j m c h. another (f.before j (competitor j m c)) h }
    where
      competitor : (j : ℕ) → j ∈ remaining → Competes pattern taken remaining j → j ∈ filter joins remaining
      competitor j m (inl e) = into_filter joins m e
      competitor j m (inr apart) = let r = from_filter joins remaining n in not_both r.1 (apart x r.0)

  -- the pick from some that ascend
  picked : {y : ℕ} → y ∈ remaining → ascends ltb remaining ≡ true → Picked store pattern taken remaining (pick store pattern taken remaining)
  unfolding pick competitors
  picked m e = go (filter joins remaining) refl
    where
      go : (l : List ℕ) → filter joins remaining ≡ l → Picked store pattern taken remaining (best_of (beats store pattern taken) (or_else l remaining))
      go [] q =
          of_all (λ j n. to_false (joins j) (λ t. Memᴰ.not-nil (rw q at (into_filter joins n t)))) (best_of-first decides remaining m e)
      go (x ∷ xs) q =
          let n : x ∈ filter joins remaining = rw q (Memᴰ.head refl) in
          subst (λ l. Picked store pattern taken remaining (best_of (beats store pattern taken) l)) q
          (of_joined n (best_of-first decides (filter joins remaining) n (ascends-filter ltb numbers joins remaining e)))

-- ---- all picks

module _ (store : Store) (pattern : Pattern) where
  order_picks : (n : ℕ) (taken remaining : List ℕ) → ascends ltb remaining ≡ true → length remaining ≡ n
      → Ordered store pattern taken remaining (order store pattern n taken remaining)
  unfolding order
  order_picks zero taken remaining e l = no_element remaining l
  order_picks (suc n) taken remaining e l =
      let i = pick store pattern taken remaining in
      let p = picked store pattern taken remaining (at_place remaining 0 0 (omega arith)) e in
      let c = length_without remaining e p.remains in
      (p, order_picks n (taken ++ i ∷ []) (without i remaining) (ascends-filter ltb numbers (λ j. not (eqb j i)) remaining e) (omega arith))

  -- what is picked remained
  pub from_ordered : {i : ℕ} (taken remaining is : List ℕ) → Ordered store pattern taken remaining is → i ∈ is → i ∈ remaining
  from_ordered taken remaining [] o m = absurd (Memᴰ.not-nil m)
  from_ordered {i} taken remaining (k ∷ is) o m =
      go (Memᴰ.cases_cons m) (λ n. from_ordered (taken ++ k ∷ []) (without k remaining) is o.1 n)
    where
      go : (i ≡ k) ⊎ i ∈ is → (i ∈ is → i ∈ without k remaining) → i ∈ remaining
      go (inl q) rest = Memᴰ.cast q o.0.remains
      go (inr n) rest = (from_filter (λ j. not (eqb j k)) remaining (rest n)).0

  -- what remains is picked
  into_ordered : {i : ℕ} (taken remaining is : List ℕ) → Ordered store pattern taken remaining is → i ∈ remaining → i ∈ is
  into_ordered taken remaining [] o m = rw o at m
  into_ordered {i} taken remaining (k ∷ is) o m =
      go (eqb i k) refl (λ n. into_ordered (taken ++ k ∷ []) (without k remaining) is o.1 n)
    where
      go : (b : Bool) → eqb i k ≡ b → (i ∈ without k remaining → i ∈ is) → i ∈ k ∷ is
      go true e rest = Memᴰ.head (eqb-true i k e)
      go false e rest = Memᴰ.tail (rest (into_filter (λ j. not (eqb j k)) m (rw e refl)))

  -- the same for what remains in another order
  picked_of : (taken remaining others : List ℕ) (i : ℕ) → ((j : ℕ) → j ∈ others → j ∈ remaining) → ((j : ℕ) → j ∈ remaining → j ∈ others)
      → i ∈ others → Picked store pattern taken remaining i → Picked store pattern taken others i
  picked_of taken remaining others i into from m p = record {
    remains = m;
    competes = ⊎_map (λ e. e) (λ apart j k. apart j (into j k)) p.competes;
    unbeaten = λ j k c d. p.unbeaten j (into j k) (⊎_map (λ e. e) (λ apart l n. apart l (from l n)) c) d;
  }

  split : (taken remaining before after : List ℕ) (i : ℕ) → Ordered store pattern taken remaining (before ++ i ∷ after)
      → Picked store pattern (taken ++ before) (i ∷ after) i
  split taken remaining [] after i o =
      rw append-nil
      (picked_of taken remaining (i ∷ after) i (λ j m. from_ordered taken remaining (i ∷ after) o m) (λ j m. into_ordered taken remaining (i ∷ after) o m)
      (Memᴰ.head refl) o.0)
  split taken remaining (x ∷ before) after i o = rw append_snoc at (split (taken ++ x ∷ []) (without x remaining) before after i o.1)

  places-planned : places_of (planned store pattern) ≡ order store pattern (length pattern) [] (places pattern)
  unfolding planned
  places-planned = simp (map-map, map-id)

  -- each step takes the table chosen for its place
  pub planned-choices : planned store pattern ≡ map (λ i. record { place = i; choice = choose_table store pattern i }) (places_of (planned store pattern))
  unfolding planned
  planned-choices = ap (map (λ i. record { place = i; choice = choose_table store pattern i })) (sym places-planned)

  -- the planner's order
  pub ordered : Ordered store pattern [] (places pattern) (places_of (planned store pattern))
  ordered = rw places-planned (order_picks (length pattern) [] (places pattern) (count_up-ascends 0 (length pattern)) (length-count_up 0 (length pattern)))

  -- each step of the plan is picked when those before it are taken
  pub picks : (before after : List ℕ) (i : ℕ) → places_of (planned store pattern) ≡ before ++ i ∷ after → Picked store pattern before (i ∷ after) i
  picks before after i e = split [] (places pattern) before after i (rw e at ordered)

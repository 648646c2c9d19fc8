-- A proper plan takes every place: as many steps as places, at distinct places.
use Prim.Native.Nat.{ℕ, zero, suc, ◌≤◌, ◌<◌}
use native.Mathlib.Omega.{arith}
use mathlib.Core.Path.{◌≡◌, refl, sym, ap, ◌∙◌}
use mathlib.Core.Logic.{◌⊎◌, inl, inr, ◌≢◌}
use mathlib.Core.Bool.{Bool, true, false, cond, ◌&&◌, not}
use mathlib.Core.List.Memᴰ
use mathlib.Core.List.{List, [], ◌∷◌, ◌++◌, map-append}
use lib.ListN.{length, get_or, length-append, length-map}
use lib.Dec.{eqb}
use borrow.Author.Tests.{ltb-true, eqb-true, eqb-false, eq-eqb, not-true}
use Rattle.model.specs.Lists.{◌∈◌, filter, any, all}
use Rattle.model.specs.Store.{Store}
use Rattle.model.specs.Pattern.{Pattern}
use Rattle.model.specs.Plan.{Step, Plan, is_place, may_choose, places_of, distinct, is_step, is_proper}
use Rattle.model.specs.Join.{no_step}
use Rattle.model.proofs.Booleans.{and_cases, and_make, bool_cases, to_false, not_both}
use Rattle.model.proofs.Membership.{from_filter, from_any, into_any, from_all, all_append, at_place, place_of, filter-all}

-- ---- distinct numbers below n are at most n

abbrev others : ℕ → List ℕ → List ℕ
others x l = filter (λ y. not (eqb x y)) l

others-distinct : (x : ℕ) (l : List ℕ) → distinct l ≡ true → distinct (others x l) ≡ true
others-distinct x [] h = refl
others-distinct x (y ∷ ys) h = go (not (eqb x y)) (others-distinct x ys c.1)
  where
    c : (not (any (eqb y) ys) ≡ true) × (distinct ys ≡ true)
    c = and_cases (not (any (eqb y) ys)) (distinct ys) h

    absent : any (eqb y) (others x ys) ≡ false
    absent =
        to_false (any (eqb y) (others x ys))
        λ k.
        let z = from_any (eqb y) (others x ys) k in
        not_both (into_any (eqb y) (from_filter (λ w. not (eqb x w)) ys z.1).0 z.2) (not-true (any (eqb y) ys) c.0)

    go : (b : Bool) → distinct (others x ys) ≡ true → distinct (cond b (y ∷ others x ys) (others x ys)) ≡ true
    go true i = and_make {a = not (any (eqb y) (others x ys))} (rw absent refl) i
    go false i = i

-- without x a list of distinct numbers is at most one shorter
others-length : (x : ℕ) (l : List ℕ) → distinct l ≡ true → length l ≤ suc (length (others x l))
others-length x [] h = omega arith
others-length x (y ∷ ys) h = go (bool_cases (eqb x y)) (others-length x ys c.1)
  where
    c : (not (any (eqb y) ys) ≡ true) × (distinct ys ≡ true)
    c = and_cases (not (any (eqb y) ys)) (distinct ys) h

    none_struck : any (eqb x) ys ≡ false → others x ys ≡ ys
    none_struck e = filter-all (λ z. not (eqb x z)) ys (λ z m. ap not (to_false (eqb x z) (λ k. not_both (into_any (eqb x) m k) e)))

    go : (eqb x y ≡ true) ⊎ (eqb x y ≡ false) → length ys ≤ suc (length (others x ys)) → length (y ∷ ys) ≤ suc (length (others x (y ∷ ys)))
    go (inl e) i =
        let q : any (eqb x) ys ≡ false = rw (eqb-true x y e) (not-true (any (eqb y) ys) c.0) in
        rw (e, none_struck q) (omega arith)
    go (inr e) i = rw e (omega arith)

distinct_limit : (n : ℕ) (l : List ℕ) → distinct l ≡ true → ((x : ℕ) → x ∈ l → x < n) → length l ≤ n
distinct_limit zero [] h b = omega arith
distinct_limit zero (x ∷ xs) h b = absurd (let k = b x (Memᴰ.head refl) in omega arith)
distinct_limit (suc n) l h b =
    let i = distinct_limit n (others n l) (others-distinct n l h) smaller in
    let k = others-length n l h in
    omega arith
  where
    smaller : (x : ℕ) → x ∈ others n l → x < n
    smaller x m =
        let k = from_filter (λ y. not (eqb n y)) l m in
        let a = b x k.0 in
        let d : n ≢ x = eqb-false n x (not-true (eqb n x) k.1) in
        omega arith

-- n distinct numbers below n are all of them
all-taken : (n : ℕ) (l : List ℕ) → distinct l ≡ true → ((x : ℕ) → x ∈ l → x < n) → length l ≡ n → (i : ℕ) → i < n → any (eqb i) l ≡ true
all-taken n l h b e i k = go (bool_cases (any (eqb i) l))
  where
    below_n : (x : ℕ) → (x ≡ i) ⊎ x ∈ l → x < n
    below_n x (inl q) = omega arith
    below_n x (inr m) = b x m

    go : (any (eqb i) l ≡ true) ⊎ (any (eqb i) l ≡ false) → any (eqb i) l ≡ true
    go (inl t) = t
    go (inr f) =
        let long = distinct_limit n (i ∷ l) (and_make {a = not (any (eqb i) l)} (rw f refl) h) (λ x m. below_n x (Memᴰ.cases_cons m)) in
        absurd (omega arith)

-- ---- proper plans

module _ (store : Store) (pattern : Pattern) (plan : Plan) (proper : is_proper store pattern plan ≡ true) where
  record Parts : Type 0 where
    whole : length plan ≡ length pattern
    steps : all (is_step store pattern) plan ≡ true
    once : distinct (places_of plan) ≡ true

  parts : Parts
  unfolding is_proper
  parts =
      let a = and_cases (eqb (length plan) (length pattern)) (all (is_step store pattern) plan && distinct (places_of plan)) proper in
      let b = and_cases (all (is_step store pattern) plan) (distinct (places_of plan)) a.1 in
      record { whole = eqb-true (length plan) (length pattern) a.0; steps = b.0; once = b.1 }

  allowed : (x : Step) → x ∈ plan → (x.place < length pattern) × (may_choose store pattern x.place x.choice ≡ true)
  allowed x m =
      let c = and_cases (is_place pattern x.place) (may_choose store pattern x.place x.choice) (from_all (is_step store pattern) plan parts.steps m) in
      (ltb-true x.place (length pattern) c.0, c.1)

  -- the n-th step has a place and a choice that may be
  pub step_allowed : (n : ℕ) → n < length plan
      → ((get_or plan n no_step).place < length pattern) × (may_choose store pattern (get_or plan n no_step).place (get_or plan n no_step).choice ≡ true)
  step_allowed n h = allowed (get_or plan n no_step) (at_place plan no_step n h)

  -- each place has its step
  pub step_of : (i : ℕ) → i < length pattern → (n : ℕ) × (n < length plan) × ((get_or plan n no_step).place ≡ i)
  step_of i h =
      let taken = all-taken (length pattern) (places_of plan) parts.once below (length-map plan (λ x. x.place) ∙ parts.whole) i h in
      let j = from_any (eqb i) (places_of plan) taken in
      let x = Memᴰ.of_map (λ (y : Step). y.place) plan j.1 in
      let n = place_of no_step x.1 in
      (n.0, n.1, ap (λ (y : Step). y.place) n.2 ∙ x.2 ∙ sym (eqb-true i j.0 j.2))
    where
      below : (j : ℕ) → j ∈ places_of plan → j < length pattern
      below j m = let x = Memᴰ.of_map (λ (y : Step). y.place) plan m in rw (← x.2) (allowed x.0 x.1).0

-- the step at place i may take any other table that may be chosen there
pub choice_exchanged : (store : Store) (pattern : Pattern) (before after : Plan) (i c d : ℕ)
    → is_proper store pattern (before ++ record { place = i; choice = c } ∷ after) ≡ true → may_choose store pattern i d ≡ true
    → is_proper store pattern (before ++ record { place = i; choice = d } ∷ after) ≡ true
unfolding is_proper
choice_exchanged store pattern before after i c d proper may =
    let was = parts store pattern (before ++ record { place = i; choice = c } ∷ after) proper in
    let front = and_cases (all (is_step store pattern) before) _ (sym (all_append (is_step store pattern) before _) ∙ was.steps) in
    let step = and_cases (is_place pattern i && may_choose store pattern i c) (all (is_step store pattern) after) front.1 in
    let place = and_cases (is_place pattern i) (may_choose store pattern i c) step.0 in
    let size : length (before ++ record { place = i; choice = d } ∷ after) ≡ length (before ++ record { place = i; choice = c } ∷ after) =
    length-append before _ ∙ sym (length-append before _) in
    let same : places_of (before ++ record { place = i; choice = d } ∷ after) ≡ places_of (before ++ record { place = i; choice = c } ∷ after) =
    map-append (λ x. x.place) before _ ∙ sym (map-append (λ x. x.place) before _) in
    and_make (eq-eqb _ _ (size ∙ was.whole))
    (and_make (all_append (is_step store pattern) before _ ∙ and_make front.0 (and_make (and_make place.0 may) step.1)) (ap distinct same ∙ was.once))

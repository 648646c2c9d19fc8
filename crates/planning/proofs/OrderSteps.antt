-- The plan of a pattern as the code makes it: the tables of the places one by one, then the order one place after the other.
use Prim.Native.Nat.{ℕ, suc, ◌+◌, ◌*◌, ◌-◌, ◌<◌, ◌≤◌}
use native.Mathlib.Omega.{arith}
use mathlib.Core.Path.{◌≡◌, refl, sym, ap, ◌∙◌}
use mathlib.Core.Bool.{Bool, true, false, ◌&&◌, ◌||◌, not, or-false}
use mathlib.Core.List.Memᴰ
use mathlib.Core.List.{List, [], ◌∷◌, ◌++◌, map, append-nil, map-append}
use lib.ListN.{length, get_or, set, length-append, length-map}
use lib.Seq.{append_snoc}
use lib.Dec.{eqb}
use Rattle.model.specs.Lists.{◌∈◌, filter, any, below}
use Rattle.model.specs.Store.{Store}
use Rattle.model.specs.Pattern.{Pattern, most_triple_patterns, places}
use Rattle.model.specs.Plan.{Step, places_of}
use Rattle.model.specs.Planner.{choose_table, is_joined, term_count, chosen_rows, without, pick, order, planned}
use Rattle.model.specs.Calls.{plan_numbers}
use Rattle.model.specs.declared.plan.Plan.{Plan as PlanNumbers}
use Rattle.model.proofs.Membership.{filter-all, any_append, filter_same, filter-filter}
use Rattle.model.proofs.Below.{from_below}
use Rattle.model.proofs.Setting.{set_more}
use Rattle.model.proofs.Ordering.{from_ordered, ordered}
use Rattle.planning.specs.Choices.{TablesChosen}
use Rattle.ordering.specs.Flags.{pick_by}
use Rattle.plans.proofs.PlanReading.{step-written}
use Rattle.ordering.proofs.Picking.{picked}

-- ---- the tables

module _ (store : Store) (pattern : Pattern) where
  pub none_chosen : (choices rows : List ℕ) → TablesChosen store pattern 0 choices rows
  none_chosen choices rows = record { choice = λ i h. absurd (omega arith); row_count = λ i h. absurd (omega arith) }

  -- the table of one place more
  pub chosen_more : {i c r : ℕ} {choices rows : List ℕ} → TablesChosen store pattern i choices rows
      → i < length choices → i < length rows → c ≡ choose_table store pattern i → r ≡ chosen_rows store pattern i
      → TablesChosen store pattern (i + 1) (set choices i c) (set rows i r)
  chosen_more {choices = choices} {rows} v h k p q = record {
    choice = set_more (choose_table store pattern) choices 0 v.choice h p;
    row_count = set_more (chosen_rows store pattern) rows 0 v.row_count k q;
  }

-- ---- the places that are left

-- the places below n that are not taken
abbrev places_left : ℕ → List ℕ → List ℕ
places_left n taken = filter (λ i. not (any (eqb i) taken)) (below n)

-- without one place more
left_less : (n i : ℕ) (taken : List ℕ) → without i (places_left n taken) ≡ places_left n (taken ++ i ∷ [])
left_less n i taken =
    filter-filter (λ j. not (any (eqb j) taken)) (λ j. not (eqb j i)) (below n)
    ∙ filter_same (λ j. not (any (eqb j) taken) && not (eqb j i)) (λ j. not (any (eqb j) (taken ++ i ∷ []))) (below n) (λ j m. same j)
  where
    not_or : (a b : Bool) → (not a && not b) ≡ not (a || b)
    not_or true b = refl
    not_or false b = refl

    same : (j : ℕ) → (not (any (eqb j) taken) && not (eqb j i)) ≡ not (any (eqb j) (taken ++ i ∷ []))
    same j = rw (any_append (eqb j) taken (i ∷ []), or-false) (not_or (any (eqb j) taken) (eqb j i))

-- ---- the order

-- the order begins with the places taken, and goes on with those that are left
pub record Begun (store : Store) (pattern : Pattern) (taken : List ℕ) : Type 0 where
  pub within : length taken ≤ length pattern
  pub begins : order store pattern (length pattern) [] (places pattern)
      ≡ taken ++ order store pattern (length pattern - length taken) taken (places_left (length pattern) taken)

-- the step of a place, with the table chosen for it
abbrev pub step_at : Store → Pattern → ℕ → Step
step_at store pattern i = record { place = i; choice = choose_table store pattern i }

module _ (store : Store) (pattern : Pattern) where
  pub begun_none : Begun store pattern []
  begun_none =
      let n = length pattern in
      let whole : n ≡ n - 0 = omega arith in record {
        within = omega arith;
        begins =
            ap (λ (k : ℕ). order store pattern k [] (places pattern)) whole
            ∙ ap (order store pattern (n - 0) []) (sym (filter-all (λ i. true) (places pattern) (λ a m. refl)));
      }

  begun_picked : (taken : List ℕ) → Begun store pattern taken → length taken < length pattern
      → Begun store pattern (taken ++ pick store pattern taken (places_left (length pattern) taken) ∷ [])
  unfolding order
  begun_picked taken b h =
      let n = length pattern in
      let i = pick store pattern taken (places_left n taken) in
      let longer = length-append taken (i ∷ []) in
      let fewer : n - length taken ≡ suc (n - length (taken ++ i ∷ [])) = omega arith in record {
        within = omega arith;
        begins =
            b.begins
            ∙ ap (λ (k : ℕ). taken ++ order store pattern k taken (places_left n taken)) fewer
            ∙ sym (append_snoc taken i _)
            ∙ ap (λ l. taken ++ i ∷ [] ++ order store pattern (n - length (taken ++ i ∷ [])) (taken ++ i ∷ []) l) (left_less n i taken);
      }

  -- by the notes of each place the code finds the pick, which is the next place
  pub begun_more : (taken : List ℕ) (noted joined : List Bool) (terms : List ℕ) {n i : ℕ} {choices rows : List ℕ}
      → Begun store pattern taken → length pattern ≡ n → length taken < n → TablesChosen store pattern n choices rows
      → ((j : ℕ) → j < n → get_or noted j false ≡ any (eqb j) taken) → ((j : ℕ) → j < n → get_or joined j false ≡ is_joined pattern taken j)
      → ((j : ℕ) → j < n → get_or terms j 0 ≡ term_count pattern taken j)
      → i ≡ pick_by n noted joined terms rows → Begun store pattern (taken ++ i ∷ [])
  begun_more taken noted joined terms {n} {rows = rows} b size h tables is_taken joins counts found =
      rw (found, picked store pattern n taken noted joined terms rows is_taken joins tables.row_count counts, ← size)
      (begun_picked taken b (omega arith))

  -- the places taken are places of the pattern
  pub begun_inside : (taken : List ℕ) (i : ℕ) → Begun store pattern (taken ++ i ∷ []) → i < length pattern
  unfolding planned
  begun_inside taken i b =
      let member : i ∈ order store pattern (length pattern) [] (places pattern) =
      rw b.begins (Memᴰ.append_left _ (Memᴰ.append_right taken (Memᴰ.head refl))) in
      from_below (length pattern)
      (from_ordered store pattern [] (places pattern) (places_of (planned store pattern)) (ordered store pattern)
      (Memᴰ.map (λ x. x.place) (Memᴰ.map (step_at store pattern) member)))

  -- every place is taken
  begun_all : (taken : List ℕ) → Begun store pattern taken → length pattern ≤ length taken
      → planned store pattern ≡ map (step_at store pattern) taken
  unfolding planned order
  begun_all taken b h =
      let within = b.within in
      let none : length pattern - length taken ≡ 0 = omega arith in
      let end : taken ++ order store pattern (length pattern - length taken) taken (places_left (length pattern) taken) ≡ taken = rw none (append-nil taken) in
      ap (map (step_at store pattern)) (b.begins ∙ end)

  -- the numbers of one step more
  pub place_written : (taken : List ℕ) (i : ℕ) {steps : List ℕ} {n c : ℕ} → steps ≡ (plan_numbers (map (step_at store pattern) taken)).steps
      → length taken ≡ n → n < most_triple_patterns → c ≡ choose_table store pattern i
      → set (set steps (2 * n) i) (2 * n + 1) c ≡ (plan_numbers (map (step_at store pattern) (taken ++ i ∷ []))).steps
  place_written taken i {n = n} written size few chosen =
      let done = map (step_at store pattern) taken in
      let same = length-map taken (step_at store pattern) in
      let count : n ≡ length done = omega arith in
      rw (written, chosen, count, map-append (step_at store pattern) taken (i ∷ [])) (step-written done (step_at store pattern i) (omega arith))

  -- the numbers of all steps
  pub plan-written : (taken : List ℕ) {steps : List ℕ} {n : ℕ} → Begun store pattern taken
      → steps ≡ (plan_numbers (map (step_at store pattern) taken)).steps → length pattern ≡ n → n ≤ length taken
      → ◌≡◌ {A = PlanNumbers} (record { steps = steps; count = n }) (plan_numbers (planned store pattern))
  plan-written taken {n = n} b written size all =
      let within = b.within in
      let same = length-map taken (step_at store pattern) in
      let count : n ≡ length (map (step_at store pattern) taken) = omega arith in
      rw (begun_all taken b (omega arith), written, count) refl

-- The plan's reader as the code runs it: each way out of a step and of the file, and what the code holds of the steps read.
use Prim.Native.Nat.{ℕ, zero, suc, ◌+◌, ◌*◌, ◌<◌, ◌≤◌}
use native.Mathlib.Omega.{arith}
use mathlib.Core.Path.{◌≡◌, refl, sym, ap, ◌∙◌}
use mathlib.Core.Bool.{Bool, true, false, ◌&&◌, ◌||◌, not, and-false, or-false, or-true}
use mathlib.Core.List.{List, [], ◌∷◌, ◌++◌}
use lib.ListN.{length, get_or, take, drop, set, replicate, length-append, drop_of_length-le}
use lib.Seq.{append_snoc, drop-cons, get_or-set_same, get_or-set_other}
use lib.Dec.{eqb}
use borrow.Author.Tests.{lt-ltb, le-ltb, eqb-true, eqb-false}
use Rattle.model.specs.Lists.{any, concat_map}
use Rattle.model.specs.Reader.{refused, gives, after, ask, repeated, whole_file}
use Rattle.model.specs.Store.{Store}
use Rattle.model.specs.Pattern.{Pattern, most_triple_patterns}
use Rattle.model.specs.Plan.{Step, Plan, is_place, may_choose, places_of}
use Rattle.model.specs.PlanFile.{step_under, step, step_numbers, read_plan_under, read_plan}
use Rattle.model.specs.Calls.{padded, plan_numbers}
use Rattle.model.proofs.Booleans.{and_make}
use Rattle.model.proofs.Membership.{any_append}
use Rattle.model.proofs.Blocks.{concat_map-append, length-concat_map}
use Rattle.numbers.specs.NumberAt.{number_at}
use Rattle.std.specs.Prelude.{Some, None, Result, Ok, Err}
use mathlib.Core.Logic.{◌⊎◌, inl, inr}
use mathlib.Core.List.{map-append}
use lib.ListN.{get_or-replicate, length-set}
use Rattle.model.specs.Store.{decoded}
use Rattle.model.specs.Results.{refusal_number}
use Rattle.model.specs.declared.plan.Plan.{Plan as PlanNumbers}
use Rattle.model.specs.declared.refusal.Refusal.{Refusal}
use Rattle.model.specs.declared.refusal.Refusal.TheVariants.{PlanMalformed}
use Rattle.model.proofs.Readers.{PartRead, none_read, all_read_lem, next_refused, next_read}
use Rattle.model.proofs.Results.{refused_as, gives_as}
use Rattle.positions.specs.Members.{PatternCells, pattern_in}
use Rattle.positions.specs.declared.pattern.Pattern.{Pattern as Members}
use Rattle.positions.proofs.MemberLaws.{pattern-length}
use Rattle.plans.specs.Replies.{PlanReadAs}
use Rattle.numbers.proofs.NumberReplies.{number_bad, number-value}

-- ---- a place that no step has yet

abbrev pub is_open : Pattern → Plan → ℕ → Bool
is_open pattern done i = is_place pattern i && not (any (eqb i) (places_of done))

module _ (pattern : Pattern) (done : Plan) (i : ℕ) where
  pub place_absent : length pattern ≤ i → is_open pattern done i ≡ false
  place_absent h = rw (le-ltb i (length pattern) h) refl

  pub place_taken : any (eqb i) (places_of done) ≡ true → is_open pattern done i ≡ false
  place_taken e = rw e (and-false (is_place pattern i))

  pub place_open : i < length pattern → any (eqb i) (places_of done) ≡ false → is_open pattern done i ≡ true
  place_open h e = and_make (lt-ltb i (length pattern) h) (ap not e)

-- ---- the ways out of a step

module _ (store : Store) (pattern : Pattern) (done : Plan) (s : List ℕ) (at : ℕ) where
  pub no_place : number_at s at ≡ None → step store pattern done (drop at s) ≡ refused 18
  unfolding step_under after
  no_place e = rw (number_bad 18 s at e) refl

  module _ {i middle : ℕ} (e : number_at s at ≡ Some (i, middle)) where
    pub place_refused : is_open pattern done i ≡ false → step store pattern done (drop at s) ≡ refused 19
    unfolding step_under after ask
    place_refused t = rw (number-value 18 s at e, t) refl

    module _ (t : is_open pattern done i ≡ true) where
      pub no_choice : number_at s middle ≡ None → step store pattern done (drop at s) ≡ refused 18
      unfolding step_under after ask
      no_choice f = rw (number-value 18 s at e, t, number_bad 18 s middle f) refl

      module _ {c next : ℕ} (f : number_at s middle ≡ Some (c, next)) where
        pub choice_refused : may_choose store pattern i c ≡ false → step store pattern done (drop at s) ≡ refused 20
        unfolding step_under after ask
        choice_refused m = rw (number-value 18 s at e, t, number-value 18 s middle f, m) refl

        pub step_given : may_choose store pattern i c ≡ true → step store pattern done (drop at s) ≡ gives (record { place = i; choice = c }, drop next s)
        unfolding step_under after ask
        step_given m = rw (number-value 18 s at e, t, number-value 18 s middle f, m) refl

-- ---- the ways out of the file

module _ (store : Store) (pattern : Pattern) (s : List ℕ) where
  pub steps_refused : {n : ℕ} → repeated (step store pattern) (length pattern) [] s ≡ refused n → read_plan store pattern s ≡ refused n
  unfolding read_plan_under whole_file
  steps_refused q = rw q refl

  module _ {plan : Plan} (next : ℕ) (q : repeated (step store pattern) (length pattern) [] s ≡ gives (plan, drop next s)) where
    pub bytes_left : next < length s → read_plan store pattern s ≡ refused 18
    unfolding read_plan_under whole_file
    bytes_left h = rw (q, drop-cons s next 0 h) refl

    pub plan_given : length s ≤ next → read_plan store pattern s ≡ gives plan
    unfolding read_plan_under whole_file
    plan_given h = rw (q, drop_of_length-le s h) refl

-- ---- a place is noted as taken

pub place_noted : (taken : List Bool) (places : List ℕ) (p : ℕ) → p < length taken → (i : ℕ) → get_or taken i false ≡ any (eqb i) places
    → get_or (set taken p true) i false ≡ any (eqb i) (places ++ p ∷ [])
place_noted taken places p inside i noted = rw (any_append (eqb i) places (p ∷ []), or-false) (go (eqb i p) refl)
  where
    go : (b : Bool) → eqb i p ≡ b → get_or (set taken p true) i false ≡ (any (eqb i) places || b)
    go true e = rw (or-true, eqb-true i p e) (get_or-set_same taken p true false inside)
    go false e = rw or-false (get_or-set_other taken p i true false (eqb-false i p e) ∙ noted)

-- ---- the numbers of a plan

take-replicate : (n m x : ℕ) → n ≤ m → take n (replicate m x) ≡ replicate n x
take-replicate zero m x h = refl
take-replicate (suc n) zero x h = absurd (omega arith)
take-replicate (suc n) (suc m) x h = ap (λ (l : List ℕ). x ∷ l) (take-replicate n m x (omega arith))

-- the number behind those given
set-behind : (xs : List ℕ) (n m x : ℕ) → length xs < n → n ≤ m
    → set (take n (xs ++ replicate m 0)) (length xs) x ≡ take n (xs ++ x ∷ [] ++ replicate m 0)
set-behind xs zero m x h k = absurd (omega arith)
set-behind [] (suc n) zero x h k = absurd (omega arith)
set-behind [] (suc n) (suc m) x h k =
    ap (λ (l : List ℕ). x ∷ l) (take-replicate n m 0 (omega arith) ∙ sym (take-replicate n (suc m) 0 (omega arith)))
set-behind (y ∷ ys) (suc n) m x h k = ap (λ (l : List ℕ). y ∷ l) (set-behind ys n m x (omega arith) (omega arith))

-- one number more
padded-more : (n : ℕ) (xs : List ℕ) (x : ℕ) → length xs < n → set (padded n xs) (length xs) x ≡ padded n (xs ++ x ∷ [])
padded-more n xs x h = set-behind xs n n x h (omega arith)

-- one step more
pub step-written : (done : Plan) (x : Step) → length done < most_triple_patterns
    → set (set (plan_numbers done).steps (2 * length done) x.place) (2 * length done + 1) x.choice ≡ (plan_numbers (done ++ x ∷ [])).steps
step-written done x h =
    let numbers = concat_map step_numbers done in
    let size = length-concat_map step_numbers 2 (λ y. refl) done in
    let longer = length-append numbers (x.place ∷ []) in
    let here : 2 * length done ≡ length numbers = omega arith in
    let there : 2 * length done + 1 ≡ length (numbers ++ x.place ∷ []) = omega arith in
    rw (
      there,
      here,
      padded-more (2 * most_triple_patterns) numbers x.place (omega arith),
      padded-more (2 * most_triple_patterns) (numbers ++ x.place ∷ []) x.choice (omega arith),
      append_snoc numbers x.place (x.choice ∷ []),
      concat_map-append step_numbers done (x ∷ []),
    ) refl

-- ---- what n steps leave: their numbers stand in the array, and their places are noted as taken

pub record StepsRead (w : List ℕ) (pattern : Members) (s steps : List ℕ) (taken : List Bool) (next n : ℕ) : Type 0 where
  pub done : Plan
  pub count : length done ≡ n
  pub part : PartRead (step (decoded w) (pattern_in pattern)) (length (pattern_in pattern)) s done (drop next s)
  pub written : steps ≡ (plan_numbers done).steps
  pub size : length taken ≡ most_triple_patterns
  pub noted : (i : ℕ) → i < most_triple_patterns → get_or taken i false ≡ any (eqb i) (places_of done)

module _ {w : List ℕ} {pattern : Members} (held : PatternCells pattern) where
  pub none_taken : (s steps : List ℕ) → steps ≡ replicate (2 * most_triple_patterns) 0
      → StepsRead w pattern s steps (replicate most_triple_patterns false) 0 0
  none_taken s steps e = record {
    done = [];
    count = refl;
    part = none_read;
    written = e;
    size = refl;
    noted = λ i h. get_or-replicate most_triple_patterns i false false h;
  }

  module _ {s steps : List ℕ} {taken : List Bool} {next n : ℕ} (v : StepsRead w pattern s steps taken next n) where
    -- the file is refused, or its plan given, as the code returns it
    abbrev FileReadAs : Result PlanNumbers Refusal → Type 0
    FileReadAs = PlanReadAs (read_plan (decoded w) (pattern_in pattern) s)

    pub step_refused : n < pattern.count → (e : Refusal) → step (decoded w) (pattern_in pattern) v.done (drop next s) ≡ refused (refusal_number e) → FileReadAs (Err e)
    step_refused more e q = refused_as _ e (steps_refused _ _ _ (next_refused v.part (rw (pattern-length held) (omega (arith, v.count))) q))

    pub place_closed : {i : ℕ} → (pattern.count ≤ i) ⊎ ((i < pattern.count) × (get_or taken i false ≡ true)) → is_open (pattern_in pattern) v.done i ≡ false
    place_closed (inl h) = place_absent (pattern_in pattern) v.done _ (rw (pattern-length held) h)
    place_closed (inr h) = place_taken (pattern_in pattern) v.done _ (sym (v.noted _ (omega (arith, held.few))) ∙ h.1)

    pub place_left : {i : ℕ} → i < pattern.count → get_or taken i false ≡ false → is_open (pattern_in pattern) v.done i ≡ true
    place_left h e = place_open (pattern_in pattern) v.done _ (rw (pattern-length held) h) (sym (v.noted _ (omega (arith, held.few))) ∙ e)

    pub step_read : n < pattern.count → (x : Step) → x.place < pattern.count → {after : ℕ}
        → step (decoded w) (pattern_in pattern) v.done (drop next s) ≡ gives (x, drop after s)
        → StepsRead w pattern s (set (set steps (2 * n) x.place) (2 * n + 1) x.choice) (set taken x.place true) after (n + 1)
    step_read more x inside q = record {
      done = v.done ++ x ∷ [];
      count = rw length-append (omega (arith, v.count));
      part = next_read v.part (rw (pattern-length held) (omega (arith, v.count))) q;
      written = rw (v.written, ← v.count) (step-written v.done x (omega (arith, v.count, held.few)));
      size = simp length-set v.size;
      noted = λ i h.
          rw map-append
          (place_noted taken (places_of v.done) x.place (omega (arith, v.size, held.few)) i (v.noted i h));
    }

    module _ (all : pattern.count ≤ n) where
      all_steps : repeated (step (decoded w) (pattern_in pattern)) (length (pattern_in pattern)) [] s ≡ gives (v.done, drop next s)
      all_steps = all_read_lem v.part (rw (pattern-length held) (omega (arith, v.count)))

      pub not_ended : next < length s → FileReadAs (Err PlanMalformed)
      not_ended h = refused_as _ PlanMalformed (bytes_left _ _ _ _ all_steps h)

      pub plan_read : length s ≤ next → FileReadAs (Ok (record { steps = steps; count = pattern.count }))
      plan_read h =
          let e : pattern.count ≡ length v.done = omega (arith, pattern-length held, v.part.count, v.count) in
          gives_as _ (plan_given _ _ _ _ all_steps h) (rw (v.written, e) refl)

-- The plan file: every plan that is read is proper, what is written is read back, and what is accepted is what is written.
use Prim.Native.Nat.{ℕ, ◌<◌, ◌≤◌}
use native.Mathlib.Omega.{arith}
use mathlib.Core.Path.{◌≡◌, refl, sym, ◌∙◌}
use mathlib.Core.Bool.{Bool, true, false, ◌&&◌, ◌||◌, not, and-false, or-false}
use mathlib.Core.List.{List, [], ◌∷◌, ◌++◌, append_assoc}
use lib.ListN.{length}
use lib.Dec.{eqb}
use borrow.Author.Tests.{ltb-true, eqb-true, eq-eqb}
use Rattle.model.specs.Lists.{all, any, concat_map}
use Rattle.model.specs.Reader.{gives, after, ask, repeated}
use Rattle.model.specs.Numbers.{are_bytes, number_bytes, number_limit}
use Rattle.model.specs.ExactFile.{FileIsExact}
use Rattle.model.specs.Store.{Store}
use Rattle.model.specs.Pattern.{Pattern, most_triple_patterns}
use Rattle.model.specs.Plan.{Step, Plan, is_place, may_choose, places_of, distinct, is_step, is_proper}
use Rattle.model.specs.PlanFile.{step_under, step, step_numbers, read_plan_under, read_plan, plan_bytes}
use Rattle.model.proofs.Booleans.{and_cases, and_make, bool_ext}
use Rattle.model.proofs.Membership.{any_append}
use Rattle.model.proofs.Growing.{Grows, all_grows, both_grow, map_grows}
use Rattle.model.proofs.Readers.{ask_gives, Front, front_then, Reads, returned, repeated_read, repeated-written, file_is_exact}
use Rattle.model.proofs.Numbers.{number-written, number_gives, bytes_concat_map, number_bytes_lem}
use Rattle.model.proofs.Places.{choice_small}

-- ---- no number twice

pub eqb_comm : (a b : ℕ) → eqb a b ≡ eqb b a
eqb_comm a b = bool_ext (eqb a b) (eqb b a) (λ h. eq-eqb b a (sym (eqb-true a b h))) (λ h. eq-eqb a b (sym (eqb-true b a h)))

any_snoc : (p : ℕ → Bool) (l : List ℕ) (x : ℕ) → any p (l ++ x ∷ []) ≡ (any p l || p x)
any_snoc p l x = any_append p l (x ∷ []) ∙ rw or-false refl

regroup : (a b c d : Bool) → (not (a || b) && (c && not d)) ≡ (not a && c && not (b || d))
regroup true b c d = refl
regroup false true c d = sym (and-false c)
regroup false false c d = refl

distinct_snoc : (done : List ℕ) (x : ℕ) → distinct (done ++ x ∷ []) ≡ (distinct done && not (any (eqb x) done))
distinct_snoc [] x = refl
distinct_snoc (y ∷ ys) x =
    rw (any_snoc (eqb y) ys x, distinct_snoc ys x, eqb_comm x y) (regroup (any (eqb y) ys) (eqb y x) (distinct ys) (any (eqb x) ys))

distinct_grows : Grows distinct (λ done x. not (any (eqb x) done))
distinct_grows = record { start = refl; snoc = distinct_snoc }

-- ---- steps

abbrev step_bytes : Step → List ℕ
step_bytes x = number_bytes x.place ++ number_bytes x.choice

plan_bytes_lem : (plan : Plan) → plan_bytes plan ≡ concat_map step_bytes plan
unfolding plan_bytes
plan_bytes_lem [] = refl
plan_bytes_lem (x ∷ xs) = rw (plan_bytes_lem xs, append_assoc) refl

module _ (store : Store) (pattern : Pattern) where
  -- asked of the step behind those done
  abbrev step_test : Plan → Step → Bool
  step_test done x = is_step store pattern x && not (any (eqb x.place) (places_of done))

  steps_grow : Grows (λ plan. all (is_step store pattern) plan && distinct (places_of plan)) step_test
  steps_grow = both_grow (all_grows (is_step store pattern)) (map_grows (λ x. x.place) distinct_grows)

  -- a number for each choice that may be
  choice_fits : length pattern ≤ most_triple_patterns → (i c : ℕ) → may_choose store pattern i c ≡ true → c < number_limit
  choice_fits few i c e = omega (arith, choice_small store pattern few i c e)

  module _ (few : length pattern ≤ most_triple_patterns) where
    step_reads : Reads (step store pattern) step_bytes step_test
    unfolding step_under after ask
    step_reads = record {
      read = λ done bytes h.
          let i = number_gives _ bytes _ h in
          let new = not (any (eqb i.0) (places_of done)) in
          let a = ask_gives _ (is_place pattern i.0 && new) _ i.3 in
          let p = and_cases (is_place pattern i.0) new a.0 in
          let c = number_gives _ i.1 _ a.1 in
          let b = ask_gives _ (may_choose store pattern i.0 c.0) _ c.3 in
          returned (step_test done) step_bytes b.1 (and_make (and_make p.0 b.0) p.1) (front_then i.2 c.2);
      written = λ done x rest t.
          let new = not (any (eqb x.place) (places_of done)) in
          let a = and_cases (is_step store pattern x) new t in
          let b = and_cases (is_place pattern x.place) (may_choose store pattern x.place x.choice) a.0 in
          let l = ltb-true x.place (length pattern) b.0 in
          let fits = choice_fits few x.place x.choice b.1 in
          rw (append_assoc, number-written _ x.place _ (omega arith), b.0, a.1, number-written _ x.choice rest fits, b.1) refl;
    }

    -- ---- the file

    plan_read : (bytes : List ℕ) {plan : Plan} {rest : List ℕ} → repeated (step store pattern) (length pattern) [] bytes ≡ gives (plan, rest)
        → (is_proper store pattern plan ≡ true) × Front bytes (plan_bytes plan) rest
    unfolding is_proper
    plan_read bytes {plan} h =
        let r = repeated_read step_reads steps_grow (length pattern) bytes h in
        (and_make (eq-eqb (length plan) (length pattern) r.0) r.1, rw plan_bytes_lem r.2)

    -- what is written is read, whatever stands behind it
    plan_back : (plan : Plan) (rest : List ℕ) → is_proper store pattern plan ≡ true
        → repeated (step store pattern) (length pattern) [] (plan_bytes plan ++ rest) ≡ gives (plan, rest)
    unfolding is_proper
    plan_back plan rest e =
        let good = all (is_step store pattern) plan && distinct (places_of plan) in
        let c = and_cases (eqb (length plan) (length pattern)) good e in
        rw (plan_bytes_lem, ← eqb-true (length plan) (length pattern) c.0) (repeated-written step_reads steps_grow plan rest c.1)

    plan_is_bytes : (plan : Plan) → are_bytes (plan_bytes plan) ≡ true
    unfolding plan_bytes
    plan_is_bytes plan = bytes_concat_map number_bytes number_bytes_lem (concat_map step_numbers plan)

    pub plan_file : FileIsExact (read_plan store pattern) plan_bytes (is_proper store pattern)
    unfolding read_plan_under
    plan_file = file_is_exact _ (record { read = λ _ bytes h. plan_read bytes h; written = λ _ plan rest e. plan_back plan rest e }) plan_is_bytes

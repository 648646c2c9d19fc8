-- Yes and No exactly; and a run answers None exactly where No is told.
use Prim.Native.Nat.{ℕ, ◌*◌}
use native.Mathlib.Omega.{arith}
use mathlib.Core.Path.{◌≡◌, refl}
use mathlib.Core.Logic.{◌⊎◌, inl, inr, ◌↔◌}
use mathlib.Core.Bool.{Bool, true, false, cond}
use mathlib.Core.List.Memᴰ
use mathlib.Core.List.{List, [], ◌∷◌}
use lib.ListN.{length}
use lib.Dec.{ltb, leb}
use borrow.Author.Tests.{lt-ltb}
use Rattle.model.specs.Lists.{◌∈◌, concat_map}
use Rattle.model.specs.Reader.{Reply, refused, gives}
use Rattle.model.specs.Site.{Site}
use Rattle.model.specs.Store.{Holds, store_at}
use Rattle.model.specs.Pattern.{Pattern, width}
use Rattle.model.specs.PatternFile.{read_pattern}
use Rattle.model.specs.Plan.{Plan}
use Rattle.model.specs.PlanFile.{read_plan}
use Rattle.model.specs.Solutions.{IsSolution, solutions}
use Rattle.model.specs.Calls.{Outcome, outcome, over, unaltered, either, question, Check, given_plan, none_by_counts, rows_outcome, run_under, run, yes_or_no, whether_under, whether}
use Rattle.model.specs.declared.answer.Answer.TheVariants.{Rows, None, Yes, No, Refused}
use Rattle.model.proofs.Solutions.{solutions_sound, solutions_complete}
use Rattle.model.proofs.PatternFile.{pattern_accepted}
use Rattle.model.proofs.Calls.{counts_agree}
use Rattle.model.proofs.Success.{whether_succeeds}
use Rattle.model.proofs.RefusedCalls.{given_gives}

-- ---- Yes and No

pub told : (rows : List (List ℕ)) → (yes_or_no rows ≡ Yes) ⊎ (yes_or_no rows ≡ No)
unfolding yes_or_no
told [] = inr refl
told (r ∷ rs) = inl refl

-- by whether there is a row
pub told_found : (rows : List (List ℕ)) → yes_or_no rows ≡ cond (ltb 0 (length rows)) Yes No
unfolding yes_or_no
told_found [] = refl
told_found (r ∷ rs) = rw (lt-ltb 0 (length (r ∷ rs)) (omega arith)) refl

module _ {S : List ℕ → Type 0} where
  -- of rows that are all that S holds of
  told_exactly : (rows : List (List ℕ)) → ((row : List ℕ) → (row ∈ rows) ↔ S row)
      → ((yes_or_no rows ≡ Yes) ↔ ((row : List ℕ) × S row)) × ((yes_or_no rows ≡ No) ↔ ((row : List ℕ) → S row → ⊥))
  unfolding yes_or_no
  told_exactly [] h = (
    ((λ e. let z : ◌≡◌ {A = ℕ} 0 1 = cc in absurd (omega arith)), λ (s : (row : List ℕ) × S row). absurd (Memᴰ.not-nil ((h s.0).1 s.1))),
    ((λ _ row s. Memᴰ.not-nil ((h row).1 s)), λ _. refl),
  )
  told_exactly (r ∷ rs) h =
      let first = (h r).0 (Memᴰ.head refl) in (
        ((λ _. (r, first)), λ _. refl),
        ((λ e. let z : ◌≡◌ {A = ℕ} 0 1 = cc in absurd (omega arith)), λ no_row. absurd (no_row r first)),
      )

module _ (words bytes steps : List ℕ) (t : ℕ) (site : Site) (pattern : Pattern) (given : Plan) (holds : Holds words t site)
    (read : read_pattern site bytes ≡ gives pattern) (proper : read_plan (store_at t site) pattern steps ≡ gives given) where
  as_solutions : whether words bytes steps ≡ yes_or_no (solutions site pattern)
  as_solutions = whether_succeeds words bytes t site pattern holds read steps given proper

  pub whether-told : (whether words bytes steps ≡ Yes) ⊎ (whether words bytes steps ≡ No)
  whether-told = rw as_solutions (told (solutions site pattern))

  pub whether-solutions : ((whether words bytes steps ≡ Yes) ↔ ((row : List ℕ) × IsSolution site pattern row))
      × ((whether words bytes steps ≡ No) ↔ ((row : List ℕ) → IsSolution site pattern row → ⊥))
  whether-solutions =
      rw as_solutions (told_exactly (solutions site pattern) λ row.
      (solutions_sound site pattern row, solutions_complete site pattern (pattern_accepted site bytes pattern read) row))

-- ---- None of a run

-- None and 21 are asked of the same rows
rows_none : (v : ℕ) (rows : List (List ℕ)) (memory : List ℕ) → ((rows_outcome v rows memory).answer ≡ None) ↔ (yes_or_no rows ≡ No)
unfolding rows_outcome yes_or_no either
rows_none v [] memory = ((λ _. refl), λ _. refl)
rows_none v (r ∷ rs) memory = ((λ h. absurd (go (leb (length (r ∷ rs) * v) (length memory)) h)), λ h. let z : ◌≡◌ {A = ℕ} 0 1 = cc in absurd (omega arith))
  where
    go : (b : Bool) → (either (unaltered memory) (question 21 b) (λ _. outcome (Rows (length (r ∷ rs)) v) (over (concat_map (λ row. row) (r ∷ rs)) memory))).answer ≡ None → ⊥
    go true h = let z : ◌≡◌ {A = ℕ} 0 1 = cc in omega arith
    go false h = let z : ◌≡◌ {A = ℕ} 0 1 = cc in omega arith

pub none_is_no : (words bytes steps memory : List ℕ) → ((run words bytes steps memory).answer ≡ None) ↔ (whether words bytes steps ≡ No)
unfolding run_under whether_under either
none_is_no words bytes steps memory = go (given_plan words bytes steps) refl
  where
    run-answer : Check → Outcome
    run-answer c =
        let site = c.store.site in
        let pattern = c.pattern in
        cond (none_by_counts site pattern) (outcome None memory) (rows_outcome (width pattern) (solutions site pattern) memory)

    go : (reply : Reply Check) → given_plan words bytes steps ≡ reply
        → ((either (unaltered memory) reply run-answer).answer ≡ None) ↔ (either Refused reply (λ c. yes_or_no (solutions c.store.site c.pattern)) ≡ No)
    go (refused n) e = (
      (λ h. let z : ◌≡◌ {A = ℕ} 0 1 = cc in absurd (omega arith)),
      λ h. let z : ◌≡◌ {A = ℕ} 0 1 = cc in absurd (omega arith),
    )
    go (gives c) e =
        let accepted = pattern_accepted c.store.site bytes c.pattern (given_gives words bytes steps c e).read in
        rw (counts_agree c.store.site c.pattern accepted memory) (rows_none (width c.pattern) (solutions c.store.site c.pattern) memory)

-- What the chain answers by what was built and planned: the refusal, or what comes next.
use Prim.Native.Nat.{ℕ, suc, ◌<◌}
use mathlib.Core.Path.{◌≡◌, refl, sym, ap, ◌∙◌}
use mathlib.Core.Bool.{true, false}
use mathlib.Core.List.{List, [], ◌∷◌}
use lib.ListN.{get_or, replicate}
use borrow.Author.Tests.{lt-ltb}
use Rattle.model.specs.Numbers.{are_bytes}
use Rattle.model.specs.Calls.{Outcome, outcome, build, plan, run}
use Rattle.model.specs.Chain.{chain_threshold, chain_store_words, is_refused, step_bytes, plan_and_run, chain, NoMatch}
use Rattle.model.specs.Text.{RowsFit}
use Rattle.model.specs.declared.answer.Answer.{Answer}
use Rattle.model.specs.declared.answer.Answer.TheVariants.{None}
use Rattle.model.specs.declared.answer.Planned.{Planned}
use Rattle.model.proofs.Booleans.{and_make}
use Rattle.model.proofs.FittingRows.{chain_fits}
use Rattle.model.proofs.Demands.Answers.{chain_none_is_whole}

module _ (words check memory : List ℕ) {o : Planned} (planned : o ≡ plan words check) where
  pub plan_refused : is_refused o.answer ≡ true → outcome o.answer memory ≡ plan_and_run words check memory
  unfolding plan_and_run
  plan_refused e = rw (← planned, e) refl

  pub plan_run : is_refused o.answer ≡ false → run words check (step_bytes o.plan) memory ≡ plan_and_run words check memory
  unfolding plan_and_run
  plan_run e = rw (← planned, e) refl

module _ (file check memory : List ℕ) {o : Outcome} (built : o ≡ build chain_threshold file (replicate chain_store_words 0)) where
  pub build_refused : is_refused o.answer ≡ true → outcome o.answer memory ≡ chain file check memory
  unfolding chain
  build_refused e = rw (← built, e) refl

  pub build-planned : is_refused o.answer ≡ false → plan_and_run o.memory check memory ≡ chain file check memory
  unfolding chain
  build-planned e = rw (← built, e) refl

-- ---- None

bytes_below : (bytes : List ℕ) → ((i : ℕ) → get_or bytes i 0 < 256) → are_bytes bytes ≡ true
bytes_below [] h = refl
bytes_below (b ∷ bs) h = and_make (lt-ltb b 256 (h 0)) (bytes_below bs (λ i. h (suc i)))

pub none_whole : (file check memory : List ℕ) {after : List ℕ} {answer : Answer} → ((i : ℕ) → get_or file i 0 < 256)
    → outcome answer after ≡ chain file check memory → answer ≡ None → NoMatch file check
none_whole file check memory below e none =
    chain_none_is_whole file check memory (bytes_below file below) (sym (ap (λ (o : Outcome). o.answer) e) ∙ none)

-- ---- rows

pub answer_fits : (file check memory : List ℕ) {answer : Answer} {after : List ℕ} → outcome answer after ≡ chain file check memory → RowsFit answer memory
answer_fits file check memory e = rw (ap (λ (o : Outcome). o.answer) e) (chain_fits memory file check)

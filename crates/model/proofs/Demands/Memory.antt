-- Lent memory: its length never changes.
use Prim.Native.Nat.{ℕ}
use mathlib.Core.Path.{◌≡◌}
use mathlib.Core.List.{List}
use lib.ListN.{length}
use Rattle.model.specs.Calls.{build, plan, run, values_of, plan_bytes_of}
use Rattle.model.specs.declared.answer.Answer.{Answer}
use Rattle.model.proofs.Memory.{build-length, run_length, values_length, plan-length}

-- ==== A call neither lengthens nor shortens the memory lent to it: the store to fill, the rows memory, the four words of an answer,
-- the sixteen bytes of a plan's steps.

abbrev pub LengthsAreKept : Type 0
LengthsAreKept =
    ((t : ℕ) (bytes memory : List ℕ) → length (build t bytes memory).memory ≡ length memory)
    × ((words bytes steps memory : List ℕ) → length (run words bytes steps memory).memory ≡ length memory)
    × ((answer : Answer) (steps : ℕ) (lent : List ℕ) → length lent ≡ 4 → length (values_of answer steps lent) ≡ 4)
    × ((words bytes lent : List ℕ) → length lent ≡ 16 → length (plan_bytes_of (plan words bytes) lent) ≡ 16)

pub lengths_are_kept : LengthsAreKept
lengths_are_kept = (
  (λ t bytes memory. build-length memory t bytes),
  (λ words bytes steps memory. run_length memory words bytes steps),
  values_length,
  plan-length,
)

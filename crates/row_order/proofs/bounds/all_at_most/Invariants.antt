-- The invariant: `within` says whether none of the words passed is above.
use mathlib.Core.Path.{◌≡◌}
use lib.ListN.{take}
use lib.Dec.{leb}
use Rattle.model.specs.Lists.{all}
use Rattle.row_order.proofs.bounds.all_at_most.Given as goal

abbrev pub invariant-loop-word : goal.invariant-loop-word
invariant-loop-word l = l.within ≡ all (λ x. leb x l.most) (take l.word-index l.word-items)

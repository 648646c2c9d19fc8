use Rattle.std.proofs.Common.{arith}
use mathlib.Core.Path.{sym, ◌∙◌}
use borrow.Author.Tests.{eq-eqb, ne_eqb}
use Rattle.searching.proofs.WordSearch.{word_there, no_word}
use Rattle.probes.proofs.walking.walk_to.Goals.{else-place-n-via-then-place-n+else-words-base, else-place-n-via-else-place-n}
use Rattle.probes.proofs.walking.walk_to.Goals as goal

pub returns-then-words-base-clause-found_value : goal.returns-then-words-base-clause-found_value
returns-then-words-base-clause-found_value c =
    sym (word_there _ _ _ c.requires.sorted_run.0.ascending c.lower_bound_from-place.ensures c.if-place-n.true) ∙ eq-eqb _ _ c.if-words-base.true

-- the word at the place is another, or all words are below the value
pub returns-clause-found_value : goal.returns-clause-found_value
returns-clause-found_value c =
    let split = c.lower_bound_from-place.ensures in
    elim c.else-place-n.branch [
      | else-place-n-via-then-place-n+else-words-base w ↦ sym (word_there _ _ _ c.requires.sorted_run.0.ascending split w.if-place-n.true) ∙ ne_eqb _ _ w.if-words-base.false
      | else-place-n-via-else-place-n w ↦ sym (no_word _ _ _ (λ i h e. let less = split.lower i (omega (arith, w.if-place-n.false)) in omega arith))
    ]

-- The value is below all words, or stands at the place that is tried first.
use native.Mathlib.Omega.{arith}
use Rattle.searching.proofs.WordSearch.{word_found, no_word, before_first}
use Rattle.searching.proofs.search.has_word.Goals as goal

pub returns-then-n-eq0 : goal.returns-then-n-eq0
returns-then-n-eq0 c = no_word _ _ _ (λ i h. absurd (omega arith))

pub returns-then-value-lowest : goal.returns-then-value-lowest
returns-then-value-lowest c = before_first _ _ _ c.requires.ascending (omega arith)

pub returns-then-words-base : goal.returns-then-words-base
returns-then-words-base c = word_found _ _ _ _ c.if-guess-n.true c.if-words-base.true

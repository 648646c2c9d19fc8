-- The value stands where the words that are not below it begin, or nowhere.
use native.Mathlib.Omega.{arith}
use Rattle.searching.proofs.WordSearch.{behind_last, word_there, lower_bound_inside}
use Rattle.searching.proofs.search.search_word.Goals as goal

pub returns-then-words-base : goal.returns-then-words-base
returns-then-words-base c = behind_last _ _ _ c.requires.0.ascending (omega arith)

-- the words that are not below the value begin in the slice, since the last word is one
pub returns : goal.returns
returns c =
    let bound = c.lower_bound-place.ensures in
    word_there _ _ _ c.requires.0.ascending bound (lower_bound_inside bound (omega arith) (omega arith))

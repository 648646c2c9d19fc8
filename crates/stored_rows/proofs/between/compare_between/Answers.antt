use mathlib.Core.Path.{◌∙◌}
use borrow.Author.Tests.{ne_eqb}
use Rattle.stored_rows.proofs.RowsBetween.{ascend_behind, not_as_many, words_between}
use Rattle.stored_rows.proofs.between.compare_between.Goals as goal

pub upper_bound-count-requires : goal.upper_bound-count-requires
upper_bound-count-requires c = ascend_behind c.guessed_lower_bound-before.result c.guessed_lower_bound-before.ensures.within c.requires.0

pub returns-then-count-k : goal.returns-then-count-k
returns-then-count-k c =
    c.same_words.ensures
    ∙ words_between _ _ _ _ _ c.requires.0.inside _ _ c.guessed_lower_bound-before.ensures c.upper_bound-count.ensures c.args.at c.args.k c.requires.1 c.if-count-k.true

-- the rows are too many or too few
pub returns-else-count-k : goal.returns-else-count-k
returns-else-count-k c =
    ne_eqb _ _ c.if-count-k.false
    ∙ not_as_many _ _ _ _ _ c.requires.0.inside _ _ c.guessed_lower_bound-before.ensures c.upper_bound-count.ensures c.args.at c.args.k c.requires.1 c.if-count-k.false

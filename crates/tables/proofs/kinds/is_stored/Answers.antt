use mathlib.Core.Path.{refl}
use borrow.Author.Tests.{lt-ltb, le-ltb}
use Rattle.model.specs.Tables.{is_stored}
use Rattle.tables.proofs.kinds.is_stored.Goals as goal

pub returns-then-n-gt0 : goal.returns-then-n-gt0
unfolding is_stored
returns-then-n-gt0 c = rw (lt-ltb _ _ c.if-n-gt0.true) refl

pub returns-else-n-gt0 : goal.returns-else-n-gt0
unfolding is_stored
returns-else-n-gt0 c = rw (le-ltb _ _ c.if-n-gt0.false) refl

-- The rows of a table are read one by one. The invariant: i rows were read, they stand as words from `to` on, and the last is at hand.
use Prim.Native.Nat.{ℕ, ◌-◌}
use mathlib.Core.Path.{◌≡◌}
use mathlib.Core.List.{List}
use lib.ListN.{length, drop}
use lib.Seq.{sets}
use Rattle.std.specs.Prelude.{Option}
use Rattle.model.specs.Lists.{above_last}
use Rattle.site_elements.specs.Reading.{comes_after}
use Rattle.model.specs.Site.{Row, row_before}
use Rattle.model.specs.SiteFile.{row}
use Rattle.model.specs.Store.{table_words}
use Rattle.model.proofs.Readers.{PartRead}
use Rattle.site_elements.proofs.table_rows.read_rows.Given as goal

-- what i rows of n leave
pub record RowsRead (s : List ℕ) (at n : ℕ) (image₀ : List ℕ) (to : ℕ) (image : List ℕ) (next : ℕ) (last : Option Row) (i : ℕ) : Type 0 where
  pub done : List Row
  pub count : length done ≡ i
  pub part : PartRead row n (drop at s) done (drop next s)
  pub written : image ≡ sets image₀ to (table_words done)
  pub size : length image ≡ length image₀
  pub above : (r : Row) → above_last row_before done r ≡ comes_after row_before last r

abbrev pub invariant-loop-i : goal.invariant-loop-i
invariant-loop-i l =
    RowsRead l.s l.at l.n l.initial.image l.to l.image l.next l.last l.i

abbrev pub decreases-loop-i : goal.decreases-loop-i
decreases-loop-i l =
    l.n - l.i

-- The declarations are read one by one. The invariant: i were read, their entries are written, and their rows, the last term and where
-- the next rows begin are at hand.
use Prim.Native.Nat.{ℕ, ◌+◌, ◌-◌, ◌*◌, ◌≤◌}
use mathlib.Core.Path.{◌≡◌}
use Rattle.std.specs.Prelude.{Option}
use Rattle.site_elements.specs.Reading.{comes_after}
use mathlib.Core.List.{List, map}
use lib.ListN.{length, drop}
use lib.Seq.{sets}
use lib.Dec.{ltb}
use Rattle.model.specs.Lists.{sum, above_last}
use Rattle.model.specs.Site.{most_rows}
use Rattle.model.specs.SiteFile.{Declaration, declaration}
use Rattle.model.specs.Store.{rows_start, vp_entries}
use Rattle.tables.specs.SiteWords.{image_words}
use Rattle.model.proofs.Readers.{PartRead}
use Rattle.site_elements.proofs.declarations.read_declarations.Given as goal

-- what i declarations leave
pub record DeclarationsRead (s : List ℕ) (at count : ℕ) (image₀ image : List ℕ) (next total here : ℕ) (last : Option ℕ) (i : ℕ) : Type 0 where
  pub done : List Declaration
  pub many : length done ≡ i
  pub part : PartRead declaration count (drop at s) done (drop next s)
  pub written : image ≡ sets image₀ 3 (vp_entries (rows_start count) done)
  pub size : length image ≡ length image₀
  pub rows : total ≡ sum (λ d. d.1) done
  pub few : total ≤ most_rows
  pub start : here ≡ rows_start count + 2 * total
  pub room : rows_start count + 2 * most_rows ≤ image_words
  pub above : (p : ℕ) → above_last ltb (map (λ d. d.0) done) p ≡ comes_after ltb last p

abbrev pub invariant-loop-i : goal.invariant-loop-i
invariant-loop-i l =
    DeclarationsRead l.s l.at l.count l.initial.image l.image l.next l.total l.here l.last l.i

abbrev pub decreases-loop-i : goal.decreases-loop-i
decreases-loop-i l = l.count - l.i

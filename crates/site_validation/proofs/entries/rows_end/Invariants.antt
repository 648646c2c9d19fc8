-- The first i entries are proper, declare `total` rows, which end at `here`, and `last` is the term of the last.
use Prim.Native.Nat.{◌+◌, ◌*◌, ◌-◌, ◌≤◌, ◌<◌}
use mathlib.Core.Path.{◌≡◌}
use mathlib.Core.Bool.{true}
use lib.ListN.{get_or, drop}
use Rattle.model.specs.Site.{most_rows}
use Rattle.model.specs.SiteFile.{declared_proper}
use Rattle.model.specs.Store.{rows_start, vp_entry_at}
use Rattle.tables.specs.SiteWords.{declared_in, declared_rows}
use Rattle.site_validation.proofs.Declared.{EntriesStand}
use Rattle.site_validation.proofs.entries.rows_end.Given as goal

abbrev pub invariant-loop-i : goal.invariant-loop-i
invariant-loop-i l =
    (l.i ≤ l.count) × (l.total ≤ most_rows) × (l.total ≡ declared_rows l.i (drop 3 l.w)) × (l.here ≡ rows_start l.count + 2 * l.total)
    × (declared_proper (declared_in l.i (drop 3 l.w)) ≡ true) × EntriesStand l.w (rows_start l.count) l.i × (0 < l.i → l.last ≡ get_or l.w (vp_entry_at (l.i - 1)) 0)

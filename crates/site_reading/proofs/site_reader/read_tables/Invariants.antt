-- The tables are read one behind the other. The invariant: the tables of i entries were read, and their rows are written behind the entries.
use Prim.Native.Nat.{ℕ, ◌+◌, ◌-◌, ◌*◌, ◌<◌, ◌≤◌}
use native.Mathlib.Omega.{arith}
use mathlib.Core.Path.{◌≡◌, ◌∙◌}
use mathlib.Core.List.{List}
use lib.ListN.{length, get_or, drop}
use lib.Seq.{sets}
use Rattle.model.specs.Site.{Site, most_rows, row_total}
use Rattle.model.specs.Store.{rows_start, vp_words, vp_entry_at}
use Rattle.model.proofs.Setting.{get_or_before}
use Rattle.tables.specs.SiteWords.{image_words}
use Rattle.site_reading.proofs.Reading.{TablesRead}
use Rattle.site_reading.proofs.site_reader.read_tables.Given as goal

-- what i tables leave
pub record TablesDone (s : List ℕ) (at count : ℕ) (image₀ image : List ℕ) (next to i : ℕ) : Type 0 where
  pub done : Site
  pub part : TablesRead image₀ count (drop at s) i done (drop next s)
  pub written : image ≡ sets image₀ (rows_start count) (vp_words done)
  pub size : length image ≡ length image₀
  pub place : to ≡ rows_start count + 2 * row_total done
  pub room : rows_start count + 2 * most_rows ≤ image_words

-- the entries stand before the rows that are written
pub count-is : {s : List ℕ} {at count : ℕ} {image₀ image : List ℕ} {next to i n : ℕ} → TablesDone s at count image₀ image next to i → i < count
    → n ≡ get_or image (vp_entry_at i + 1) 0 → n ≡ get_or image₀ (vp_entry_at i + 1) 0
count-is v h e = e ∙ rw v.written (get_or_before _ _ (vp_words v.done) _ 0 (omega arith))

abbrev pub invariant-loop-i : goal.invariant-loop-i
invariant-loop-i l = TablesDone l.s l.at l.count l.initial.image l.image l.next l.to l.i

abbrev pub decreases-loop-i : goal.decreases-loop-i
decreases-loop-i l = l.count - l.i

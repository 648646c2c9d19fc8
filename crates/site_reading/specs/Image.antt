-- The image of a site: the front of its store, up to where the stored tables' rows begin, in local memory.
use Rattle.std.specs.Prelude.{ℕ, ◌*◌, ◌≤◌, ◌≡◌, List, length, take, drop, Result}
use Rattle.model.specs.Reader.{Reply}
use Rattle.model.specs.Results.{ReplyAs}
use Rattle.model.specs.Site.{Site, most_rows}
use Rattle.model.specs.Store.{rows_start, vp_entries}
use Rattle.model.specs.declared.refusal.Refusal.{Refusal}
use Rattle.tables.specs.SiteWords.{declared_in, declared_rows, ImageHolds}

-- an image has k entries, for rows that fit
pub record DeclaredIn (k : ℕ) (image : List ℕ) : Type 0 where
  pub entries : take (3 * k) (drop 3 image) ≡ vp_entries (rows_start k) (declared_in k (drop 3 image))
  pub few : declared_rows k (drop 3 image) ≤ most_rows

-- the reply of a site's file as the code has it: the count of its predicates
abbrev pub SiteReadAs : Reply Site → List ℕ → Result ℕ Refusal → Type 0
SiteReadAs reply image r = ReplyAs (λ site count. (count ≡ length site) × ImageHolds site image) reply r

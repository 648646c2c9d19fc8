-- What is looked up in validated words.
use Rattle.std.specs.Prelude.{ℕ, ◌+◌, ◌*◌, ◌≤◌, ◌≡◌, true, List, length, drop, eqb, Option}
use Rattle.std.specs.List.{position_from}
use Rattle.model.specs.Site.{Row, Site}
use Rattle.model.specs.Store.{rows_in, decoded, is_store_of}

-- question 10 is answered yes
abbrev pub Validated : List ℕ → Type 0
Validated words = is_store_of (decoded words) words ≡ true

-- the place of a predicate among those of a site
abbrev pub place_of : Site → ℕ → Option ℕ
place_of site p = position_from (λ t. eqb t.predicate p) 0 site

-- rows stand in the words from a place on
pub record RowsAt (words : List ℕ) (start : ℕ) (rows : List Row) : Type 0 where
  pub inside : start + 2 * length rows ≤ length words
  pub same : rows_in (length rows) (drop start words) ≡ rows

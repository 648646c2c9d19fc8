-- Vertical partitioning (VP), and the tables reduced by a semi-join.
use Rattle.std.specs.Prelude.{ℕ, ◌*◌, Bool, ◌&&◌, List, [], ◌∷◌, map, length, get_or, eqb, ltb}
use Rattle.model.specs.Lists.{filter, any, first_place, sum}
use Rattle.model.specs.Site.{Row, Site, facts}

-- VP of p: the (s, o) with (s, p, o) in the site
unfoldable pub vp : Site → ℕ → List Row
vp site p = map (λ f. (f.0, f.2)) (filter (λ f. eqb f.1 p) (facts site))

pub data Column : Type 0 where
  subject object : Column

abbrev pub at : Column → Row → ℕ
at subject r = r.0
at object r = r.1

-- a kind of semi-join: the column of the row, and that of its partner
abbrev pub Kind : Type 0
Kind = Column × Column

-- rows r and s are partners
abbrev pub are_partners : Kind → Row → Row → Bool
are_partners k r s = eqb (at k.0 r) (at k.1 s)

-- the rows of p that have a partner in q
unfoldable pub semi_join : Kind → List Row → List Row → List Row
semi_join k p q = filter (λ r. any (are_partners k r) q) p

-- the place (from 1) of the row's first partner in q, or all q's rows where it has none
abbrev pub partner_place : Kind → List Row → Row → ℕ
partner_place k q r = first_place (are_partners k r) q

-- S-23: how many comparisons a semi-join makes, the sum of that over the rows of p
unfoldable pub comparisons : Kind → List Row → List Row → ℕ
comparisons k p q = sum (partner_place k q) p

-- k = 0, 1, 2: SS, OS, SO, the paper's; k = 3: OO, which the paper leaves out and S-14 of document 02 defines
abbrev pub kinds : List Kind
kinds = (subject, subject) ∷ (object, subject) ∷ (subject, object) ∷ (object, object) ∷ []

abbrev pub kind_count : ℕ
kind_count = length kinds

abbrev pub kind_at : ℕ → Kind
kind_at k = get_or kinds k (subject, subject)

abbrev pub most_threshold : ℕ
most_threshold = 1000

-- a table of n rows, reduced from m, is stored at the threshold t
unfoldable pub is_stored : ℕ → ℕ → ℕ → Bool
is_stored t n m = ltb 0 n && ltb (1000 * n) (t * m)

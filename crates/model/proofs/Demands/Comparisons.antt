-- S-23, semi-joins in the paper's own order: what the count of a semi-join's comparisons is.
use Prim.Native.Nat.{◌+◌, ◌*◌, ◌≤◌}
use mathlib.Core.Path.{◌≡◌, refl}
use mathlib.Core.List.{List, [], ◌∷◌, ◌++◌}
use lib.ListN.{length}
use borrow.Author.Tests.{eq-eqb}
use Rattle.model.specs.Site.{Row}
use Rattle.model.specs.Tables.{at, Kind, are_partners, partner_place, comparisons}
use Rattle.model.proofs.SemiJoins.{Partner}
use Rattle.model.proofs.Comparisons.{place_behind, all_passed_over, no_partner, comparisons_within}

-- ==== The count is the sum over the rows of p of the place (from 1) of the row's first partner in q, or of all q's rows where it has none

abbrev pub ComparisonsAreSummed : Type 0
ComparisonsAreSummed =
    (k : Kind) (q : List Row)
    → (comparisons k [] q ≡ 0) × ((r : Row) (p : List Row) → comparisons k (r ∷ p) q ≡ partner_place k q r + comparisons k p q)

pub comparisons_are_summed : ComparisonsAreSummed
unfolding comparisons
comparisons_are_summed k q = (refl, λ r p. refl)

-- where no row before s is a partner of r and s is one, the place is one more than the rows before; where none of q is, all q's rows
abbrev pub PartnerPlaces : Type 0
PartnerPlaces =
    (k : Kind) (r : Row)
    → ((before after : List Row) (s : Row) → (Partner k before r → ⊥) → at k.0 r ≡ at k.1 s
    → partner_place k (before ++ s ∷ after) r ≡ length before + 1)
    × ((q : List Row) → (Partner k q r → ⊥) → partner_place k q r ≡ length q)

pub partner-places : PartnerPlaces
partner-places k r = (
  (λ before after s none same. place_behind (are_partners k r) before s after (no_partner k r before none) (eq-eqb (at k.0 r) (at k.1 s) same)),
  λ q none. all_passed_over (are_partners k r) q (no_partner k r q none),
)

-- no row is compared with another twice
abbrev pub ComparisonsAreLimited : Type 0
ComparisonsAreLimited = (k : Kind) (p q : List Row) → comparisons k p q ≤ length p * length q

pub comparisons_are_limited : ComparisonsAreLimited
comparisons_are_limited = comparisons_within

-- The first place whose entry has the term.
use Prim.Native.Nat.{◌+◌, ◌<◌, ◌≤◌}
use native.Mathlib.Omega.{arith}
use mathlib.Core.Path.{◌≡◌}
use lib.ListN.{length, get_or}
use Rattle.std.proofs.Common.{rules, tests}
use Rattle.std.proofs.lemmas.Iterator.{serves_from_Range, first_from_Range}
use Rattle.model.specs.Site.{most_predicates}
use Rattle.model.specs.Store.{vp_entry_at}
use Rattle.catalog.proofs.Lookups.{place_searched, predicate_count, front_inside, entry_inside}
use Rattle.catalog.proofs.lookup.predicate_place.Goals as goal

pub bounds-w-0 : goal.bounds-w-0
bounds-w-0 c = omega (arith, front_inside _ c.requires)

pub find-requires-clause-callable : goal.find-requires-clause-callable
find-requires-clause-callable c =
    serves_from_Range (λ x q h. search rules) (λ i a b.
    let within : (i < most_predicates) × (vp_entry_at i + 3 ≤ length c.args.w.now) = entry_inside _ c.requires i (omega (arith, predicate_count _ c.requires)) in
    search rules)

pub returns : goal.returns
returns c =
    place_searched _ c.requires c.args.term c.find.result
    (first_from_Range _ _ _ c.find.result (λ i. get_or c.args.w.now (vp_entry_at i) 0 ≡ c.args.term) (λ i. get_or c.args.w.now (vp_entry_at i) 0 ≡ c.args.term → ⊥)
    c.find.ensures.ran (λ i q h. search (rules, tests)) (λ i q h. search (rules, tests)))

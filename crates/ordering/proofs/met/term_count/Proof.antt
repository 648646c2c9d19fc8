-- Each position counts for itself.
use Prim.Native.Nat.{ℕ}
use native.Mathlib.Nat.{add_assoc}
use mathlib.Core.Path.{refl, sym, ap, ◌∙◌}
use mathlib.Core.Bool.{Bool, cond}
use mathlib.Core.List.Memᴰ
use borrow.Author.Rules.{rules}
use Rattle.model.proofs.Membership.{count_three}
use Rattle.ordering.specs.Met.{counts_by}
use Rattle.ordering.proofs.MetNotes.{one_cell}
use Rattle.ordering.proofs.met.term_count.Statement.{statement}
use Rattle.ordering.proofs.met.term_count.Tie as tie

counts-as-term-requires : tie.Need-counts_as_term-in_subject-requires
counts-as-term-requires c κs = one_cell c.requires (Memᴰ.head refl)

counts-as-term-requires-2 : tie.Need-counts_as_term-in_predicate-requires
counts-as-term-requires-2 c κs = one_cell c.requires (Memᴰ.tail (Memᴰ.head refl))

counts-as-term-requires-3 : tie.Need-counts_as_term-in_object-requires
counts-as-term-requires-3 c κs = one_cell c.requires (Memᴰ.tail (Memᴰ.tail (Memᴰ.head refl)))

one-if-requires : tie.Need-one_if-requires
one-if-requires c κs = search rules

one-if-requires-2 : tie.Need-one_if-requires-2
one-if-requires-2 c κs = search rules

add-result : tie.Need-overflow_add-result
add-result c = search rules

one-if-requires-3 : tie.Need-one_if-requires-3
one-if-requires-3 c κs = search rules

add-result-2 : tie.Need-overflow_add-result-2
add-result-2 c = search rules

returns : tie.Need-returns
returns c =
    let counted = c.before.before.before in
    let a = counted.args in
    let one : Bool → ℕ = λ b. cond b 1 0 in
    let first = c.one_if.ensures.0 ∙ ap one counted.counts_as_term-in_subject.ensures in
    let second = c.one_if-2.ensures.0 ∙ ap one counted.counts_as_term-in_predicate.ensures in
    let third = c.one_if-3.ensures.0 ∙ ap one counted.counts_as_term-in_object.ensures in
    rw (first, second, third) (add_assoc _ _ _ ∙ sym (count_three (counts_by a.met.now) a.q.subject a.q.predicate a.q.object))

pub term_count_spec : {M : Type 1} → statement M
term_count_spec =
    tie.close
    (tie.spec
    counts-as-term-requires
    counts-as-term-requires-2
    counts-as-term-requires-3
    one-if-requires
    one-if-requires-2
    add-result
    one-if-requires-3
    add-result-2
    returns)

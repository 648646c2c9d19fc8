-- An entry that passes leaves the entries so far proper; one that does not, or whose rows start elsewhere, refuses all.
use Prim.Native.Nat.{◌+◌, ◌-◌}
use native.Mathlib.Omega.{arith}
use mathlib.Core.Path.{◌≡◌, refl, ◌∙◌}
use mathlib.Core.Logic.{⊎_elim, inl, inr}
use borrow.Author.Rules.{rules}
use Rattle.model.proofs.Booleans.{to_false}
use Rattle.site_validation.proofs.Declared.{not_term, not_ascending, too_many_rows, start_proper, entry-passes, stands-more, rows_more, all_passed}
use Rattle.site_validation.proofs.entries.rows_end.Goals as goal

pub loop-i-init : goal.loop-i-init
loop-i-init c = (search rules, search rules, refl, search rules, refl, refl, λ h. absurd (omega arith))

pub returns-then-term-gt-MOST_TERM : goal.returns-then-term-gt-MOST_TERM
returns-then-term-gt-MOST_TERM c =
    rw (not_term c.args.w.now _ _ c.loop-i-test.true (omega (arith, c.table_entry-table.ensures.term, c.if-term-gt-MOST_TERM.true))) refl

pub returns-then-term-last : goal.returns-then-term-last
returns-then-term-last c =
    rw (not_ascending c.args.w.now _ _ c.loop-i-test.true (omega arith) (omega (arith, c.table_entry-table.ensures.term, c.loop-i.invariant.6 (omega arith)))) refl

pub overflow_add-total : goal.overflow_add-total
overflow_add-total c = omega (arith, c.table_entry-table.ensures.small_rows)

pub returns-then-total-rows-gt-MOST_ROWS : goal.returns-then-total-rows-gt-MOST_ROWS
returns-then-total-rows-gt-MOST_ROWS c =
    rw (too_many_rows c.args.w.now _ _ c.loop-i-test.true (omega (arith, c.table_entry-table.ensures.rows, c.loop-i.invariant.2))) refl

pub returns-then-table-here : goal.returns-then-table-here
returns-then-table-here c =
    let inv = c.loop-i.invariant in
    let other = to_false _ (λ proper. c.if-table-here.true (c.table_entry-table.ensures.start ∙ start_proper c.args.w.now _ _ c.loop-i-test.true proper ∙ omega (arith, inv.2, inv.3))) in
    rw other refl

pub loop-i-preserved : goal.loop-i-preserved
loop-i-preserved c =
    let read = c.table_entry-table.ensures in
    let words = c.args.w.now in
    let i = c.loop-i.i in
    let inv = c.loop-i.invariant in
    let here : i + 1 - 1 ≡ i = omega arith in (
      search rules,
      search rules,
      omega (arith, inv.2, read.rows, rows_more words 3 i),
      omega (arith, inv.3),
      entry-passes words c.args.count i c.loop-i-test.true inv.4 (omega (arith, read.term))
          (⊎_elim (λ x. inr (x.0, omega (arith, x.1, read.term, inv.6 x.0))) (λ x. inl (omega (arith, x))) c.else-i-gt0.either)
          (omega (arith, read.rows, inv.2)),
      stands-more words _ _ (omega arith) inv.5 (omega (arith, read.start, inv.2, inv.3)),
      λ _. rw here read.term,
    )

pub returns : goal.returns
returns c =
    let inv = c.loop-i.invariant in
    let all : c.loop-i.i ≡ c.args.count = omega arith in
    let proper = all_passed c.args.w.now _ _ all inv.4 inv.5 in
    rw (proper, inv.3, inv.2, all) refl

-- The rows one by one. The invariant: the ranges are those of the rows passed, of which there is one or more.
use Prim.Native.Nat.{ℕ, ◌+◌, ◌*◌, ◌-◌, ◌≤◌}
use native.Mathlib.Omega.{arith}
use mathlib.Core.Path.{◌≡◌, refl, sym, ap, subst, ◌∙◌}
use mathlib.Core.Bool.{true, false, false≢true}
use mathlib.Core.Logic.{◌⊎◌, ⊎_elim, inl, inr}
use lib.ListN.{get_or}
use Rattle.searching.specs.Search.{word_at}
use Rattle.statistics.specs.Ranges.{is_gapless, RangeOf, has_value}
use Rattle.statistics.proofs.ColumnRanges.{gapless_more, range, range_same, range_more, no_values, value-more, one_value}
use Rattle.statistics.proofs.Partnered.{same_answers, same_subjects}
use Rattle.statistics.proofs.ranges.column_ranges.Goals as goal

pub returns-then-n-eq0 : goal.returns-then-n-eq0
returns-then-n-eq0 c = let a = c.args in
    let none : (column : ℕ) → RangeOf (has_value a.w.now a.start a.n column) 1 0 false =
    λ column. subst (λ (n : ℕ). RangeOf (has_value a.w.now a.start n column) 1 0 false) (sym c.if-n-eq0.true) (no_values a.w.now a.start column) in
    record { subjects = none 0; objects = none 1 }

pub loop-i-init : goal.loop-i-init
unfolding is_gapless
loop-i-init c =
    let a = c.args in
    let first : get_or a.w.now a.start 0 ≡ word_at a.w.now a.start 2 (1 - 1) = ap (λ (p : ℕ). get_or a.w.now p 0) (omega arith) in
    (omega arith, omega arith, first, (λ _. refl), omega arith, one_value a.w.now a.start (omega arith))

-- the subject at hand is not below the one before it
pub overflow_sub-subject : goal.overflow_sub-subject
overflow_sub-subject c = omega (arith, c.loop-i.invariant.2, c.requires.ascending (c.loop-i.i - 1) c.loop-i.i (omega arith) c.loop-i-test.true)

pub loop-i-preserved : goal.loop-i-preserved
loop-i-preserved c =
    let ascends : c.loop-i.last ≤ word_at c.args.w.now c.args.start 2 c.loop-i.i = omega (arith, c.loop-i.invariant.2, c.requires.ascending (c.loop-i.i - 1) c.loop-i.i (omega arith) c.loop-i-test.true) in
    let l = c.loop-i in
    let a = c.args in
    let value = get_or a.w.now (a.start + 2 * l.i + 1) 0 in
    let subject : word_at a.w.now a.start 2 l.i ≡ word_at a.w.now a.start 2 (l.i + 1 - 1) = ap (word_at a.w.now a.start 2) (omega arith) in
    let low : (c.if-object-lowest.lowest ≤ value) × (c.if-object-lowest.lowest ≤ l.lowest) × ((c.if-object-lowest.lowest ≡ value) ⊎ (c.if-object-lowest.lowest ≡ l.lowest)) =
    ⊎_elim (λ w. (omega (arith, w.if-object-lowest.true, w.lowest-is), omega (arith, w.if-object-lowest.true, w.lowest-is), inl w.lowest-is)) (λ w. (omega (arith, w.if-object-lowest.false, w.lowest-is), omega (arith, w.lowest-is), inr w.lowest-is)) c.if-object-lowest.branch-raw in
    let high : (value ≤ c.if-highest-object.highest) × (l.highest ≤ c.if-highest-object.highest) × ((c.if-highest-object.highest ≡ value) ⊎ (c.if-highest-object.highest ≡ l.highest)) =
    ⊎_elim (λ w. (omega (arith, w.if-highest-object.true, w.highest-is), omega (arith, w.if-highest-object.true, w.highest-is), inl w.highest-is)) (λ w. (omega (arith, w.if-highest-object.false, w.highest-is), omega (arith, w.highest-is), inr w.highest-is)) c.if-highest-object.branch-raw in (
      omega arith,
      omega arith,
      subject,
      (λ one.
          ⊎_elim
          (λ w. absurd (false≢true (sym w.whole-is ∙ one)))
          (λ w. gapless_more a.w.now a.start 2 l.i l.invariant.0 (omega (arith, ascends, l.invariant.2, w.if-subject-last-gt1.false)) (l.invariant.3 (sym w.whole-is ∙ one)))
          c.if-subject-last-gt1.branch-raw),
      omega (arith, low.0, high.0),
      range_more value (value-more a.w.now a.start l.i 1 (omega arith) (omega arith)) l.invariant.4 low.0 low.1 low.2 high.0 high.1 high.2 l.invariant.5,
    )

pub returns : goal.returns
returns c = let l = c.loop-i in
    let a = c.args in
    let all : l.i ≡ a.n = omega (arith, l.invariant.1) in
    let whole : l.whole ≡ true → is_gapless a.w.now a.start 2 a.n ≡ true = λ e. rw all at (l.invariant.3 e) in
    let words = range a.w.now a.start 2 a.n l.whole c.requires.ascending (omega arith) whole in
    let last : word_at a.w.now a.start 2 (a.n - 1) ≡ l.last = rw all at (sym l.invariant.2) in record { subjects = rw last at (range_same (same_answers (same_subjects _ _ _ c.requires.inside)) words); objects = subst (λ (n : ℕ). RangeOf (has_value a.w.now a.start n 1) l.lowest l.highest false) all l.invariant.5 }

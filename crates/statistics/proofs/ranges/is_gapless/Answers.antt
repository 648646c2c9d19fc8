-- The invariant: the words before the i-th have no gaps between them.
use Prim.Native.Nat.{ℕ, ◌+◌, ◌*◌, ◌-◌, ◌<◌}
use native.Mathlib.Omega.{arith}
use mathlib.Core.Path.{◌≡◌, ap}
use lib.ListN.{length}
use borrow.Author.Count.{below_more}
use mathlib.Core.List.{List}
use Rattle.searching.specs.Search.{word_at}
use Rattle.searching.proofs.WordSearch.{word_inside}
use Rattle.statistics.proofs.ColumnRanges.{Near, all_near, not_near}
use Rattle.statistics.proofs.ranges.is_gapless.Goals as goal

-- the i-th word and the one before it stand inside, and ascend
pub overflow_mul-stride : goal.overflow_mul-stride
overflow_mul-stride c = let inside = word_inside c.requires c.loop-i-test.true in omega (arith, inside)

pub overflow_add-base : goal.overflow_add-base
overflow_add-base c = let inside = word_inside c.requires c.loop-i-test.true in omega (arith, inside)

pub offset_bounds-words-base : goal.offset_bounds-words-base
offset_bounds-words-base c = let inside = word_inside c.requires c.loop-i-test.true in omega (arith, inside)

pub bounds-words-base : goal.bounds-words-base
bounds-words-base c = word_inside c.requires c.loop-i-test.true

pub overflow_sub-i : goal.overflow_sub-i
overflow_sub-i c = omega (arith, c.loop-i.invariant.0)

pub overflow_mul-stride-in-loop-i : goal.overflow_mul-stride-in-loop-i
overflow_mul-stride-in-loop-i c = let earlier-inside : c.args.base + c.args.stride * (c.loop-i.i - 1) < length c.args.words.now = word_inside c.requires (omega arith) in omega (arith, earlier-inside)

pub overflow_add-base-in-loop-i : goal.overflow_add-base-in-loop-i
overflow_add-base-in-loop-i c = let earlier-inside : c.args.base + c.args.stride * (c.loop-i.i - 1) < length c.args.words.now = word_inside c.requires (omega arith) in omega (arith, earlier-inside)

pub offset_bounds-words-base-in-loop-i : goal.offset_bounds-words-base-in-loop-i
offset_bounds-words-base-in-loop-i c = let earlier-inside : c.args.base + c.args.stride * (c.loop-i.i - 1) < length c.args.words.now = word_inside c.requires (omega arith) in omega (arith, earlier-inside)

pub bounds-words-base-in-loop-i : goal.bounds-words-base-in-loop-i
bounds-words-base-in-loop-i c = word_inside c.requires (omega arith)

pub overflow_sub-words : goal.overflow_sub-words
overflow_sub-words c = c.requires.ascending (c.loop-i.i - 1) c.loop-i.i (omega arith) c.loop-i-test.true

-- the i-th word is the one behind that before it
behind : (words : List ℕ) (base stride i : ℕ) → 0 < i → word_at words base stride (i - 1 + 1) ≡ word_at words base stride i
behind words base stride i h = ap (word_at words base stride) (omega arith)

below-near : (words : List ℕ) (base stride i : ℕ) → 0 < i → ((j : ℕ) → j + 1 < i → Near words base stride j) → Near words base stride (i - 1)
    → (j : ℕ) → j + 1 < i + 1 → Near words base stride j
below-near words base stride i some near last j h = below_more (λ k. Near words base stride k) (i - 1) (λ k l. near k (omega arith)) last j (omega arith)

pub returns-then-words-base-gt1 : goal.returns-then-words-base-gt1
returns-then-words-base-gt1 c =
    let next = behind c.args.words.now c.args.base c.args.stride c.loop-i.i c.loop-i.invariant.0 in
    not_near _ _ _ _ (c.loop-i.i - 1) (omega (arith, c.loop-i.invariant.0, c.loop-i-test.true))
    (λ near. omega (arith, near, next, c.if-words-base-gt1.true))

pub loop-i-preserved : goal.loop-i-preserved
loop-i-preserved c =
    let next = behind c.args.words.now c.args.base c.args.stride c.loop-i.i c.loop-i.invariant.0 in
    let ascends = c.requires.ascending (c.loop-i.i - 1) c.loop-i.i (omega arith) c.loop-i-test.true in
    (omega arith, below-near _ _ _ _ c.loop-i.invariant.0 c.loop-i.invariant.1 (omega (arith, next, ascends, c.if-words-base-gt1.false)))

pub returns : goal.returns
returns c = all_near _ _ _ c.args.n (λ j h. c.loop-i.invariant.1 j (omega arith))

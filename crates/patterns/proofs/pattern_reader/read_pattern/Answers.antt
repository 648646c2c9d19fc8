-- A triple pattern that is read stands in the array with the place of its predicate; one that is refused refuses the pattern.
use Prim.Native.Nat.{◌≤◌}
use native.Mathlib.Omega.{arith}
use mathlib.Core.Path.{◌≡◌, refl, sym, ◌∙◌}
use mathlib.Core.Bool.{true, false, and-false}
use lib.Dec.{leb}
use borrow.Author.Tests.{le-leb, lt-leb}
use Rattle.std.proofs.lemmas.Result.{err_from_is_err_and}
use Rattle.model.specs.Pattern.{most_triple_patterns, is_pattern_length}
use Rattle.model.proofs.Booleans.{and_make}
use Rattle.patterns.proofs.PatternFileReading.{no_member_read, every_member, next_member_refused, next_member_read}
use Rattle.patterns.proofs.PatternFileReading.{no_count, count_refused, triples_refused, bytes_left, returns_refusal, returns_pattern}
use Rattle.patterns.proofs.pattern_reader.read_pattern.Goals as goal
use Rattle.patterns.proofs.pattern_reader.read_pattern.Goals.{then-count-lt1-via-then-count-lt1, then-count-lt1-via-else-count-lt1+then-count-gt-MOST_TRIPLE_PATTERNS}

pub returns-in_default : goal.returns-in_default
returns-in_default c = returns_refusal _ _ _ (no_count _ _ (sym c.read_number.ensures ∙ c.in_default.is))

pub returns-then-count-lt1 : goal.returns-then-count-lt1
returns-then-count-lt1 c =
    let count-is = sym c.read_number.ensures ∙ c.in-Some.is in
    let count-wrong : is_pattern_length c.in-Some.n ≡ false = elim c.then-count-lt1.branch [ then-count-lt1-via-then-count-lt1 w ↦ rw (lt-leb 1 _ w.if-count-lt1.true) refl | then-count-lt1-via-else-count-lt1+then-count-gt-MOST_TRIPLE_PATTERNS w ↦ rw (lt-leb c.in-Some.n most_triple_patterns (omega arith)) (and-false (leb 1 c.in-Some.n)) ] in
    returns_refusal _ _ _ (count_refused _ _ count-is count-wrong)

pub loop-i-init : goal.loop-i-init
loop-i-init c =
    let count_most : c.in-Some.n ≤ most_triple_patterns = omega arith in
    no_member_read count_most refl refl refl

pub returns-in_err-read : goal.returns-in_err-read
returns-in_err-read c =
    let count-is = sym c.read_number.ensures ∙ c.in-Some.is in
    let count_most : c.in-Some.n ≤ most_triple_patterns = omega arith in
    let count-right : is_pattern_length c.in-Some.n ≡ true = and_make (le-leb 1 _ c.if-count-lt1.false) (le-leb _ most_triple_patterns count_most) in
    let p = err_from_is_err_and c.from_residual.result c.from_residual.ensures.1 in
    rw (p.1, p.2) (returns_refusal _ _ _
    (triples_refused _ _ count-is count-right
    (next_member_refused c.loop-i.invariant c.loop-i-test.true _ c.in_err-read.ensures)))

pub loop-i-preserved : goal.loop-i-preserved
loop-i-preserved c =
    next_member_read c.loop-i.invariant c.loop-i-test.true _ c.in_ok-read.ensures

pub returns-then-next-s : goal.returns-then-next-s
returns-then-next-s c =
    let count-is = sym c.read_number.ensures ∙ c.in-Some.is in
    let count_most : c.in-Some.n ≤ most_triple_patterns = omega arith in
    let count-right : is_pattern_length c.in-Some.n ≡ true = and_make (le-leb 1 _ c.if-count-lt1.false) (le-leb _ most_triple_patterns count_most) in
    returns_refusal _ _ _
    (bytes_left _ _ count-is count-right _ (every_member c.loop-i.invariant c.loop-i-test.false) c.if-next-s.true)

pub returns : goal.returns
returns c =
    let count-is = sym c.read_number.ensures ∙ c.in-Some.is in
    let count_most : c.in-Some.n ≤ most_triple_patterns = omega arith in
    let count-right : is_pattern_length c.in-Some.n ≡ true = and_make (le-leb 1 _ c.if-count-lt1.false) (le-leb _ most_triple_patterns count_most) in
    returns_pattern _ _ count-is count-right c.loop-i.invariant c.loop-i-test.false c.if-next-s.false

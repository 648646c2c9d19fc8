-- Below ten a number is one digit, and else its last digit stands behind those of its tenth.
use Rattle.std.proofs.Common.{ap, arith, length, ◌+◌, ◌/◌, ◌%◌, [], ◌∷◌}
use Rattle.model.specs.Text.{decimal}
use Rattle.model.proofs.Decimals.{decimal_digit, decimal-more, decimal_longer}
use Rattle.model.proofs.Setting.{sets-append}
use Rattle.text.proofs.digits.+put_decimal.Goals as goal

pub bounds-out-at : goal.bounds-out-at
bounds-out-at t c = omega (arith, ap length (decimal_digit c.args.n c.if-n-lt10.true))

pub returns-then-n-lt10-clause-value : goal.returns-then-n-lt10-clause-value
returns-then-n-lt10-clause-value t c = rw (decimal_digit c.args.n c.if-n-lt10.true)

pub returns-then-n-lt10-clause-out_after : goal.returns-then-n-lt10-clause-out_after
returns-then-n-lt10-clause-out_after t c = rw (decimal_digit c.args.n c.if-n-lt10.true)

pub put_decimal-next-requires : goal.put_decimal-next-requires
put_decimal-next-requires t c = let longer = decimal_longer c.args.n (omega arith) (omega arith) in (omega arith, omega arith)

pub bounds-out-next : goal.bounds-out-next
bounds-out-next t c = omega (arith, decimal_longer c.args.n (omega arith) (omega arith))

pub overflow_add-result-2 : goal.overflow_add-result-2
overflow_add-result-2 t c = omega (arith, bounds-out-next t c)

pub returns-clause-value : goal.returns-clause-value
returns-clause-value t c = omega (arith, decimal_longer c.args.n (omega arith) (omega arith))

pub returns-clause-out_after : goal.returns-clause-out_after
returns-clause-out_after t c = cc (decimal-more c.args.n (omega arith) (omega arith), sets-append c.args.out.now c.args.at (decimal (c.args.n / 10)) ((48 + c.args.n % 10) ∷ []))

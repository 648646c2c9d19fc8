-- The recursion is on the number: its tenth is below it.
use Rattle.text.proofs.digits.+put_decimal.Given as goal

abbrev pub decreases-put_decimal : goal.decreases-put_decimal
decreases-put_decimal l = l.n

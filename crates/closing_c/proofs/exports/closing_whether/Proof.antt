use borrow.Author.Rules.{rules}
use mathlib.Core.Path.{ap}
use mathlib.Core.List.{[]}
use Rattle.model.specs.Calls.{outcome}
use Rattle.model.specs.declared.answer.Answer.{Answer}
use Rattle.closing_c.proofs.Reported.{outcome_reported}
use Rattle.closing_c.proofs.exports.closing_whether.Statement.{statement}
use Rattle.closing_c.proofs.exports.closing_whether.Tie as tie

whether-requires : tie.Need-whether-told-requires
whether-requires c κs = search rules

report-requires : tie.Need-report-requires
report-requires c κs = search rules

returns : tie.Need-returns
returns c = outcome_reported _ (ap (λ (answer : Answer). outcome answer []) c.whether-told.ensures) c.report.ensures

pub closing_whether_spec : {M : Type 1} → statement M
closing_whether_spec = tie.close (tie.spec whether-requires report-requires returns)

use borrow.Author.Rules.{rules}
use Rattle.closing_c.proofs.Reported.{outcome_reported}
use Rattle.closing_c.proofs.exports.closing_run.Statement.{statement}
use Rattle.closing_c.proofs.exports.closing_run.Tie as tie

run-requires : tie.Need-run-found-requires
run-requires c κs = search rules

report-requires : tie.Need-report-requires
report-requires c κs = search rules

same_length : tie.Need-shape_of-rows
same_length c = search rules

returns : tie.Need-returns
returns c = outcome_reported _ c.run-found.ensures c.report.ensures

pub closing_run_spec : {M : Type 1} → statement M
closing_run_spec =
    tie.close (tie.spec run-requires report-requires same_length returns)

use borrow.Author.Rules.{rules}
use Rattle.closing_c.proofs.Reported.{outcome_reported}
use Rattle.closing_c.proofs.exports.closing_build.Statement.{statement}
use Rattle.closing_c.proofs.exports.closing_build.Tie as tie

build-requires : tie.Need-build-made-requires
build-requires c κs = search rules

report-requires : tie.Need-report-requires
report-requires c κs = search rules

same_length : tie.Need-shape_of-store
same_length c = search rules

returns : tie.Need-returns
returns c = outcome_reported _ c.build-made.ensures c.report.ensures

pub closing_build_spec : {M : Type 1} → statement M
closing_build_spec =
    tie.close (tie.spec build-requires report-requires same_length returns)

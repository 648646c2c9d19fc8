-- What is taken of the two files is handed to the chain, and what it answers is put on the screen.
use Rattle.std.proofs.Common.{ℕ, ◌∙◌, ap, refl, take}
use Rattle.closing_check.proofs.Lines.{taken-size, taken_by, outcome-shown}
use Rattle.closing_check.proofs.screen.show.Goals as goal

pub slice_bounds-site-end : goal.slice_bounds-site-end
slice_bounds-site-end c = taken-size c.args.site.now _ _ c.requires.0.inside c.taken.ensures

pub slice_bounds-check-end : goal.slice_bounds-check-end
slice_bounds-check-end c = taken-size c.args.check.now _ _ c.requires.1.inside c.taken-2.ensures

pub returns-clause-out_after : goal.returns-clause-out_after
returns-clause-out_after c =
    let site = ap (λ (n : ℕ). take n c.args.site.now) (taken_by _ _ c.args.zones.end c.said.ensures c.taken.ensures) in
    let check = ap (λ (n : ℕ). take n c.args.check.now) (taken_by _ _ c.args.question.end c.said-2.ensures c.taken-2.ensures) in
    c.put_answer.ensures.1 ∙ outcome-shown _ _ c.check_site-answer.ensures.rows_after ∙ rw (site, check) refl

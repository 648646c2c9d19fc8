-- The questions in their order; the site that was read is the one in the image.
use native.Mathlib.Omega.{arith}
use mathlib.Core.Path.{sym, ◌∙◌}
use borrow.Author.Rules.{rules}
use Rattle.model.specs.SiteFile.{read_site}
use Rattle.model.proofs.Results.{err_refused}
use Rattle.site_reading.proofs.Replies.{site_read, threshold_refused, file_refused, file_given}
use Rattle.std.proofs.lemmas.Result.{err_from_is_err_and}
use Rattle.closing.proofs.calls.build_store.Goals as goal

pub returns-then-t-gt-MOST_THRESHOLD : goal.returns-then-t-gt-MOST_THRESHOLD
returns-then-t-gt-MOST_THRESHOLD c =
    let g = c.args in
    sym (threshold_refused g.t g.store.now g.site.now c.if-t-gt-MOST_THRESHOLD.true)

pub returns-in_err-count : goal.returns-in_err-count
returns-in_err-count c =
    let g = c.args in
    let p = err_from_is_err_and c.from_residual.result c.from_residual.ensures.1 in
    rw (p.1, p.2) (sym (file_refused g.t g.store.now g.site.now (omega arith) (err_refused _ (read_site g.site.now) c.read_site.ensures c.in_err-count.was)))

pub fill_store-requires : goal.fill_store-requires
fill_store-requires c =
    ((site_read _ c.read_site.new.image (omega arith) c.read_site.ensures c.in_ok-count.was).0, search rules)

pub returns : goal.returns
returns c =
    let g = c.args in
    let site = site_read _ c.read_site.new.image (omega arith) c.read_site.ensures c.in_ok-count.was in
    c.fill_store.ensures ∙ sym (file_given g.t g.store.now g.site.now (omega arith) site.1)

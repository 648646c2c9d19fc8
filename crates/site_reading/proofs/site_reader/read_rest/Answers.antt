-- The tables, and then the end of the bytes: the site that was read stands in the image.
use Rattle.std.proofs.lemmas.Result.{err_from_is_err_and}
use Rattle.site_reading.proofs.Declarations.{rest_refused, rest_longer, rest_read}
use Rattle.site_reading.proofs.site_reader.read_rest.Goals as goal

pub returns-in_err-end : goal.returns-in_err-end
returns-in_err-end c =
    let g = c.args in
    let p = err_from_is_err_and c.from_residual.result c.from_residual.ensures.1 in
    rw (p.1, p.2) (rest_refused g.s.now g.at g.count g.image.now c.read_tables.new.image c.read_tables.ensures c.in_err-end.was)

pub returns-then-end-s : goal.returns-then-end-s
returns-then-end-s c =
    let g = c.args in
    rest_longer g.s.now g.at g.count g.image.now c.read_tables.new.image c.read_tables.ensures c.in_ok-end.was c.if-end-s.true

pub returns : goal.returns
returns c =
    let g = c.args in
    rest_read g.s.now g.at g.count g.image.now c.read_tables.new.image c.read_tables.ensures c.in_ok-end.was
    c.requires.0 c.requires.1 c.requires.2 c.if-end-s.false

-- `analyse::analyse`: counted, then painted. Assumes nothing.
use Rattle.std.proofs.Common.{length}
use Rattle.std.proofs.lemmas.Result.{err_from_is_err_and}
use Rattle.analyse.specs.Laws.{found-few, found-painted, none-painted}
use Rattle.analyse.proofs.analyse.Goals as goal

pub returns-in_err-found : goal.returns-in_err-found
returns-in_err-found c =
    let s = c.args in
    let p = err_from_is_err_and c.from_residual.result c.from_residual.ensures.1 in
    rw (p.1, p.2) (none-painted s.index.now c.tallied.new.index s.samples.now (length s.samples.now) s.shift s.tol s.limit s.entries.now _ c.in_err-found.ensures)

pub shared_ref_as_front-met : goal.shared_ref_as_front-met
shared_ref_as_front-met c =
    let s = c.args in
    found-few s.index.now c.tallied.new.index s.samples.now (length s.samples.now) s.shift s.tol s.limit s.entries.now c.in_ok-found.found c.in_ok-found.ensures

pub returns : goal.returns
returns c =
    let s = c.args in
    found-painted s.index.now c.tallied.new.index s.samples.now (length s.samples.now) s.shift s.tol s.limit s.entries.now c.in_ok-found.found c.in_ok-found.ensures c.paint.result c.paint.ensures

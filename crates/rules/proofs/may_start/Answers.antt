-- `rules::may_start`
use Rattle.std.proofs.Common.{◌∙◌, eq-eqb}
use Rattle.syntax.specs.Test.{both}
use Rattle.rules.specs.Turns.{starts, sent_as_lem}
use Rattle.rules.proofs.may_start.Goals as goal

pub returns : goal.returns
unfolding starts both
returns c =
    let g = c.args in
    let s = sent_as_lem g.size g.m g.cells.now g.up.now g.scan g.prev g.r.sent c.reference_in-f.result c.requires.4 c.reference_in-f.ensures in
    rw (eq-eqb _ _ c.if-r-scan.false, c.if-r.false) (c.sent_right.ensures ∙ s)

use Rattle.walk.specs.Points.{run_in}
use Rattle.walk.proofs.run_to.Goals as goal
use Rattle.walk.proofs.run_to.Goals.{then-k, else-k}

pub returns : goal.returns
unfolding run_in
returns c = elim c.if-k.branch [ then-k w ↦ rw (w.sent-is, w.if-k.true) | else-k w ↦ rw (w.sent-is, w.if-k.false, w.sent_from-sent.ensures, w.reference_in.ensures) ]

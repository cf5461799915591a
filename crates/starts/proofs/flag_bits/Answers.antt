use Rattle.std.proofs.Common.{le-leb, le-ltb}
use Rattle.std.proofs.lemmas.Bool.{lt-leb}
use Rattle.base.specs.Upto.{literal_0}
use Rattle.starts.proofs.flag_bits.Goals as goal
use Rattle.starts.proofs.flag_bits.Goals.{else-not-k-via-then-not-k+then-size-p+else-p-n, else-not-k-via-then-not-k+else-size-p, else-not-k-via-else-not-k}

pub returns-else-not-k : goal.returns-else-not-k
returns-else-not-k c =
    elim c.else-not-k.branch [
      | else-not-k-via-then-not-k+then-size-p+else-p-n w ↦ rw (w.if-not-k.true, le-leb _ _ w.if-size-p.true, le-ltb _ _ w.if-p-n.false) literal_0
      | else-not-k-via-then-not-k+else-size-p w ↦ rw (w.if-not-k.true, lt-leb _ _ w.if-size-p.false) literal_0
      | else-not-k-via-else-not-k w ↦ rw w.if-not-k.false literal_0
    ]

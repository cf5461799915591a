-- `ColorIndex::find`: the probes from d on end where those from 0 on do. Assumes nothing.
use Rattle.std.proofs.Common.{sym, refl, ◌∙◌, arith}
use Rattle.colors.specs.Table.{slot_of}
use Rattle.colors.specs.Laws.{find_free, find_key, find_on, probe-end}
use Rattle.colors.proofs.ColorIndex.find.Goals as goal
use Rattle.colors.proofs.ColorIndex.find.Goals.{then-self-s-via-then-self-s, then-self-s-via-else-self-s+then-self-s-2}

pub loop-d-init : goal.loop-d-init
unfolding slot_of
loop-d-init c = refl

pub returns-then-self-s : goal.returns-then-self-s
returns-then-self-s c = (
  elim c.then-self-s.branch [
    | then-self-s-via-then-self-s w ↦ find_free _ _ _ _ c.hash-first.result c.loop-d.d c.hash-first.ensures.0 (omega arith) c.loop-d.invariant w.if-self-s.true
    | then-self-s-via-else-self-s+then-self-s-2 w ↦ find_key _ _ _ _ c.hash-first.result c.loop-d.d c.hash-first.ensures.0 (omega arith) c.loop-d.invariant w.if-self-s.false w.if-self-s-2.true
  ],
  omega arith,
)

pub loop-d-preserved : goal.loop-d-preserved
loop-d-preserved c = find_on _ _ _ _ c.hash-first.result c.loop-d.d c.hash-first.ensures.0 (omega arith) c.loop-d.invariant c.if-self-s.false c.if-self-s-2.false

pub returns : goal.returns
returns c = (c.hash-first.ensures.0 ∙ sym (probe-end _ _ _ _ c.loop-d.d (omega arith) (omega arith)) ∙ c.loop-d.invariant, c.hash-first.ensures.1)

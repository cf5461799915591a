-- `predictor::renewed`. The loop's invariant: what stands and what is to follow make the whole.
use Rattle.std.proofs.Common.{take, drop}
use Rattle.h265.specs.Predictor.{unreused, updated}
use Rattle.predictor.specs.UpdateLaws.{Filling}
use Rattle.predictor.proofs.renewed.Given as goal

abbrev pub invariant-loop-j : goal.invariant-loop-j
invariant-loop-j l =
    Filling l.limit l.size l.entries (unreused (drop l.j (take l.cu.pred_size l.cu.reused)) (drop l.j (take l.old.size l.old.entries)))
    (updated l.limit (take l.initial.size l.initial.entries) (take l.cu.pred_size l.cu.reused) (take l.old.size l.old.entries))

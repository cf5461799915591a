-- `exports_write::velomitra_write_palette_cu`: the writer's answer, laid.
use Rattle.std.proofs.Common.{refl}
use Rattle.exports_write.specs.CallLaws.{write_laid_lem, write_refused}
use Rattle.refusal.specs.Laws.{number_not}
use Rattle.exports_write.proofs.velomitra_write_palette_cu.Goals as goal

pub returns-in-Ok : goal.returns-in-Ok
returns-in-Ok c = let a = c.args in write_laid_lem a.block.now a.runs.now a.count a.bins.now a.used.now refl refl (rw c.in-Ok.is at c.written.ensures) refl c.put_count.ensures

pub returns-in-Err : goal.returns-in-Err
returns-in-Err c = let a = c.args in rw c.from.ensures (write_refused a.block.now a.runs.now a.count a.bins.now a.used.now refl refl (rw c.in-Err.is at c.written.ensures) (number_not c.in-Err.refusal))

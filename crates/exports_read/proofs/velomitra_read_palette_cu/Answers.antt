-- `exports_read::velomitra_read_palette_cu`: the entry point's answer, laid.
use Rattle.std.proofs.Common.{◌≡◌, refl, arith}
use Rattle.refusal.specs.Refusal.{number_of}
use Rattle.readblock.specs.Read.{as_read, refused_of}
use Rattle.refusal.specs.Laws.{number_some}
use Rattle.exports_read.specs.CallLaws.{read-laid, read-refused}
use Rattle.exports_read.proofs.velomitra_read_palette_cu.Goals as goal

pub returns-in-Ok : goal.returns-in-Ok
unfolding as_read
returns-in-Ok c =
    let a = c.args in
    read-laid a.size a.format a.luma a.chroma a.lossless a.predictor.now a.bins.now (record { block = a.block.now; runs = a.runs.now; count = a.count.now; used = a.used.now }) a.place.now c.predictor_of-p.ensures c.in-Ok.ensures refl c.lay_read.ensures

pub returns-in-Err : goal.returns-in-Err
unfolding as_read refused_of
returns-in-Err c =
    let a = c.args in
    let n = number_some c.in-Err.refused.refusal in
    rw c.from.ensures (read-refused a.size a.format a.luma a.chroma a.lossless a.predictor.now a.bins.now (record { block = a.block.now; runs = a.runs.now; count = a.count.now; used = a.used.now }) a.place.now c.predictor_of-p.ensures c.in-Err.ensures (λ (z : number_of c.in-Err.refused.refusal ≡ 0). omega arith) c.put_count.ensures)

-- `exports_smooth::velomitra_smooth_indices`: the entry point's answer, laid where it refuses nothing.
use mir.Val.{bool_byte}
use Rattle.h265.specs.Strings.{bit}
use Rattle.std.proofs.Common.{◌≡◌, ℕ, ◌+◌, ◌*◌, Bool, true, false, ◌≤◌, ◌∙◌, ap, sym, refl, Ok, Err, arith}
use Rattle.refusal.specs.Refusal.{number_of}
use Rattle.refusal.specs.Laws.{number_some}
use Rattle.smoothblock.specs.Block.{as_smoothed}
use Rattle.smoothing.specs.Smoothing.{smooth_of}
use Rattle.flat.specs.Flat.{block_of, config_of, source_of}
use Rattle.exports_smooth.specs.Calls.{smooth_out}
use Rattle.exports_smooth.specs.CallLaws.{smooth_done, smooth_refused}
use Rattle.exports_smooth.proofs.velomitra_smooth_indices.Goals as goal

told : (b : Bool) (r : ℕ) → r ≡ bool_byte b → r ≡ 2 * 0 + bit b
told true r e = omega arith
told false r e = omega arith

pub returns-in-Ok : goal.returns-in-Ok
unfolding smooth_out
returns-in-Ok c =
    let a = c.args in
    let cu = block_of a.block.now in
    let e : as_smoothed cu (Ok c.in-Ok.smoothed) ≡ smooth_of a.luma.now a.cb.now a.cr.now (config_of a.config.now) (source_of a.source.now) a.lambda a.bits_per_run cu = rw (c.config_of-c.ensures, c.source_of-g.ensures, c.block_of-cu.ensures) at c.in-Ok.ensures in
    let k = c.from.ensures in
    rw (← e) (smooth_done (as_smoothed cu (Ok c.in-Ok.smoothed)) a.block.now _ _ refl (told c.in-Ok.smoothed.changed c.from.result c.from.ensures) c.lay_block.ensures)

pub returns-in-Err : goal.returns-in-Err
unfolding smooth_out
returns-in-Err c =
    let a = c.args in
    let cu = block_of a.block.now in
    let r = c.in-Err.refusal in
    let e : as_smoothed cu (Err r) ≡ smooth_of a.luma.now a.cb.now a.cr.now (config_of a.config.now) (source_of a.source.now) a.lambda a.bits_per_run cu = rw (c.config_of-c.ensures, c.source_of-g.ensures, c.block_of-cu.ensures) at c.in-Err.ensures in
    let n : 1 ≤ number_of r = number_some r in
    rw (← e) (smooth_refused (as_smoothed cu (Err r)) a.block.now _ (λ z. absurd (omega arith)) (omega arith))

-- `exports_analysis::velomitra_analyze_palette`: the luma QP's tolerance, lent.
use mathlib.Core.Path.{refl, ◌∙◌}
use Rattle.flat.specs.Flat.{source_of}
use Rattle.flatchoose.specs.Choose.{Lent}
use Rattle.exports_analysis.proofs.CallLaws.{palette_out}
use Rattle.exports_analysis.proofs.velomitra_analyze_palette.Goals as goal

pub returns : goal.returns
returns c = let s = c.args in
    let l : Lent = record { keys = s.keys.now; entry = s.entry.now; stamp = s.stamp.now; block = s.block.now } in
    c.velomitra_analyze_with.ensures ∙ palette_out s.luma.now s.cb.now s.cr.now s.config.now s.source.now s.predictor.now l c.config_of.result (source_of s.source.now) c.config_of.ensures refl c.tolerance_of-tol.result (λ t. c.tolerance_of-tol.ensures ∙ rw t)

-- `smoothmoves::fill`: the run's part of the list, filled.
use Rattle.std.proofs.Common.{ℕ, ◌+◌, ◌-◌, take, drop, refl, ◌∙◌, arith}
use Rattle.samples.specs.Rows.{row_laid}
use Rattle.smoothmoves.proofs.Filled.{filled}
use Rattle.smoothmoves.proofs.fill.Goals as goal

pub returns : goal.returns
returns c =
    let s = c.args in
    row_laid (λ (i : ℕ). s.v) (λ (i : ℕ). s.v) s.indices.now c.fill.new.self s.start s.len (omega arith) (λ j. refl)
    (c.fill.ensures.after (λ y e. e) ∙ filled s.v (take (s.start + s.len - s.start) (drop s.start s.indices.now)))

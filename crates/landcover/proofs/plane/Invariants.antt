-- `landcover::plane`. The loop's invariant: the places passed are laid.
use Rattle.std.proofs.Common.{◌≡◌, ℕ, replicate}
use Rattle.base.specs.Cells.{laid}
use Rattle.landcover.specs.Map.{cover_at, sample_of}
use Rattle.landcover.proofs.plane.Given as goal

abbrev pub invariant-loop-i : goal.invariant-loop-i
invariant-loop-i l = l.v-items ≡ laid (λ (j : ℕ). sample_of (cover_at l.half j) l.by l.deep) (replicate 1920 0) 0 l.i

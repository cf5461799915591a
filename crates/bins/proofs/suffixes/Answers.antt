use native.Mathlib.Omega.{arith}
use Rattle.bins.specs.Logarithm.{suffixes-few, suffixes-all}
use Rattle.bins.proofs.suffixes.Goals as goal

pub returns-then-longest-p : goal.returns-then-longest-p
returns-then-longest-p c = (λ k e. suffixes-few _ _ k e c.if-longest-p.true, omega arith, λ h. omega arith)

pub returns-else-longest-p : goal.returns-else-longest-p
returns-else-longest-p c = (λ k e. suffixes-all _ _ k e c.if-longest-p.false, omega arith, λ h. h)

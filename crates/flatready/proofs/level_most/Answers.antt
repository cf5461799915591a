-- `flatready::level_most`: no more than the bound itself.
use mathlib.Core.Path.{◌≡◌, sym, ◌∙◌}
use Prim.Native.Nat.{◌≤◌}
use native.Mathlib.Nat.{min-le_right}
use native.Mathlib.Omega.{arith}
use borrow.Author.Tests.{eq-eqb, ne_eqb}
use Rattle.flat.specs.Flat.{block_of}
use borrow.Author.Rules.{rules}
use Rattle.flatready.proofs.level_most.Goals as goal

pub returns-then-list-eq1 : goal.returns-then-list-eq1
unfolding block_of
returns-then-list-eq1 c = rw (eq-eqb _ _ c.if-list-eq1.true, c.most_in.ensures, c.byte.ensures) (min-le_right 65535 _)

pub returns-else-list-eq1 : goal.returns-else-list-eq1
unfolding block_of
returns-else-list-eq1 c = rw (ne_eqb _ _ c.if-list-eq1.false) (omega arith)

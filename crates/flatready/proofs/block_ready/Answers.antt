-- `flatready::block_ready`: yes only after every test.
use mathlib.Core.Path.{◌≡◌, refl, sym, ◌∙◌}
use Prim.Native.Nat.{◌≤◌, ◌*◌}
use native.Mathlib.Nat.{min-le_right}
use native.Mathlib.Omega.{arith}
use Rattle.base.specs.Pick.{true_false}
use Rattle.flat.specs.Flat.{number, byte}
use Rattle.model.specs.Domain.{most}
use Rattle.flatready.specs.ReadyLaws.{cells-few, entries-few, flags-few, quick_is, block_ready}
use borrow.Author.Rules.{rules}
use Rattle.flatready.proofs.block_ready.Goals as goal

pub returns-then-block-lt4432 : goal.returns-then-block-lt4432
returns-then-block-lt4432 c = λ e. absurd (true_false (sym e))

pub reused-t-requires : goal.reused-t-requires
reused-t-requires c = (flags-few c.args.block.now c.framed.result c.framed.ensures c.if-framed-count.true, omega arith)

pub overflow_cast-result-then-n-block : goal.overflow_cast-result-then-n-block
overflow_cast-result-then-n-block c = omega (arith, c.type_inv.block 7)

pub overflow_add-result : goal.overflow_add-result
overflow_add-result c = omega (arith, c.type_inv.block 7, c.reused-t.ensures.1)

pub overflow_cast-n : goal.overflow_cast-n
overflow_cast-n c = omega (arith, c.type_inv.block 5)

pub overflow_mul-n : goal.overflow_mul-n
overflow_mul-n c = omega (arith, c.type_inv.block 5)

pub fit-requires : goal.fit-requires
fit-requires c = let n = entries-few c.args.block.now c.framed.result c.framed.ensures c.if-framed-count.true in
    (omega arith, omega arith, omega arith, omega arith)

pub overflow_mul-side : goal.overflow_mul-side
overflow_mul-side c = omega (arith, cells-few c.args.block.now c.framed.result c.framed.ensures c.if-framed-count.true)

pub cells_ready-requires : goal.cells_ready-requires
cells_ready-requires c = let q = quick_is c.args.block.now c.framed.result c.framed.ensures c.if-framed-count.true c.if-n-block.true in (
  omega arith,
  cells-few c.args.block.now c.framed.result c.framed.ensures c.if-framed-count.true,
  q.some,
  entries-few c.args.block.now c.framed.result c.framed.ensures c.if-framed-count.true,
  refl,
  q.same,
)

pub returns-then-n-block : goal.returns-then-n-block
returns-then-n-block c = let b = c.args.block.now in
    let low : c.most_in-m.result ≤ most (byte (number b 2)) = rw (c.most_in-m.ensures, c.byte.ensures) (min-le_right 65535 _) in
    λ e.
    block_ready b c.framed.result c.framed.ensures c.if-framed-count.true c.if-n-block.true c.most_in-m.result low c.reused-t.result c.fit.result c.cells_ready.result
    (omega arith) c.reused-t.ensures.0 c.fit.ensures c.cells_ready.ensures e

pub returns-else-n-block : goal.returns-else-n-block
returns-else-n-block c = λ e. absurd (true_false (sym e))

pub returns-else-framed-count : goal.returns-else-framed-count
returns-else-framed-count c = λ e. absurd (true_false (sym e))

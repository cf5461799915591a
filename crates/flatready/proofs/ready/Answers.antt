-- `flatready::ready`: yes only after every test.
use mathlib.Core.Path.{◌≡◌, sym, ◌∙◌}
use Prim.Native.Nat.{◌≤◌}
use native.Mathlib.Nat.{min-le_right}
use native.Mathlib.Omega.{arith}
use Rattle.base.specs.Pick.{true_false}
use Rattle.flat.specs.Flat.{number, byte}
use Rattle.model.specs.Domain.{most}
use Rattle.flatready.specs.ReadyLaws.{within, ready_made}
use borrow.Author.Rules.{rules}
use Rattle.flatready.proofs.ready.Goals as goal

pub returns-then-predictor-lt385 : goal.returns-then-predictor-lt385
returns-then-predictor-lt385 c = λ e. absurd (true_false (sym e))

pub bounds-block-2 : goal.bounds-block-2
bounds-block-2 c = omega (arith, (c.block_ready.ensures c.if-block_ready.true).block)

pub overflow_mul-size : goal.overflow_mul-size
overflow_mul-size c = omega (arith, c.type_inv.predictor 0)

pub fit-requires : goal.fit-requires
fit-requires c = let w = within c.args.predictor.now c.args.block.now c.args.limit (c.block_ready.ensures c.if-block_ready.true) c.if-size-limit.true in
    (omega arith, omega arith, omega arith, omega arith)

pub returns-then-size-limit : goal.returns-then-size-limit
returns-then-size-limit c = let b = c.args.block.now in
    let low : c.most_in-m.result ≤ most (byte (number b 2)) = rw (c.most_in-m.ensures, c.byte.ensures) (min-le_right 65535 _) in
    λ e.
    ready_made c.args.predictor.now b c.args.limit (c.block_ready.ensures c.if-block_ready.true) c.if-size-limit.true c.most_in-m.result low (omega arith) (sym c.fit.ensures ∙ e)

pub returns-else-size-limit : goal.returns-else-size-limit
returns-else-size-limit c = λ e. absurd (true_false (sym e))

pub returns-else-block_ready : goal.returns-else-block_ready
returns-else-block_ready c = λ e. absurd (true_false (sym e))

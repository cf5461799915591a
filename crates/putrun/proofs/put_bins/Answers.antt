-- `putrun::put_bins`: ones, then a zero unless they are the most. The word's lowest byte is that of the next bin.
use mathlib.Core.Path.{◌≡◌, refl, ◌∙◌}
use Prim.Native.Nat.{◌+◌, ◌-◌, ◌*◌, ◌%◌}
use native.Mathlib.Omega.{arith}
use native.Mathlib.Nat.{sub-zero}
use Rattle.base.specs.Laid.{left-start, left-turn, left_end, left-last}
use Rattle.h265.specs.Strings.{run_class}
use Rattle.h265.specs.StringLaws.{unary-more, unary-stop, unary_full}
use Rattle.putrun.specs.Word.{word_next, class_most}
use Rattle.putrun.proofs.put_bins.Goals as goal

pub loop-init : goal.loop-init
loop-init c = (omega arith, refl, rw (sub-zero c.args.most, sub-zero c.args.ones) (left-start _ _ _), c.word_of-w.ensures)

pub overflow_cast-w : goal.overflow_cast-w
overflow_cast-w c = let b = c.loop in let g = c.args in omega (arith, word_next g.above g.sent b.counter, class_most g.above g.sent b.counter, b.invariant.3)

pub overflow_add-w : goal.overflow_add-w
overflow_add-w c = let b = c.loop in let g = c.args in omega (arith, word_next g.above g.sent b.counter, class_most g.above g.sent b.counter, b.invariant.3)

pub put_bin-to-requires : goal.put_bin-to-requires
put_bin-to-requires c = let b = c.loop in let g = c.args in omega (arith, word_next g.above g.sent b.counter, class_most g.above g.sent b.counter, b.invariant.3)

pub loop-preserved : goal.loop-preserved
loop-preserved c = let b = c.loop in
    let g = c.args in
    let n = word_next g.above g.sent b.counter in
    let m = class_most g.above g.sent b.counter in
    let e : b.w % 256 ≡ run_class g.above g.sent b.counter * 2 = omega (arith, n, m, b.invariant.3) in
    let d = rw e at c.put_bin-to.ensures in (
      omega (arith, c.put_bin-to.ensures.next),
      c.put_bin-to.auto.list ∙ b.invariant.1,
      left-turn _ d (rw (unary-more (run_class g.above g.sent) b.counter (g.most - b.counter) (g.ones - b.counter) (g.most - (b.counter + 1)) (g.ones - (b.counter + 1)) (omega arith) (omega arith)) at b.invariant.2),
      omega (arith, n, m, b.invariant.3),
    )

pub overflow_cast-w-then-ones-most : goal.overflow_cast-w-then-ones-most
overflow_cast-w-then-ones-most c = let b = c.loop in let g = c.args in omega (arith, word_next g.above g.sent b.counter, class_most g.above g.sent b.counter, b.invariant.3)

pub put_bin-requires : goal.put_bin-requires
put_bin-requires c = let b = c.loop in let g = c.args in omega (arith, word_next g.above g.sent b.counter, class_most g.above g.sent b.counter, b.invariant.3)

pub returns-then-ones-most : goal.returns-then-ones-most
returns-then-ones-most c = let b = c.loop in
    let g = c.args in
    let n = word_next g.above g.sent b.counter in
    let m = class_most g.above g.sent b.counter in
    let e : b.w % 256 ≡ run_class g.above g.sent b.counter * 2 = omega (arith, n, m, b.invariant.3) in
    let d = rw e at c.put_bin.ensures in record { laid = left-last d (rw (unary-stop (run_class g.above g.sent) b.counter (g.most - b.counter) (g.ones - b.counter) (g.most - (b.counter + 1)) (omega arith) (omega arith)) at b.invariant.2); near = omega (arith, c.put_bin.ensures.next) }

pub returns : goal.returns
returns c = let b = c.loop in
    let g = c.args in
    record { laid = left_end (rw (unary_full (run_class g.above g.sent) b.counter (g.most - b.counter) (g.ones - b.counter) (omega arith)) at b.invariant.2); near = omega arith }

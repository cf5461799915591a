-- `putreuse::put_reuse`: one entry more.
use Rattle.std.proofs.Common.{◌≡◌, refl, arith, ◌<◌, ◌+◌, ◌-◌, length, drop, drop_of_length-le}
use Rattle.std.proofs.lemmas.List.{length-drop}
use Rattle.base.specs.Laid.{left-start, left-turn, left_end, left-last}
use Rattle.h265.specs.Reuse.{lead}
use Rattle.h265.proofs.ReuseLaws.{lead_le, code_most, bins_zero, bins_none, bins_last, bins_turn}
use Rattle.putreuse.proofs.put_reuse.Goals as goal

pub loop-init : goal.loop-init
loop-init c = let z : c.args.limit - 0 ≡ c.args.limit = omega arith in (omega arith, omega arith, rw z (left-start _ _ _))

pub returns-then-flags-idx : goal.returns-then-flags-idx
returns-then-flags-idx c =
    let b = c.loop in
    let xs = c.args.flags.now in
    record { laid = left_end (rw (drop_of_length-le xs {i = b.idx} (omega arith), bins_none (c.args.limit - b.counter) _ refl) at b.invariant.2); near = omega arith }

pub returns-then-next-flags : goal.returns-then-next-flags
returns-then-next-flags c =
    let b = c.loop in
    let xs = c.args.flags.now in
    let m = length-drop b.idx xs in
    let e = c.next_reused-next.ensures in
    let w = bins_last (c.args.limit - b.counter) (drop b.idx xs) (omega arith) (omega arith) (omega arith) in
    record { laid = left-last c.put_egk.ensures.laid (rw w at b.invariant.2); near = omega (arith, c.put_egk.ensures.near) }

pub code_of-requires : goal.code_of-requires
code_of-requires c =
    let xs = drop c.loop.idx c.args.flags.now in
    omega (arith, c.next_reused-next.ensures, lead_le xs, length-drop c.loop.idx c.args.flags.now)

pub put_egk-to-requires : goal.put_egk-to-requires
put_egk-to-requires c =
    let xs = drop c.loop.idx c.args.flags.now in
    (omega arith, omega (arith, c.code_of.ensures, code_most (c.next_reused-next.result - c.loop.idx), c.next_reused-next.ensures, lead_le xs, length-drop c.loop.idx c.args.flags.now), omega arith)

pub overflow_add-idx : goal.overflow_add-idx
overflow_add-idx c =
    let xs = drop c.loop.idx c.args.flags.now in
    omega (arith, c.next_reused-next.ensures, lead_le xs, length-drop c.loop.idx c.args.flags.now)

pub loop-preserved : goal.loop-preserved
loop-preserved c =
    let b = c.loop in
    let xs = c.args.flags.now in
    let m = length-drop b.idx xs in
    let e = c.next_reused-next.ensures in
    let h : lead (drop b.idx xs) < length (drop b.idx xs) = omega (arith, lead_le (drop b.idx xs)) in
    let w = bins_turn (c.args.limit - b.counter) xs b.idx c.next_reused-next.result (omega arith) h e in
    let z : c.args.limit - (b.counter + 1) ≡ c.args.limit - b.counter - 1 = omega arith in (
      omega arith,
      omega (arith, c.put_egk-to.ensures.near),
      rw z (left-turn _ (rw c.code_of.ensures at c.put_egk-to.ensures.laid) (rw w at b.invariant.2)),
    )

pub returns : goal.returns
returns c =
    let b = c.loop in
    let z : c.args.limit - b.counter ≡ 0 = omega arith in
    record { laid = left_end (rw (z, bins_zero) at b.invariant.2); near = omega arith }

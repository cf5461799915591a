-- `putrun::put_run`: a short run as a word where there is room.
use native.Mathlib.Omega.{arith}
use Prim.Native.Nat.{◌≤◌}
use Rattle.put.specs.Words.{length-bytes}
use Rattle.putrun.specs.Few.{few_longest}
use Rattle.putrun.proofs.put_run.Goals as goal

pub lay_word-requires : goal.lay_word-requires
lay_word-requires c = (omega (arith, c.few_size.ensures.1), omega (arith, c.few_size.ensures.1))

pub returns-then-at-list : goal.returns-then-at-list
returns-then-at-list c = let h : few_longest c.args.more ≤ c.args.longest = omega (arith, c.few_longest.ensures) in
    let d = rw (c.few_size.ensures.0, c.few_word-w.ensures c.args.longest h) at c.lay_word.ensures in
    record { laid = d; near = omega (arith, rw length-bytes at c.lay_word.ensures.next, c.few_size.ensures.1) }

-- `flatupdate::keep`. The loop's invariant: what is laid and what is to follow make the whole.
use mathlib.Core.Path.{refl, sym, ◌∙◌}
use Prim.Native.Nat.{◌+◌, ◌≤◌}
use native.Mathlib.Omega.{arith}
use borrow.Author.Tests.{leb-true}
use lib.Dec.{leb}
use Rattle.base.specs.Tests.{both, and_pick}
use Rattle.flatupdate.specs.Renewing.{keeping_start, keeping_step, keeping_full, keeping_end}
use Rattle.flatupdate.proofs.keep.Goals as goal

pub loop-j-init : goal.loop-j-init
loop-j-init c = (omega arith, omega arith, refl, λ cs e. keeping_start c.args.list.now c.args.old.now c.args.block.now c.args.first c.args.flags c.args.limit c.requires.5 c.requires.1 cs e)

pub returns-then-limit-k : goal.returns-then-limit-k
returns-then-limit-k c = let l = c.loop-j in
    record {
      most = l.invariant.1;
      long = l.invariant.2;
      count = λ cs e. (keeping_full c.args.list.now c.args.old.now c.args.block.now c.args.first c.args.flags c.args.limit c.requires.5 c.requires.1 cs e l.k l.j l.list (l.invariant.3 cs e) c.requires.3 c.if-limit-k.true l.invariant.1).0;
      is = λ cs e. (keeping_full c.args.list.now c.args.old.now c.args.block.now c.args.first c.args.flags c.args.limit c.requires.5 c.requires.1 cs e l.k l.j l.list (l.invariant.3 cs e) c.requires.3 c.if-limit-k.true l.invariant.1).1;
    }

pub overflow_add-j : goal.overflow_add-j
overflow_add-j c = omega arith

pub overflow_add-k : goal.overflow_add-k
overflow_add-k c = omega arith

pub keep_four-k-requires : goal.keep_four-k-requires
keep_four-k-requires c = let l = c.loop-j in
    let t = both (leb (l.j + 4) c.args.flags) (leb (l.k + 4) c.args.limit) (sym (and_pick (leb (l.j + 4) c.args.flags) (leb (l.k + 4) c.args.limit)) ∙ c.if-j-flags.true) in
    let a : l.j + 4 ≤ c.args.flags = leb-true _ _ t.0 in
    let b : l.k + 4 ≤ c.args.limit = leb-true _ _ t.1 in
    (omega arith, c.requires.1, c.requires.2, omega arith, omega arith)

pub overflow_add-j-then-j-flags : goal.overflow_add-j-then-j-flags
overflow_add-j-then-j-flags c = omega arith

pub loop-j-smaller-then-j-flags : goal.loop-j-smaller-then-j-flags
loop-j-smaller-then-j-flags c = omega arith

pub loop-j-preserved-then-j-flags : goal.loop-j-preserved-then-j-flags
loop-j-preserved-then-j-flags c = let l = c.loop-j in
    let t = both (leb (l.j + 4) c.args.flags) (leb (l.k + 4) c.args.limit) (sym (and_pick (leb (l.j + 4) c.args.flags) (leb (l.k + 4) c.args.limit)) ∙ c.if-j-flags.true) in
    let a : l.j + 4 ≤ c.args.flags = leb-true _ _ t.0 in
    let b : l.k + 4 ≤ c.args.limit = leb-true _ _ t.1 in
    (a, omega (arith, c.keep_four-k.ensures.most), c.keep_four-k.ensures.long ∙ l.invariant.2, λ cs e. c.keep_four-k.ensures.on c.args.list.now c.args.first c.args.flags c.args.limit cs c.requires.5 c.requires.1 e a (l.invariant.3 cs e))

pub keep_one-k-requires : goal.keep_one-k-requires
keep_one-k-requires c = (omega arith, c.requires.1, c.requires.2, omega arith, omega arith)

pub overflow_add-j-else-j-flags : goal.overflow_add-j-else-j-flags
overflow_add-j-else-j-flags c = omega arith

pub loop-j-smaller : goal.loop-j-smaller
loop-j-smaller c = omega arith

pub loop-j-preserved : goal.loop-j-preserved
loop-j-preserved c = let l = c.loop-j in
    (omega arith, omega (arith, c.keep_one-k.ensures.most), c.keep_one-k.ensures.long ∙ l.invariant.2, λ cs e. keeping_step c.args.list.now c.args.old.now c.args.block.now c.args.first c.args.flags c.args.limit c.requires.5 c.requires.1 cs e l.k l.j l.list (l.invariant.3 cs e) _ _ c.loop-j-test.true c.keep_one-k.ensures)

pub returns : goal.returns
returns c = let l = c.loop-j in
    record {
      most = l.invariant.1;
      long = l.invariant.2;
      count = λ cs e. (keeping_end c.args.list.now c.args.old.now c.args.block.now c.args.first c.args.flags c.args.limit c.requires.5 c.requires.1 cs e l.k l.j l.list (l.invariant.3 cs e) c.loop-j-test.false l.invariant.1).0;
      is = λ cs e. (keeping_end c.args.list.now c.args.old.now c.args.block.now c.args.first c.args.flags c.args.limit c.requires.5 c.requires.1 cs e l.k l.j l.list (l.invariant.3 cs e) c.loop-j-test.false l.invariant.1).1;
    }

-- `getones::ones_of` reads ones as the definition does.
use Rattle.std.proofs.Common.{rules, arith, sym, ap, ◌∙◌, ◌+◌, ◌-◌, Bool}
use Rattle.std.proofs.Math.Nat.{sub-zero}
use Rattle.base.specs.Answer.{Value}
use Rattle.h265.specs.Turns.{raise-none, unary-one, unary_zero, unary-refused, unary-end}
use Rattle.getones.proofs.ones_of.Goals as goal

pub loop-ones-init : goal.loop-ones-init
loop-ones-init g c = record { left = λ k h. rw sub-zero (raise-none _); list = search rules }

pub returns-in_err-bin-clause-value : goal.returns-in_err-bin-clause-value
returns-in_err-bin-clause-value g c = λ k h.
    let b = c.loop-ones in
    let e = h b.ones c.class.result c.class.ensures in
    let f = sym (rw e at c.in_err-bin.ensures.value) in
    let z = unary-refused k b.ones (c.args.most - b.ones) (c.args.most - (b.ones + 1)) b.ones b.reader.list.now b.reader.at (omega arith) _ _ f in
    let y = b.invariant.left k h in
    search rules

pub returns-then-not-branch-clause-value : goal.returns-then-not-branch-clause-value
returns-then-not-branch-clause-value g c = λ k h.
    let b = c.loop-ones in
    let e = h b.ones c.class.result c.class.ensures in
    let f = sym (rw e at c.in_ok-bin.ensures.value) ∙ ap (λ (x : Bool). Value x c.bin.new.self.at) c.if-not-branch.true in
    let z = unary_zero k b.ones (c.args.most - b.ones) (c.args.most - (b.ones + 1)) b.ones b.reader.list.now b.reader.at (omega arith) _ f in
    let y = b.invariant.left k h in
    search rules

pub loop-ones-preserved : goal.loop-ones-preserved
loop-ones-preserved g c = record {
  left = λ k h.
      let b = c.loop-ones in
      let e = h b.ones c.class.result c.class.ensures in
      let f = sym (rw e at c.in_ok-bin.ensures.value) ∙ ap (λ (x : Bool). Value x c.bin.new.self.at) c.if-not-branch.false in
      let z = unary-one k b.ones (c.args.most - b.ones) (c.args.most - (b.ones + 1)) b.ones b.reader.list.now b.reader.at (omega arith) _ f in
      let y = b.invariant.left k h in
      search rules;
  list = search rules;
}

pub returns-clause-value : goal.returns-clause-value
returns-clause-value g c = λ k h.
    let b = c.loop-ones in
    let z = unary-end k b.ones (c.args.most - b.ones) b.ones b.reader.list.now b.reader.at (omega arith) in
    let y = b.invariant.left k h in
    search rules

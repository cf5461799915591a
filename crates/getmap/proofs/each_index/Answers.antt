-- `getmap::each_index`: what was read, before what is left to read, is what was to be read.
use Rattle.std.proofs.Common.{◌-◌, sym, ◌∙◌, ap, refl, arith, rules, ◌≡◌, ℕ, take, drop, length-set}
use Rattle.base.specs.Answer.{Value}
use Rattle.base.specs.Prepend.{prepend, prepend-none, prepend-push, prepend-end}
use Rattle.h265.specs.Parse.{tb_at}
use Rattle.h265.proofs.TbLaws.{tb_code}
use Rattle.syntax.specs.Block.{alphabets}
use Rattle.syntax.specs.EachTurns.{each_turn, each-refused, each-end, alphabets-on, alphabets-end}
use Rattle.getmap.proofs.each_index.Goals as goal

pub loop-k-init : goal.loop-k-init
loop-k-init c = record { long = refl; same = prepend-none _; list = refl }

pub returns-in_err-sent-clause-value : goal.returns-in_err-sent-clause-value
unfolding prepend
returns-in_err-sent-clause-value c =
    let b = c.loop-k in
    let g = c.args in
    let f = rw c.alphabet.ensures.0 at (sym c.in_err-sent.ensures.value) in
    let z = each-refused tb_at (drop b.k (alphabets g.m (g.total - 1))) _ _ b.reader.list.now b.reader.at (alphabets-on g.m g.total b.k (omega arith)) _ _ f in
    let y = rw z at b.invariant.same in
    search rules

pub overflow_cast-sent : goal.overflow_cast-sent
overflow_cast-sent c = omega (arith, c.alphabet.ensures.2, ((tb_code c.alphabet.result (omega (arith, c.alphabet.ensures.1))).back _ _ _ _ (sym c.in_ok-sent.ensures.value)).1)

pub loop-k-preserved : goal.loop-k-preserved
loop-k-preserved c =
    let b = c.loop-k in
    let g = c.args in
    let f = rw c.alphabet.ensures.0 at (sym c.in_ok-sent.ensures.value) in
    let z = each_turn tb_at (drop b.k (alphabets g.m (g.total - 1))) _ _ b.reader.list.now b.reader.at (alphabets-on g.m g.total b.k (omega arith)) _ _ f in record {
      long = simp length-set b.invariant.long;
      same = rw (c.tb_at.ensures.list, prepend-push b.sent b.k c.in_ok-sent.field-0 _ (omega arith), ← z) b.invariant.same;
      list = c.tb_at.ensures.list ∙ b.invariant.list;
    }

pub returns-clause-value : goal.returns-clause-value
returns-clause-value c =
    let b = c.loop-k in
    let g = c.args in
    let q : g.total ≡ b.k = omega arith in
    let e = each-end tb_at (drop b.k (alphabets g.m (g.total - 1))) b.reader.list.now b.reader.at (alphabets-end g.m g.total b.k (omega arith) (omega arith)) in
    ap (λ (x : ℕ). Value (take x b.sent) b.reader.at) q ∙ sym (prepend-end (take b.k b.sent) b.reader.at) ∙ rw e at b.invariant.same

-- `assign::assign`: one cell more, and all of them.
use Rattle.std.proofs.Common.{◌≡◌, ℕ, sym, ◌∙◌, eqb, eq-eqb, ne_eqb, get_or, arith}
use Rattle.base.specs.Cells.{laid_none, laid_on_lem, laid_done}
use Rattle.base.specs.Sums.{how_many-none}
use Rattle.assign.specs.Assign.{index_of, escapes_of}
use Rattle.assign.specs.Laws.{index-first, counted_yes, counted_no}
use Rattle.assign.specs.Memory.{cached_start}
use Rattle.assign.proofs.assign.Goals as goal
use Rattle.assign.proofs.assign.Goals.{then-from-n, else-from-n}

pub loop-i-init : goal.loop-i-init
loop-i-init c = let s = c.args in
    record {
      last = sym (index-first s.tol s.palette.now s.n);
      cached = cached_start s.tol s.palette.now s.n;
      counted = sym (how_many-none _);
      few = omega arith;
      laid = sym (laid_none _ _ _);
    }

pub loop-i-preserved : goal.loop-i-preserved
loop-i-preserved c = let l = c.loop-i in
    let s = c.args in
    let x = c.index_next-at in
    let e = c.new-entries.ensures in
    let i : x.result ≡ index_of s.tol s.palette.now s.n (get_or s.cells.now l.i 0) = rw (e.0, e.1, e.2) at x.ensures.0 in
    let f : ℕ → ℕ = λ j. index_of s.tol s.palette.now s.n (get_or s.cells.now j 0) in
    record {
      last = i;
      cached = rw (e.0, e.1, e.2) at x.ensures.1;
      counted = elim c.if-from-n.branch [
        | then-from-n w ↦ counted_yes (λ j. eqb (f j) s.n) l.i l.escapes c.if-from-n.escapes l.invariant.counted (eq-eqb _ _ (sym i ∙ sym c.from.ensures ∙ w.if-from-n.true)) w.escapes-is
        | else-from-n w ↦ counted_no (λ j. eqb (f j) s.n) l.i l.escapes c.if-from-n.escapes l.invariant.counted (ne_eqb _ _ (λ z. w.if-from-n.false (c.from.ensures ∙ i ∙ z))) w.escapes-is
      ];
      few = elim c.if-from-n.branch [ then-from-n w ↦ omega arith | else-from-n w ↦ omega arith ];
      laid = laid_on_lem f s.indices.now l.indices l.i x.result l.invariant.laid i;
    }

pub returns : goal.returns
unfolding escapes_of
returns c = let l = c.loop-i in
    let e : l.i ≡ c.args.m = omega arith in
    (rw e at l.invariant.counted, laid_done _ _ _ _ _ _ l.invariant.laid e, omega arith)

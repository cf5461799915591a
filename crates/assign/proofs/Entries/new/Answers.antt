-- `assign::Entries::new`: one place more of the three arrays, and all of them.
use Rattle.std.proofs.Common.{ℕ, sym, ap, replicate, arith}
use Rattle.base.specs.Cells.{laid_none, laid_on_lem}
use Rattle.quant.specs.Quant.{y_of, u_of, v_of}
use Rattle.assign.specs.Keys.{held_of, split-made}
use Rattle.assign.proofs.Entries.new.Goals as goal

pub loop-k-init : goal.loop-k-init
loop-k-init c = record { ys = sym (laid_none _ _ _); us = sym (laid_none _ _ _); vs = sym (laid_none _ _ _) }

pub loop-k-preserved : goal.loop-k-preserved
loop-k-preserved c = let l = c.loop-k in
    let s = c.args in
    let e = c.held-c.ensures in
    record {
      ys = laid_on_lem (λ (j : ℕ). y_of (held_of s.palette.now s.n j)) (replicate 64 0) l.ys l.k _ l.invariant.ys (ap y_of e);
      us = laid_on_lem (λ (j : ℕ). u_of (held_of s.palette.now s.n j)) (replicate 64 0) l.us l.k _ l.invariant.us (ap u_of e);
      vs = laid_on_lem (λ (j : ℕ). v_of (held_of s.palette.now s.n j)) (replicate 64 0) l.vs l.k _ l.invariant.vs (ap v_of e);
    }

pub invariant_of-result : goal.invariant_of-result
invariant_of-result c = let l = c.loop-k in
    record { bounds = c.requires; split = split-made c.args.palette.now c.args.n l.ys l.us l.vs l.k (omega arith) l.invariant.ys l.invariant.us l.invariant.vs }

-- `assign::Entries::new`: the places passed are laid.
use Rattle.std.proofs.Common.{◌≡◌, ℕ, replicate}
use Rattle.base.specs.Cells.{laid}
use Rattle.quant.specs.Quant.{y_of, u_of, v_of}
use Rattle.assign.specs.Keys.{held_of}
use Rattle.assign.proofs.Entries.new.Given as goal

abbrev pub invariant-loop-k : goal.invariant-loop-k
invariant-loop-k l = record {
  ys : l.ys ≡ laid (λ (j : ℕ). y_of (held_of l.palette l.n j)) (replicate 64 0) 0 l.k;
  us : l.us ≡ laid (λ (j : ℕ). u_of (held_of l.palette l.n j)) (replicate 64 0) 0 l.k;
  vs : l.vs ≡ laid (λ (j : ℕ). v_of (held_of l.palette l.n j)) (replicate 64 0) 0 l.k;
}

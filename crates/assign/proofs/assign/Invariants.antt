-- `assign::assign`: the cells passed have their indices, the escapes among them are counted, and the memory answers.
use Rattle.std.proofs.Common.{◌≡◌, ℕ, ◌≤◌, eqb, get_or}
use Rattle.base.specs.Cells.{laid}
use Rattle.base.specs.Sums.{how_many}
use Rattle.assign.specs.Assign.{index_of}
use Rattle.assign.specs.Memory.{Cached}
use Rattle.assign.proofs.assign.Given as goal

abbrev pub invariant-loop-i : goal.invariant-loop-i
invariant-loop-i l = record {
  last : l.at ≡ index_of l.tol l.palette l.n l.last;
  cached : Cached l.tol l.palette l.n l.memory.colors l.memory.indices;
  counted : l.escapes ≡ how_many l.i (λ (j : ℕ). eqb (index_of l.tol l.palette l.n (get_or l.cells j 0)) l.n);
  few : l.escapes ≤ l.i;
  laid : l.indices ≡ laid (λ (j : ℕ). index_of l.tol l.palette l.n (get_or l.cells j 0)) l.initial.indices 0 l.i;
}

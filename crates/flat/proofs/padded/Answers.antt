-- `flat::padded`: zeros, and the list's numbers over the first.
use Rattle.flat.specs.FlatLaws.{padded_is}
use mathlib.Core.Path.{ap, ◌∙◌}
use mathlib.Core.List.{◌++◌, List}
use Prim.Native.Nat.{ℕ}
use lib.ListN.{drop, replicate}
use Rattle.flat.proofs.padded.Goals as goal

pub returns : goal.returns
returns c = ap (λ (x : List ℕ). x ++ drop c.min-n.result (replicate 4432 0)) c.copy_from_slice.ensures.after ∙ padded_is c.args.list.now c.min-n.result 4432 c.min-n.ensures

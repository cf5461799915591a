-- What holds of a block that was read, and of writing it again.
use Rattle.std.specs.Prelude.{◌≡◌, ◌≢◌, Bool, true, ltb, leb, eqb, take, drop, get_or, replicate}
use Rattle.std.proofs.Math.Path.{refl, ap, subst}
use Rattle.std.proofs.Common.{sym, ◌∙◌, zero-add, pow_pos, length-append, take-append-drop, take_at}
use Rattle.std.proofs.Math.Bool.{false}
use mathlib.Core.List.{List, [], ◌∷◌, ◌++◌, append_assoc}
use Prim.Native.Nat.{ℕ, zero, suc, ◌+◌, ◌*◌, ◌-◌, ◌^◌, ◌≤◌, ◌<◌}
use native.Mathlib.Omega.{arith}
use Rattle.std.proofs.Math.ListN.{length, length-replicate, length-drop}
use borrow.Author.Tests.{lt-ltb, le-ltb, ltb-true, ltb-false, eqb-true, eqb-false, eq-eqb, ne_eqb}
use Rattle.syntax.specs.Replay.{replay}
use Rattle.syntax.specs.Block.{Call, Told, block_bins}
use Rattle.syntax.specs.Whole.{Whole, Suits, Runs}

-- REQUEST 14: what was read is whole, suits the predictor, its runs replay, and writing it again gives exactly the bins used
pub record Again (c : Call) (l : List ℕ) (q : ℕ) (t : Told) : Type 0 where
  pub whole : Whole c t.block
  pub suits : Suits c t.block
  pub runs : Runs c t.block t.runs
  pub bins : block_bins c t.block t.runs ≡ take q l
  pub used : q ≡ length (block_bins c t.block t.runs)

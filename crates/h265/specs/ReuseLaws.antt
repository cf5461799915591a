-- What the laws of the reuse runs ask of a list of flags.
use Rattle.std.specs.Prelude.{◌≡◌, Bool, true, false, List, [], ◌∷◌, ◌++◌, map, leb, eqb, length, take, drop, get_or, replicate}
use Rattle.std.proofs.Math.Path.{refl, ap}
use Rattle.std.proofs.Common.{sym, ◌∙◌, arith, length-append, length-drop, drop-drop, add-one, eqb-true, eq-eqb, ne_eqb, leb-true, leb-false, le-leb}
use Prim.Native.Nat.{ℕ, zero, suc, ◌+◌, ◌-◌, ◌^◌, ◌≤◌, ◌<◌}
use Rattle.std.proofs.lemmas.List.{length-replicate}
use Rattle.std.proofs.lemmas.Bool.{eqb-false, lt-leb}
use Rattle.h265.specs.Reuse.{trues}

-- ---- the laws; a predictor has at most 128 entries, and 65,535 would do

pub record ReuseOk (room k : ℕ) (fs : List Bool) : Type 0 where
  pub count : length fs ≡ k
  pub fits : trues fs ≤ room

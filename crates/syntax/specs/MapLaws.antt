-- What the laws of the index map ask: indices, flags and runs.
use Rattle.std.specs.Prelude.{◌≡◌, Bool, true, ltb, leb, eqb, replicate}
use Rattle.std.proofs.Math.Path.{refl, ap, sym, subst}
use Rattle.std.proofs.Common.{◌∙◌, pow_pos, pow-add}
use Rattle.std.proofs.Math.Bool.{false}
use mathlib.Core.List.{List, [], ◌∷◌, ◌++◌}
use Prim.Native.Nat.{ℕ, zero, suc, ◌+◌, ◌*◌, ◌-◌, ◌^◌, ◌≤◌, ◌<◌}
use native.Mathlib.Omega.{arith}
use Rattle.std.proofs.Math.ListN.{length}
use Rattle.std.proofs.lemmas.List.{length-replicate}
use borrow.Author.Tests.{lt-ltb, le-ltb, ltb-true, ltb-false, leb-true}
use Rattle.base.specs.Codes.{Each}
use Rattle.syntax.specs.Runs.{sent_of, Keeps}
use Rattle.syntax.specs.Block.{Map, alphabets}

-- ---- the indices

-- an index is below its alphabet
abbrev pub Under : ℕ → ℕ → Type 0
Under a v = v < a

pub record IndicesOk (n m : ℕ) (is : List ℕ) : Type 0 where
  pub some : 1 ≤ length is
  pub most : length is ≤ n
  pub each : Each Under (alphabets m (length is - 1)) is

-- ---- the coded map

pub record CodedOk (size n m : ℕ) (x : Map) : Type 0 where
  pub keeps : Keeps size n 0 false x.runs
  pub each : Each Under (alphabets m (length (sent_of x.runs) - 1)) (sent_of x.runs)

-- ---- the map, coded or not

pub record MapOk (size n m : ℕ) (x : Map) : Type 0 where
  pub coded : 0 < m → CodedOk size n m x
  pub plain : m ≡ 0 → x ≡ record { turned = false; runs = [] }

-- A text as the bytes of its characters.
use mathlib.Core.List as L
use Prim.Native.Char.{code}
use Rattle.std.specs.Prelude.{ℕ}
use Prim.Native.String.{String, [], ◌∷◌}

abbrev pub codes : String → L.List ℕ
codes [] = L.[]
codes (c ∷ s) = L.◌∷◌ (code c) (codes s)

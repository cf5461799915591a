-- An array of runs that is a field of a struct stands at the run's field row, over the tuples of its fields; the same array by itself stands at the run's own row. What holds of the one holds of the other.
-- Assumes nothing.
use mathlib.Core.Path.{sym, ◌∙◌}
use Prim.Native.Nat.{ℕ}
use mathlib.Core.List.{List, [], ◌∷◌, map}
use lib.ListN.{length-map}
use mir.Val.{Val}
use denote.Shadow.{shadow}
use denote.Laws.{Is}
use denote.Array.{Array, each}
use Rattle.model.specs.declared.PaletteRun.{PaletteRun}
use Rattle.model.specs.contracts.PaletteRun as T

each-is : (xs : List PaletteRun) (us : List Val) → shadow (each (T.the_field).row.Denot (T.the_field).row.own_val (map (T.the_field).into xs) us) → shadow (each PaletteRun (T.the_row).own_val xs us)
each-is [] [] s = s
each-is [] (u ∷ us) s = absurd s
each-is (x ∷ xs) [] s = absurd s
each-is (x ∷ xs) (u ∷ us) s = (s.0, each-is xs us s.1)

pub is_array : (n : ℕ) (xs : List PaletteRun) (vs : List Val) → Is (Array (T.the_field).row n) (map (T.the_field).into xs) vs → Is (Array T.the_row n) xs vs
is_array n xs vs p = (p.0, ((p.1.0.0, sym (length-map xs (T.the_field).into) ∙ p.1.0.1), each-is xs p.0 p.1.1))

-- Document 01: predictor entries in order each take the first free representative within tolerance and join the palette themselves; the rest follow. Definitions only.
use Rattle.std.specs.Prelude.{Bool, true, false, List, [], ◌∷◌, ◌++◌, ℕ, suc, ltb, length, take, drop}
use Rattle.base.specs.Pick.{pick}
use Rattle.base.specs.Lists.{padded}
use Rattle.h265.specs.Reuse.{trues}
use Rattle.reps.specs.Reps.{hit_of}
use Rattle.choose.specs.declared.Painting.{Painting}

-- a list without what stands at r
abbrev pub without : ℕ → List ℕ → List ℕ
without r l = take r l ++ drop (suc r) l

-- a palette, and a flag for each predictor entry
pub record Chosen : Type 0 where
  pub flags : List Bool
  pub palette : List ℕ

abbrev pub taken : ℕ → Chosen → Chosen
taken e c = record { flags = true ∷ c.flags; palette = e ∷ c.palette }

abbrev pub passed : Chosen → Chosen
passed c = record { flags = false ∷ c.flags; palette = c.palette }

-- the choice from predictor entries and the representatives that are free
unfoldable pub chosen : ℕ → List ℕ → List ℕ → Chosen
chosen tol [] free = record { flags = []; palette = free }
chosen tol (e ∷ es) free =
    pick (ltb (hit_of tol e free) (length free)) (taken e (chosen tol es (without (hit_of tol e free) free))) (passed (chosen tol es free))

-- nothing chosen
abbrev pub nothing : Chosen
nothing = record { flags = []; palette = [] }

-- in arrays: what stands past a count is 0 or off
unfoldable pub painting_of : Chosen → Painting
painting_of w = record { size = length w.palette; reused = trues w.flags; palette = padded 64 0 w.palette; flags = padded 128 false w.flags }

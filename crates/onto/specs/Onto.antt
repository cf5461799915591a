-- H.265, 8.4.4.2.7: a block on a plane. The block covers `wide` columns and `high` rows of it from column `ox`, row `oy` on; there is a sample every `across` columns and `down` rows of luma.
use Rattle.std.specs.Prelude.{Bool, List, [], ◌∷◌, ℕ, ◌+◌, ◌*◌, ◌-◌, ◌/◌, ◌%◌, eqb, ltb, leb, get_or, length}
use Rattle.base.specs.Pick.{pick}
use Rattle.base.specs.Cells.{laid}
use Rattle.base.specs.Tests.{every}
use Rattle.h265.specs.Scan.{scan_at}
use Rattle.quant.specs.Quant.{y_of, u_of, v_of}
use Rattle.onto.specs.declared.Onto.{Onto}

-- component 0, 1 or 2 of a colour
unfoldable pub part_of : ℕ → ℕ → ℕ
part_of comp c = pick (eqb comp 0) (y_of c) (pick (eqb comp 1) (u_of c) (v_of c))

-- the scan place of the cell for column x, row y of the block's luma; transposition exchanges the coordinates
unfoldable pub cell_of : Bool → ℕ → ℕ → ℕ → ℕ
cell_of transpose size x y = scan_at size (pick transpose y x) (pick transpose x y)

-- place p of the plane is column p % stride, row p / stride: whether it lies in the plane and the block covers it
unfoldable pub covers : Onto → ℕ → Bool
covers o p =
    every
    (ltb (p % o.stride) o.stride ∷ ltb (p / o.stride) o.height
    ∷ leb o.ox (p % o.stride) ∷ ltb (p % o.stride) (o.ox + o.wide) ∷ leb o.oy (p / o.stride) ∷ ltb (p / o.stride) (o.oy + o.high) ∷ [])

-- place p afterwards: the block's sample at its luma place where the block covers it, else what it was
unfoldable pub after_at : Onto → (ℕ → ℕ → ℕ) → List ℕ → ℕ → ℕ
after_at o sample plane p = pick (covers o p) (sample ((p % o.stride - o.ox) * o.across) ((p / o.stride - o.oy) * o.down)) (get_or plane p 0)

-- the plane afterwards
unfoldable pub after : Onto → (ℕ → ℕ → ℕ) → List ℕ → List ℕ
after o sample plane = laid (after_at o sample plane) plane 0 (length plane)

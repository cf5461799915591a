-- The lines of a listing, byte for byte as document 01 has them.
use Rattle.std.specs.Prelude.{Bool, List, [], ◌∷◌, ◌++◌, ℕ, ◌+◌}
use Prim.Native.String.{String}
use Rattle.base.specs.Pick.{pick}
use Rattle.h265.specs.Strings.{bit}
use Rattle.model.specs.declared.PaletteRun.{PaletteRun}
use Rattle.digits.specs.Decimal.{decimal}
use Rattle.lines.specs.Text.{codes}

-- a text and a number after it
abbrev pub field : String → ℕ → List ℕ
field name n = codes name ++ decimal n

-- the end of a line
abbrev pub newline : List ℕ
newline = 10 ∷ []

unfoldable pub refused_line : ℕ → ℕ → List ℕ
refused_line number place = field "refused " number ++ (field " at " place ++ newline)

unfoldable pub block_line : ℕ → ℕ → Bool → Bool → ℕ → List ℕ
block_line size palette escape transpose bins =
    field "block " size
    ++ (field " palette " palette
    ++ (field " escape " (bit escape)
    ++ (field " transpose " (bit transpose)
    ++ (field " bins " bins ++ newline))))

-- kind, start, cells, and for an index run the index sent
unfoldable pub run_line : PaletteRun → List ℕ
run_line r =
    pick r.above
    (field "above " r.start ++ (field " " (r.more + 1) ++ newline))
    (field "index " r.start ++ (field " " (r.more + 1) ++ (field " " r.sent ++ newline)))

unfoldable pub run_lines : List PaletteRun → List ℕ
run_lines [] = []
run_lines (r ∷ rs) = run_line r ++ run_lines rs

-- The colour counter as three lists of numbers; the layout stands in src/lib.rt.
use Rattle.std.specs.Prelude.{List, ◌∷◌, ℕ, ◌+◌}
use Rattle.colors.specs.declared.ColorIndex.{ColorIndex}
use Rattle.flat.specs.Flat.{number, each}

unfoldable pub counter_of : List ℕ → List ℕ → List ℕ → ColorIndex
counter_of keys entry stamp = record {
  keys = each 0 256 (number keys);
  entry = each 0 256 (number entry);
  stamp = each 0 256 (λ i. number stamp (1 + i));
  generation = number stamp 0;
}

-- the third list
abbrev pub marks_of : ColorIndex → List ℕ
marks_of c = c.generation ∷ c.stamp

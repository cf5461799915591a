-- A block's colours or refusal 13, and the colour counter after it. Definitions only.
use Rattle.std.specs.Prelude.{Result, Ok, Err, Bool, List, [], ℕ, ◌/◌, min, ltb, length}
use Rattle.base.specs.Pick.{pick}
use Rattle.colors.specs.declared.ColorIndex.{ColorIndex}
use Rattle.colors.specs.Table.{Table, tab, generation_of, stamps_of}
use Rattle.census.specs.Census.{met_by, met, counts, too_many, census, table_to}
use Rattle.luma.specs.Luma.{coarse}
use Rattle.census.specs.declared.Census.{Census}
use Rattle.refusal.specs.declared.Refusal.{Refusal}
use Rattle.refusal.specs.Refusal.{number_of}

-- 0 and a block's colours, or 13 and none; and the counter after it
pub record Tally : Type 0 where
  pub answer : ℕ
  pub colors : Census
  pub index : ColorIndex

-- the same; whether the counter was to be kept; and its generation if not
pub record Counted : Type 0 where
  pub answer : ℕ
  pub kept : Bool
  pub generation : ℕ
  pub colors : Census

-- the luma pre-check refuses: more luma values of 8 bits than half the samples, or than 128
unfoldable pub pre_check : List ℕ → ℕ → ℕ → Bool
pre_check xs n shift = ltb (min (n / 2) 128) (length (met_by (coarse shift) xs n))

abbrev pub index_at : Table → ℕ → ColorIndex
index_at t g = record { keys = t.keys; entry = t.entry; stamp = t.stamp; generation = g }

-- the counter's slots one generation on, with the block's colours in them
abbrev pub moved_to : List ℕ → List ℕ → List ℕ → ℕ → List ℕ → ℕ → Table
moved_to keys entry stamp g xs n = table_to (tab keys entry (stamps_of g stamp)) (generation_of g) xs n

-- the counter one generation on
unfoldable pub moved : ColorIndex → List ℕ → ℕ → ColorIndex
moved c xs n = index_at (moved_to c.keys c.entry c.stamp c.generation xs n) (generation_of c.generation)

-- the counter after a block: moved on, unless the luma pre-check refused
unfoldable pub index_of : ColorIndex → List ℕ → ℕ → ℕ → ColorIndex
index_of c xs n shift = pick (pre_check xs n shift) c (moved c xs n)

-- 13 where there are too many colours, else 0; and the colours, or none
abbrev pub answer_to : List ℕ → ℕ → ℕ
answer_to xs n = pick (too_many (length (met xs n)) n) 13 0

abbrev pub colors_to : List ℕ → ℕ → Census
colors_to xs n = pick (too_many (length (met xs n)) n) (census 0 [] []) (census (length (met xs n)) (met xs n) (counts xs n))

-- the first n samples xs counted by a counter of generation g, shift = luma depth - 8
unfoldable pub counted_of : List ℕ → ℕ → ℕ → ℕ → Counted
counted_of xs n shift g = record { answer = answer_to xs n; kept = pre_check xs n shift; generation = generation_of g; colors = colors_to xs n }

-- the same, with the counter after it
unfoldable pub tally_of : ColorIndex → List ℕ → ℕ → ℕ → Tally
tally_of c xs n shift = record { answer = answer_to xs n; colors = colors_to xs n; index = index_of c xs n shift }

-- an answer with the counter after it; a refusal has no colours
abbrev pub as_tally : Result Census Refusal → ColorIndex → Tally
as_tally (Ok found) c = record { answer = 0; colors = found; index = c }
as_tally (Err r) c = record { answer = number_of r; colors = census 0 [] []; index = c }

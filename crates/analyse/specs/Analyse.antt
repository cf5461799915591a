-- The palette of a block: its colours counted, and a palette chosen from them. Definitions only.
use Rattle.std.specs.Prelude.{Result, Ok, Err, Bool, List, ℕ, length}
use Rattle.base.specs.Pick.{pick}
use Rattle.colors.specs.Table.{generation_of}
use Rattle.colors.specs.declared.ColorIndex.{ColorIndex}
use Rattle.census.specs.Census.{met, counts, too_many}
use Rattle.choose.specs.Choose.{Chosen, painting_of, nothing}
use Rattle.choose.specs.declared.Painting.{Painting}
use Rattle.tally.specs.Tally.{pre_check, index_of, answer_to}
use Rattle.paint.specs.Paint.{palette_of}
use Rattle.refusal.specs.declared.Refusal.{Refusal}
use Rattle.refusal.specs.Refusal.{number_of}

-- 0 and a palette, or 13 and none; and the counter after it
pub record Analysed : Type 0 where
  pub answer : ℕ
  pub painting : Painting
  pub index : ColorIndex

-- the same; whether the counter was to be kept; and its generation if not
pub record Painted : Type 0 where
  pub answer : ℕ
  pub kept : Bool
  pub generation : ℕ
  pub painting : Painting

-- an answer with the counter after it; a refusal has no palette
abbrev pub as_analysed : Result Painting Refusal → ColorIndex → Analysed
as_analysed (Ok p) c = record { answer = 0; painting = p; index = c }
as_analysed (Err r) c = record { answer = number_of r; painting = painting_of nothing; index = c }

-- palette and flags of the first n samples xs, from predictor entries es
unfoldable pub analysed : ℕ → ℕ → List ℕ → List ℕ → ℕ → Chosen
analysed tol limit es xs n = palette_of tol limit es (met xs n) (counts xs n)

-- the same in arrays, none where there are too many colours
abbrev pub painting_to : ℕ → ℕ → List ℕ → List ℕ → ℕ → Painting
painting_to tol limit es xs n = painting_of (pick (too_many (length (met xs n)) n) nothing (analysed tol limit es xs n))

-- the analysis of a block by a counter of generation g: 13 exactly where there are too many colours
unfoldable pub painted_of : List ℕ → ℕ → ℕ → ℕ → ℕ → List ℕ → ℕ → Painted
painted_of xs n shift tol limit es g = record { answer = answer_to xs n; kept = pre_check xs n shift; generation = generation_of g; painting = painting_to tol limit es xs n }

-- the same, with the counter after it
unfoldable pub analysis_of : ColorIndex → List ℕ → ℕ → ℕ → ℕ → ℕ → List ℕ → Analysed
analysis_of c xs n shift tol limit es = record { answer = answer_to xs n; painting = painting_to tol limit es xs n; index = index_of c xs n shift }

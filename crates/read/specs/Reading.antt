-- What the reader answers: document 01's refusals 1, 2, 5 and 9 in their order, then the parse of the block.
use Rattle.std.specs.Prelude.{◌≡◌, Result, Ok, Err, Bool, true, List, [], ◌∷◌, ℕ, ◌*◌, ◌≤◌, leb, eqb, take}
use Rattle.std.proofs.Common.{arith}
use borrow.Author.Tests.{leb-true, ne_eqb}
use Rattle.base.specs.Answer.{Answer}
use Rattle.base.specs.Answer as A
use Rattle.base.specs.Pick.{pick}
use Rattle.base.specs.Refusals.{refused_not}
use Rattle.base.specs.Tests.{every, refusal, both}
use Rattle.model.specs.ConfigLaws.{depth-bounds}
use Rattle.model.specs.Domain.{depth_in, size_in, even_in, predictor_in}
use Rattle.model.specs.DomainLaws.{size_bounds}
use Rattle.model.specs.declared.PalettePredictor.{PalettePredictor}
use Rattle.refusal.specs.Refusal.{number_of}
use Rattle.refusal.specs.declared.Refusal.{Refusal}
use Rattle.refusal.specs.declared.Refusal.TheVariants.{Config, Geometry, Plane, Sample, Predictor, Rate, Block, Runs, Room, BinsEnd, BinClass, Value, TooManyColors, TooManyEscapes, Smoothing, InputFile}
use Rattle.refusal.specs.declared.Refused.{Refused}
use Rattle.readblock.specs.Read.{BlockRead, call_for, refused_of, answer_of}
use Rattle.syntax.specs.Block.{Call, Told, read_block}

-- 1: format or depth outside the domain
unfoldable pub formats_in : ℕ → ℕ → ℕ → Bool
formats_in format luma chroma = every (leb format 3 ∷ depth_in luma ∷ depth_in chroma ∷ [])

-- 2: size or evenness outside the domain
unfoldable pub sizes_in : ℕ → ℕ → Bool
sizes_in format size = every (size_in size ∷ even_in format size ∷ [])

-- 5: the predictor; 9: the lent list is shorter than the block's cells
unfoldable pub read_refusal : ℕ → ℕ → ℕ → ℕ → PalettePredictor → ℕ → ℕ
read_refusal size format luma chroma p room =
    refusal ((formats_in format luma chroma, 1) ∷ (sizes_in format size, 2) ∷ (predictor_in format luma chroma p, 5) ∷ (leb (size * size) room, 9) ∷ [])

-- the number of a test's answer; 0 where it refuses nothing
abbrev pub tested : Result (Unit {0}) Refused → ℕ
tested (Ok u) = 0
tested (Err e) = number_of e.refusal

-- the call with the predictor's entries
abbrev pub call_with : ℕ → ℕ → ℕ → ℕ → Bool → PalettePredictor → Call
call_with size format luma chroma lossless p = call_for size format luma chroma lossless (take p.size p.entries)

-- these refusals stand at place 0; 10, 11 and 12 are the parse's
unfoldable pub read_answer : ℕ → ℕ → ℕ → ℕ → Bool → PalettePredictor → ℕ → List ℕ → Answer Told
read_answer size format luma chroma lossless p room l =
    pick (eqb (read_refusal size format luma chroma p room) 0)
    (read_block (call_with size format luma chroma lossless p) l 0)
    (A.Refused (read_refusal size format luma chroma p room) 0)

unfoldable pub read_of : ℕ → ℕ → ℕ → ℕ → Bool → PalettePredictor → ℕ → List ℕ → BlockRead
read_of size format luma chroma lossless p room l = answer_of (call_with size format luma chroma lossless p) (read_answer size format luma chroma lossless p room l)

-- ---- laws

pub record Fit (size luma chroma : ℕ) (p : PalettePredictor) : Type 0 where
  pub least : 1 ≤ size
  pub most : size ≤ 32
  pub luma_most : luma ≤ 12
  pub chroma_most : chroma ≤ 12
  pub entries : p.size ≤ 128

pub size_most : (size format : ℕ) → sizes_in format size ≡ true → size ≤ 32
unfolding sizes_in
size_most size format b = (size_bounds size (both (size_in size) _ b).0).1

fit_of : (size format luma chroma : ℕ) (p : PalettePredictor) → formats_in format luma chroma ≡ true → sizes_in format size ≡ true → predictor_in format luma chroma p ≡ true → Fit size luma chroma p
unfolding formats_in sizes_in predictor_in
fit_of size format luma chroma p a b c =
    let f = both (leb format 3) _ a in
    let d = both (depth_in luma) _ f.1 in
    let e = both (depth_in chroma) true d.1 in
    let s = size_bounds size (both (size_in size) _ b).0 in
    record { least = s.0; most = s.1; luma_most = (depth-bounds luma d.0).1; chroma_most = (depth-bounds chroma e.0).1; entries = leb-true _ _ (both (leb p.size 128) _ c).0 }

module _ (size format luma chroma : ℕ) (p : PalettePredictor) (room : ℕ) where
  pub fit : read_refusal size format luma chroma p room ≡ 0 → Fit size luma chroma p
  unfolding read_refusal
  fit e =
      let a = refused_not (formats_in format luma chroma) 1 ((sizes_in format size, 2) ∷ (predictor_in format luma chroma p, 5) ∷ (leb (size * size) room, 9) ∷ []) (omega arith) e in
      let b = refused_not (sizes_in format size) 2 ((predictor_in format luma chroma p, 5) ∷ (leb (size * size) room, 9) ∷ []) (omega arith) a.1 in
      let c = refused_not (predictor_in format luma chroma p) 5 ((leb (size * size) room, 9) ∷ []) (omega arith) b.1 in
      fit_of size format luma chroma p a.0 b.0 c.0

  module _ (lossless : Bool) (l : List ℕ) where
    pub read-refused : (k : ℕ) → k ≡ read_refusal size format luma chroma p room → (k ≡ 0 → ⊥) → refused_of k 0 ≡ read_of size format luma chroma lossless p room l
    unfolding read_of read_answer answer_of
    read-refused k e o = rw (← e, ne_eqb k 0 o)

    pub read_done : read_refusal size format luma chroma p room ≡ 0 → answer_of (call_with size format luma chroma lossless p) (read_block (call_with size format luma chroma lossless p) l 0) ≡ read_of size format luma chroma lossless p room l
    unfolding read_of read_answer
    read_done e = rw e

-- What choosing a palette on lists answers and leaves in the memory lent to it: analysis' answer over the records that the lists of numbers are.
use Rattle.std.specs.Prelude.{List, [], ◌∷◌, ℕ, ◌*◌, eqb}
use Rattle.std.proofs.lemmas.List.Edits.{sets}
use Rattle.analyse.specs.Analyse.{Painted}
use Rattle.blocks.specs.Laws.{block_with}
use Rattle.analysis.specs.Analyze.{Analyzed, few_colors, answer_of}
use Rattle.base.specs.Pick.{pick}
use Rattle.base.specs.Tests.{refusal}
use Rattle.colors.specs.declared.ColorIndex.{ColorIndex}
use Rattle.model.specs.declared.PaletteConfig.{PaletteConfig}
use Rattle.model.specs.declared.PalettePredictor.{PalettePredictor}
use Rattle.flat.specs.Flat.{flat_block}
use Rattle.flatcounter.specs.Counter.{counter_of, marks_of}

-- the memory lent: a counter's three lists, and a block's
pub record Lent : Type 0 where
  pub keys : List ℕ
  pub entry : List ℕ
  pub stamp : List ℕ
  pub block : List ℕ

abbrev pub counter_lent : Lent → ColorIndex
counter_lent l = counter_of l.keys l.entry l.stamp

-- the refusal's number, or 0; the counter after the call; the block, on a refusal as it was
abbrev pub analyzed_laid : Analyzed → Lent → ℕ × Lent
analyzed_laid done l = (
  done.refusal,
  record {
    keys = sets l.keys 0 done.counter.keys;
    entry = sets l.entry 0 done.counter.entry;
    stamp = sets l.stamp 0 (marks_of done.counter);
    block = pick (eqb done.refusal 0) (sets l.block 0 (flat_block done.cu)) l.block;
  },
)

-- the refusal's number, or 0; the counter after the call; the block's list, on a refusal as it was
abbrev pub block_laid : Analyzed → List ℕ → ℕ × (ColorIndex × List ℕ)
block_laid done block = (done.refusal, (done.counter, pick (eqb done.refusal 0) (sets block 0 (flat_block done.cu)) block))

-- 13 and the block's list as it was, or 0 and the list with the block made
abbrev pub found_out : Painted → PaletteConfig → ℕ → ℕ → ℕ → List ℕ → ℕ × List ℕ
found_out a c size np tol block = pick (eqb a.answer 0) (0, sets block 0 (flat_block (block_with c size np tol a.painting))) (13, block)

-- from the block's colours xs on: 13 or the block made
abbrev pub choose_out : List ℕ → PaletteConfig → ℕ → PalettePredictor → ℕ → Lent → ℕ × Lent
choose_out xs c size p tol l = analyzed_laid (answer_of (refusal ((few_colors xs (size * size), 13) ∷ [])) xs c size p (counter_lent l) tol) l

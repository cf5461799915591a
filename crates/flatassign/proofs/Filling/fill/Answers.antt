-- `flatassign::Filling::fill`: no levels, those of escapes, and the error of what cells decode to.
use Rattle.std.proofs.Common.{ℕ, replicate, ◌∙◌, arith}
use Rattle.std.proofs.lemmas.List.{length-replicate}
use Rattle.figure.specs.Laws.{in_rows}
use Rattle.flatassign.specs.Filling.{cell_value, fill_end}
use Rattle.flatassign.specs.Answers.{figure_filled}
use Rattle.flatassign.proofs.Filling.fill.Goals as goal

pub cells-requires : goal.cells-requires
cells-requires c = (c.requires.0, c.area-m.ensures.1, c.requires.2, omega (arith, c.clear_levels.auto.list, c.requires.3), λ j h. c.requires.4 j (omega (arith, c.area-m.ensures.0)))

pub returns : goal.returns
returns c = let s = c.args in
    let n = s.self.now in
    let a = c.area-m.ensures in
    let f = c.cells.ensures in (
      rw a.0 at (fill_end n.s n.palette.now n.n n.indices.now n.scan.now c.area-m.result s.list.now _ _ a.1 c.clear_levels.ensures f.0),
      c.error_figure.ensures
          ∙ figure_filled s.format s.transpose s.size (cell_value n.s n.palette.now n.n n.indices.now n.scan.now) (in_rows s.size s.cells.now) _ (replicate 1024 0) c.area-m.result a.0 (omega (arith, a.1, length-replicate {A = ℕ} 1024 0)) f.1,
    )

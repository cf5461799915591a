-- `writelist::write_palette_cu`: the runs taken are those of the lent list, as far as the array takes them.
use Rattle.std.proofs.Common.{◌≡◌, List, length, ap, ◌∙◌}
use Rattle.model.specs.declared.PaletteRun.{PaletteRun}
use Rattle.runlist.specs.Lists.{laid_on}
use Rattle.write.specs.Write.{write_of, list_after}
use Rattle.writelist.specs.Taken.{taken, write_taken, list_taken}
use Rattle.writelist.proofs.write_palette_cu.Goals as goal

pub returns : goal.returns
returns c =
    let ys = c.args.runs.now in
    let bs = c.args.list.now in
    let e : c.take_runs-taken.result ≡ taken ys = c.take_runs-taken.ensures ∙ (λ i. laid_on (c.no_runs.ensures i) ys (c.capped.ensures.0 i)) in (
      c.write_palette_cu.ensures.0 ∙ (ap (λ (r : List PaletteRun). write_of c.args.cu r (length ys) (length bs)) e ∙ write_taken c.args.cu ys (length bs)),
      c.write_palette_cu.ensures.1 ∙ (ap (λ (r : List PaletteRun). list_after c.args.cu r (length ys) bs) e ∙ list_taken c.args.cu ys bs),
    )

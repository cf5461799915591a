-- A plan as the code holds it: how many runs, the total in bits, and the runs at the front of 1024, of which the rest are blank.
use Rattle.std.specs.Prelude.{List, Float, length, replicate}
use Rattle.std.proofs.lemmas.List.Edits.{sets}
use Rattle.model.specs.declared.PaletteRun.{PaletteRun}
use Rattle.paths.specs.Plan.{Planned}
use Rattle.walk.specs.Points.{no_run}
use Rattle.finish.specs.declared.Found.{Found}

abbrev pub blank_runs : List PaletteRun
blank_runs = replicate 1024 no_run

abbrev pub laid_runs : List PaletteRun → List PaletteRun
laid_runs rs = sets blank_runs 0 rs

abbrev pub found : Float → List PaletteRun → Found
found total rs = record { count = length rs; total = total; runs = laid_runs rs }

abbrev pub found_of : Planned → Found
found_of w = found w.total w.runs

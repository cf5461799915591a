-- The runs at the front of the array are the planned ones.
use Rattle.std.specs.Prelude.{◌≡◌, List, [], ◌∷◌, ◌++◌, ℕ, suc, ◌+◌, ◌≤◌, length, set, take}
use Rattle.std.proofs.Common.{ap, sym, ◌∙◌, append_assoc, append-nil, add-zero, zero-add, add-one, arith, length-set}
use Rattle.std.proofs.lemmas.List.{length-replicate}
use Rattle.std.proofs.lemmas.List.Edits.{sets}
use Rattle.base.specs.Counted.{push}
use Rattle.model.specs.declared.PaletteRun.{PaletteRun}
use Rattle.walk.specs.Points.{no_run}
use Rattle.finish.specs.Found.{laid_runs}

front : {A : Type 0} (l s : List A) (i : ℕ) → i + length s ≤ length l → take (i + length s) (sets l i s) ≡ take i l ++ s
front l [] i h = rw (add-zero i) (sym (append-nil (take i l)))
front {A} l (x ∷ s) i h =
    let z : i + suc (length s) ≡ suc i + length s = omega arith in
    let p : take (suc i) (set l i x) ≡ take i l ++ (x ∷ []) = rw add-one at (push l i x (omega arith)) in
    rw z (front (set l i x) s (suc i) (rw length-set (omega arith)) ∙ ap (λ (t : List A). t ++ s) p ∙ append_assoc (take i l) (x ∷ []) s)

pub front-runs : (rs : List PaletteRun) → length rs ≤ 1024 → take (length rs) (laid_runs rs) ≡ rs
front-runs rs h =
    let z : 0 + length rs ≡ length rs = zero-add (length rs) in
    rw z at (front (laid_runs []) rs 0 (rw (z, length-replicate {A = PaletteRun} 1024 no_run) h))

-- A list that is filled holds one value at each place.
use Rattle.std.proofs.Common.{◌≡◌, ℕ, ◌<◌, List, length, replicate, sym, ◌∙◌, arith, ext_get_or}
use Rattle.std.proofs.lemmas.List.{length-replicate, get_or-replicate}
use Rattle.base.specs.Cells.{laid, laid-length, laid_in}

pub filled : (v : ℕ) (l : List ℕ) → replicate (length l) v ≡ laid (λ (i : ℕ). v) l 0 (length l)
filled v l =
    ext_get_or 0 (replicate (length l) v) (laid (λ (i : ℕ). v) l 0 (length l))
    (length-replicate (length l) v ∙ sym (laid-length (λ (i : ℕ). v) l 0 (length l)))
    (λ j m.
    let h : j < length l = omega (arith, length-replicate (length l) v) in
    get_or-replicate (length l) j v 0 h ∙ sym (laid_in (λ (i : ℕ). v) l 0 (length l) j 0 (omega arith) (omega arith) (omega arith)))

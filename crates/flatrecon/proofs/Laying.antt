-- Loops that lay the places from a on.
use Rattle.std.proofs.Common.{◌≡◌, ℕ, ◌+◌, ◌-◌, ◌≤◌, List, set, ap, ◌∙◌, arith}
use Rattle.base.specs.Cells.{laid, laid-step}

-- one place more
pub laid_at : (f : ℕ → ℕ) (l out : List ℕ) (a j v : ℕ) → a ≤ j → out ≡ laid f l a (j - a) → v ≡ f j → set out j v ≡ laid f l a (j + 1 - a)
laid_at f l out a j v h e w =
    let z : a + (j - a) ≡ j = omega arith in
    let n : j - a + 1 ≡ j + 1 - a = omega arith in
    rw (z, n) at (laid-step f l out a (j - a) v e (w ∙ ap f (rw z)))

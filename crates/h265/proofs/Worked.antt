-- Worked examples that fix what string and parse share, and no law between them would catch: the Rice parameter, classes, gaps.
use Rattle.std.specs.Prelude.{◌≡◌, refl, Bool, true, false, List, [], ◌∷◌, map, ℕ}
use Rattle.h265.specs.Reuse.{lead, code_of, reuse_bins}
use Rattle.h265.specs.Strings.{bits, egk_aux, egk, unary, rice, count_bins, run_class}
use Rattle.h265.specs.Worked.{Count, counted}

pub counts : map (λ (c : Count). count_bins c.m c.v) counted ≡ map (λ (c : Count). c.bins) counted
unfolding counted count_bins rice unary bits egk egk_aux
counts = refl

-- the contexts of a prefix of six ones: an index run whose index sent is 0, 1, 2, 3, and a copy-above run
pub classes : map (λ (sent : ℕ). unary (run_class false sent) 0 7 6) (0 ∷ 1 ∷ 2 ∷ 3 ∷ [])
    ≡ (7 ∷ 13 ∷ 13 ∷ 15 ∷ 15 ∷ 1 ∷ 0 ∷ []) ∷ (9 ∷ 13 ∷ 13 ∷ 15 ∷ 15 ∷ 1 ∷ 0 ∷ []) ∷ (9 ∷ 13 ∷ 13 ∷ 15 ∷ 15 ∷ 1 ∷ 0 ∷ []) ∷ (11 ∷ 13 ∷ 13 ∷ 15 ∷ 15 ∷ 1 ∷ 0 ∷ []) ∷ []
unfolding unary run_class
classes = refl

pub classes-above : unary (run_class true 0) 0 7 6 ≡ 17 ∷ 19 ∷ 19 ∷ 21 ∷ 21 ∷ 1 ∷ 0 ∷ []
unfolding unary run_class
classes-above = refl

-- the second and third of five entries: a gap of 1, none, and no more; the last run is not sent where the limit or the last entry is reached
pub reused : (reuse_bins 64 (false ∷ true ∷ true ∷ false ∷ false ∷ []) ≡ 1 ∷ 0 ∷ 1 ∷ 0 ∷ 1 ∷ 0 ∷ 0 ∷ [])
    × (reuse_bins 2 (false ∷ true ∷ true ∷ false ∷ false ∷ []) ≡ 1 ∷ 0 ∷ 1 ∷ 0 ∷ [])
    × (reuse_bins 64 (false ∷ true ∷ true ∷ []) ≡ 1 ∷ 0 ∷ 1 ∷ 0 ∷ [])
unfolding reuse_bins lead code_of egk egk_aux bits
reused = (refl, refl, refl)

-- The reuse runs (7.3.8.13, palette_predictor_run): which predictor entries the palette takes. `room` is what the palette's limit leaves for reused entries.
use Rattle.std.specs.Prelude.{Bool, true, false, List, [], ◌∷◌, ◌++◌, ℕ, zero, suc, ◌+◌, ◌-◌, leb, eqb, length, drop, replicate}
use Rattle.base.specs.Pick.{pick}
use Rattle.base.specs.Answer.{Answer, Value, Refused, onward}
use Rattle.h265.specs.Strings.{egk}
use Rattle.h265.specs.Parse.{egk_at}

-- how many entries are reused
unfoldable pub trues : List Bool → ℕ
trues [] = 0
trues (true ∷ fs) = suc (trues fs)
trues (false ∷ fs) = trues fs

-- the entries that are reused
unfoldable pub flagged : {A : Type 0} → List Bool → List A → List A
flagged [] es = []
flagged (f ∷ fs) [] = []
flagged (f ∷ fs) (e ∷ es) = pick f (e ∷ flagged fs es) (flagged fs es)

-- how many entries are passed over before the next that is reused; all of them where none is
unfoldable pub lead : List Bool → ℕ
lead [] = 0
lead (true ∷ fs) = 0
lead (false ∷ fs) = suc (lead fs)

-- palette_predictor_run after a gap: 0 for none, gap + 1 else; 1 says that there are no more
unfoldable pub code_of : ℕ → ℕ
code_of gap = pick (eqb gap 0) 0 (gap + 1)

unfoldable pub gap_of : ℕ → ℕ
gap_of r = pick (eqb r 0) 0 (r - 1)

unfoldable pub reuse_bins : ℕ → List Bool → List ℕ
reuse_bins zero fs = []
reuse_bins (suc room) fs =
    let more : List ℕ = egk 0 (code_of (lead fs)) ++ reuse_bins room (drop (suc (lead fs)) fs) in
    pick (eqb (length fs) 0) [] (pick (eqb (lead fs) (length fs)) (egk 0 1) more)

-- k entries are left
unfoldable pub reuse_at : ℕ → ℕ → List ℕ → ℕ → Answer (List Bool)
reuse_at zero k l p = Value (replicate k false) p
reuse_at (suc room) k l p =
    let more : Answer (List Bool) =
    onward (egk_at 0 l p) (λ r q.
    let rest : Answer (List Bool) = onward (reuse_at room (k - suc (gap_of r)) l q) (λ fs t. Value (replicate (gap_of r) false ++ (true ∷ fs)) t) in
    pick (eqb r 1) (Value (replicate k false) q) (pick (leb k (gap_of r)) (Refused 12 p) rest)) in
    pick (eqb k 0) (Value [] p) more

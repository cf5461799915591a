-- What the run rules and the replay ask of the indices sent: their alphabets.
use Rattle.std.specs.Prelude.{◌≡◌, refl, ◌≢◌, Bool, true, false, List, [], ◌∷◌, ◌++◌, ℕ, zero, suc, ◌+◌, ◌*◌, ◌-◌, ◌/◌, ◌≤◌, ◌<◌, ltb, leb, eqb, length, get_or, take, drop, replicate}
use Rattle.std.proofs.Common.{ap, sym, ◌∙◌, append_assoc, div-add-mod', add-zero, add-one, arith, length-append, length-take, length-drop, length-take-le, take_all, take-suc, take-add, take_at, get_or-take, get_or-drop, get_or-append-add, ext_get_or, take-take, lt-ltb, le-ltb, ltb-true, ltb-false, eqb-true, eq-eqb, ne_eqb, leb-true}
use Rattle.std.proofs.lemmas.List.{length-replicate, get_or-replicate, get_or_at}
use Rattle.std.proofs.Math.ListN.{get_or-append}
use Rattle.std.proofs.lemmas.Bool.{eqb-false}
use Rattle.base.specs.Codes.{All}

-- the alphabets: M + 1 values at the start, M later
abbrev pub First : ℕ → List ℕ → Type 0
First m [] = Unit {0}
First m (i ∷ is) = (i < m + 1) × All (λ v. v < m) is

pub record Alphabets (m scan : ℕ) (is : List ℕ) : Type 0 where
  pub first : scan ≡ 0 → First m is
  pub later : 0 < scan → All (λ v. v < m) is

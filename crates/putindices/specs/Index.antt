-- One turn of the loop that lays the indices.
use Rattle.std.specs.Prelude.{◌≡◌, refl, Bool, true, false, List, [], ◌∷◌, ◌++◌, ℕ, ◌+◌, ◌-◌, ◌≤◌, ◌<◌, ltb, eqb, drop}
use Rattle.std.proofs.Common.{add-zero, ltb-true, ltb-false}
use Rattle.base.specs.Pick.{pick, either}
use Rattle.base.specs.Codes.{each_bins, Each}
use Rattle.base.specs.Pick.{true_false}
use Rattle.syntax.specs.MapLaws.{Under}
use Rattle.h265.specs.Strings.{tb}
use Rattle.syntax.specs.Runs.{Run, sent_of}
use Rattle.syntax.specs.Block.{alphabets}
use Rattle.syntax.specs.EachTurns.{alphabets-on, alphabets-end}

pub none-laid : (ns : List ℕ) (all : List Run) → all ≡ [] → each_bins tb ns (sent_of all) ≡ []
unfolding each_bins sent_of
none-laid [] all e = refl
none-laid (n ∷ ns) all e = rw e

pub record Turn (m total k : ℕ) (all : List Run) (above : Bool) (sent : ℕ) (rs : List Run) : Type 0 where
  pub small : above ≡ false → sent < pick (eqb k 0) (m + 1) m
  pub next : Each Under (drop (k + pick above 0 1) (alphabets m (total - 1))) (sent_of rs)
  pub bins : each_bins tb (drop k (alphabets m (total - 1))) (sent_of all) ≡ pick above [] (tb (pick (eqb k 0) (m + 1) m) sent) ++ each_bins tb (drop (k + pick above 0 1) (alphabets m (total - 1))) (sent_of rs)

pub index-turn : (m total k : ℕ) (all : List Run) (r : Run) (rs : List Run) → 1 ≤ total → all ≡ r ∷ rs → Each Under (drop k (alphabets m (total - 1))) (sent_of all) → Turn m total k all r.above r.sent rs
unfolding sent_of each_bins
index-turn m total k all r rs o e h = go r.above refl
  where
    is : (b : Bool) → r.above ≡ b → sent_of all ≡ pick b (sent_of rs) (r.sent ∷ sent_of rs)
    is b t = rw (e, t)

    go : (b : Bool) → r.above ≡ b → Turn m total k all b r.sent rs
    go true t = record { small = λ z. absurd (true_false z); next = rw (add-zero k) (rw (is true t) at h); bins = rw (is true t, add-zero k) }
    go false t =
        either (ltb k total)
        (λ u.
        let a = alphabets-on m total k (ltb-true k total u) in
        let g = rw (is false t, a) at h in
        record { small = λ z. g.0; next = g.1; bins = rw (is false t, a) })
        (λ u. absurd (rw (is false t, alphabets-end m total k o (ltb-false k total u)) at h))

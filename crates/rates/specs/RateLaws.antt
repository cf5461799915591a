-- What the functions' proofs want of the definitions.
use Rattle.std.specs.Prelude.{◌≡◌, refl, Bool, true, false, ◌&&◌, ℕ, ◌+◌, ◌≤◌, ◌<◌, leb}
use Rattle.std.proofs.Common.{sym, lt-ltb, le-ltb, leb-true}
use Rattle.base.specs.Pick.{pick, true_false}
use Rattle.base.specs.Upto.{number}
use Rattle.h265.specs.Strings.{flog, short, tb}
use Rattle.h265.specs.StringLaws.{length-bits}
use Rattle.rates.specs.Rates.{index_rate}

pub and_more : (a b c : Bool) → pick a b false && c ≡ pick a (pick b c false) false
and_more true true c = refl
and_more true false c = refl
and_more false b c = refl

pub both_leb : (a x b : ℕ) → leb a x && leb x b ≡ true → (a ≤ x) × (x ≤ b)
both_leb a x b e = go (leb a x) (leb x b) refl refl e
  where
    go : (s t : Bool) → leb a x ≡ s → leb x b ≡ t → s && t ≡ true → (a ≤ x) × (x ≤ b)
    go true true p q e = (leb-true a x p, leb-true x b q)
    go true false p q e = absurd (true_false (sym e))
    go false t p q e = absurd (true_false (sym e))

pub index_short : (n v : ℕ) → v < short n → number (flog n) ≡ index_rate n v
unfolding index_rate tb
index_short n v h = rw (lt-ltb v (short n) h, length-bits (flog n) v)

pub index-long : (n v : ℕ) → short n ≤ v → number (flog n + 1) ≡ index_rate n v
unfolding index_rate tb
index-long n v h = rw (le-ltb v (short n) h, length-bits (flog n + 1) (v + short n))

use Rattle.std.proofs.Common.{ne_eqb, ◌≡◌, ◌<◌, ◌≤◌, arith, le-leb}
use Rattle.std.proofs.lemmas.Bool.{lt-leb}
use Rattle.base.specs.Upto.{literal_1}
use Rattle.rates.specs.Rates.{class_rates}
use Rattle.rates.proofs.class_rates.Goals as goal

pub returns-in-1 : goal.returns-in-1
unfolding class_rates
returns-in-1 c = rw c.in-1.is

pub returns-in-3-to-10 : goal.returns-in-3-to-10
unfolding class_rates
returns-in-3-to-10 c =
    let other : c.args.class ≡ 1 → ⊥ = omega arith in
    let low : 3 ≤ c.args.class = omega arith in
    let high : c.args.class ≤ 10 = omega arith in
    rw (c.from.ensures, ne_eqb _ _ other, le-leb _ _ low, le-leb _ _ high)

pub returns-in_default : goal.returns-in_default
unfolding class_rates
returns-in_default c =
    let other : c.args.class ≡ 1 → ⊥ = omega arith in
    let low : c.args.class < 3 = omega arith in
    rw (literal_1, ne_eqb _ _ other, lt-leb _ _ low)

pub returns-in_default-2 : goal.returns-in_default-2
unfolding class_rates
returns-in_default-2 c =
    let other : c.args.class ≡ 1 → ⊥ = omega arith in
    let low : 3 ≤ c.args.class = omega arith in
    let high : 10 < c.args.class = omega arith in
    rw (literal_1, ne_eqb _ _ other, le-leb _ _ low, lt-leb _ _ high)

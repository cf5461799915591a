-- Colours joined bit by bit: no component is greater than that of the whole.
use Rattle.std.specs.Prelude.{◌≡◌, true, List, ℕ, ◌+◌, ◌/◌, ◌%◌, ◌^◌, ◌≤◌, ◌<◌, leb, get_or}
use Rattle.std.proofs.Common.{ap, sym, ◌∙◌, ⊎_elim, arith, le-leb, leb-true}
use Rattle.std.specs.Int.Bits.{bit_or, or_add_and}
use Rattle.std.proofs.lemmas.Nat.{and_le_l, and_le_r, or_mod, or_shr}
use Rattle.base.specs.Pick.{lt_or_le}
use Rattle.base.specs.Tests.{both, at_up_to}
use Rattle.quant.specs.Quant.{y_of, u_of, v_of}
use Rattle.source.specs.Source.{fits, all_fit}

pub record Above (cells : List ℕ) (n all : ℕ) : Type 0 where
  pub y : (j : ℕ) → j < n → y_of (get_or cells j 0) ≤ y_of all
  pub u : (j : ℕ) → j < n → u_of (get_or cells j 0) ≤ u_of all
  pub v : (j : ℕ) → j < n → v_of (get_or cells j 0) ≤ v_of all

or_left : (a b : ℕ) → a ≤ bit_or a b
or_left a b = omega (arith, or_add_and a b, and_le_r a b)

or_right : (a b : ℕ) → b ≤ bit_or a b
or_right a b = omega (arith, or_add_and a b, and_le_l a b)

or_y : (a b : ℕ) → y_of (bit_or a b) ≡ bit_or (y_of a) (y_of b)
or_y a b = or_mod a b 16

or_u : (a b : ℕ) → u_of (bit_or a b) ≡ bit_or (u_of a) (u_of b)
or_u a b = ap (λ (x : ℕ). x % 2 ^ 16) (or_shr a b 16) ∙ or_mod (a / 2 ^ 16) (b / 2 ^ 16) 16

or_v : (a b : ℕ) → v_of (bit_or a b) ≡ bit_or (v_of a) (v_of b)
or_v a b = ap (λ (x : ℕ). x % 2 ^ 16) (or_shr a b 32) ∙ or_mod (a / 2 ^ 32) (b / 2 ^ 32) 16

pub above-none : (cells : List ℕ) → Above cells 0 0
above-none cells = record { y = λ j h. absurd (omega arith); u = λ j h. absurd (omega arith); v = λ j h. absurd (omega arith) }

-- one colour more
pub above-next : (cells : List ℕ) (i all : ℕ) → Above cells i all → Above cells (i + 1) (bit_or all (get_or cells i 0))
above-next cells i all a = record {
  y = λ j h. rw (or_y all (get_or cells i 0)) (⊎_elim (λ (k : j < i). omega (arith, a.y j k, or_left (y_of all) (y_of (get_or cells i 0)))) (λ (k : i ≤ j). let e : j ≡ i = omega arith in rw e (or_right (y_of all) (y_of (get_or cells i 0)))) (lt_or_le j i));
  u = λ j h. rw (or_u all (get_or cells i 0)) (⊎_elim (λ (k : j < i). omega (arith, a.u j k, or_left (u_of all) (u_of (get_or cells i 0)))) (λ (k : i ≤ j). let e : j ≡ i = omega arith in rw e (or_right (u_of all) (u_of (get_or cells i 0)))) (lt_or_le j i));
  v = λ j h. rw (or_v all (get_or cells i 0)) (⊎_elim (λ (k : j < i). omega (arith, a.v j k, or_left (v_of all) (v_of (get_or cells i 0)))) (λ (k : i ≤ j). let e : j ≡ i = omega arith in rw e (or_right (v_of all) (v_of (get_or cells i 0)))) (lt_or_le j i));
}

-- where the whole fits each colour does
pub above-fits : (cells : List ℕ) (n all ym cm : ℕ) → Above cells n all → fits ym cm all ≡ true → true ≡ all_fit ym cm n (λ (j : ℕ). get_or cells j 0)
unfolding all_fit
above-fits cells n all ym cm a e =
    let p = both (leb (y_of all) ym) _ e in
    let q = both (leb (u_of all) cm) _ p.1 in
    let r = both (leb (v_of all) cm) true q.1 in
    sym
    (at_up_to (λ (j : ℕ). fits ym cm (get_or cells j 0)) n
    (λ j h.
    let x : leb (y_of (get_or cells j 0)) ym ≡ true = le-leb (y_of (get_or cells j 0)) ym (omega (arith, a.y j h, leb-true (y_of all) ym p.0)) in
    let z : leb (u_of (get_or cells j 0)) cm ≡ true = le-leb (u_of (get_or cells j 0)) cm (omega (arith, a.u j h, leb-true (u_of all) cm q.0)) in
    let w : leb (v_of (get_or cells j 0)) cm ≡ true = le-leb (v_of (get_or cells j 0)) cm (omega (arith, a.v j h, leb-true (v_of all) cm r.0)) in
    rw (x, z, w)))

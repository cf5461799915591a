-- The reader's loop: where it stands, one turn, and its ends.
use Rattle.std.specs.Prelude.{◌≡◌, refl, Bool, true, set}
use Rattle.std.proofs.Math.Path.{ap, sym}
use Rattle.std.proofs.Common.{◌∙◌}
use Rattle.std.proofs.Math.Bool.{false}
use mathlib.Core.List.{List, [], ◌∷◌, ◌++◌, append_assoc}
use Prim.Native.Nat.{ℕ, zero, suc, ◌+◌, ◌-◌, ◌≤◌, ◌<◌}
use Rattle.std.proofs.Math.Nat.{sub-zero}
use native.Mathlib.Omega.{arith}
use borrow.Author.Tests.{ne_eqb}
use Rattle.std.proofs.Math.ListN.{length, replicate, length-append, length-replicate}
use Rattle.std.proofs.lemmas.List.{replicate-append-replicate, set_at}
use Rattle.base.specs.Answer.{Value, Refused}
use Rattle.base.specs.Prepend.{prepend, prepend-none, prepend-more}
use Rattle.h265.specs.Reuse.{trues, gap_of, reuse_at}
use Rattle.h265.proofs.ReuseLaws.{trues-none, trues-append}
use Rattle.h265.specs.Parse.{egk_at}
use Rattle.h265.specs.ReuseTurns.{reuse_turn}
use Rattle.getreuse.specs.Read.{ReuseRead, read_of}

-- run r passes over r - 1 entries, and run 0 over none
pub gap_less : (r : ℕ) → r - 1 ≡ gap_of r
unfolding gap_of
gap_less zero = refl
gap_less (suc r) = rw (ne_eqb (suc r) 0 (λ z. omega arith))

-- flags of the entries up to idx were read, the others are off, and what is left to read makes the whole
pub record Going (limit count : ℕ) (l : List ℕ) (at : ℕ) (flags : List Bool) (reused idx p : ℕ) : Type 0 where
  pub done : List Bool
  pub length_is : length done ≡ idx
  pub flags_are : flags ≡ done ++ replicate (128 - idx) false
  pub reused_are : trues done ≡ reused
  pub inside : idx ≤ count
  pub room : reused ≤ limit
  pub rest : prepend done (reuse_at (limit - reused) (count - idx) l p) ≡ reuse_at limit count l at

pub going_start : (limit count : ℕ) (l : List ℕ) (at : ℕ) → Going limit count l at (replicate 128 false) 0 0 at
unfolding trues
going_start limit count l at = record {
  done = [];
  length_is = refl;
  flags_are = refl;
  reused_are = refl;
  inside = omega arith;
  room = omega arith;
  rest = rw (sub-zero limit, sub-zero count) (prepend-none (reuse_at limit count l at));
}

-- the flag after a gap of g
set-gap : (ds flags : List Bool) (n g rest : ℕ) → flags ≡ ds ++ replicate (g + suc rest) false → length ds + g ≡ n → set flags n true ≡ (ds ++ (replicate g false ++ (true ∷ []))) ++ replicate rest false
set-gap ds flags n g rest e h =
    let a : flags ≡ (ds ++ replicate g false) ++ (false ∷ replicate rest false) = e ∙ ap (λ (x : List Bool). ds ++ x) (sym (replicate-append-replicate g (suc rest) false)) ∙ sym (append_assoc ds (replicate g false) (false ∷ replicate rest false)) in
    let b : length (ds ++ replicate g false) ≡ n = omega (arith, length-append ds (replicate g false), length-replicate g false) in
    rw a (set_at (ds ++ replicate g false) false (replicate rest false) true n b ∙ simp append_assoc)

module _ {limit count : ℕ} {l : List ℕ} {at : ℕ} {flags : List Bool} {reused idx p : ℕ} (i : Going limit count l at flags reused idx p) where
  pub going_turn : (r q : ℕ) → count ≤ 128 → reused < limit → egk_at 0 l p ≡ Value r q → (r ≡ 1 → ⊥) → gap_of r < count - idx → Going limit count l at (set flags (idx + gap_of r) true) (reused + 1) (idx + gap_of r + 1) q
  unfolding trues
  going_turn r q small free f o g =
      let new = replicate (gap_of r) false ++ (true ∷ []) in
      let m : length new ≡ gap_of r + 1 = omega (arith, length-append (replicate (gap_of r) false) (true ∷ []), length-replicate (gap_of r) false) in
      let n : trues new ≡ 1 = omega (arith, trues-append (replicate (gap_of r) false) (true ∷ []), trues-none (gap_of r)) in
      let w : 128 - idx ≡ gap_of r + suc (128 - (idx + gap_of r + 1)) = omega (arith, i.inside) in
      let z : count - idx - suc (gap_of r) ≡ count - (idx + gap_of r + 1) = omega arith in
      let t = reuse_turn (limit - reused) (limit - (reused + 1)) (count - idx) l p (omega arith) (omega arith) r q f o g in
      record {
        done = i.done ++ new;
        length_is = omega (arith, length-append i.done new, i.length_is);
        flags_are = set-gap i.done flags (idx + gap_of r) (gap_of r) (128 - (idx + gap_of r + 1)) (rw w at i.flags_are) (omega (arith, i.length_is));
        reused_are = omega (arith, trues-append i.done new, i.reused_are);
        inside = omega (arith, i.inside);
        room = omega arith;
        rest = sym (prepend-more i.done new _) ∙ ap (prepend i.done) (sym (rw z at t)) ∙ i.rest;
      }

  -- the flags of the entries left are off already
  pub going_end : (q : ℕ) → count ≤ 128 → reuse_at (limit - reused) (count - idx) l p ≡ Value (replicate (count - idx) false) q → ◌≡◌ {A = ReuseRead} (record { got = Value reused q; flags = flags }) (read_of (reuse_at limit count l at))
  unfolding read_of prepend
  going_end q small f =
      let k = count - idx in
      let ds = i.done ++ replicate (count - idx) false in
      let h : Value ds q ≡ reuse_at limit count l at = rw f at i.rest in
      let a : trues ds ≡ reused = omega (arith, trues-append i.done (replicate k false), trues-none k, i.reused_are) in
      let b : length ds ≡ count = omega (arith, length-append i.done (replicate k false), length-replicate k false, i.length_is, i.inside) in
      let z : k + (128 - count) ≡ 128 - idx = omega (arith, i.inside) in
      let d : ds ++ replicate (128 - count) false ≡ flags =
      append_assoc i.done (replicate k false) (replicate (128 - count) false)
      ∙ rw (replicate-append-replicate k (128 - count) false, z) (sym i.flags_are) in
      rw (← h, a, b, d)

  pub going_refused : (k q : ℕ) → reuse_at (limit - reused) (count - idx) l p ≡ Refused k q → Refused k q ≡ reuse_at limit count l at
  unfolding prepend
  going_refused k q f = rw f at i.rest

-- A part of a list that is written whole, or number by number.
use Rattle.std.proofs.Common.{◌≡◌, ℕ, suc, ◌+◌, ◌≤◌, ◌<◌, List, ◌++◌, set, take, drop, length, get_or, sym, ap, ◌∙◌, append_assoc, arith, add-one, length-drop, length-take, length-take-le, drop-cons, drop_of_length-le, get_or-take, get_or-drop}
use Rattle.std.proofs.lemmas.List.{drop-drop}
use Rattle.std.proofs.lemmas.List.Edits.{sets, sets-eq}
use Rattle.flat.specs.Flat.{number}

pub part_sets : (l ys : List ℕ) (a k : ℕ) → a + k ≤ length l → length ys ≡ k → take a l ++ (ys ++ drop k (drop a l)) ≡ sets l a ys
part_sets l ys a k h e =
    let f : a + length ys ≤ length l = omega arith in
    let d : drop k (drop a l) ≡ drop (a + length ys) l = rw e (drop-drop k a l) in
    ap (λ (z : List ℕ). take a l ++ (ys ++ z)) d ∙ sym (sets-eq ys l a f ∙ append_assoc (take a l) ys (drop (a + length ys) l))

module _ (l s : List ℕ) (to from n : ℕ) where
  pub copy_start : sets l (to + 0) (drop 0 (take n (drop from s))) ≡ sets l to (take n (drop from s))
  copy_start = let e : to + 0 ≡ to = omega arith in rw e

  pub copy_next : (i : ℕ) → i < n → from + n ≤ length s → sets (set l (to + i) (number s (from + i))) (to + (i + 1)) (drop (i + 1) (take n (drop from s))) ≡ sets l (to + i) (drop i (take n (drop from s)))
  copy_next i h m =
      let xs = take n (drop from s) in
      let t : length xs ≡ n = length-take-le n (drop from s) (rw length-drop (omega arith)) in
      let g : get_or xs i 0 ≡ number s (from + i) = get_or-take n (drop from s) i 0 h ∙ get_or-drop from s i 0 in
      let e : to + (i + 1) ≡ suc (to + i) = omega arith in
      rw (e, add-one i, ← g, drop-cons xs i 0 (omega arith))

  pub copy_end : (i : ℕ) → n ≤ i → sets l (to + i) (drop i (take n (drop from s))) ≡ l
  copy_end i h =
      let t : length (take n (drop from s)) ≤ i = rw length-take (omega arith) in
      rw (drop_of_length-le (take n (drop from s)) {i = i} t)

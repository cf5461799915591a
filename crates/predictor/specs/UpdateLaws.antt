-- A predictor that is filled entry by entry, and the domain that an update keeps.
use Rattle.std.specs.Prelude.{◌≡◌, refl, Bool, false, ◌&&◌, List, [], ◌∷◌, ◌++◌, ℕ, suc, ◌+◌, ◌-◌, ◌≤◌, ◌<◌, min, eqb, leb, ltb, drop, get_or, set, replicate}
use Rattle.std.proofs.Math.Path.{ap, sym}
use Rattle.std.proofs.Common.{◌∙◌, append_assoc, append-nil, ⊎_elim, add-one, arith, length-append, length-take, length-set, take_all, take-take, take-suc, take_at, get_or-take}
use Rattle.std.proofs.Math.Bool.{true}
use Rattle.std.proofs.Math.Nat.{min-eq_left, min-eq_right, min-le_left, min-le_right}
use borrow.Author.Tests.{leb-true, le-leb, lt-ltb, le-ltb, eqb-true}
use Rattle.std.proofs.Math.ListN.{length, take, get_or-append, get_or-eq_default}
use Rattle.std.proofs.lemmas.List.{length-replicate, take-append-le}
use Rattle.std.proofs.Math.Seq.{take-append_seam, length-take-le, set-append_seam}
use Rattle.base.specs.Alls.{all_by, all-at}
use Rattle.base.specs.Counted.{push}
use Rattle.base.specs.Codes.{All}
use Rattle.base.specs.Pick.{pick, either, lt_or_le}
use Rattle.base.specs.Tests.{every, both, ands-every, refusal, up_to, up_to-at, at_up_to}
use Rattle.h265.specs.Predictor.{unreused, updated, updated-length, updated-all, unreused-at, unreused-none}
use Rattle.model.specs.declared.Color.{Color}
use Rattle.model.specs.declared.PaletteCu.{PaletteCu}
use Rattle.model.specs.declared.PalettePredictor.{PalettePredictor}
use Rattle.model.specs.Domain.{no_color, color_in, predictor_in}
use Rattle.model.specs.Whole.{block_size_in, holds}
use Rattle.model.specs.WholeLaws.{whole}
use Rattle.predictor.specs.Update.{padded, predictor_of, empty_predictor, renewed_of, update_refusal, update_of}

-- ---- entries and none after them

pub padded-length : (n : ℕ) (xs : List Color) → length xs ≤ n → length (padded n xs) ≡ n
unfolding padded
padded-length n xs h = rw (length-append, length-replicate) (omega arith)

pub padded-push : (n : ℕ) (xs : List Color) (a : Color) → length xs < n → set (padded n xs) (length xs) a ≡ padded n (xs ++ (a ∷ []))
unfolding padded
padded-push n xs a h =
    let k : n - length xs ≡ suc (n - length (xs ++ (a ∷ []))) = rw length-append (omega arith) in
    rw (k, append_assoc xs (a ∷ []) (replicate (n - length (xs ++ (a ∷ []))) no_color)) (set-append_seam xs no_color _ a)

pub padded-take : (n : ℕ) (xs : List Color) → take (length xs) (padded n xs) ≡ xs
unfolding padded
padded-take n xs = take-append_seam xs _

-- no entry yet
pub empty-start : (p : PalettePredictor) → p ≡ empty_predictor → (length p.entries ≡ 128) × (p.entries ≡ padded 128 [])
unfolding empty_predictor
empty-start p e = rw e (padded-length 128 [] (omega arith), refl)

-- one more entry of a list
pub padded-next : (n : ℕ) (xs : List Color) (i : ℕ) (d : Color) → i < length xs → length xs ≤ n → set (padded n (take i xs)) i (get_or xs i d) ≡ padded n (take (i + 1) xs)
padded-next n xs i d h o =
    let e : length (take i xs) ≡ i = length-take-le i xs (omega arith) in
    rw (add-one i, take-suc xs i d h) (rw e at (padded-push n (take i xs) (get_or xs i d) (omega arith)))

-- ---- the flag at a place, none past their count

pub flag_at : (flags : List Bool) (count j : ℕ) → get_or flags j false && ltb j count ≡ get_or (take count flags) j false
flag_at flags count j =
    ⊎_elim
    (λ (l : j < count). rw (lt-ltb j count l, get_or-take count flags j false l) (on (get_or flags j false)))
    (λ (l : count ≤ j).
    let s : length (take count flags) ≤ j = rw length-take (omega arith) in
    rw (le-ltb j count l, get_or-eq_default (take count flags) false {n = j} s) (off (get_or flags j false)))
    (lt_or_le j count)
  where
    on : (b : Bool) → b && true ≡ b
    on true = refl
    on false = refl

    off : (b : Bool) → b && false ≡ false
    off true = refl
    off false = refl

-- ---- a loop that fills: k entries stand in `out`, `rest` is to follow, and that makes the whole

pub record Filling (limit k : ℕ) (out rest whole : List Color) : Type 0 where
  pub room : k ≤ limit
  pub blank : out ≡ padded 128 (take k out)
  pub long : length out ≡ 128
  pub makes : take limit (take k out ++ rest) ≡ whole

-- a palette cut to the limit makes the same
cut : (limit k : ℕ) (palette rest : List Color) → k ≡ min (length palette) limit → take limit (take k palette ++ rest) ≡ take limit (palette ++ rest)
cut limit k palette rest e =
    ⊎_elim
    (λ (l : limit < length palette).
    let m : limit ≤ length palette = omega arith in
    let z : k ≡ limit = e ∙ min-eq_right m in
    let s : length (take limit palette) ≡ limit = length-take-le limit palette m in
    let o : limit ≤ limit = omega arith in
    rw z (take-append-le limit (take limit palette) rest (omega arith) ∙ take-take limit limit palette o ∙ sym (take-append-le limit palette rest m)))
    (λ (l : length palette ≤ limit).
    let z : k ≡ length palette = e ∙ min-eq_left l in
    rw (take_all k palette (omega arith)))
    (lt_or_le limit (length palette))

-- k entries that are the whole
filled : (k : ℕ) (out whole : List Color) → k ≤ length out → out ≡ padded 128 (take k out) → take k out ≡ whole → ◌≡◌ {A = PalettePredictor} (record { entries = out; size = k }) (predictor_of whole)
filled k out whole h b w =
    let s : length (take k out) ≡ k = length-take-le k out h in
    let e : out ≡ padded 128 whole = b ∙ ap (padded 128) w in
    let n : k ≡ length whole = sym s ∙ ap length w in
    ap (λ (o : List Color). record { entries = o; size = k }) e ∙ ap (λ (m : ℕ). record { entries = padded 128 whole; size = m }) n

module _ (limit : ℕ) (most : limit ≤ 128) where
  pub filling_put : (k : ℕ) (out rest whole : List Color) (c : Color) → k < limit → Filling limit k out (c ∷ rest) whole → Filling limit (k + 1) (set out k c) rest whole
  filling_put k out rest whole c h f =
      let n = f.long in
      let s : length (take k out) ≡ k = length-take-le k out (omega arith) in
      let t : take (k + 1) (set out k c) ≡ take k out ++ (c ∷ []) = push out k c (omega arith) in
      let b : set (padded 128 (take k out)) k c ≡ padded 128 (take k out ++ (c ∷ [])) = rw s at (padded-push 128 (take k out) c (omega arith)) in
      record {
        room = omega arith;
        blank = ap (λ (o : List Color). set o k c) f.blank ∙ b ∙ ap (padded 128) (sym t);
        long = length-set out k c ∙ n;
        makes = rw (t, append_assoc (take k out) (c ∷ []) rest) f.makes;
      }

  pub filling_full : (k : ℕ) (out rest whole : List Color) → limit ≤ k → Filling limit k out rest whole → ◌≡◌ {A = PalettePredictor} (record { entries = out; size = k }) (predictor_of whole)
  filling_full k out rest whole h f =
      let n = f.long in
      let r = f.room in
      let s : length (take k out) ≡ k = length-take-le k out (omega arith) in
      filled k out whole (omega arith) f.blank (sym (take_at (take k out) rest limit (omega arith)) ∙ f.makes)

  pub filling_end : (k : ℕ) (out whole : List Color) → Filling limit k out [] whole → ◌≡◌ {A = PalettePredictor} (record { entries = out; size = k }) (predictor_of whole)
  filling_end k out whole f =
      let n = f.long in
      let r = f.room in
      let s : length (take k out) ≡ k = length-take-le k out (omega arith) in
      filled k out whole (omega arith) f.blank (sym (take_all limit (take k out) (omega arith)) ∙ rw append-nil at f.makes)

-- ---- a palette of n entries, cut to the limit, stands in out

module _ (limit : ℕ) (most : limit ≤ 128) (palette out : List Color) (n k : ℕ) (known : n ≤ length palette) (is : k ≡ min n limit) (first : out ≡ padded 128 (take k palette)) where
  within : (k ≤ limit) × (k ≤ n)
  within = (rw is (min-le_right n limit), rw is (min-le_left n limit))

  stands : take k out ≡ take k palette
  stands =
      let h : k ≤ n = within.1 in
      let s : length (take k palette) ≡ k = length-take-le k palette (omega arith) in
      rw first (rw s at (padded-take 128 (take k palette)))

  pub first_filling : (flags : List Bool) (old : List Color) → Filling limit k out (unreused flags old) (updated limit (take k out) flags old)
  unfolding updated
  first_filling flags old =
      let r : k ≤ limit = within.0 in
      let h : k ≤ n = within.1 in
      let s : length (take k palette) ≡ k = length-take-le k palette (omega arith) in
      record {
        room = r;
        blank = first ∙ ap (padded 128) (sym stands);
        long = rw first (padded-length 128 (take k palette) (omega arith));
        makes = refl;
      }

  pub first-cut : (flags : List Bool) (old : List Color) → renewed_of limit (take k out) flags old ≡ renewed_of limit (take n palette) flags old
  unfolding renewed_of updated
  first-cut flags old =
      let h : k ≤ n = within.1 in
      let s : length (take n palette) ≡ n = length-take-le n palette known in
      let e : take k out ≡ take k (take n palette) = stands ∙ sym (take-take k n palette h) in
      ap predictor_of (rw e (cut limit k (take n palette) (unreused flags old) (rw s is)))

-- ---- the turns of the loop over the old entries

module _ (limit : ℕ) (most : limit ≤ 128) (palette : List Color) (flags : List Bool) (count : ℕ) (old : List Color) (size : ℕ) (known : size ≤ length old) where
  -- at old entry j, k entries stand in out
  abbrev pub Renewing : ℕ → List Color → ℕ → Type 0
  Renewing k out j = Filling limit k out (unreused (drop j (take count flags)) (drop j (take size old))) (updated limit palette (take count flags) (take size old))

  next : (j : ℕ) → j < size → unreused (drop j (take count flags)) (drop j (take size old)) ≡ pick (get_or flags j false && ltb j count) (unreused (drop (j + 1) (take count flags)) (drop (j + 1) (take size old))) (get_or old j no_color ∷ unreused (drop (j + 1) (take count flags)) (drop (j + 1) (take size old)))
  next j h =
      let s : length (take size old) ≡ size = length-take-le size old known in
      rw (flag_at flags count j, ← get_or-take size old j no_color h) (unreused-at (take count flags) j (take size old) no_color (omega arith))

  pub renewing_passed : (k : ℕ) (out : List Color) (j : ℕ) → j < size → get_or flags j false && ltb j count ≡ true → Renewing k out j → Renewing k out (j + 1)
  renewing_passed k out j h e f = rw (next j h, e) at f

  pub renewing_kept : (k : ℕ) (out : List Color) (j : ℕ) → j < size → get_or flags j false && ltb j count ≡ false → k < limit → Renewing k out j → Renewing (k + 1) (set out k (get_or old j no_color)) (j + 1)
  renewing_kept k out j h e l f =
      filling_put limit most k out (unreused (drop (j + 1) (take count flags)) (drop (j + 1) (take size old))) _ (get_or old j no_color) l (rw (next j h, e) at f)

  pub renewing_full : (k : ℕ) (out : List Color) (j : ℕ) → limit ≤ k → Renewing k out j → ◌≡◌ {A = PalettePredictor} (record { entries = out; size = k }) (renewed_of limit palette (take count flags) (take size old))
  unfolding renewed_of
  renewing_full k out j h f = filling_full limit most k out _ _ h f

  pub renewing_end : (k : ℕ) (out : List Color) (j : ℕ) → size ≤ j → Renewing k out j → ◌≡◌ {A = PalettePredictor} (record { entries = out; size = k }) (renewed_of limit palette (take count flags) (take size old))
  unfolding renewed_of
  renewing_end k out j h f =
      let s : length (take size old) ≡ size = length-take-le size old known in
      filling_end limit most k out _ (rw (unreused-none (take count flags) j (take size old) (omega arith)) at f)

-- ---- the answers, in the order of the refusals; t is what the code found of the predictor

module _ (p : PalettePredictor) (cu : PaletteCu) (limit : ℕ) where
  pub update_two : block_size_in cu ≡ false → record { refusal = 2; predictor = p } ≡ update_of p cu limit
  unfolding update_of update_refusal
  update_two a = rw a

  module _ (t : Bool) (is : t ≡ predictor_in cu.chroma_idc cu.bd_luma cu.bd_chroma p) where
    tests : {b : Bool} → t && leb limit 128 ≡ b → every (predictor_in cu.chroma_idc cu.bd_luma cu.bd_chroma p ∷ leb limit 128 ∷ []) ≡ b
    tests e = rw (← is) (sym (ands-every t (leb limit 128 ∷ []))) ∙ e

    pub update_five : block_size_in cu ≡ true → t && leb limit 128 ≡ false → record { refusal = 5; predictor = p } ≡ update_of p cu limit
    unfolding update_of update_refusal
    update_five a b = rw (a, tests b)

    pub update_seven : block_size_in cu ≡ true → t && leb limit 128 ≡ true → holds 64 cu ≡ false → record { refusal = 7; predictor = p } ≡ update_of p cu limit
    unfolding update_of update_refusal
    update_seven a b c = rw (a, tests b, c)

    pub update_done : (q : PalettePredictor) → block_size_in cu ≡ true → t && leb limit 128 ≡ true → holds 64 cu ≡ true → q ≡ renewed_of limit (take cu.palette_size cu.palette) (take cu.pred_size cu.reused) (take p.size p.entries) → record { refusal = 0; predictor = q } ≡ update_of p cu limit
    unfolding update_of update_refusal
    update_done q a b c e = rw (a, tests b, c, e)

    pub update_fits : t && leb limit 128 ≡ true → holds 64 cu ≡ true → (limit ≤ 128) × (cu.palette_size ≤ 64) × (p.size ≤ 128)
    unfolding predictor_in
    update_fits b c =
        let d = both (predictor_in cu.chroma_idc cu.bd_luma cu.bd_chroma p) _ (tests b) in
        (leb-true _ _ (both (leb limit 128) true d.1).0, (whole 64 cu c).entries, leb-true _ _ (both (leb p.size 128) _ d.0).0)

-- ---- an update keeps a predictor in the domain of its block

no_refusal : (a b c : Bool) → refusal ((a, 2) ∷ (b, 5) ∷ (c, 7) ∷ []) ≡ 0 → (b ≡ true) × (c ≡ true)
no_refusal true true true e = (refl, refl)
no_refusal true true false e = absurd (omega arith)
no_refusal true false c e = absurd (omega arith)
no_refusal false b c e = absurd (omega arith)

module _ (Good : Color → Type 0) (n : ℕ) (xs : List Color) where
  all_first : ((i : ℕ) → i < n → Good (get_or xs i no_color)) → All Good (take n xs)
  all_first h =
      all_by Good (take n xs) no_color (λ i l.
      let m : i < n = omega (arith, length-take n xs, min-le_left n (length xs)) in
      rw (get_or-take n xs i no_color m) (h i m))

renewed_in : (format luma chroma limit : ℕ) (palette : List Color) (flags : List Bool) (old : List Color) → limit ≤ 128 → All (λ c. color_in format luma chroma c ≡ true) palette → All (λ c. color_in format luma chroma c ≡ true) old → predictor_in format luma chroma (renewed_of limit palette flags old) ≡ true
unfolding predictor_in renewed_of padded
renewed_in format luma chroma limit palette flags old h a b =
    let u = updated limit palette flags old in
    let l : length u ≤ 128 = omega (arith, updated-length limit palette flags old) in
    let g = updated-all (λ c. color_in format luma chroma c ≡ true) limit palette flags old a b in
    let e : up_to (length u) (λ i. color_in format luma chroma (get_or (u ++ replicate (128 - length u) no_color) i no_color)) ≡ true =
    at_up_to _ (length u) (λ i m. rw (get_or-append u (replicate (128 - length u) no_color) no_color i m) (all-at (λ c. color_in format luma chroma c ≡ true) u no_color g i m))
    in
    rw (le-leb (length u) 128 l, e)

pub update_keeps : (p : PalettePredictor) (cu : PaletteCu) (limit : ℕ) → predictor_in cu.chroma_idc cu.bd_luma cu.bd_chroma p ≡ true → predictor_in cu.chroma_idc cu.bd_luma cu.bd_chroma (update_of p cu limit).predictor ≡ true
unfolding update_of update_refusal predictor_in
update_keeps p cu limit h =
    either (eqb (update_refusal p cu limit) 0)
    (λ e.
    let r = no_refusal (block_size_in cu) _ (holds 64 cu) (eqb-true _ _ e) in
    let w = whole 64 cu r.1 in
    let l = (both (predictor_in cu.chroma_idc cu.bd_luma cu.bd_chroma p) _ r.0).1 in
    let o = (both (leb p.size 128) _ h).1 in
    rw e
    (renewed_in cu.chroma_idc cu.bd_luma cu.bd_chroma limit _ _ _
    (leb-true _ _ (both (leb limit 128) true l).0)
    (all_first _ cu.palette_size cu.palette w.fit)
    (all_first _ p.size p.entries (up_to-at _ _ (both _ true o).0))))
    (λ e. rw e h)

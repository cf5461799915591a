-- What the reader's answer does not depend on, numbers too large for a byte and a predictor's slots past its size; and what is so where it takes a block.
use Rattle.std.specs.Prelude.{◌≡◌, Bool, List, ℕ, ◌≤◌, ◌<◌, min, leb, eqb, get_or, take}
use Rattle.std.proofs.Math.Path.{refl}
use Rattle.std.proofs.Common.{ap, sym, ◌∙◌, ⊎_elim, le_trans, arith, length-take, ext_get_or, get_or-take, length-take-le, leb-true, eqb-true, ne_eqb}
use Rattle.std.proofs.Math.Bool.{true, false}
use Rattle.std.proofs.Math.Nat.{min-eq_left, min-eq_right, min-le_left}
use Rattle.std.proofs.Math.ListN.{length}
use Rattle.std.proofs.lemmas.Bool.{lt-leb}
use Rattle.base.specs.Answer.{Answer, Value, Refused, refused_not}
use Rattle.base.specs.Pick.{pick, either, lt_or_le}
use Rattle.base.specs.Tests.{both, up_to-same}
use Rattle.model.specs.ConfigLaws.{depth-bounds}
use Rattle.model.specs.Domain.{depth_in, predictor_in, color_in, no_color}
use Rattle.model.specs.declared.PalettePredictor.{PalettePredictor}
use Rattle.syntax.specs.Block.{Told, read_block}
use Rattle.syntax.specs.PaletteLaws.{CallOk}
use Rattle.read.specs.Reading.{formats_in, sizes_in, read_refusal, call_with, read_answer, fit}

-- ---- numbers held to a byte

held_le : (x m : ℕ) → m < 255 → leb (min x 255) m ≡ leb x m
held_le x m h =
    ⊎_elim
    (λ (l : x < 255). let k : x ≤ 255 = omega arith in ap (λ (z : ℕ). leb z m) (min-eq_left k))
    (λ (l : 255 ≤ x). ap (λ (z : ℕ). leb z m) (min-eq_right l) ∙ lt-leb 255 m h ∙ sym (lt-leb x m (omega arith)))
    (lt_or_le x 255)

held_eq : (x m : ℕ) → m < 255 → eqb (min x 255) m ≡ eqb x m
held_eq x m h =
    ⊎_elim
    (λ (l : x < 255). let k : x ≤ 255 = omega arith in ap (λ (z : ℕ). eqb z m) (min-eq_left k))
    (λ (l : 255 ≤ x). ap (λ (z : ℕ). eqb z m) (min-eq_right l) ∙ ne_eqb 255 m (λ e. omega arith) ∙ sym (ne_eqb x m (λ e. omega arith)))
    (lt_or_le x 255)

held-depth : (d : ℕ) → depth_in (min d 255) ≡ depth_in d
unfolding depth_in
held-depth d = rw (held_eq d 8 (omega arith), held_eq d 10 (omega arith), held_eq d 12 (omega arith))

formats_held : (format luma chroma : ℕ) → formats_in (min format 255) (min luma 255) (min chroma 255) ≡ formats_in format luma chroma
unfolding formats_in
formats_held format luma chroma = rw (held_le format 3 (omega arith), held-depth luma, held-depth chroma)

-- what refusal 1 leaves
bytes : (format luma chroma : ℕ) → formats_in format luma chroma ≡ true → (format ≤ 255) × (luma ≤ 255) × (chroma ≤ 255)
unfolding formats_in
bytes format luma chroma t =
    let a = both (leb format 3) _ t in
    let b = both (depth_in luma) _ a.1 in
    let c = both (depth_in chroma) true b.1 in
    (omega (arith, leb-true format 3 a.0), omega (arith, depth-bounds luma b.0), omega (arith, depth-bounds chroma c.0))

over_128 : (format luma chroma : ℕ) (p : PalettePredictor) → 128 < p.size → predictor_in format luma chroma p ≡ false
unfolding predictor_in
over_128 format luma chroma p h = rw (lt-leb p.size 128 h)

predictor_same : (format luma chroma : ℕ) (p q : PalettePredictor) → p.size ≡ q.size → ((i : ℕ) → i < q.size → get_or p.entries i no_color ≡ get_or q.entries i no_color) → predictor_in format luma chroma p ≡ predictor_in format luma chroma q
unfolding predictor_in
predictor_same format luma chroma p q n e = rw (n, up_to-same q.size (λ i. color_in format luma chroma (get_or p.entries i no_color)) (λ i. color_in format luma chroma (get_or q.entries i no_color)) (λ i m. ap (color_in format luma chroma) (e i m)))

module _ (size : ℕ) (lossless : Bool) (room : ℕ) (l : List ℕ) where
  -- 1 comes before all else
  read_one : (format luma chroma : ℕ) (p : PalettePredictor) → formats_in format luma chroma ≡ false → read_answer size format luma chroma lossless p room l ≡ Refused 1 0
  unfolding read_answer read_refusal
  read_one format luma chroma p e = rw e

  pub read_held : (format luma chroma : ℕ) (p : PalettePredictor) → read_answer size (min format 255) (min luma 255) (min chroma 255) lossless p room l ≡ read_answer size format luma chroma lossless p room l
  read_held format luma chroma p =
      either (formats_in format luma chroma)
      (λ t. let b = bytes format luma chroma t in rw (min-eq_left b.0, min-eq_left b.1, min-eq_left b.2))
      (λ t. read_one (min format 255) (min luma 255) (min chroma 255) p (formats_held format luma chroma ∙ t) ∙ sym (read_one format luma chroma p t))

  -- ---- the predictor

  module _ (format luma chroma : ℕ) where
    -- a predictor outside the domain: 1, 2 or 5
    read_five : (p : PalettePredictor) → predictor_in format luma chroma p ≡ false → read_answer size format luma chroma lossless p room l ≡ Refused (pick (formats_in format luma chroma) (pick (sizes_in format size) 5 2) 1) 0
    unfolding read_answer read_refusal
    read_five p e = rw e (go (formats_in format luma chroma) (sizes_in format size) (read_block (call_with size format luma chroma lossless p) l 0))
      where
        go : (a b : Bool) (x : Answer Told) → pick (eqb (pick a (pick b 5 2) 1) 0) x (Refused (pick a (pick b 5 2) 1) 0) ≡ Refused (pick a (pick b 5 2) 1) 0
        go true true x = refl
        go true false x = refl
        go false b x = refl

    -- the test and the first entries are all that counts
    read_first : (p q : PalettePredictor) → predictor_in format luma chroma p ≡ predictor_in format luma chroma q → take p.size p.entries ≡ take q.size q.entries → read_answer size format luma chroma lossless p room l ≡ read_answer size format luma chroma lossless q room l
    unfolding read_answer read_refusal
    read_first p q e t = rw (e, t)

    module _ (p q : PalettePredictor) (n : p.size ≡ q.size) (k : length p.entries ≡ 128) (o : length q.entries ≡ q.size) (e : (i : ℕ) → i < p.size → i < 128 → get_or p.entries i no_color ≡ get_or q.entries i no_color) where
      within : p.size ≤ 128 → read_answer size format luma chroma lossless p room l ≡ read_answer size format luma chroma lossless q room l
      within h =
          let a : length (take p.size p.entries) ≡ p.size = length-take-le p.size p.entries (omega arith) in
          let b : length (take q.size q.entries) ≡ q.size = length-take-le q.size q.entries (omega arith) in
          read_first p q (predictor_same format luma chroma p q n (λ i m. e i (omega arith) (omega arith)))
          (ext_get_or no_color (take p.size p.entries) (take q.size q.entries) (a ∙ n ∙ sym b)
          (λ i m.
          let o : i < p.size = omega arith in
          get_or-take p.size p.entries i no_color o ∙ e i o (omega arith) ∙ sym (get_or-take q.size q.entries i no_color (omega arith))))

      -- an array of 128 entries, of which the first `size` are q's
      pub read_array : read_answer size format luma chroma lossless p room l ≡ read_answer size format luma chroma lossless q room l
      read_array = ⊎_elim (λ (h : 128 < p.size). read_five p (over_128 format luma chroma p h) ∙ sym (read_five q (over_128 format luma chroma q (omega arith)))) (λ (h : p.size ≤ 128). within h) (lt_or_le 128 p.size)

-- ---- a block is taken

module _ (size format luma chroma : ℕ) (lossless : Bool) (p : PalettePredictor) (room : ℕ) (l : List ℕ) where
  pub read_taken : (t : Told) (q : ℕ) → read_answer size format luma chroma lossless p room l ≡ Value t q → CallOk (call_with size format luma chroma lossless p) × (read_block (call_with size format luma chroma lossless p) l 0 ≡ Value t q)
  unfolding read_answer
  read_taken t q e =
      either (eqb (read_refusal size format luma chroma p room) 0)
      (λ z.
      let f = fit size format luma chroma p room (eqb-true _ 0 z) in
      let n : length (take p.size p.entries) ≤ 128 = rw (length-take p.size p.entries) (le_trans (min-le_left p.size (length p.entries)) f.entries) in
      (record { size = f.least; most = f.most; limit = omega arith; predictor = n }, rw z at e))
      (λ z. absurd (refused_not (rw z at e)))

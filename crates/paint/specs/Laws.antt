-- The laws of a palette: its sizes, and that the arrays' first elements are all that it looks at.
use Rattle.std.specs.Prelude.{List, [], ◌∷◌, map, ◌≡◌, ℕ, ◌+◌, ◌≤◌, ◌<◌, get_or, set, take}
use Rattle.std.proofs.lemmas.List.{map-append}
use Rattle.std.proofs.Math.Path.{refl, sym, ap}
use Rattle.std.proofs.Common.{◌∙◌, arith, add-one, take-suc}
use Rattle.std.proofs.Math.ListN.{length, length-map}
use Rattle.std.proofs.Math.Seq.{get_or-take, length-take-le}
use Rattle.base.specs.Alls.{all_by, all-at, all_map}
use Rattle.base.specs.Codes.{All}
use Rattle.base.specs.Counted.{push}
use Rattle.base.specs.Lists.{padded, padded-take, map_ext}
use Rattle.h265.specs.Reuse.{trues, flagged}
use Rattle.order.specs.Order.{count_in, ordered}
use Rattle.order.specs.Laws.{ordered-below, ordered-length, ordered_ext}
use Rattle.reps.specs.declared.Reps.{Reps}
use Rattle.reps.specs.Reps.{reps, listed}
use Rattle.reps.specs.Laws.{reps-some, reps-all, reps_ext}
use Rattle.choose.specs.Choose.{chosen}
use Rattle.choose.specs.Laws.{palette_size, palette_le, flags_length, starts, trues_le, chosen-all}
use Rattle.paint.specs.Paint.{colour_in, in_order, palette_of}

-- at most the limit
pub palette_small : (tol limit : ℕ) (es ms cs : List ℕ) → length (palette_of tol limit es ms cs).palette ≤ limit
unfolding palette_of
palette_small tol limit es ms cs = palette_le tol limit es (in_order ms cs) (length ms)

module _ (tol limit : ℕ) (es ms cs : List ℕ) where
  -- one entry at least
  pub palette_some : 1 ≤ limit → 1 ≤ length ms → 1 ≤ length (palette_of tol limit es ms cs).palette
  unfolding palette_of
  palette_some h l = rw (palette_size tol es (reps tol limit (in_order ms cs) (length ms))) (reps-some tol limit (in_order ms cs) (length ms) l h)

  -- a flag for each predictor entry
  pub palette_flags : length (palette_of tol limit es ms cs).flags ≡ length es
  unfolding palette_of
  palette_flags = flags_length tol es (reps tol limit (in_order ms cs) (length ms))

  -- no more of them on than entries
  pub palette_trues : trues (palette_of tol limit es ms cs).flags ≤ length (palette_of tol limit es ms cs).palette
  unfolding palette_of
  palette_trues = rw (palette_size tol es (reps tol limit (in_order ms cs) (length ms))) (trues_le tol es (reps tol limit (in_order ms cs) (length ms)))

  -- the palette starts with the predictor entries that the flags mark
  pub palette_starts : take (trues (palette_of tol limit es ms cs).flags) (palette_of tol limit es ms cs).palette ≡ flagged (palette_of tol limit es ms cs).flags es
  unfolding palette_of
  palette_starts = starts tol es (reps tol limit (in_order ms cs) (length ms))

  -- what holds of every predictor entry and of every colour holds of every entry
  pub palette_all : (Good : ℕ → Type 0) → All Good es → All Good ms → All Good (palette_of tol limit es ms cs).palette
  unfolding palette_of in_order
  palette_all Good a b =
      let o = ordered (count_in cs) (length ms) in
      let n : length (map (colour_in ms) o) ≡ length ms = length-map o (colour_in ms) ∙ ordered-length (count_in cs) (length ms) in
      let g : All Good (map (colour_in ms) o) =
      all_map Good (colour_in ms) o (all_by (λ k. Good (colour_in ms k)) o 0 (λ i l. all-at Good ms 0 b (get_or o i 0) (ordered-below (count_in cs) (length ms) i l)))
      in
      chosen-all Good tol es (reps tol limit (in_order ms cs) (length ms)) a (reps-all tol limit (in_order ms cs) Good (length ms) (λ i l. all-at Good (map (colour_in ms) o) 0 g i (omega arith)))

-- one more colour gathered
pub gather_step : (ms os out : List ℕ) (i : ℕ) → i < length out → i < length os → take i out ≡ map (colour_in ms) (take i os)
    → take (i + 1) (set out i (get_or ms (get_or os i 0) 0)) ≡ map (colour_in ms) (take (i + 1) os)
gather_step ms os out i a b e =
    push out i (get_or ms (get_or os i 0) 0) a ∙ rw (e, add-one i, take-suc os i 0 b) (sym (map-append (colour_in ms) (take i os) (get_or os i 0 ∷ [])))

-- the arrays' first d stand for the lists
module _ (ms cs : List ℕ) (d : ℕ) (a : d ≤ length ms) (b : d ≤ length cs) where
  in_order_lem : map (colour_in ms) (ordered (count_in cs) d) ≡ in_order (take d ms) (take d cs)
  unfolding in_order
  in_order_lem =
      let n : length (take d ms) ≡ d = length-take-le d ms a in
      rw (n, ordered_ext (count_in (take d cs)) (count_in cs) d (λ k l. get_or-take d cs k 0 l))
      (map_ext (colour_in ms) (colour_in (take d ms)) 0 (ordered (count_in cs) d) (λ i l. sym (get_or-take d ms (get_or (ordered (count_in cs) d) i 0) 0 (ordered-below (count_in cs) d i l))))

  -- the representatives of the colours gathered along the order
  pub gathered : (tol limit : ℕ) (os out : List ℕ) → d ≤ 128 → os ≡ padded 128 0 (ordered (count_in cs) d) → take d out ≡ map (colour_in ms) (take d os)
      → reps tol limit out d ≡ reps tol limit (in_order (take d ms) (take d cs)) (length (take d ms))
  gathered tol limit os out s e f =
      let n : length (take d ms) ≡ d = length-take-le d ms a in
      let q : take d os ≡ ordered (count_in cs) d = rw e (padded-take 128 0 (ordered (count_in cs) d) d (ordered-length (count_in cs) d)) in
      reps_ext tol limit out (take d out) d (λ k l. sym (get_or-take d out k 0 l)) ∙ rw (n, f, q, in_order_lem) refl

  pub painted : (tol limit : ℕ) (es os out : List ℕ) → d ≤ 128 → os ≡ padded 128 0 (ordered (count_in cs) d) → take d out ≡ map (colour_in ms) (take d os)
      → chosen tol es (take (listed (reps tol limit out d)).count (listed (reps tol limit out d)).list) ≡ palette_of tol limit es (take d ms) (take d cs)
  unfolding palette_of
  painted tol limit es os out s e f = ap (chosen tol es) (padded-take 64 0 (reps tol limit out d) (length (reps tol limit out d)) refl ∙ gathered tol limit os out s e f)

-- from what the four steps gave: the order, the colours gathered along it, and their representatives
module _ (tol limit : ℕ) (es ms cs os out : List ℕ) (same : length cs ≡ length ms) (a : os ≡ padded 128 0 (ordered (count_in cs) (length cs))) (b : take (length (take (length ms) os)) out ≡ map (colour_in ms) (take (length ms) os)) where
  pub painted_all : (found : Reps) → found ≡ listed (reps tol limit (take (length ms) out) (length (take (length ms) out))) → chosen tol es (take found.count found.list) ≡ palette_of tol limit es ms cs
  unfolding palette_of in_order
  painted_all found v =
      let o = ordered (count_in cs) (length ms) in
      let rs = reps tol limit (map (colour_in ms) o) (length ms) in
      let q : take (length ms) os ≡ o = rw (a, same) (padded-take 128 0 o (length ms) (ordered-length (count_in cs) (length ms))) in
      let n : length (take (length ms) os) ≡ length ms = ap length q ∙ ordered-length (count_in cs) (length ms) in
      let g : take (length ms) out ≡ map (colour_in ms) o = rw (n, q) at b in
      let m : length (take (length ms) out) ≡ length ms = ap length g ∙ length-map o (colour_in ms) ∙ ordered-length (count_in cs) (length ms) in
      let r : found ≡ listed rs = v ∙ (λ i. listed (reps tol limit (g i) (m i))) in
      ap (λ (z : Reps). chosen tol es (take z.count z.list)) r ∙ ap (chosen tol es) (padded-take 64 0 rs (length rs) refl)

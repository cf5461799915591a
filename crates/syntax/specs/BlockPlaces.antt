-- Where the reader's refusals of a block stand: for 10 the list's length, for 11 a bin of the list.
use Rattle.std.specs.Prelude.{◌≡◌, refl, Bool, ltb, leb, eqb, replicate}
use Rattle.std.proofs.Common.{ap, sym, ◌∙◌, arith}
use Rattle.std.proofs.Math.Bool.{true, false}
use mathlib.Core.List.{List, [], ◌∷◌}
use Prim.Native.Nat.{ℕ, zero, suc, ◌+◌, ◌*◌, ◌-◌, ◌≤◌, ◌<◌}
use Rattle.std.proofs.Math.ListN.{length}
use Rattle.base.specs.Pick.{pick}
use Rattle.base.specs.Answer.{Answer, Value, Refused, onward}
use Rattle.base.specs.Codes.{when_at, each_at}
use Rattle.h265.specs.Places.{Fair, fair_12, fair-onward, fair-pick, fair_bin, fair-marker, fair-bits, fair-egk, fair-held, fair-tb, fair-count, fair_run, fair-each}
use Rattle.h265.specs.Parse.{bin_at, bits_at, egk_at, held, tb_at, count_at, marker_at, run_at}
use Rattle.h265.specs.Reuse.{trues, gap_of, reuse_at}
use Rattle.syntax.specs.Runs.{Run, asked, inferred, kind_at, is_last, reserved, more_at, next_sent, runs_at}
use Rattle.syntax.specs.Block.{Call, Palette, Map, Told, cells_in, max_index, chroma_depth, alphabets, luma_dues, chroma_dues, signalled_at, entries_at, palette_at, indices_at, coded_at, map_at, cells_of, level_at, levels_at, sent_at, read_block}

module _ (l : List ℕ) where
  fair_when : {A : Type 0} (t : Bool) (d : A) (read : List ℕ → ℕ → Answer A) (p : ℕ) → p ≤ length l → Fair l (read l p) → Fair l (when_at t d read l p)
  fair_when t d read p h f = fair-pick l t (read l p) (Value d p) f h

  fair_reuse : (room k p : ℕ) → p ≤ length l → Fair l (reuse_at room k l p)
  unfolding reuse_at
  fair_reuse zero k p h = h
  fair_reuse (suc room) k p h =
      fair-pick l (eqb k 0) (Value [] p) _ h
      (fair-onward l (egk_at 0 l p) _ (fair-egk l 0 p h) (λ r q o.
      fair-pick l (eqb r 1) (Value (replicate k false) q) _ o
      (fair-pick l (leb k (gap_of r)) (Refused 12 p) _ (fair_12 l p h)
      (fair-onward l (reuse_at room (k - suc (gap_of r)) l q) _ (fair_reuse room (k - suc (gap_of r)) q o) (λ fs t u. u)))))

  fair-entries : (c : Call) (new p : ℕ) → p ≤ length l → Fair l (entries_at c new l p)
  unfolding entries_at
  fair-entries c new p h =
      let each : (xs : List ℕ) (q : ℕ) → q ≤ length l → Fair l (each_at bits_at xs l q) = λ xs q o. fair-each l bits_at (λ d r u. fair-bits l d 0 r u) xs q o in
      fair-onward l (each_at bits_at (replicate new c.luma) l p) _ (each (replicate new c.luma) p h) (λ ys q o.
      fair-onward l (each_at bits_at (replicate new (chroma_depth c)) l q) _ (each (replicate new (chroma_depth c)) q o) (λ us r u.
      fair-onward l (each_at bits_at (replicate new (chroma_depth c)) l r) _ (each (replicate new (chroma_depth c)) r u) (λ vs t v. v)))

  fair_palette : (c : Call) (p : ℕ) → p ≤ length l → Fair l (palette_at c l p)
  unfolding palette_at signalled_at
  fair_palette c p h =
      fair-onward l (reuse_at c.limit (length c.predictor) l p) _ (fair_reuse c.limit (length c.predictor) p h) (λ fs q o.
      fair-onward l (pick (ltb (trues fs) c.limit) (held q (c.limit - trues fs) (egk_at 0 l q)) (Value 0 q)) _ (fair-pick l (ltb (trues fs) c.limit) _ (Value 0 q) (fair-held l q (c.limit - trues fs) (egk_at 0 l q) o (fair-egk l 0 q o)) o) (λ new r u.
      fair-onward l (entries_at c new l r) _ (fair-entries c new r u) (λ es t v.
      fair-onward l (when_at (ltb 0 (trues fs + new)) true (bin_at 0) l t) _ (fair_when (ltb 0 (trues fs + new)) true (bin_at 0) t v (fair_bin l 0 t v)) (λ b w x. x))))

  fair-next : (above : Bool) (is : List ℕ) (p : ℕ) → p ≤ length l → Fair l (next_sent above is p)
  unfolding next_sent
  fair-next true is p h = h
  fair-next false [] p h = fair_12 l p h
  fair-next false (i ∷ is) p h = h

  fair-runs : (f size n : ℕ) (fin : Bool) (scan : ℕ) (prev : Bool) (is : List ℕ) (p : ℕ) → p ≤ length l → Fair l (runs_at f size n fin scan prev is l p)
  unfolding runs_at kind_at more_at
  fair-runs zero size n fin scan prev is p h = h
  fair-runs (suc f) size n fin scan prev is p h =
      fair-pick l (leb n scan) (Value [] p) _ h
      (fair-onward l (kind_at size n scan prev (length is) l p) _ (fair-pick l (asked size n scan prev (length is)) (bin_at 1 l p) (Value (inferred size scan prev (length is)) p) (fair_bin l 1 p h) h) (λ above q o.
      fair-onward l (next_sent above is q) _ (fair-next above is q o) (λ i r u.
      fair-onward l (more_at n scan (length i.1) fin above i.0 l r) _
      (fair-pick l (is_last (length i.1) fin above) (Value (n - (scan + 1)) r) _ u (fair-pick l (ltb n (reserved scan (length i.1) fin)) (Refused 12 r) _ (fair_12 l r u) (fair_run l (n - reserved scan (length i.1) fin) above i.0 r u))) (λ more t v.
      fair-onward l (runs_at f size n fin (scan + more + 1) above i.1 l t) _ (fair-runs f size n fin (scan + more + 1) above i.1 t v) (λ rs w x. x)))))

  fair-map : (size n m : ℕ) (escape : Bool) (p : ℕ) → p ≤ length l → Fair l (map_at size n m escape l p)
  unfolding map_at coded_at indices_at
  fair-map size n m escape p h =
      fair-pick l (ltb 0 m) (coded_at size n m escape l p) _
      (fair-onward l (indices_at n m l p) _ (fair-onward l (held p (n - 1) (count_at m l p)) _ (fair-held l p (n - 1) (count_at m l p) h (fair-count l m p h)) (λ more q o. fair-each l tb_at (λ a r u. fair-tb l a r u) (alphabets m more) q o)) (λ is q o.
      fair-onward l (bin_at 1 l q) _ (fair_bin l 1 q o) (λ fin r u.
      fair-onward l (bin_at 2 l r) _ (fair_bin l 2 r u) (λ turned t v.
      fair-onward l (when_at escape tt marker_at l t) _ (fair_when escape tt marker_at t v (fair-marker l t v)) (λ z w x.
      fair-onward l (runs_at n size n fin 0 false is l w) _ (fair-runs n size n fin 0 false is w x) (λ rs y z. z))))))
      (fair-onward l (when_at escape tt marker_at l p) _ (fair_when escape tt marker_at p h (fair-marker l p h)) (λ z q o. o))

  fair-levels : (c : Call) (x : Palette) (turned : Bool) (cells : List ℕ) (p : ℕ) → p ≤ length l → Fair l (levels_at c x turned cells l p)
  unfolding levels_at level_at
  fair-levels c x turned cells p h =
      let one : (d : ℕ) (due : Bool) (q : ℕ) → q ≤ length l → Fair l (level_at c.lossless d due l q) = λ d due q o. fair-pick l due _ (Value 0 q) (fair-pick l c.lossless (bits_at d l q) _ (fair-bits l d 0 q o) (fair-held l q 32767 (egk_at 3 l q) o (fair-egk l 3 q o))) o in
      fair-onward l (each_at (level_at c.lossless c.luma) (luma_dues x cells) l p) _ (fair-each l (level_at c.lossless c.luma) (one c.luma) (luma_dues x cells) p h) (λ ys q o.
      fair-onward l (each_at (level_at c.lossless (chroma_depth c)) (chroma_dues c x turned cells) l q) _ (fair-each l (level_at c.lossless (chroma_depth c)) (one (chroma_depth c)) (chroma_dues c x turned cells) q o) (λ us r u.
      fair-onward l (each_at (level_at c.lossless (chroma_depth c)) (chroma_dues c x turned cells) l r) _ (fair-each l (level_at c.lossless (chroma_depth c)) (one (chroma_depth c)) (chroma_dues c x turned cells) r u) (λ vs t v. v)))

  pub fair_block : (c : Call) (p : ℕ) → p ≤ length l → Fair l (read_block c l p)
  unfolding read_block sent_at
  fair_block c p h =
      fair-onward l (sent_at c l p) _
      (fair-onward l (palette_at c l p) _ (fair_palette c p h) (λ x q o.
      fair-onward l (map_at c.size (cells_in c) (max_index x) x.escape l q) _ (fair-map c.size (cells_in c) (max_index x) x.escape q o) (λ m r u.
      fair-onward l (levels_at c x m.turned (cells_of c.size (cells_in c) (max_index x) m) l r) _ (fair-levels c x m.turned (cells_of c.size (cells_in c) (max_index x) m) r u) (λ v t w. w))))
      (λ s q o. o)

-- Both laws of the whole block.
use Rattle.std.specs.Prelude.{◌≡◌, refl, Bool, true, false, ℕ, zero, suc, ◌+◌, ◌*◌, ◌-◌, ◌≤◌, ◌<◌, length, take, drop, replicate}
use Rattle.std.proofs.Math.Path.{ap}
use Rattle.std.proofs.Common.{sym, ◌∙◌, mul-le-mul, zero-add, arith, drop_at, take_at}
use mathlib.Core.List.{List, [], ◌∷◌, ◌++◌}
use Rattle.base.specs.Answer.{Value, went, same-value, same_place}
use Rattle.base.specs.Stands.{Stands, join, split, Code}
use Rattle.h265.specs.Reuse.{trues}
use Rattle.syntax.specs.Block.{Entry, Call, Sent, Told, cells_in, colours, max_index, cells_of, cells_sent, palette_bins, palette_at, map_bins, map_at, levels_bins, levels_at, sent_bins, sent_at, chosen, sent_of_told, told_by, block_bins, read_block}
use Rattle.syntax.specs.PaletteLaws.{CallOk}
use Rattle.syntax.proofs.PaletteLaws.{palette_code}
use Rattle.syntax.specs.MapLaws.{MapOk}
use Rattle.syntax.proofs.MapLaws.{map_code}
use Rattle.syntax.specs.LevelLaws.{levels_code}
use Rattle.syntax.specs.BlockLaws.{SentOk, ToldOk}

pub some-cells : (size : ℕ) → 1 ≤ size → 1 ≤ size * size
some-cells size h = mul-le-mul h h

few-cells : (size : ℕ) → size ≤ 32 → size * size ≤ 1024
few-cells size h = mul-le-mul h h

module _ (c : Call) (ok : CallOk c) where
  the_map : (m : ℕ) (escape : Bool) → Code (map_at c.size (cells_in c) m escape) (map_bins c.size (cells_in c) m escape) (MapOk c.size (cells_in c) m)
  the_map m escape = map_code c.size (cells_in c) m escape ok.size (some-cells c.size ok.size) (few-cells c.size ok.most)

  sent_there : (l : List ℕ) (p q : ℕ) (s : Sent) → SentOk c s → Stands l p (sent_bins c s) q → sent_at c l p ≡ Value s q
  unfolding sent_bins sent_at
  sent_there l p q s h d =
      let m = map_bins c.size (cells_in c) (max_index s.palette) s.palette.escape s.map in
      let v = levels_bins c s.palette s.map.turned (cells_sent c s) s.levels in
      let a = split (palette_bins c s.palette) (m ++ v) d in
      let b = split m v a.second in
      rw (
        (palette_code c ok).there l p a.mid s.palette h.palette a.first,
        (the_map (max_index s.palette) s.palette.escape).there l a.mid b.mid s.map h.map b.first,
        (levels_code c s.palette s.map.turned (cells_sent c s)).there l b.mid q s.levels h.levels b.second,
      )

  sent_back : (l : List ℕ) (p q : ℕ) (s : Sent) → sent_at c l p ≡ Value s q → Stands l p (sent_bins c s) q × SentOk c s
  unfolding sent_bins sent_at
  sent_back l p q s e =
      went (palette_at c l p) _ e (λ x r ex e₁.
      went (map_at c.size (cells_in c) (max_index x) x.escape l r) _ e₁ (λ m t em e₂.
      went (levels_at c x m.turned (cells_of c.size (cells_in c) (max_index x) m) l t) _ e₂ (λ v u ev e₃.
      let a = (palette_code c ok).back l p r x ex in
      let b = (the_map (max_index x) x.escape).back l r t m em in
      let d = (levels_code c x m.turned (cells_of c.size (cells_in c) (max_index x) m)).back l t u v ev in
      rw (← same-value e₃, ← same_place e₃) (join a.0 (join b.0 d.0), record { palette = a.1; map = b.1; levels = d.1 }))))

  pub sent_code : Code (sent_at c) (sent_bins c) (SentOk c)
  sent_code = record { there = sent_there; back = sent_back }

pub length-chosen : (fs : List Bool) (es : List Entry) → length fs ≡ length es → length (chosen fs es) ≡ trues fs
unfolding chosen trues
length-chosen [] es h = refl
length-chosen (f ∷ fs) [] h = absurd (omega arith)
length-chosen (true ∷ fs) (e ∷ es) h = ap suc (length-chosen fs es (omega arith))
length-chosen (false ∷ fs) (e ∷ es) h = length-chosen fs es (omega arith)

bins_sent : (c : Call) (t : Told) → t.block.cells ≡ cells_sent c (sent_of_told t) → block_bins c t.block t.runs ≡ sent_bins c (sent_of_told t)
unfolding block_bins sent_bins
bins_sent c t e = rw e

drop-chosen : (c : Call) (s : Sent) → length s.palette.flags ≡ length c.predictor → drop (trues s.palette.flags) (chosen s.palette.flags c.predictor ++ s.palette.fresh) ≡ s.palette.fresh
drop-chosen c s h = drop_at (chosen s.palette.flags c.predictor) s.palette.fresh (trues s.palette.flags) (length-chosen s.palette.flags c.predictor h)

-- telling what was sent, and back
told_sent : (c : Call) (t : Told) → ToldOk c t → told_by c (sent_of_told t) ≡ t
unfolding told_by
told_sent c t ok = rw (← ok.cells, ← ok.colours, ← ok.signalled)

sent_told : (c : Call) (s : Sent) → length s.palette.flags ≡ length c.predictor → sent_of_told (told_by c s) ≡ s
unfolding told_by
sent_told c s h = rw (drop-chosen c s h)

module _ (c : Call) (ok : CallOk c) where
  block_there : (l : List ℕ) (p q : ℕ) (t : Told) → ToldOk c t → Stands l p (block_bins c t.block t.runs) q → read_block c l p ≡ Value t q
  unfolding read_block
  block_there l p q t h s =
      rw ((sent_code c ok).there l p q (sent_of_told t) h.sent (rw (bins_sent c t h.cells) at s), told_sent c t h)

  told_ok : (s : Sent) → SentOk c s → ToldOk c (told_by c s)
  unfolding told_by
  told_ok s h =
      let e : sent_of_told (told_by c s) ≡ s = sent_told c s h.palette.flags in
      record {
        sent = rw e h;
        colours = rw (drop-chosen c s h.palette.flags);
        signalled = rw (drop-chosen c s h.palette.flags);
        cells = ap (λ (x : Sent). cells_sent c x) (sym e);
      }

  block_back : (l : List ℕ) (p q : ℕ) (t : Told) → read_block c l p ≡ Value t q → Stands l p (block_bins c t.block t.runs) q × ToldOk c t
  unfolding read_block
  block_back l p q t e =
      went (sent_at c l p) _ e (λ s r es e₁.
      let b = (sent_code c ok).back l p r s es in
      let k = told_ok s b.1 in
      let z : sent_of_told (told_by c s) ≡ s = sent_told c s b.1.palette.flags in
      let g : Stands l p (block_bins c (told_by c s).block (told_by c s).runs) r × ToldOk c (told_by c s) = (rw (bins_sent c (told_by c s) k.cells, z) b.0, k) in
      same l p r q (told_by c s) t g e₁)
    where
      same : (l : List ℕ) (p r q : ℕ) (u t : Told) → Stands l p (block_bins c u.block u.runs) r × ToldOk c u → Value u r ≡ Value t q → Stands l p (block_bins c t.block t.runs) q × ToldOk c t
      same l p r q u t g e = rw (← same-value e, ← same_place e) g

  pub block_code : Code (read_block c) (λ t. block_bins c t.block t.runs) (ToldOk c)
  block_code = record { there = block_there; back = block_back }

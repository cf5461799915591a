-- One palette block (7.3.8.13): its bins, in the standard's order, and the reader's way through them.
-- `Call` is what stands beside the bins: nothing of it is sent.
use Rattle.std.specs.Prelude.{Bool, true, false, List, [], ◌∷◌, ◌++◌, ℕ, zero, suc, ◌+◌, ◌*◌, ◌-◌, ◌/◌, ◌%◌, ltb, leb, eqb, length, get_or, drop, replicate}
use Rattle.base.specs.Pick.{pick}
use Rattle.base.specs.Answer.{Answer, Value, Refused, onward}
use Rattle.base.specs.Codes.{when_at, when_bins, each_at, each_bins}
use Rattle.model.specs.declared.Color as D
use Rattle.h265.specs.Scan.{row_of, col_of}
use Rattle.h265.specs.Strings.{bit, bin_of, bits, egk, tb, count_bins, marker}
use Rattle.h265.specs.Parse.{bin_at, bits_at, egk_at, held, tb_at, count_at, marker_at}
use Rattle.h265.specs.Reuse.{trues, reuse_bins, reuse_at}
use Rattle.syntax.specs.Runs.{Run, sent_of, final_of, runs_bins, runs_at}
use Rattle.syntax.specs.Replay.{replay}

-- a palette entry: the code's own record
abbrev pub Entry : Type 0
Entry = D.Color

pub record Call : Type 0 where
  pub size : ℕ
  pub format : ℕ
  pub luma : ℕ
  pub chroma : ℕ
  pub lossless : Bool
  pub limit : ℕ
  pub predictor : List Entry

abbrev pub cells_in : Call → ℕ
cells_in c = c.size * c.size

-- the depth of the second and third components: 0, that is no bits and value 0, where there are none
abbrev pub chroma_depth : Call → ℕ
chroma_depth c = pick (eqb c.format 0) 0 c.chroma

-- ---- palette: reuse runs, signalled count, new entries component by component, escape flag

pub record Palette : Type 0 where
  pub flags : List Bool
  pub fresh : List Entry
  pub escape : Bool

abbrev pub colours : Palette → ℕ
colours x = trues x.flags + length x.fresh

-- MaxPaletteIndex, 0 also for an empty palette
abbrev pub max_index : Palette → ℕ
max_index x = colours x + bit x.escape - 1

unfoldable pub column : (Entry → ℕ) → List Entry → List ℕ
column f [] = []
column f (e ∷ es) = f e ∷ column f es

unfoldable pub entries : List ℕ → List ℕ → List ℕ → List Entry
entries [] us vs = []
entries (y ∷ ys) [] vs = []
entries (y ∷ ys) (u ∷ us) [] = []
entries (y ∷ ys) (u ∷ us) (v ∷ vs) = record { y = y; cb = u; cr = v } ∷ entries ys us vs

unfoldable pub signalled_bins : ℕ → ℕ → ℕ → List ℕ
signalled_bins limit reused new = when_bins (ltb reused limit) (egk 0) new

unfoldable pub signalled_at : ℕ → ℕ → List ℕ → ℕ → Answer ℕ
signalled_at limit reused l p = when_at (ltb reused limit) 0 (λ l p. held p (limit - reused) (egk_at 0 l p)) l p

unfoldable pub entries_bins : Call → ℕ → List Entry → List ℕ
entries_bins c new es =
    each_bins bits (replicate new c.luma) (column (λ e. e.y) es)
    ++ (each_bins bits (replicate new (chroma_depth c)) (column (λ e. e.cb) es)
    ++ each_bins bits (replicate new (chroma_depth c)) (column (λ e. e.cr) es))

unfoldable pub entries_at : Call → ℕ → List ℕ → ℕ → Answer (List Entry)
entries_at c new l p =
    onward (each_at bits_at (replicate new c.luma) l p) (λ ys q.
    onward (each_at bits_at (replicate new (chroma_depth c)) l q) (λ us r.
    onward (each_at bits_at (replicate new (chroma_depth c)) l r) (λ vs t.
    Value (entries ys us vs) t)))

unfoldable pub palette_bins : Call → Palette → List ℕ
palette_bins c x =
    reuse_bins c.limit x.flags
    ++ (signalled_bins c.limit (trues x.flags) (length x.fresh)
    ++ (entries_bins c (length x.fresh) x.fresh
    ++ when_bins (ltb 0 (colours x)) (bin_of 0) x.escape))

unfoldable pub palette_at : Call → List ℕ → ℕ → Answer Palette
palette_at c l p =
    onward (reuse_at c.limit (length c.predictor) l p) (λ fs q.
    onward (signalled_at c.limit (trues fs) l q) (λ new r.
    onward (entries_at c new l r) (λ es t.
    onward (when_at (ltb 0 (trues fs + new)) true (bin_at 0) l t) (λ b u.
    Value (record { flags = fs; fresh = es; escape = b }) u))))

-- ---- index map: with M > 0 index count, indices, final-run flag, transpose flag, QP marker and runs; else the marker alone

pub record Map : Type 0 where
  pub turned : Bool
  pub runs : List Run

-- the first index has M + 1 values to choose from, each later one M; `more` of these
abbrev pub alphabets : ℕ → ℕ → List ℕ
alphabets m more = (m + 1) ∷ replicate more m

unfoldable pub indices_bins : ℕ → List ℕ → List ℕ
indices_bins m is = count_bins m (length is - 1) ++ each_bins tb (alphabets m (length is - 1)) is

unfoldable pub indices_at : ℕ → ℕ → List ℕ → ℕ → Answer (List ℕ)
indices_at n m l p = onward (held p (n - 1) (count_at m l p)) (λ more q. each_at tb_at (alphabets m more) l q)

unfoldable pub coded_bins : ℕ → ℕ → ℕ → Bool → Map → List ℕ
coded_bins size n m escape x =
    indices_bins m (sent_of x.runs)
    ++ (bin_of 1 (final_of false x.runs)
    ++ (bin_of 2 x.turned
    ++ (pick escape marker []
    ++ runs_bins size n (final_of false x.runs) 0 false x.runs)))

unfoldable pub coded_at : ℕ → ℕ → ℕ → Bool → List ℕ → ℕ → Answer Map
coded_at size n m escape l p =
    onward (indices_at n m l p) (λ is q.
    onward (bin_at 1 l q) (λ fin r.
    onward (bin_at 2 l r) (λ turned t.
    onward (when_at escape tt marker_at l t) (λ u v.
    onward (runs_at n size n fin 0 false is l v) (λ rs w.
    Value (record { turned = turned; runs = rs }) w)))))

unfoldable pub map_bins : ℕ → ℕ → ℕ → Bool → Map → List ℕ
map_bins size n m escape x = pick (ltb 0 m) (coded_bins size n m escape x) (pick escape marker [])

unfoldable pub map_at : ℕ → ℕ → ℕ → Bool → List ℕ → ℕ → Answer Map
map_at size n m escape l p =
    pick (ltb 0 m) (coded_at size n m escape l p)
    (onward (when_at escape tt marker_at l p) (λ u q. Value (record { turned = false; runs = [] }) q))

-- the cells' indices along the scan; all 0 where no runs are sent
unfoldable pub cells_of : ℕ → ℕ → ℕ → Map → List ℕ
cells_of size n m x = pick (ltb 0 m) (replay size false [] x.runs) (replicate n 0)

-- ---- escape levels, component by component, for the cells whose index is the palette size

pub record Levels : Type 0 where
  pub y : List ℕ
  pub cb : List ℕ
  pub cr : List ℕ

abbrev pub even : ℕ → Bool
even i = eqb (i % 2) 0

-- chroma levels stand where a chroma sample does; origins are even in formats 1 and 2
unfoldable pub chroma_due : Call → Bool → ℕ → Bool
chroma_due c turned i =
    pick (eqb c.format 0) false
    (pick (eqb c.format 1) (pick (even (col_of c.size i)) (even (row_of c.size i)) false)
    (pick (eqb c.format 2) (pick turned (even (row_of c.size i)) (even (col_of c.size i)))
    true))

-- for each cell from place i on, whether a level is sent; e is the escape index, and at decides by the place
unfoldable pub dues : (ℕ → Bool) → ℕ → ℕ → List ℕ → List Bool
dues at e i [] = []
dues at e i (x ∷ xs) = pick (eqb x e) (at i) false ∷ dues at e (suc i) xs

unfoldable pub level_bins : Bool → ℕ → Bool → ℕ → List ℕ
level_bins lossless depth due v = when_bins due (λ v. pick lossless (bits depth v) (egk 3 v)) v

unfoldable pub level_at : Bool → ℕ → Bool → List ℕ → ℕ → Answer ℕ
level_at lossless depth due l p = when_at due 0 (λ l p. pick lossless (bits_at depth l p) (held p 32767 (egk_at 3 l p))) l p

abbrev pub luma_dues : Palette → List ℕ → List Bool
luma_dues x cells = dues (λ i. x.escape) (colours x) 0 cells

abbrev pub chroma_dues : Call → Palette → Bool → List ℕ → List Bool
chroma_dues c x turned cells = dues (λ i. pick x.escape (chroma_due c turned i) false) (colours x) 0 cells

unfoldable pub levels_bins : Call → Palette → Bool → List ℕ → Levels → List ℕ
levels_bins c x turned cells v =
    each_bins (level_bins c.lossless c.luma) (luma_dues x cells) v.y
    ++ (each_bins (level_bins c.lossless (chroma_depth c)) (chroma_dues c x turned cells) v.cb
    ++ each_bins (level_bins c.lossless (chroma_depth c)) (chroma_dues c x turned cells) v.cr)

unfoldable pub levels_at : Call → Palette → Bool → List ℕ → List ℕ → ℕ → Answer Levels
levels_at c x turned cells l p =
    onward (each_at (level_at c.lossless c.luma) (luma_dues x cells) l p) (λ ys q.
    onward (each_at (level_at c.lossless (chroma_depth c)) (chroma_dues c x turned cells) l q) (λ us r.
    onward (each_at (level_at c.lossless (chroma_depth c)) (chroma_dues c x turned cells) l r) (λ vs t.
    Value (record { y = ys; cb = us; cr = vs }) t)))

-- ---- the block

pub record Sent : Type 0 where
  pub palette : Palette
  pub map : Map
  pub levels : Levels

abbrev pub cells_sent : Call → Sent → List ℕ
cells_sent c s = cells_of c.size (cells_in c) (max_index s.palette) s.map

unfoldable pub sent_bins : Call → Sent → List ℕ
sent_bins c s =
    palette_bins c s.palette
    ++ (map_bins c.size (cells_in c) (max_index s.palette) s.palette.escape s.map
    ++ levels_bins c s.palette s.map.turned (cells_sent c s) s.levels)

unfoldable pub sent_at : Call → List ℕ → ℕ → Answer Sent
sent_at c l p =
    onward (palette_at c l p) (λ x q.
    onward (map_at c.size (cells_in c) (max_index x) x.escape l q) (λ m r.
    onward (levels_at c x m.turned (cells_of c.size (cells_in c) (max_index x) m) l r) (λ v t.
    Value (record { palette = x; map = m; levels = v }) t)))

-- a block as its record carries it, without what the call lends
pub record Block : Type 0 where
  pub colours : List Entry
  pub flags : List Bool
  pub signalled : ℕ
  pub escape : Bool
  pub transpose : Bool
  pub cells : List ℕ
  pub levels : Levels

-- the predictor entries that flags choose, in order
unfoldable pub chosen : List Bool → List Entry → List Entry
chosen [] es = []
chosen (f ∷ fs) [] = []
chosen (true ∷ fs) (e ∷ es) = e ∷ chosen fs es
chosen (false ∷ fs) (e ∷ es) = chosen fs es

pub record Told : Type 0 where
  pub block : Block
  pub runs : List Run

abbrev pub palette_of : Block → Palette
palette_of b = record { flags = b.flags; fresh = drop (trues b.flags) b.colours; escape = b.escape }

-- what is sent of a block and its runs
abbrev pub sent_of_told : Told → Sent
sent_of_told t = record { palette = palette_of t.block; map = record { turned = t.block.transpose; runs = t.runs }; levels = t.block.levels }

unfoldable pub told_by : Call → Sent → Told
told_by c s = record {
  block = record {
    colours = chosen s.palette.flags c.predictor ++ s.palette.fresh;
    flags = s.palette.flags;
    signalled = length s.palette.fresh;
    escape = s.palette.escape;
    transpose = s.map.turned;
    cells = cells_sent c s;
    levels = s.levels;
  };
  runs = s.map.runs;
}

-- what the writer sends of a block and its runs, and what the reader makes of bins
unfoldable pub block_bins : Call → Block → List Run → List ℕ
block_bins c b rs =
    palette_bins c (palette_of b)
    ++ (map_bins c.size (cells_in c) (max_index (palette_of b)) b.escape (record { turned = b.transpose; runs = rs })
    ++ levels_bins c (palette_of b) b.transpose b.cells b.levels)

unfoldable pub read_block : Call → List ℕ → ℕ → Answer Told
read_block c l p = onward (sent_at c l p) (λ s q. Value (told_by c s) q)

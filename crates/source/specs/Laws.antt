-- What refusals 1 to 4 leave.
use Rattle.std.specs.Prelude.{◌≡◌, refl, Bool, true, List, [], ◌∷◌, ℕ, zero, suc, ◌+◌, ◌*◌, ◌≤◌, ◌<◌, get_or, length}
use Rattle.std.proofs.Common.{ap, ◌∙◌, ⊎_elim, arith, ne_eqb}
use Rattle.std.proofs.Math.Path.{sym}
use Rattle.std.proofs.Math.Arith.{digits_lt, digits_div, digits_mod}
use Rattle.base.specs.Pick.{pick, lt_or_le}
use Rattle.base.specs.Tests.{refusal, up_to-at, up_to-same}
use Rattle.base.specs.Refusals.{Numbered, refused-early, refused-late, refused_not}
use Rattle.base.specs.Cells.{laid, laid_in}
use Rattle.refusal.specs.Refusal.{number_of}
use Rattle.refusal.specs.declared.Refusal.{Refusal}
use Rattle.refusal.specs.declared.Refusal.TheVariants.{Config, Geometry, Plane, Sample, Predictor, Rate, Block, Runs, Room, BinsEnd, BinClass, Value, TooManyColors, TooManyEscapes, Smoothing, InputFile}
use Rattle.model.specs.Domain.{config_in, source_in, planes_in, most}
use Rattle.model.specs.declared.PaletteConfig.{PaletteConfig}
use Rattle.model.specs.declared.SourceBlock.{SourceBlock}
use Rattle.samples.specs.Samples.{color_at, cell_at}
use Rattle.source.specs.Source.{fits, all_fit, samples_in, plane_tests, source_tests, cells_in}

-- none of the first three
pub record Readable (c : PaletteConfig) (g : SourceBlock) (ny nb nr : ℕ) : Type 0 where
  pub config : config_in c ≡ true
  pub source : source_in c.chroma_idc g ≡ true
  pub planes : planes_in c.chroma_idc g ny nb nr ≡ true

pub readable : (c : PaletteConfig) (g : SourceBlock) (ny nb nr : ℕ) → refusal (plane_tests c g ny nb nr) ≡ 0 → Readable c g ny nb nr
readable c g ny nb nr e =
    let s = planes_in c.chroma_idc g ny nb nr in
    let a = refused_not (config_in c) 1 ((source_in c.chroma_idc g, 2) ∷ (s, 3) ∷ []) (omega arith) e in
    let b = refused_not (source_in c.chroma_idc g) 2 ((s, 3) ∷ []) (omega arith) a.1 in
    record { config = a.0; source = b.0; planes = (refused_not s 3 [] (omega arith) b.1).0 }

pub plane_numbers : (c : PaletteConfig) (g : SourceBlock) (ny nb nr : ℕ) → Numbered (plane_tests c g ny nb nr)
plane_numbers c g ny nb nr = (omega arith, (omega arith, (omega arith, tt)))

-- cells that are laid fit as what they are laid from does
pub fit-cells : (ym cm n : ℕ) (f : ℕ → ℕ) (l out : List ℕ) → n ≤ length l → out ≡ laid f l 0 n → all_fit ym cm n (λ (j : ℕ). get_or out j 0) ≡ all_fit ym cm n f
unfolding all_fit
fit-cells ym cm n f l out h e =
    up_to-same n _ _ (λ j m. ap (fits ym cm) (rw e (laid_in f l 0 n j 0 (omega arith) (omega arith) (omega arith))))

pub source_numbers : (luma cb cr : List ℕ) (c : PaletteConfig) (g : SourceBlock) → Numbered (source_tests luma cb cr c g)
source_numbers luma cb cr c g = (omega arith, (omega arith, (omega arith, (omega arith, tt))))

pub some : (k : ℕ) → (k ≡ 0 → ⊥) → 1 ≤ k
some zero h = absurd (h refl)
some (suc k) h = omega arith

module _ (luma cb cr : List ℕ) (c : PaletteConfig) (g : SourceBlock) where
  abbrev tests : List (Bool × ℕ)
  tests = plane_tests c g (length luma) (length cb) (length cr)

  -- 1 to 3
  pub early : (k : ℕ) → k ≡ refusal tests → 1 ≤ k → k ≡ refusal (source_tests luma cb cr c g)
  early k e o = sym (refused-early tests ((samples_in luma cb cr c g, 4) ∷ []) k (plane_numbers c g (length luma) (length cb) (length cr)) (sym e) o)

  pub cells_stay : (k : ℕ) → k ≡ refusal tests → 1 ≤ k → (l : List ℕ) → l ≡ cells_in luma cb cr c g l
  unfolding cells_in
  cells_stay k e o l = rw (ne_eqb (refusal tests) 0 (λ z. omega (arith, e)))

  -- 4 or none
  pub late : (r : Bool) → refusal tests ≡ 0 → samples_in luma cb cr c g ≡ r → pick r 0 4 ≡ refusal (source_tests luma cb cr c g)
  late r e s = sym (refused-late tests ((samples_in luma cb cr c g, 4) ∷ []) (plane_numbers c g (length luma) (length cb) (length cr)) e ∙ rw s)

  pub cells-laid : refusal tests ≡ 0 → (l : List ℕ) → laid (cell_at luma cb cr c.chroma_idc g) l 0 (g.size * g.size) ≡ cells_in luma cb cr c g l
  unfolding cells_in
  cells-laid e l = rw e

  pub samples_test : (r : Bool) (l out : List ℕ) → g.size * g.size ≤ length l → out ≡ laid (cell_at luma cb cr c.chroma_idc g) l 0 (g.size * g.size)
      → r ≡ all_fit (most c.bd_luma) (most c.bd_chroma) (g.size * g.size) (λ (j : ℕ). get_or out j 0) → samples_in luma cb cr c g ≡ r
  unfolding samples_in
  samples_test r l out h e t = sym (t ∙ fit-cells (most c.bd_luma) (most c.bd_chroma) (g.size * g.size) (cell_at luma cb cr c.chroma_idc g) l out h e)

-- ---- what no refusal by 1 to 4 leaves

pub record Fetched (luma cb cr : List ℕ) (c : PaletteConfig) (g : SourceBlock) : Type 0 where
  pub readable : Readable c g (length luma) (length cb) (length cr)
  pub fit : (j : ℕ) → j < g.size * g.size → fits (most c.bd_luma) (most c.bd_chroma) (cell_at luma cb cr c.chroma_idc g j) ≡ true
  pub cells : (l : List ℕ) → cells_in luma cb cr c g l ≡ laid (cell_at luma cb cr c.chroma_idc g) l 0 (g.size * g.size)

pub fetched : (luma cb cr : List ℕ) (c : PaletteConfig) (g : SourceBlock) → refusal (source_tests luma cb cr c g) ≡ 0 → Fetched luma cb cr c g
unfolding samples_in all_fit
fetched luma cb cr c g e =
    let ts = plane_tests c g (length luma) (length cb) (length cr) in
    let k : refusal ts ≡ 0 =
    ⊎_elim
    (λ (o : 0 < refusal ts). absurd (omega (arith, early luma cb cr c g (refusal ts) refl o)))
    (λ (o : refusal ts ≤ 0). omega arith)
    (lt_or_le 0 (refusal ts))
    in
    let f = refused_not (samples_in luma cb cr c g) 4 [] (omega arith) (late luma cb cr c g (samples_in luma cb cr c g) k refl ∙ e) in
    record {
      readable = readable c g (length luma) (length cb) (length cr) k;
      fit = up_to-at _ (g.size * g.size) f.0;
      cells = λ l. sym (cells-laid luma cb cr c g k l);
    }

-- the colours row by row, by column and row
pub cells_color : (luma cb cr : List ℕ) (c : PaletteConfig) (g : SourceBlock) (l : List ℕ) → Fetched luma cb cr c g → g.size * g.size ≤ length l → (x y : ℕ) → x < g.size → y < g.size
    → get_or (cells_in luma cb cr c g l) (y * g.size + x) 0 ≡ color_at luma cb cr c.chroma_idc g x y
unfolding cell_at
cells_color luma cb cr c g l f o x y h k =
    rw (f.cells l, laid_in (cell_at luma cb cr c.chroma_idc g) l 0 (g.size * g.size) (y * g.size + x) 0 (omega arith) (omega (arith, digits_lt k h)) (omega arith), digits_div y h, digits_mod y h)

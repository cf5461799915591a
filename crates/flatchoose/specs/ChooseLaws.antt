-- Choosing on lists: what was found is laid as analysis' answer is; a refusal by the luma pre-check leaves all that was lent as it was.
use Rattle.std.specs.Prelude.{◌≡◌, refl, true, false, List, ◌∷◌, ℕ, ◌+◌, ◌-◌, ◌*◌, ◌≤◌, eqb, length, replicate}
use Rattle.std.proofs.Common.{ap, ◌∙◌, arith, ne_eqb, eqb-true}
use Rattle.std.proofs.lemmas.Bool.{eqb-false}
use Rattle.std.proofs.lemmas.List.{length-replicate}
use Rattle.std.proofs.lemmas.List.Edits.{sets}
use Rattle.base.specs.Pick.{either}
use Rattle.base.specs.Cells.{laid-length}
use Rattle.model.specs.declared.PaletteConfig.{PaletteConfig}
use Rattle.model.specs.declared.PalettePredictor.{PalettePredictor}
use Rattle.colors.specs.Table.{tab}
use Rattle.colors.specs.declared.ColorIndex.{ColorIndex}
use Rattle.tally.specs.Tally.{moved_to}
use Rattle.analyse.specs.Analyse.{Analysed, Painted, painted_of, analysis_of}
use Rattle.analyse.specs.Laws.{painted-kept, painted-moved, kept-refused}
use Rattle.blocks.specs.Blocks.{entries_of}
use Rattle.blocks.specs.Laws.{block_with}
use Rattle.refusal.specs.declared.Refusal.{Refusal}
use Rattle.refusal.specs.Refusal.{number_of}
use Rattle.refusal.specs.Laws.{number_other}
use Rattle.analysis.specs.Analyze.{Analyzed}
use Rattle.analysis.specs.Laws.{refused_with, refused-many, few-reused, block_made}
use Rattle.flat.specs.Flat.{number, each, flat_block}
use Rattle.flatcounter.specs.Counter.{counter_of, marks_of}
use Rattle.flatcounter.specs.Back.{counter_back}
use Rattle.flatchoose.specs.Choose.{Lent, counter_lent, analyzed_laid, block_laid, found_out, choose_out}

module _ (done : Analyzed) (keys entry stamp block k e s b : List ℕ) (hk : k ≡ sets keys 0 done.counter.keys) (he : e ≡ sets entry 0 done.counter.entry) (hs : s ≡ sets stamp 0 (marks_of done.counter)) where
  laid_done : done.refusal ≡ 0 → b ≡ sets block 0 (flat_block done.cu) → ◌≡◌ {A = ℕ × Lent} (0, record { keys = k; entry = e; stamp = s; block = b }) (analyzed_laid done (record { keys = keys; entry = entry; stamp = stamp; block = block }))
  laid_done h hb = rw (h, hk, he, hs, hb)

  laid-refused : (done.refusal ≡ 0 → ⊥) → ◌≡◌ {A = ℕ × Lent} (done.refusal, record { keys = k; entry = e; stamp = s; block = block }) (analyzed_laid done (record { keys = keys; entry = entry; stamp = stamp; block = block }))
  laid-refused h = rw (ne_eqb done.refusal 0 h, hk, he, hs)

-- the counter laid back where it was read
pub back : (l : Lent) (r : ℕ) → (r ≡ 0 → ⊥) → (r, l) ≡ analyzed_laid (refused_with r (counter_lent l)) l
back l r h =
    let b = counter_back l.keys l.entry l.stamp in
    rw (ne_eqb r 0 h, b.0, b.1, b.2)

-- what is read of a counter's list is as long as its array
pub each_wide : (f : ℕ → ℕ) (xs : List ℕ) → xs ≡ each 0 256 f → length xs ≡ 256
each_wide f xs e = ap length e ∙ laid-length f (replicate 256 0) 0 256 ∙ length-replicate {A = ℕ} 256 0

pub laid_as : (l : Lent) {a b : Analyzed} → a ≡ b → analyzed_laid a l ≡ analyzed_laid b l
laid_as l e = ap (λ (z : Analyzed). analyzed_laid z l) e

-- ---- 13, or the block made

module _ (xs : List ℕ) (c : PaletteConfig) (size : ℕ) (p : PalettePredictor) (tol : ℕ) (l : Lent) where
  module _ (g : ℕ) (d : Painted) (first : g ≡ number l.stamp 0) (v : d ≡ painted_of xs (size * size) (c.bd_luma - 8) tol 64 (entries_of p) g) where
    abbrev k : ColorIndex
    k = counter_lent l

    known : d ≡ painted_of xs (size * size) (c.bd_luma - 8) tol 64 (entries_of p) k.generation
    unfolding counter_of
    known = v ∙ rw first

    -- the luma pre-check refuses
    pub kept_out : d.kept ≡ true → (13, l) ≡ choose_out xs c size p tol l
    kept_out h =
        let is = painted-kept k xs (size * size) (c.bd_luma - 8) tol 64 (entries_of p) d known h in
        back l 13 (λ z. omega arith) ∙ laid_as l (refused-many xs c size p k tol (size * size) (c.bd_luma - 8) (entries_of p) (record { answer = d.answer; painting = d.painting; index = k }) is refl refl refl (kept-refused k xs (size * size) (c.bd_luma - 8) tol 64 (entries_of p) d known h))

    module _ (h : d.kept ≡ false) (k₀ e₀ s₀ ks fs ss : List ℕ) (rk : k₀ ≡ each 0 256 (number l.keys)) (re : e₀ ≡ each 0 256 (number l.entry)) (rs : s₀ ≡ each 0 256 (λ i. number l.stamp (1 + i))) (t : tab ks fs ss ≡ moved_to k₀ e₀ s₀ g xs (size * size)) where
      abbrev a : Analysed
      a = record { answer = d.answer; painting = d.painting; index = record { keys = ks; entry = fs; stamp = ss; generation = d.generation } }

      moves : tab ks fs ss ≡ moved_to k.keys k.entry k.stamp k.generation xs (size * size)
      unfolding counter_of
      moves = t ∙ rw (rk, re, rs, first)

      is : a ≡ analysis_of k xs (size * size) (c.bd_luma - 8) tol 64 (entries_of p)
      is = painted-moved k xs (size * size) (c.bd_luma - 8) tol 64 (entries_of p) d known h ks fs ss moves

      -- what `lay_made` asks
      pub reused-few : d.answer ≡ 0 → d.painting.reused ≤ d.painting.size
      reused-few z = few-reused xs c size p k tol (size * size) (c.bd_luma - 8) (entries_of p) a is refl refl refl z

      module _ (kₙ eₙ sₙ : List ℕ) (hk : kₙ ≡ sets l.keys 0 ks) (he : eₙ ≡ sets l.entry 0 fs) (hs : sₙ ≡ sets l.stamp 0 (d.generation ∷ ss)) where
        many-out : (d.answer ≡ 0 → ⊥) → ◌≡◌ {A = ℕ × Lent} (13, record { keys = kₙ; entry = eₙ; stamp = sₙ; block = l.block }) (choose_out xs c size p tol l)
        many-out z =
            laid-refused (refused_with 13 a.index) l.keys l.entry l.stamp l.block kₙ eₙ sₙ l.block hk he hs (λ q. omega arith) ∙ laid_as l (refused-many xs c size p k tol (size * size) (c.bd_luma - 8) (entries_of p) a is refl refl refl z)

        made-out : d.answer ≡ 0 → (b : List ℕ) → b ≡ sets l.block 0 (flat_block (block_with c size p.size tol d.painting)) → ◌≡◌ {A = ℕ × Lent} (0, record { keys = kₙ; entry = eₙ; stamp = sₙ; block = b }) (choose_out xs c size p tol l)
        made-out z b hb =
            laid_done (record { refusal = 0; cu = block_with c size p.size tol d.painting; counter = a.index }) l.keys l.entry l.stamp l.block kₙ eₙ sₙ b hk he hs refl hb
            ∙ laid_as l (block_made xs c size p k tol (size * size) (c.bd_luma - 8) (entries_of p) a is refl refl refl z (block_with c size p.size tol d.painting) refl)

        pub found-out : (x : ℕ × List ℕ) → x ≡ found_out d c size p.size tol l.block → ◌≡◌ {A = ℕ × Lent} (x.0, record { keys = kₙ; entry = eₙ; stamp = sₙ; block = x.1 }) (choose_out xs c size p tol l)
        found-out x e =
            either (eqb d.answer 0)
            (λ t. rw (e, t) (made-out (eqb-true d.answer 0 t) _ refl))
            (λ f. rw (e, f) (many-out (eqb-false d.answer 0 f)))

-- on a refusal the block's list is as it was
pub block-refused : (r : Refusal) (k : ColorIndex) (block : List ℕ) → ◌≡◌ {A = ℕ × (ColorIndex × List ℕ)} (number_of r, (k, block)) (block_laid (refused_with (number_of r) k) block)
block-refused r k block = rw (number_other r)

-- a counter laid beside the block
pub lent_laid : (done : Analyzed) (l : Lent) (r : ℕ) (k : ColorIndex) (b ks es ss : List ℕ) → ◌≡◌ {A = ℕ × (ColorIndex × List ℕ)} (r, (k, b)) (block_laid done l.block)
    → ks ≡ sets l.keys 0 k.keys → es ≡ sets l.entry 0 k.entry → ss ≡ sets l.stamp 0 (marks_of k) → ◌≡◌ {A = ℕ × Lent} (r, record { keys = ks; entry = es; stamp = ss; block = b }) (analyzed_laid done l)
lent_laid done l r k b ks es ss h a d e =
    rw (a, d, e) (λ i. ((h i).0, record { keys = sets l.keys 0 (h i).1.0.keys; entry = sets l.entry 0 (h i).1.0.entry; stamp = sets l.stamp 0 (marks_of (h i).1.0); block = (h i).1.1 }))

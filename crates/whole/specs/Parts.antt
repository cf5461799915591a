-- The clauses of "holds together" over the numbers that the code holds, and the cells in two passes.
use Rattle.std.specs.Prelude.{◌≡◌, refl, Bool, false, ◌&&◌, List, [], ◌∷◌, ℕ, ◌+◌, ◌*◌, ◌-◌, ◌≤◌, ◌<◌, min, eqb, get_or, length, take, drop, cond, count_by}
use Rattle.std.proofs.Math.Path.{ap, sym}
use Rattle.std.proofs.Common.{◌∙◌, ⊎_elim}
use Rattle.std.proofs.Math.Bool.{true, not}
use Rattle.std.specs.Bool.{beq}
use native.Mathlib.Omega.{arith}
use borrow.Author.Tests.{leb-true, le-leb, lt-leb, eq-eqb, ne_eqb, eqb-true, eqb-false, not-true}
use Rattle.std.proofs.Math.Dec.{leb}
use Rattle.std.proofs.Math.ListN.{length-take, length-drop}
use Rattle.std.proofs.lemmas.List.{get_or-take, get_or-drop}
use Rattle.std.proofs.lemmas.List.Recursion.{is_count_by}
use Rattle.base.specs.Pick.{pick, either, lt_or_le}
use Rattle.base.specs.Tests.{every, any, both, up_to, ands, ands-every, every_append, every-swap, and_pick, pick_and, up_to-both, up_to-same, up_to-at, at_up_to, pick_test}
use Rattle.h265.specs.Reuse.{trues}
use Rattle.h265.specs.Strings.{bit}
use Rattle.model.specs.declared.Levels.{Levels}
use Rattle.model.specs.declared.PaletteCu.{PaletteCu}
use Rattle.model.specs.Domain.{size_in, even_in, depth_in, most, color_in, no_color}
use Rattle.model.specs.DomainLaws.{leb_capped, size_bounds}
use Rattle.model.specs.Whole.{same, max_index, block_size_in, format_holds, counts_hold, entries_hold, level_in, levels_in, no_levels, cell_holds, empty_holds, holds, assignable}

abbrev pub size_holds : ℕ → ℕ → Bool
size_holds format size = every (size_in size ∷ even_in format size ∷ [])

abbrev pub format_are : ℕ → ℕ → ℕ → Bool
format_are format luma chroma = every (leb format 3 ∷ depth_in luma ∷ depth_in chroma ∷ [])

abbrev pub empty_is : ℕ → Bool → Bool → Bool
empty_is size escape transpose = pick (eqb size 0) (every (escape ∷ not transpose ∷ [])) true

-- ---- levels, held to 16-bit bounds

abbrev pub level_cap : Bool → ℕ → ℕ
level_cap lossless depth = min 65535 (pick lossless (most depth) 32767)

abbrev pub chroma_cap : Bool → ℕ → ℕ → ℕ
chroma_cap lossless format depth = pick (eqb format 0) 65535 (level_cap lossless depth)

abbrev pub luma_cap_of : PaletteCu → ℕ
luma_cap_of cu = level_cap cu.lossless cu.bd_luma

abbrev pub chroma_cap_of : PaletteCu → ℕ
chroma_cap_of cu = chroma_cap cu.lossless cu.chroma_idc cu.bd_chroma

-- with the bounds of a block, the test is the block's
abbrev pub Within : ℕ → ℕ → Levels → Bool → Type 0
Within ym cm l r = (cu : PaletteCu) → ym ≡ luma_cap_of cu → cm ≡ chroma_cap_of cu → r ≡ levels_in cu l

chroma_capped : (lossless : Bool) (format depth b r : ℕ) → b ≤ 65535 → r ≤ 65535 → every (leb b (chroma_cap lossless format depth) ∷ leb r (chroma_cap lossless format depth) ∷ []) ≡ every (any (eqb format 0 ∷ every (level_in lossless depth b ∷ level_in lossless depth r ∷ []) ∷ []) ∷ [])
unfolding level_in
chroma_capped lossless format depth b r hb hr =
    let m = pick lossless (most depth) 32767 in
    let t = every (leb b m ∷ leb r m ∷ []) in
    either (eqb format 0)
    (λ e. rw (e, le-leb b 65535 hb, le-leb r 65535 hr))
    (λ e. rw (e, leb_capped b m hb, leb_capped r m hr) (sym (pick_test (pick t true false) ∙ pick_test t)))

pub levels_capped : (ym cm : ℕ) (l : Levels) → l.y ≤ 65535 → l.cb ≤ 65535 → l.cr ≤ 65535 → Within ym cm l (ands (leb l.y ym) (leb l.cb cm ∷ leb l.cr cm ∷ []))
unfolding levels_in level_in
levels_capped ym cm l hy hb hr cu ey ec =
    ands-every (leb l.y ym) (leb l.cb cm ∷ leb l.cr cm ∷ [])
    ∙ rw (ey, ec, leb_capped l.y (pick cu.lossless (most cu.bd_luma) 32767) hy, chroma_capped cu.lossless cu.chroma_idc cu.bd_chroma l.cb l.cr hb hr)

-- ---- cells: indices first, escapes only where an index can mark one

unfoldable pub escape_holds : PaletteCu → ℕ → Bool
escape_holds cu i = pick (eqb (get_or cu.indices i 0) cu.palette_size) (levels_in cu (get_or cu.escapes i no_levels)) true

module _ (cu : PaletteCu) (i : ℕ) where
  pub escape_levels : get_or cu.indices i 0 ≡ cu.palette_size → escape_holds cu i ≡ levels_in cu (get_or cu.escapes i no_levels)
  unfolding escape_holds
  escape_levels e = rw (eq-eqb _ _ e)

  pub escape_none : (get_or cu.indices i 0 ≡ cu.palette_size → ⊥) → escape_holds cu i ≡ true
  unfolding escape_holds
  escape_none e = rw (ne_eqb _ _ e)

-- 16 cells from i on are among the first n, and none has index p
unfoldable pub quiet_from : List ℕ → ℕ → ℕ → ℕ → Bool
quiet_from l i n p = every (leb (i + 16) n ∷ up_to 16 (λ j. not (eqb (get_or l (i + j) 0) p)) ∷ [])

module _ (l : List ℕ) (i n p : ℕ) where
  pub quiet_late : n < i + 16 → false ≡ quiet_from l i n p
  unfolding quiet_from
  quiet_late h = rw (lt-leb (i + 16) n h)

  pub quiet_is : i + 16 ≤ n → up_to 16 (λ j. not (eqb (get_or l (i + j) 0) p)) ≡ quiet_from l i n p
  unfolding quiet_from
  quiet_is h = rw (le-leb (i + 16) n h) (sym (pick_test (up_to 16 (λ j. not (eqb (get_or l (i + j) 0) p)))))

  pub quiet_ends : quiet_from l i n p ≡ true → i + 16 ≤ n
  unfolding quiet_from
  quiet_ends e = leb-true (i + 16) n (both (leb (i + 16) n) _ e).0

  pub quiet_none : quiet_from l i n p ≡ true → (k : ℕ) → i ≤ k → k < i + 16 → get_or l k 0 ≡ p → ⊥
  unfolding quiet_from
  quiet_none e k h m q =
      let b = both (leb (i + 16) n) _ e in
      let t = both (up_to 16 (λ j. not (eqb (get_or l (i + j) 0) p))) true b.1 in
      let j : k - i < 16 = omega arith in
      let z : i + (k - i) ≡ k = omega arith in
      eqb-false (get_or l k 0) p (rw z at (not-true (eqb (get_or l (i + (k - i)) 0) p) (up_to-at (λ j. not (eqb (get_or l (i + j) 0) p)) 16 t.0 (k - i) j))) q

-- the 16 cells as a part of the list
pub quiet_cells : (l : List ℕ) (i n p j : ℕ) → i + 16 ≤ n → n ≤ length l → j ≤ length (take (i + 16 - i) (drop i l)) → length (take (i + 16 - i) (drop i l)) ≤ j → up_to j (λ k. not (eqb (get_or (take (i + 16 - i) (drop i l)) k 0) p)) ≡ quiet_from l i n p
quiet_cells l i n p j h m lo hi =
    let e : j ≡ 16 = omega (arith, length-take (i + 16 - i) (drop i l), length-drop i l) in
    rw e
    (up_to-same 16 _ _
    (λ k s. let w : k < i + 16 - i = omega arith in rw (get_or-take (i + 16 - i) (drop i l) k 0 w, get_or-drop i l k 0))
    ∙ quiet_is l i n p h)

-- so the escapes of these cells hold
pub quiet_on : (cu : PaletteCu) (i n p : ℕ) → p ≡ cu.palette_size → quiet_from cu.indices i n p ≡ true → up_to i (escape_holds cu) ≡ true → up_to (i + 16) (escape_holds cu) ≡ true
quiet_on cu i n p s e h =
    at_up_to (escape_holds cu) (i + 16)
    (λ k m.
    ⊎_elim (λ (z : k < i). up_to-at (escape_holds cu) i h k z)
    (λ (z : i ≤ k). escape_none cu k (λ q. quiet_none cu.indices i n p e k z m (q ∙ sym s)))
    (lt_or_le k i))

module _ (cu : PaletteCu) (n m : ℕ) (is : m ≡ cu.palette_size + bit cu.escape_present - 1) where
  pub cells-two : (a b : Bool) → a ≡ up_to n (λ i. leb (get_or cu.indices i 0) m) → b ≡ up_to n (escape_holds cu) → a && b ≡ up_to n (cell_holds cu)
  unfolding cell_holds escape_holds max_index
  cells-two a b ea eb = and_pick a b ∙ rw (ea, eb, is) (sym (up_to-both n _ _))

  pub cells-one : (a : Bool) → a ≡ up_to n (λ i. leb (get_or cu.indices i 0) m) → m < cu.palette_size → a ≡ up_to n (cell_holds cu)
  unfolding cell_holds max_index
  cells-one a ea h = ea ∙ up_to-same n _ _ (λ i k. one (get_or cu.indices i 0) (levels_in cu (get_or cu.escapes i no_levels)))
    where
      one : (x : ℕ) (t : Bool) → leb x m ≡ every (leb x (cu.palette_size + bit cu.escape_present - 1) ∷ pick (eqb x cu.palette_size) t true ∷ [])
      one x t =
          rw (sym is)
          (either (leb x m)
          (λ e. let l : x ≤ m = leb-true x m e in rw (e, ne_eqb x cu.palette_size (λ z. omega arith)))
          (λ e. rw e))

-- ---- the clauses on numbers first, then those on lists

abbrev pub frame_holds : ℕ → ℕ → ℕ → ℕ → ℕ → ℕ → ℕ → Bool
frame_holds limit size format luma chroma entries tolerance =
    every (size_holds format size ∷ format_are format luma chroma ∷ leb entries limit ∷ leb tolerance 16 ∷ [])

module _ (limit : ℕ) (cu : PaletteCu) where
  abbrev frame : Bool
  frame = frame_holds limit cu.size cu.chroma_idc cu.bd_luma cu.bd_chroma cu.palette_size cu.tolerance

  abbrev head : Bool → Bool
  head t = pick (block_size_in cu) (pick (format_holds cu) t false) false

  abbrev lists : List Bool
  lists = counts_hold cu ∷ entries_hold cu ∷ up_to (cu.size * cu.size) (cell_holds cu) ∷ empty_holds cu ∷ []

  holds_parts : holds limit cu ≡ pick frame (every (leb cu.pred_size 128 ∷ lists)) false
  unfolding holds block_size_in format_holds
  holds_parts =
      ap (λ (t : Bool). head (pick (leb cu.palette_size limit) t false)) (every-swap (leb cu.pred_size 128) (leb cu.tolerance 16) lists)
      ∙ every_append (block_size_in cu ∷ format_holds cu ∷ leb cu.palette_size limit ∷ leb cu.tolerance 16 ∷ []) (leb cu.pred_size 128 ∷ lists)

  assignable-parts : assignable limit cu ≡ pick frame (every (leb 1 cu.palette_size ∷ entries_hold cu ∷ [])) false
  unfolding assignable block_size_in format_holds
  assignable-parts =
      let n = cu.palette_size in
      let t = leb cu.tolerance 16 in
      ap head (every-swap (leb 1 n) (leb n limit) (t ∷ entries_hold cu ∷ []))
      ∙ ap (λ (b : Bool). head (pick (leb n limit) b false)) (every-swap (leb 1 n) t (entries_hold cu ∷ []))
      ∙ every_append (block_size_in cu ∷ format_holds cu ∷ leb n limit ∷ t ∷ []) (leb 1 n ∷ entries_hold cu ∷ [])

  frame_size : frame ≡ true → cu.size ≤ 32
  frame_size e =
      let s = both (size_holds cu.chroma_idc cu.size) _ e in
      (size_bounds cu.size (both (size_in cu.size) _ s.0).0).1

  frame-entries : frame ≡ true → cu.palette_size ≤ limit
  frame-entries e =
      let s = both (size_holds cu.chroma_idc cu.size) _ e in
      let f = both (format_are cu.chroma_idc cu.bd_luma cu.bd_chroma) _ s.1 in
      leb-true _ _ (both (leb cu.palette_size limit) _ f.1).0

  -- f is what the code found of the frame
  module _ (f : Bool) (is : f ≡ frame) where
    pub holds_not : f && leb cu.pred_size 128 ≡ false → false ≡ holds limit cu
    holds_not e = sym (holds_parts ∙ rw (← is) (pick_and f (leb cu.pred_size 128) (every lists) e))

    pub holds-rest : (a b c d : Bool) → f && leb cu.pred_size 128 ≡ true → a ≡ eqb (trues (take cu.pred_size cu.reused) + cu.num_signaled) cu.palette_size → b ≡ up_to cu.palette_size (λ i. color_in cu.chroma_idc cu.bd_luma cu.bd_chroma (get_or cu.palette i no_color)) → c ≡ up_to (cu.size * cu.size) (cell_holds cu) → d ≡ empty_is cu.palette_size cu.escape_present cu.transpose → ands a (b ∷ c ∷ d ∷ []) ≡ holds limit cu
    unfolding counts_hold entries_hold empty_holds
    holds-rest a b c d e ea eb ec ed =
        let t = both f (leb cu.pred_size 128) (sym (and_pick f _) ∙ e) in
        ands-every a (b ∷ c ∷ d ∷ []) ∙ rw (ea, eb, ec, ed) (sym (holds_parts ∙ rw (← is, t.0, t.1)))

    pub holds-bounds : f && leb cu.pred_size 128 ≡ true → (cu.size ≤ 32) × (cu.palette_size ≤ limit) × (cu.pred_size ≤ 128)
    holds-bounds e =
        let t = both f (leb cu.pred_size 128) (sym (and_pick f _) ∙ e) in
        (frame_size (sym is ∙ t.0), frame-entries (sym is ∙ t.0), leb-true _ _ t.1)

    pub assignable_not : f && leb 1 cu.palette_size ≡ false → false ≡ assignable limit cu
    assignable_not e = sym (assignable-parts ∙ rw (← is) (pick_and f (leb 1 cu.palette_size) (every (entries_hold cu ∷ [])) e))

    pub assignable-rest : (a : Bool) → f && leb 1 cu.palette_size ≡ true → a ≡ up_to cu.palette_size (λ i. color_in cu.chroma_idc cu.bd_luma cu.bd_chroma (get_or cu.palette i no_color)) → a ≡ assignable limit cu
    unfolding entries_hold
    assignable-rest a e ea =
        let t = both f (leb 1 cu.palette_size) (sym (and_pick f _) ∙ e) in
        ea ∙ sym (assignable-parts ∙ rw (← is, t.0, t.1) (pick_test _))

    pub assignable_bound : f && leb 1 cu.palette_size ≡ true → cu.palette_size ≤ limit
    assignable_bound e = frame-entries (sym is ∙ (both f (leb 1 cu.palette_size) (sym (and_pick f _) ∙ e)).0)

-- equal flags, as code compares them
pub beq_same : (a b : Bool) → beq a b ≡ same a b
beq_same true true = refl
beq_same true false = refl
beq_same false true = refl
beq_same false false = refl

-- the flags that are on, as code counts them
trues_next : (b : Bool) (bs : List Bool) → trues (b ∷ bs) ≡ cond b (1 + trues bs) (trues bs)
unfolding trues
trues_next true bs = omega arith
trues_next false bs = refl

pub trues_count : (fs : List Bool) → trues fs ≡ count_by (λ b. b) fs
unfolding trues
trues_count fs = is_count_by trues (λ b. b) refl trues_next fs

-- the rest of a palette, as code takes it
pub counts_less : (t f signaled size : ℕ) → t ≡ f → size < t → false ≡ eqb (f + signaled) size
counts_less t f signaled size e h = sym (ne_eqb (f + signaled) size (λ z. omega arith))

pub counts-rest : (t f signaled size : ℕ) → t ≡ f → t ≤ size → eqb signaled (size - t) ≡ eqb (f + signaled) size
counts-rest t f signaled size e h =
    either (eqb (f + signaled) size)
    (λ z. let k : f + signaled ≡ size = eqb-true _ _ z in eq-eqb signaled (size - t) (omega arith) ∙ sym z)
    (λ z. ne_eqb signaled (size - t) (λ k. eqb-false (f + signaled) size z (omega arith)) ∙ sym z)

-- The colour counter: a table of 256 slots with linear probing, each marked by the generation that wrote it. Definitions only.
use Rattle.std.specs.Prelude.{◌≡◌, ℕ, zero, suc, ◌+◌, ◌*◌, ◌/◌, ◌%◌, ◌^◌, ◌<◌, Bool, true, false, List, [], ◌∷◌, length, replicate, ◌==◌, nat_lt, slice_index, slice_index_or, slice_set}
use Rattle.base.specs.Pick.{pick}
use Rattle.colors.specs.Place.{place_of}
use Rattle.colors.specs.declared.ColorIndex.{ColorIndex}

-- what the slots hold; one is in use where its stamp is the generation
pub record Table : Type 0 where
  pub keys : List ℕ
  pub entry : List ℕ
  pub stamp : List ℕ

abbrev pub tab : List ℕ → List ℕ → List ℕ → Table
tab k e s = record { keys = k; entry = e; stamp = s }

-- the high byte of the product with 2^64 / φ, modulo 2^64
unfoldable pub hash_of : ℕ → ℕ
hash_of key = (key * 11400714819323198485) % 2 ^ 64 / 2 ^ 56

-- the slot that the probe numbered d looks at
abbrev pub slot_at : ℕ → ℕ → ℕ
slot_at key d = (hash_of key + d) % 256

-- a probe stops at a slot that is free, or holds the key
abbrev pub stops : List ℕ → List ℕ → ℕ → ℕ → ℕ → Bool
stops ks ss g key s = pick (slice_index ss s == g) (slice_index ks s == key) true

-- the first probe from d on that stops; d + f where f probes do not
unfoldable pub probe : ℕ → List ℕ → List ℕ → ℕ → ℕ → ℕ → ℕ
probe zero ks ss g key d = d
probe (suc f) ks ss g key d = pick (stops ks ss g key (slot_at key d)) d (probe f ks ss g key (d + 1))

unfoldable pub slot_of : List ℕ → List ℕ → ℕ → ℕ → ℕ
slot_of ks ss g key = slot_at key (probe 256 ks ss g key 0)

-- what a look-up answers, and the table after it
unfoldable pub answer_of : Table → ℕ → ℕ → ℕ → ℕ
answer_of t g key next =
    pick (slice_index t.stamp (slot_of t.keys t.stamp g key) == g) (slice_index t.entry (slot_of t.keys t.stamp g key)) next

unfoldable pub after_of : Table → ℕ → ℕ → ℕ → Table
after_of t g key next =
    pick (slice_index t.stamp (slot_of t.keys t.stamp g key) == g) t
    (tab (slice_set t.keys (slot_of t.keys t.stamp g key) key)
    (slice_set t.entry (slot_of t.keys t.stamp g key) next)
    (slice_set t.stamp (slot_of t.keys t.stamp g key) g))

-- a counter that has not been used
abbrev pub unused : ColorIndex
unused = record { keys = replicate 256 0; entry = replicate 256 0; stamp = replicate 256 0; generation = 0 }

-- a 32-bit generation that rolls over: at 0 all stamps are cleared and it becomes 1
unfoldable pub generation_of : ℕ → ℕ
generation_of g = pick ((g + 1) % 2 ^ 32 == 0) 1 ((g + 1) % 2 ^ 32)

unfoldable pub stamps_of : ℕ → List ℕ → List ℕ
stamps_of g ss = pick ((g + 1) % 2 ^ 32 == 0) (replicate 256 0) ss

-- no stamp is above the generation g
unfoldable pub none_above : ℕ → List ℕ → Bool
none_above g [] = true
none_above g (s ∷ ss) = pick (nat_lt g s) false (none_above g ss)

-- ---- what the laws speak of

-- how many slots bear the stamp g
unfoldable pub stamped : ℕ → List ℕ → ℕ
stamped g [] = 0
stamped g (s ∷ ss) = pick (s == g) (suc (stamped g ss)) (stamped g ss)

-- the slot of a key, d probes on, and none free before it
pub record Path (t : Table) (g key : ℕ) : Type 0 where
  pub d : ℕ
  pub short : d < 256
  pub marked : slice_index_or t.stamp (slot_at key d) 0 ≡ g
  pub holds : slice_index_or t.keys (slot_at key d) 0 ≡ key
  pub before : (e : ℕ) → e < d → slice_index t.stamp (slot_at key e) ≡ g

-- the table holds the numbers ms, each with its place
pub record Holds (t : Table) (g : ℕ) (ms : List ℕ) : Type 0 where
  pub wide_keys : length t.keys ≡ 256
  pub wide_entry : length t.entry ≡ 256
  pub wide_stamp : length t.stamp ≡ 256
  pub count : stamped g t.stamp ≡ length ms
  pub told : (s : ℕ) → s < 256 → slice_index t.stamp s ≡ g → place_of (slice_index t.keys s) ms ≡ slice_index t.entry s
  pub inside : (s : ℕ) → s < 256 → slice_index t.stamp s ≡ g → slice_index t.entry s < length ms
  pub path : (key : ℕ) → place_of key ms < length ms → Path t g key

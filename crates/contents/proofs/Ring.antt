-- The bytes between two counters of a ring are a list: a store appends to it, a read takes its head.
-- Stated over the window's start and size; the counters are under 256, and the window lies in the memory.
-- Assumes nothing.
use Prim.Native.Nat.{ℕ, zero, suc, ◌+◌, ◌%◌, ◌≤◌, ◌<◌}
use native.Mathlib.Omega.{arith}
use mathlib.Core.Path.{◌≡◌, refl, ap, ◌∙◌}
use mathlib.Core.Logic.{◌≢◌}
use mathlib.Core.Bool.{false}
use mathlib.Core.List.{List, [], ◌∷◌, ◌++◌, append-nil}
use lib.ListN.{length, length-set}
use lib.Seq.{get_or-set_same, get_or-set_other, append_snoc}
use borrow.Author.Tests.{leb-false, lt-leb}
use Rattle.ring.specs.Ring.{next, level, place, byte_at, full, store, store_all, bytes_from, contents}

-- the two sizes, each of which divides 256: a match on one puts its numeral in
pub data Size : ℕ → Type 0 where
  eight : Size 8
  sixty_four : Size 64

pub size_small : {size : ℕ} → Size size → size ≤ 64
size_small eight = omega arith
size_small sixty_four = omega arith

pub place_small : {size : ℕ} → Size size → (counter : ℕ) → counter % size < size
place_small eight counter = omega arith
place_small sixty_four counter = omega arith

-- a counter is at level 0 from itself
pub level_self : (n : ℕ) → level n n ≡ 0
level_self n = omega arith

-- the counters are bytes
pub record Counters (read write : ℕ) : Type 0 where
  pub read_small : read < 256
  pub write_small : write < 256

-- two counters less than a size apart have different places
places_differ : {size : ℕ} → Size size → (read write : ℕ) → Counters read write → 0 < level read write → level read write < size
    → read % size ≢ write % size
places_differ eight read write = omega arith
places_differ sixty_four read write = omega arith

module _ (read write : ℕ) (c : Counters read write) where
  -- a level further than read is write
  level_meets : (read + level read write) % 256 ≡ write
  level_meets = omega arith

  -- a byte more written is a level more, a byte more read a level less
  level_write : level read write < 255 → level read (next write) ≡ suc (level read write)
  level_write lt = omega arith

  pub level_adds : (n : ℕ) → level read write + n < 256 → level read ((write + n) % 256) ≡ level read write + n
  level_adds n lt = omega arith

  pub level_read : level read write ≢ 0 → level read write ≡ suc (level (next read) write)
  level_read some = omega arith

module _ (start size : ℕ) (m : List ℕ) where
  bytes_from_length : (c n : ℕ) → length (bytes_from start size m c n) ≡ n
  unfolding bytes_from
  bytes_from_length c zero = refl
  bytes_from_length c (suc n) = ap suc (bytes_from_length (next c) n)

  -- the level is the length of the contents
  pub level_length : (read write : ℕ) → length (contents start size m read write) ≡ level read write
  level_length read write = bytes_from_length read (level read write)

  -- one byte more is the byte at the counter that comes next
  bytes_from_grows : (c n : ℕ) → c < 256
      → bytes_from start size m c (suc n) ≡ bytes_from start size m c n ++ (byte_at start size m ((c + n) % 256) ∷ [])
  unfolding bytes_from
  bytes_from_grows c zero h = let e : (c + 0) % 256 ≡ c = omega arith in rw e
  bytes_from_grows c (suc n) h =
      let e : (c + suc n) % 256 ≡ (next c + n) % 256 = omega arith in
      rw (e, ← bytes_from_grows (next c) n (omega arith))

  -- while there are bytes, the first is the one at read, and a read more leaves the others
  pub head_tail : (read write : ℕ) → Counters read write → level read write ≢ 0
      → contents start size m read write ≡ byte_at start size m read ∷ contents start size m (next read) write
  unfolding bytes_from
  head_tail read write c some = rw (level_read read write c some)

  -- at level 0 there is nothing
  pub contents_none : (read write : ℕ) → level read write ≡ 0 → contents start size m read write ≡ []
  unfolding bytes_from
  contents_none read write e = rw e

  -- read moved to write leaves nothing, and so do both at 0
  pub contents_spent : (write : ℕ) → write < 256 → contents start size m write write ≡ []
  contents_spent write h = contents_none write write (omega arith)

-- stores keep the length of the memory
pub store_length : (start size counter b : ℕ) (m : List ℕ) → length (store start size counter b m) ≡ length m
store_length start size counter b m = length-set m (place start size counter) b

pub store_all_length : (start size counter : ℕ) (s m : List ℕ) → length (store_all start size counter s m) ≡ length m
unfolding store_all
store_all_length start size counter [] m = refl
store_all_length start size counter (b ∷ s) m =
    store_all_length start size (next counter) s (store start size counter b m) ∙ store_length start size counter b m

module _ {size : ℕ} (z : Size size) (start : ℕ) where
  -- a store changes none of the bytes before its counter, up to a size of them
  bytes_from_kept : (m : List ℕ) (w b r n : ℕ) → Counters r w → n ≤ level r w → level r w < size
      → bytes_from start size (store start size w b m) r n ≡ bytes_from start size m r n
  unfolding bytes_from
  bytes_from_kept m w b r zero c le lt = refl
  bytes_from_kept m w b r (suc n) c le lt =
      let d : r % size ≢ w % size = places_differ z r w c (omega arith) lt in
      rw (
        get_or-set_other m (place start size w) (place start size r) b 0 (omega arith),
        bytes_from_kept m w b (next r) n (omega arith) (omega arith) (omega arith),
      )

  -- a byte stored at write is the last of the contents
  pub store_appends : (m : List ℕ) (read write b : ℕ) → start + size ≤ length m → Counters read write → full size read write ≡ false
      → contents start size (store start size write b m) read (next write) ≡ contents start size m read write ++ (b ∷ [])
  store_appends m read write b fits c room =
      let lt : level read write < size = leb-false size (level read write) room in
      let inside : place start size write < length m = omega (arith, place_small z write) in
      rw (
        level_write read write c (omega (arith, size_small z)),
        bytes_from_grows start size (store start size write b m) read (level read write) c.read_small,
        level_meets read write c,
        get_or-set_same m (place start size write) b 0 inside,
        bytes_from_kept m write b read (level read write) c (omega arith) lt,
      )

  -- a stretch of bytes stored from write on stands behind the contents
  pub store_all_appends : (s m : List ℕ) (read write : ℕ) → start + size ≤ length m → Counters read write → level read write + length s ≤ size
      → contents start size (store_all start size write s m) read ((write + length s) % 256) ≡ contents start size m read write ++ s
  unfolding store_all
  store_all_appends [] m read write fits c le = let e : (write + 0) % 256 ≡ write = omega arith in rw (e, append-nil)
  store_all_appends (b ∷ s) m read write fits c le =
      let room : level read (next write) + length s ≤ size = rw (level_write read write c (omega (arith, size_small z))) (omega arith) in
      let e : (write + suc (length s)) % 256 ≡ (next write + length s) % 256 = omega arith in
      rw (
        e,
        store_all_appends s (store start size write b m) read (next write) (rw length-set fits) (omega arith) room,
        store_appends m read write b fits c (lt-leb size (level read write) (omega arith)),
        append_snoc,
      )

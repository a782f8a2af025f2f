-- Counters and the bytes they point to, over a window's start and size.
-- 01: "read and write pointers are running 8-bit counters that pass from 255 to 0. Level = write - read modulo 256;
-- a byte's place is the counter modulo the size."
use Rattle.std.specs.Prelude.{◌≡◌, ℕ, zero, suc, ◌+◌, ◌-◌, ◌%◌, Bool, List, [], ◌∷◌, length, nat_le, slice_index, slice_set}
use Rattle.window.specs.declared.Window.{Window}
use Rattle.window.specs.Window.{start_of, size_of}

-- "pass from 255 to 0"
abbrev pub next : ℕ → ℕ
next counter = (counter + 1) % 256

-- "Level = write - read modulo 256"
abbrev pub level : ℕ → ℕ → ℕ
level read write = (write + 256 - read) % 256

-- "a byte's place is the counter modulo the size", in its window
abbrev pub place : ℕ → ℕ → ℕ → ℕ
place start size counter = start + counter % size

abbrev pub byte_at : ℕ → ℕ → List ℕ → ℕ → ℕ
byte_at start size memory counter = slice_index memory (place start size counter)

-- free bytes: the size less the level
abbrev pub free : ℕ → ℕ → ℕ → ℕ
free size read write = size - level read write

-- as many bytes as the size are there: none is free
abbrev pub full : ℕ → ℕ → ℕ → Bool
full size read write = nat_le size (level read write)

-- one byte stored at a counter's place
abbrev pub store : ℕ → ℕ → ℕ → ℕ → List ℕ → List ℕ
store start size counter b memory = slice_set memory (place start size counter) b

-- a stretch of bytes stored from a counter's place on, each at the next
unfoldable pub store_all : ℕ → ℕ → ℕ → List ℕ → List ℕ → List ℕ
store_all start size counter [] memory = memory
store_all start size counter (b ∷ bs) memory = store_all start size (next counter) bs (store start size counter b memory)

-- n bytes from a counter on, in the order in which they are read
unfoldable pub bytes_from : ℕ → ℕ → List ℕ → ℕ → ℕ → List ℕ
bytes_from start size memory counter zero = []
bytes_from start size memory counter (suc n) = byte_at start size memory counter ∷ bytes_from start size memory (next counter) n

-- the contents of a FIFO: the bytes from read up to write
abbrev pub contents : ℕ → ℕ → List ℕ → ℕ → ℕ → List ℕ
contents start size memory read write = bytes_from start size memory read (level read write)

-- a stretch stored: the counter after it, and the memory
pub record StoreAll (w : Window) (counter : ℕ) (s m : List ℕ) (r : ℕ) (m' : List ℕ) : Type 0 where
  pub counter_after : r ≡ (counter + length s) % 256
  pub bytes : m' ≡ store_all (start_of w.kind w.number) (size_of w.kind) counter s m

-- What each operation makes of the counters and the bytes of FIFO0, and the bytes that reads give.
-- 01: "FIFO0 holds 8 bytes, sent or received, for endpoint 0." That a handshake is awaited is the chip's to know.
use Rattle.std.specs.Prelude.{ℕ, ◌+◌, ◌%◌, ◌≡◌, Bool, true, false, ◌||◌, ◌&&◌, not, List, length, leb, ltb, eqb}
use Rattle.choice.specs.Choice.{pick}
use Rattle.fifo0.specs.declared.Fifo0.{Fifo0}
use Rattle.window.specs.declared.Kind.TheVariants.{Control}
use Rattle.window.specs.Window.{size0, fifo0, start_of}
use Rattle.ring.specs.declared.Taken.{Taken}
use Rattle.ring.specs.Ring.{next, level, full, byte_at, store, store_all, contents}

-- "Reset: all zero"; "A flush zeroes all of them"; RXD0 repeats "0 after reset or flush". The bytes in memory stay, unseen
abbrev pub reset0 : Fifo0
reset0 = record { read = 0; write = 0; last = 0; received = false }

-- the bytes held, sent or received, first to last
abbrev pub contents0 : Fifo0 → List ℕ → List ℕ
contents0 f m = contents (start_of Control fifo0) size0 m f.read f.write

-- how many of them were received: "While FIFO0 has bytes to send, RCOUNT is 0", else it is their number
unfoldable pub rcount : Fifo0 → ℕ
rcount f = pick f.received (level f.read f.write) 0

-- "TXD write appends, ignored when full (FIFO0: also while received bytes stand ..)"
abbrev pub shut0 : Fifo0 → Bool
shut0 f = not (eqb (rcount f) 0) || full size0 f.read f.write

unfoldable pub put0 : Fifo0 → Fifo0
put0 f = pick (shut0 f) f (record { read = f.read; write = next f.write; last = f.last; received = false })

abbrev pub put0_bytes : Fifo0 → ℕ → List ℕ → List ℕ
put0_bytes f b m = pick (shut0 f) m (store (start_of Control fifo0) size0 f.write b m)

pub record Put0 (f : Fifo0) (b : ℕ) (m : List ℕ) (r : Fifo0) (m' : List ℕ) : Type 0 where
  pub counters : r ≡ put0 f
  pub bytes : m' ≡ put0_bytes f b m

-- "RXD read takes a byte; with none it repeats the last one read"; "While FIFO0 has bytes to send .. RXD0 takes none".
-- With the last byte gone nothing received is left.
abbrev pub head0 : Fifo0 → List ℕ → ℕ
head0 f m = byte_at (start_of Control fifo0) size0 m f.read

unfoldable pub take0 : Fifo0 → List ℕ → Taken Fifo0
take0 f m =
    pick (eqb (rcount f) 0)
    (record { next = f; value = f.last; taken = false })
    (record { next = record { read = next f.read; write = f.write; last = head0 f m; received = ltb 1 (rcount f) }; value = head0 f m; taken = true })

-- room for so many bytes: "no room (.. on 0 any byte held, or over 8)"
abbrev pub fits0 : Fifo0 → ℕ → Bool
fits0 f count = eqb (level f.read f.write) 0 && leb count size0

-- a packet is stored whole, or where it does not fit not at all
unfoldable pub fill0 : Fifo0 → List ℕ → Fifo0
fill0 f s = pick (fits0 f (length s)) (record { read = f.read; write = (f.write + length s) % 256; last = f.last; received = ltb 0 (length s) }) f

abbrev pub fill0_bytes : Fifo0 → List ℕ → List ℕ → List ℕ
fill0_bytes f s m = pick (fits0 f (length s)) (store_all (start_of Control fifo0) size0 f.write s m) m

pub record Fill0 (f : Fifo0) (s : List ℕ) (m : List ℕ) (r : Fifo0) (m' : List ℕ) : Type 0 where
  pub counters : r ≡ fill0 f s
  pub bytes : m' ≡ fill0_bytes f s m

-- "ACK empties FIFO0", and at a SETUP "bytes to send go": "bytes that go without a flush go by read moving to write", so RXD0 still repeats
-- its byte
abbrev pub spend0 : Fifo0 → Fifo0
spend0 f = record { read = f.write; write = f.write; last = f.last; received = false }

-- What each operation makes of the counters and the bytes of RXFIFO1 to 3, and the bytes that reads give.
-- Starts and sizes come from Window, the counters' arithmetic from Ring.
use Rattle.std.specs.Prelude.{ℕ, ◌+◌, ◌%◌, ◌≡◌, Bool, true, false, List, length, leb, eqb}
use Rattle.choice.specs.Choice.{pick}
use Rattle.rxfifo.specs.declared.RxFifo.{RxFifo}
use Rattle.window.specs.declared.FifoNumber.{FifoNumber}
use Rattle.window.specs.declared.Kind.TheVariants.{Receive}
use Rattle.window.specs.Window.{rx_size, start_of}
use Rattle.ring.specs.declared.Taken.{Taken}
use Rattle.ring.specs.Ring.{next, level, byte_at, store_all, contents}

-- "Reset: all zero"; "A flush zeroes all of them"; RXD repeats "0 after reset or flush". The bytes in memory stay, unseen
abbrev pub reset_rx : RxFifo
reset_rx = record { read = 0; write = 0; last = 0 }

-- the bytes received and not read, first to last
abbrev pub rx_contents : FifoNumber → RxFifo → List ℕ → List ℕ
rx_contents n f m = contents (start_of Receive n) rx_size m f.read f.write

-- "RXD read takes a byte; with none it repeats the last one read, 0 after reset or flush"
abbrev pub head_rx : FifoNumber → RxFifo → List ℕ → ℕ
head_rx n f m = byte_at (start_of Receive n) rx_size m f.read

unfoldable pub take_rx : FifoNumber → RxFifo → List ℕ → Taken RxFifo
take_rx n f m =
    pick (eqb (level f.read f.write) 0)
    (record { next = f; value = f.last; taken = false })
    (record { next = record { read = next f.read; write = f.write; last = head_rx n f m }; value = head_rx n f m; taken = true })

-- room for so many bytes: "no room (on 2, 4, 6 level plus count over 64 ..)"
abbrev pub fits_rx : RxFifo → ℕ → Bool
fits_rx f count = leb (level f.read f.write + count) rx_size

-- a packet is stored whole, or where it does not fit not at all
unfoldable pub fill_rx : RxFifo → List ℕ → RxFifo
fill_rx f s = pick (fits_rx f (length s)) (record { read = f.read; write = (f.write + length s) % 256; last = f.last }) f

abbrev pub fill_rx_bytes : FifoNumber → RxFifo → List ℕ → List ℕ → List ℕ
fill_rx_bytes n f s m = pick (fits_rx f (length s)) (store_all (start_of Receive n) rx_size f.write s m) m

pub record FillRx (n : FifoNumber) (f : RxFifo) (s : List ℕ) (m : List ℕ) (r : RxFifo) (m' : List ℕ) : Type 0 where
  pub counters : r ≡ fill_rx f s
  pub bytes : m' ≡ fill_rx_bytes n f s m

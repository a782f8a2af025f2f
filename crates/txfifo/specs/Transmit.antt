-- What each operation makes of the counters and the bytes of TXFIFO1 to 3.
-- 01: "Transmit FIFOs 1 to 3 also have a saved read pointer."
use Rattle.std.specs.Prelude.{ℕ, ◌≡◌, List, leb}
use Rattle.choice.specs.Choice.{pick}
use Rattle.txfifo.specs.declared.TxFifo.{TxFifo}
use Rattle.window.specs.declared.FifoNumber.{FifoNumber}
use Rattle.window.specs.declared.Kind.TheVariants.{Transmit}
use Rattle.window.specs.Window.{tx_size, start_of}
use Rattle.ring.specs.Ring.{next, level, full, store, contents}

-- "Reset: all zero"; "A flush zeroes all of them". The bytes in memory stay: nothing but a refill could show them, and saved is 0 too
abbrev pub reset_tx : TxFifo
reset_tx = record { read = 0; write = 0; saved = 0 }

-- the bytes to send, first to last
abbrev pub tx_contents : FifoNumber → TxFifo → List ℕ → List ℕ
tx_contents n f m = contents (start_of Transmit n) tx_size m f.read f.write

-- "TXD write appends, ignored when full"
unfoldable pub put_tx : TxFifo → TxFifo
put_tx f = pick (full tx_size f.read f.write) f (record { read = f.read; write = next f.write; saved = f.saved })

abbrev pub put_tx_bytes : FifoNumber → TxFifo → ℕ → List ℕ → List ℕ
put_tx_bytes n f b m = pick (full tx_size f.read f.write) m (store (start_of Transmit n) tx_size f.write b m)

pub record PutTx (n : FifoNumber) (f : TxFifo) (b : ℕ) (m : List ℕ) (r : TxFifo) (m' : List ℕ) : Type 0 where
  pub counters : r ≡ put_tx f
  pub bytes : m' ≡ put_tx_bytes n f b m

-- "bytes that go without a flush go by read moving to write"
abbrev pub spend_tx : TxFifo → TxFifo
spend_tx f = record { read = f.write; write = f.write; saved = f.saved }

-- "RFF sets read to saved when write - saved is at most 64 (H: more, nothing)"
unfoldable pub refill_tx : TxFifo → TxFifo
refill_tx f = pick (leb (level f.saved f.write) 64) (record { read = f.saved; write = f.write; saved = f.saved }) f

-- "LAST sets saved to read"
abbrev pub mark_tx : TxFifo → TxFifo
mark_tx f = record { read = f.read; write = f.write; saved = f.read }

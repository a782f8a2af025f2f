-- What the counts of TXS and RXS say, for every level: 30 and 14 are exact, 31 means "31 or more" and 15 "15 or more".
-- Assumes nothing.
use Prim.Native.Nat.{ℕ, ◌+◌, ◌*◌, ◌%◌, ◌≤◌, min}
use native.Mathlib.Omega.{arith}
use mathlib.Core.Path.{◌≡◌, refl}
use Rattle.window.specs.Window.{tx_size, size0}
use Rattle.ring.specs.Ring.{level, free}
use Rattle.fifo0.specs.Control.{rcount}
use Rattle.epc.specs.Bits.{bit_of}
use Rattle.sender.specs.declared.Sender.{Sender}
use Rattle.sender.specs.Sender as sender
use Rattle.receiver.specs.declared.Receiver.{Receiver}
use Rattle.receiver.specs.Receiver as receiver
use Rattle.control.specs.declared.Control.{Control}
use Rattle.control.specs.Registers as control

-- a count of at most n beside flags that are multiples of n + 1
tx_count : (flags count : ℕ) → (32 * flags + min count 31) % 32 ≡ min count 31
tx_count flags count = omega arith

rx_count : (flags count : ℕ) → (16 * flags + min count 15) % 16 ≡ min count 15
rx_count flags count = omega arith

module _ (s : Sender) where
  abbrev free_of : ℕ
  free_of = free tx_size s.fifo.read s.fifo.write

  tx_shows : sender.status_of s % 32 ≡ min free_of 31
  tx_shows = omega (arith, tx_count (4 * bit_of s.urun + 2 * bit_of s.ack + bit_of s.done) free_of)

  -- TXS1 to 3 show at most 30: exactly so many bytes are free
  pub tx_exact : sender.status_of s % 32 ≤ 30 → free tx_size s.fifo.read s.fifo.write ≡ sender.status_of s % 32
  tx_exact small = omega (arith, tx_shows)

  -- they show 31: 31 bytes or more
  pub tx_more : sender.status_of s % 32 ≡ 31 → 31 ≤ free tx_size s.fifo.read s.fifo.write
  tx_more most = omega (arith, tx_shows)

-- 31 free bytes and 64 show alike
pub tx_31_64 : min (free tx_size 0 33) 31 ≡ min (free tx_size 0 0) 31
tx_31_64 = refl

-- TXS0 is always exact
pub tx0_exact : (c : Control) → control.tx_status c % 32 ≡ free size0 c.fifo.read c.fifo.write
tx0_exact c = omega (arith, tx_count (2 * bit_of c.ack + bit_of c.done) (free size0 c.fifo.read c.fifo.write))

module _ (r : Receiver) where
  abbrev level_of : ℕ
  level_of = level r.fifo.read r.fifo.write

  rx_shows : receiver.status_of r % 16 ≡ min level_of 15
  rx_shows = omega (arith, rx_count (8 * bit_of r.err + 4 * bit_of r.setup + 2 * bit_of r.toggle + bit_of r.last) level_of)

  -- RXS1 to 3 show at most 14: exactly so many bytes were received
  pub rx_exact : receiver.status_of r % 16 ≤ 14 → level r.fifo.read r.fifo.write ≡ receiver.status_of r % 16
  rx_exact small = omega (arith, rx_shows)

  -- they show 15: 15 bytes or more
  pub rx_more : receiver.status_of r % 16 ≡ 15 → 15 ≤ level r.fifo.read r.fifo.write
  rx_more most = omega (arith, rx_shows)

-- RXS0 shows at most 8 in a well-formed state, so it is exact there
pub rx0_exact : (c : Control) → rcount c.fifo ≤ 8 → control.rx_status c % 16 ≡ rcount c.fifo
rx0_exact c small = omega (arith, rx_count (4 * bit_of c.setup + 2 * bit_of c.toggle + bit_of c.last) (rcount c.fifo))

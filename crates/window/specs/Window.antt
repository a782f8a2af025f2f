-- Which of the 392 lent bytes are whose: FIFO0 first, then TXFIFO1 to 3, then RXFIFO1 to 3.
-- 01: "FIFO0 holds 8 bytes, sent or received"; "TXFIFO1 to 3 .. RXFIFO1 to 3; 64 bytes each". The order is ours.
use Rattle.std.specs.Prelude.{ℕ, ◌+◌, ◌*◌, List, take, drop, eqb}
use Rattle.choice.specs.Choice.{pick}
use Rattle.window.specs.declared.FifoNumber.{FifoNumber}
use Rattle.window.specs.declared.Kind.{Kind}
use Rattle.window.specs.declared.Kind.TheVariants.{Control, Transmit, Receive}

-- "Each FIFO kind carries its own size"
abbrev pub size0 : ℕ
size0 = 8

abbrev pub tx_size : ℕ
tx_size = 64

abbrev pub rx_size : ℕ
rx_size = 64

abbrev pub size_of : Kind → ℕ
size_of Control = size0
size_of Transmit = tx_size
size_of Receive = rx_size

-- how many of its kind stand before it: TXFIFO1 and RXFIFO1 are the first. Every number has a window: any but 1 and 2, FIFO0's 0 too, is
-- taken for the third; only 1 to 3 are ever asked
unfoldable pub index_of : FifoNumber → ℕ
index_of n = pick (eqb n.0 1) 0 (pick (eqb n.0 2) 1 2)

-- a FIFO by its number; FIFO0 is 0
abbrev pub numbered : ℕ → FifoNumber
numbered n = record { 0 = n }

abbrev pub fifo0 : FifoNumber
fifo0 = numbered 0

-- where the window of a kind and a number starts
abbrev pub start_of : Kind → FifoNumber → ℕ
start_of Control n = 0
start_of Transmit n = size0 + tx_size * index_of n
start_of Receive n = size0 + 3 * tx_size + rx_size * index_of n

-- the bytes of a window
abbrev pub window : ℕ → ℕ → List ℕ → List ℕ
window start size memory = take size (drop start memory)

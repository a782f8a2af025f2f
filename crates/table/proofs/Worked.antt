-- What the table's examples are made of, and examples beside the table.
-- Assumes nothing.
use mathlib.Core.Path.{◌≡◌, refl}
use Prim.Native.Nat.{ℕ}
use mathlib.Core.List.{List, [], ◌∷◌}
use borrow.Author.Tests.{le-leb}
use native.Mathlib.Omega.{arith}
use Rattle.choice.specs.Choice.{pick}
use Rattle.window.specs.declared.FifoNumber.{FifoNumber}
use Rattle.ring.specs.Ring.{level}
use Rattle.txfifo.specs.declared.TxFifo.{TxFifo}
use Rattle.txfifo.specs.Transmit.{put_tx, put_tx_bytes}
use Rattle.contents.proofs.Transmit.{put_tx_ignored}
use Rattle.sender.specs.declared.Sender.{Sender}
use Rattle.sender.specs.Sender.{reset_sender, with_fifo}
use Rattle.trace.specs.Number.{number_from}
use Rattle.trace.specs.Record.{refuse, read_at, record_at}

-- a sender after reset with so many bytes in its FIFO
abbrev pub filled : ℕ → Sender
filled n = with_fifo (record { read = 0; write = n; saved = 0 }) reset_sender

-- a full FIFO takes no byte
pub full_ignores : (n : FifoNumber) (f : TxFifo) (m : List ℕ) (b : ℕ) → level f.read f.write ≡ 64 → (put_tx f ≡ f) × (put_tx_bytes n f b m ≡ m)
full_ignores n f m b full = put_tx_ignored n f m b (le-leb 64 (level f.read f.write) (omega arith))

-- The kind is itself a number: 89 00 is refusal 2, 89 01 refusal 3, 80 alone refusal 1
pub kind_not_shortest : read_at (0x89 ∷ 0x00 ∷ []) 0 ≡ refuse 2 0
unfolding read_at record_at number_from pick
kind_not_shortest = refl

pub kind_outside : read_at (0x89 ∷ 0x01 ∷ []) 0 ≡ refuse 3 0
unfolding read_at record_at number_from pick
kind_outside = refl

pub kind_cut : read_at (0x80 ∷ []) 0 ≡ refuse 1 0
unfolding read_at record_at number_from pick
kind_cut = refl

-- A refill after a spend brings back the same list.
-- Assumes nothing.
use Prim.Native.Nat.{ℕ, ◌≤◌}
use native.Mathlib.Omega.{arith}
use mathlib.Core.Path.{◌≡◌, ◌∙◌}
use mathlib.Core.List.{List, [], append-nil}
use lib.ListN.{length}
use Rattle.window.specs.declared.FifoNumber.{FifoNumber}
use Rattle.txfifo.specs.declared.TxFifo.{TxFifo}
use Rattle.ring.specs.Ring.{level}
use Rattle.txfifo.specs.Transmit.{tx_contents, spend_tx, refill_tx}
use Rattle.contents.proofs.Ring.{Counters}
use Rattle.contents.proofs.Transmit.{put_all_tx, put_all_tx_bytes, refill_tx_restores}

-- With nothing put since, the same list comes back.
pub refill_tx_returns : (n : FifoNumber) (f : TxFifo) (m : List ℕ)
    → Counters f.read f.write → length m ≡ 392 → level f.read f.write ≤ 64 → f.saved ≡ f.read
    → tx_contents n (refill_tx (spend_tx f)) m ≡ tx_contents n f m
unfolding put_all_tx put_all_tx_bytes
refill_tx_returns n f m c l le marked = refill_tx_restores n [] f m c l (omega arith) marked ∙ append-nil (tx_contents n f m)

-- The endpoint at a FIFO number where one was put.
-- Assumes nothing.
use Prim.Native.Nat.{◌<◌}
use native.Mathlib.Omega.{arith}
use mathlib.Core.Path.{◌≡◌}
use lib.ListN.{length}
use lib.Seq.{get_or-set_same}
use Rattle.window.specs.declared.FifoNumber.{FifoNumber}
use Rattle.window.specs.Window.{index_of}
use Rattle.contents.proofs.Inside.{index_small}
use Rattle.sender.specs.declared.Sender.{Sender}
use Rattle.sender.specs.Sender.{reset_sender}
use Rattle.receiver.specs.declared.Receiver.{Receiver}
use Rattle.receiver.specs.Receiver.{reset_receiver}
use Rattle.state.specs.declared.Chip.{Chip}
use Rattle.state.specs.State.{sender_at, receiver_at}
use Rattle.state.specs.Set.{with_sender, with_receiver}

pub sender_same : (n : FifoNumber) (x : Sender) (c : Chip) → length c.senders ≡ 3 → sender_at n (with_sender n x c) ≡ x
sender_same n x c l =
    let small : index_of n < length c.senders = omega (arith, index_small n) in
    get_or-set_same c.senders (index_of n) x reset_sender small

pub receiver_same : (n : FifoNumber) (x : Receiver) (c : Chip) → length c.receivers ≡ 3 → receiver_at n (with_receiver n x c) ≡ x
receiver_same n x c l =
    let small : index_of n < length c.receivers = omega (arith, index_small n) in
    get_or-set_same c.receivers (index_of n) x reset_receiver small

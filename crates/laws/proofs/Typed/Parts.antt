-- Every operation on an endpoint keeps its numbers bytes.
-- Assumes nothing.
use Prim.Native.Nat.{ℕ}
use native.Mathlib.Omega.{arith}
use mathlib.Core.Bool.{Bool}
use mathlib.Core.List.{List}
use Rattle.choice.proofs.ByTest.{by_test}
use Rattle.window.specs.declared.FifoNumber.{FifoNumber}
use Rattle.window.specs.declared.Kind.TheVariants.{Control, Receive}
use Rattle.window.specs.Window.{fifo0, size0, rx_size, start_of}
use Rattle.ring.specs.declared.Taken.{Taken}
use Rattle.ring.specs.Ring.{place}
use Rattle.txfifo.specs.declared.TxFifo.{TxFifo}
use Rattle.txfifo.specs.Transmit.{put_tx, refill_tx}
use Rattle.rxfifo.specs.declared.RxFifo.{RxFifo}
use Rattle.rxfifo.specs.Receive.{take_rx, fill_rx}
use Rattle.fifo0.specs.declared.Fifo0.{Fifo0}
use Rattle.fifo0.specs.Control.{put0, take0, fill0}
use Rattle.sender.specs.declared.Sender.{Sender}
use Rattle.sender.specs.Sender as sender
use Rattle.receiver.specs.declared.Receiver.{Receiver}
use Rattle.receiver.specs.Receiver as receiver
use Rattle.control.specs.declared.Control.{Control as EndpointZero}
use Rattle.control.specs.Registers.{flushed_by, tx_command, rx_bits, rx_command}
use Rattle.laws.specs.Typed.{Byte, Bytes, Typed0, TypedTx, TypedRx, TypedSender, TypedReceiver}

-- Endpoints 1, 3, 5: a TXD write, a TXC byte, the answer to an IN token.
module _ (s : Sender) (t : TypedSender s) where
  pub put_typed : TypedSender (sender.with_fifo (put_tx s.fifo) s)
  unfolding put_tx
  put_typed = by_test (λ (f : TxFifo). TypedTx f s.epc s.high) _ (λ _. t) (λ _. omega arith)

  refill_typed : TypedSender (sender.with_fifo (refill_tx s.fifo) s)
  unfolding refill_tx
  refill_typed = by_test (λ (f : TxFifo). TypedTx f s.epc s.high) _ (λ _. omega arith) (λ _. t)

  moved_typed : (v : ℕ) → TypedSender (sender.moved v s)
  unfolding sender.moved
  moved_typed v = by_test TypedSender _ (λ _. omega arith) (λ _. by_test TypedSender _ (λ _. refill_typed) (λ _. t))

  marked_typed : (v : ℕ) → TypedSender (sender.marked v s)
  unfolding sender.marked
  marked_typed v = by_test TypedSender _ (λ _. omega arith) (λ _. t)

  pub sent_typed : TypedSender (sender.sent s)
  unfolding sender.sent
  sent_typed =
      by_test TypedSender _ (λ _.
      by_test TypedSender _ (λ _. t) (λ _.
      by_test TypedSender _ (λ _. omega arith) (λ _. omega arith))) (λ _. t)

pub command_typed : (operational : Bool) (v : ℕ) (s : Sender) → Byte v → TypedSender s → TypedSender (sender.command operational v s)
unfolding sender.command
command_typed operational v s small t =
    let m : TypedSender (sender.moved v s) = moved_typed s t v in
    by_test TypedSender _ (λ _. marked_typed _ (omega arith) v) (λ _. omega arith)

-- Endpoints 2, 4, 6: an RXC byte, an RXD read, data.
module _ (s : Receiver) (t : TypedReceiver s) where
  flushed_typed : (v : ℕ) → TypedReceiver (receiver.flushed v s)
  unfolding receiver.flushed
  flushed_typed v = by_test TypedReceiver _ (λ _. omega arith) (λ _. t)

  pub rx_command_typed : (operational : Bool) (v : ℕ) → TypedReceiver (receiver.command operational v s)
  rx_command_typed operational v = let m : TypedReceiver (receiver.flushed v s) = flushed_typed v in omega arith

  pub rx_take_typed : (n : FifoNumber) (m : List ℕ) → Bytes m → TypedReceiver (receiver.take_byte n s m).next
  unfolding take_rx
  rx_take_typed n m b =
      by_test (λ (r : Taken RxFifo). TypedRx r.next s.epc s.middle) _ (λ _. t) (λ _.
      omega (arith, b (place (start_of Receive n) rx_size s.fifo.read)))

  fill_typed : (bytes : List ℕ) → TypedRx (fill_rx s.fifo bytes) s.epc s.middle
  unfolding fill_rx
  fill_typed bytes = by_test (λ (f : RxFifo). TypedRx f s.epc s.middle) _ (λ _. omega arith) (λ _. t)

  pub rx_received_typed : (pid sound : Bool) (bytes : List ℕ) → TypedReceiver (receiver.received pid sound bytes s)
  unfolding receiver.received
  rx_received_typed pid sound bytes =
      by_test TypedReceiver _ (λ _. t) (λ _.
      by_test TypedReceiver _ (λ _. by_test TypedReceiver _ (λ _. t) (λ _. t)) (λ _.
      by_test TypedReceiver _ (λ _. t) (λ _.
      by_test TypedReceiver _ (λ _. fill_typed bytes) (λ _.
      by_test TypedReceiver _ (λ _. t) (λ _. fill_typed bytes)))))

-- Endpoint 0: a TXC0 byte, an RXC0 byte; a TXD0 write, an RXD0 read, data.
module _ (z : EndpointZero) (t : Typed0 z.fifo) where
  pub flushed_by_typed : (v : ℕ) → Typed0 (flushed_by v z).fifo
  unfolding flushed_by
  flushed_by_typed v = by_test (λ (y : EndpointZero). Typed0 y.fifo) _ (λ _. omega arith) (λ _. t)

  pub tx_command0_typed : (operational : Bool) (v : ℕ) → Typed0 (tx_command operational v z).fifo
  unfolding tx_command
  tx_command0_typed operational v = flushed_by_typed v

  pub rx_bits0_typed : (operational : Bool) (v : ℕ) → Typed0 (rx_bits operational v z).fifo
  unfolding rx_bits
  rx_bits0_typed operational v = t

pub rx_command0_typed : (z : EndpointZero) → Typed0 z.fifo → (operational : Bool) (v : ℕ) → Typed0 (rx_command operational v z).fifo
rx_command0_typed z t operational v = rx_bits0_typed (flushed_by v z) (flushed_by_typed z t v) operational v

module _ (f : Fifo0) (t : Typed0 f) where
  pub put0_typed : Typed0 (put0 f)
  unfolding put0
  put0_typed = by_test Typed0 _ (λ _. t) (λ _. omega arith)

  pub take0_typed : (m : List ℕ) → Bytes m → Typed0 (take0 f m).next
  unfolding take0
  take0_typed m b =
      by_test (λ (r : Taken Fifo0). Typed0 r.next) _ (λ _. t) (λ _. omega (arith, b (place (start_of Control fifo0) size0 f.read)))

  pub fill0_typed : (s : List ℕ) → Typed0 (fill0 f s)
  unfolding fill0
  fill0_typed s = by_test Typed0 _ (λ _. omega arith) (λ _. t)

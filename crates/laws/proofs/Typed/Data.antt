-- Data keeps the chip's state typed, and the lent memory.
-- Assumes nothing.
use Prim.Native.Nat.{ℕ}
use native.Mathlib.Omega.{arith}
use mathlib.Core.Bool.{Bool}
use mathlib.Core.List.{List}
use lib.ListN.{length}
use Rattle.choice.proofs.ByTest.{by_test}
use Rattle.window.specs.declared.FifoNumber.{FifoNumber}
use Rattle.window.specs.declared.Kind.TheVariants as kind
use Rattle.window.specs.Window.{fifo0, size0, rx_size, start_of, index_of}
use Rattle.fifo0.specs.declared.Fifo0.{Fifo0}
use Rattle.fifo0.specs.Control.{fill0_bytes, spend0}
use Rattle.rxfifo.specs.declared.RxFifo.{RxFifo}
use Rattle.rxfifo.specs.Receive.{fill_rx_bytes}
use Rattle.verdict.specs.declared.Judged.{Judged}
use Rattle.verdict.specs.declared.Judged.TheVariants as judged
use Rattle.receiver.specs.Receiver as receiver
use Rattle.control.specs.declared.Control.{Control}
use Rattle.controlbus.specs.Bus as zero
use Rattle.controlbus.specs.Setup as setup
use Rattle.state.specs.declared.Endpoint.{Endpoint}
use Rattle.state.specs.declared.Wait.{Wait}
use Rattle.state.specs.declared.Wait.TheVariants as wait
use Rattle.state.specs.declared.Chip.{Chip}
use Rattle.state.specs.State.{receiver_at, fifo_of}
use Rattle.data.specs.Data.{marked_out, overrun, judged_at, data_zero, data_zero_bytes, data_receiver, data_receiver_bytes, data_setup, data_setup_bytes, data_at_bytes, data_in_bytes, data_now, data_now_bytes}
use Rattle.laws.specs.Typed.{Bytes, TypedChip, TypedMemory}
use Rattle.laws.proofs.Typed.Steps.{judged_by, data_by}
use Rattle.laws.proofs.Typed.Bus.{Zero, Gives, idled_typed}
use Rattle.laws.proofs.Typed.Arrays.{store_all_typed}
use Rattle.laws.proofs.Typed.Parts.{rx_received_typed, fill0_typed}
use Rattle.laws.proofs.Typed.Chip.{with_control_typed, with_receiver_typed, overran_typed, nakked_out_typed}

-- the answer to data, and its bits
module _ (n : Chip) (t : TypedChip n) where
  marked_out_typed : (k : FifoNumber) → TypedChip (marked_out k n)
  unfolding marked_out
  marked_out_typed k = nakked_out_typed n t k

  overrun_typed : (k : FifoNumber) → TypedChip (overrun k n)
  unfolding overrun
  overrun_typed k = overran_typed n t k

  judged_at_typed : (j : Judged) (k : FifoNumber) → Gives (judged_at j k n)
  judged_at_typed j k = judged_by TypedChip n t j k (marked_out_typed k) (overrun_typed k)

module _ (pid sound : Bool) (s : List ℕ) (z : Control) (t : Zero z) where
  stored_typed : Zero (zero.stored pid z s)
  unfolding zero.stored
  stored_typed = by_test Zero _ (λ _. t) (λ _. fill0_typed z.fifo t s)

  after_out_typed : (j : Judged) → Zero (zero.after_out j pid z s)
  after_out_typed judged.Silence = t
  after_out_typed judged.Nak = t
  after_out_typed judged.Stall = t
  after_out_typed judged.Overrun = t
  after_out_typed judged.Ack = stored_typed

  after_setup_typed : (j : Judged) → Zero (setup.after_setup j z s)
  unfolding setup.after_setup
  after_setup_typed j =
      by_test Zero _ (λ _. by_test Zero _ (λ _. t) (λ _. fill0_typed (spend0 z.fifo) (omega arith) s)) (λ _. t)

module _ (pid sound : Bool) (c : Chip) (t : TypedChip c) (s : List ℕ) where
  data_zero_typed : Gives (data_zero pid sound c s)
  unfolding data_zero
  data_zero_typed =
      let j : Judged = zero.judge_out sound (length s) c.control in
      judged_at_typed _ (idled_typed _ (with_control_typed c t _ (after_out_typed pid sound s c.control t.control j))) j fifo0

  data_receiver_typed : (n : FifoNumber) → Gives (data_receiver n pid sound c s)
  unfolding data_receiver
  data_receiver_typed n =
      let r : _ = rx_received_typed (receiver_at n c) (t.receivers.each (index_of n)) pid sound s in
      judged_at_typed _ (idled_typed _ (with_receiver_typed c t n _ r)) (receiver.judged sound (length s) (receiver_at n c)) n

  data_setup_typed : Gives (data_setup pid sound c s)
  unfolding data_setup
  data_setup_typed =
      let j : Judged = setup.judge_setup pid sound (length s) c.control in
      judged_at_typed _ (idled_typed _ (with_control_typed c t _ (after_setup_typed pid sound s c.control t.control j))) j fifo0

  -- So does data.
  pub data_typed : TypedChip (data_now pid sound c s).chip
  data_typed = data_by TypedChip c t pid sound s data_zero_typed data_receiver_typed data_setup_typed

-- ---- the lent memory

module _ (pid sound : Bool) (c : Chip) (s : List ℕ) (hs : Bytes s) (m : List ℕ) (h : TypedMemory m) where
  fill0_bytes_typed : (f : Fifo0) → TypedMemory (fill0_bytes f s m)
  fill0_bytes_typed f = by_test TypedMemory _ (λ _. store_all_typed (start_of kind.Control fifo0) size0 f.write s m hs h) (λ _. h)

  fill_rx_bytes_typed : (n : FifoNumber) (f : RxFifo) → TypedMemory (fill_rx_bytes n f s m)
  fill_rx_bytes_typed n f = by_test TypedMemory _ (λ _. store_all_typed (start_of kind.Receive n) rx_size f.write s m hs h) (λ _. h)

  data_zero_bytes_typed : TypedMemory (data_zero_bytes sound c s m)
  unfolding data_zero_bytes
  data_zero_bytes_typed =
      by_test TypedMemory _ (λ _. by_test TypedMemory _ (λ _. h) (λ _. fill0_bytes_typed c.control.fifo)) (λ _. h)

  data_receiver_bytes_typed : (n : FifoNumber) → TypedMemory (data_receiver_bytes n sound c s m)
  unfolding data_receiver_bytes receiver.received_bytes
  data_receiver_bytes_typed n =
      by_test TypedMemory _ (λ _. h) (λ _.
      by_test TypedMemory _ (λ _. h) (λ _.
      by_test TypedMemory _ (λ _. h) (λ _.
      by_test TypedMemory _ (λ _. fill_rx_bytes_typed n (receiver_at n c).fifo) (λ _.
      by_test TypedMemory _ (λ _. h) (λ _. fill_rx_bytes_typed n (receiver_at n c).fifo)))))

  data_setup_bytes_typed : TypedMemory (data_setup_bytes pid sound c s m)
  unfolding data_setup_bytes
  data_setup_bytes_typed =
      by_test TypedMemory _ (λ _. by_test TypedMemory _ (λ _. h) (λ _. fill0_bytes_typed (spend0 c.control.fifo))) (λ _. h)

  data_at_bytes_typed : (e : Endpoint) → TypedMemory (data_at_bytes e sound c s m)
  unfolding data_at_bytes
  data_at_bytes_typed e = by_test TypedMemory _ (λ _. data_zero_bytes_typed) (λ _. data_receiver_bytes_typed (fifo_of e))

  data_in_bytes_typed : (w : Wait) → TypedMemory (data_in_bytes w pid sound c s m)
  data_in_bytes_typed wait.Nothing = h
  data_in_bytes_typed (wait.Handshake e) = h
  data_in_bytes_typed (wait.Data e) = data_at_bytes_typed e
  data_in_bytes_typed wait.Setup = data_setup_bytes_typed

  -- Data keeps the lent memory.
  pub data_bytes_typed : TypedMemory (data_now_bytes pid sound c s m)
  data_bytes_typed = data_in_bytes_typed c.pending.wait

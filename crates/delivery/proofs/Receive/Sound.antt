-- What data leaves where endpoint 2 is ready: sound data is stored, damage leaves RX_ERR.
-- Assumes nothing.
use Prim.Native.Nat.{ℕ, ◌≤◌}
use native.Mathlib.Omega.{arith}
use mathlib.Core.Path.{◌≡◌, refl, ap, ◌∙◌}
use mathlib.Core.Bool.{Bool, true, false}
use mathlib.Core.List.{List, [], ◌++◌}
use lib.ListN.{length}
use borrow.Author.Tests.{ne_eqb}
use Rattle.choice.specs.Choice.{pick}
use Rattle.window.specs.declared.FifoNumber.{FifoNumber}
use Rattle.window.specs.declared.Kind.TheVariants.{Receive}
use Rattle.window.specs.Window.{rx_size, start_of}
use Rattle.rxfifo.specs.Receive.{rx_contents, fill_rx, fill_rx_bytes}
use Rattle.contents.proofs.Ring.{Counters, contents_none}
use Rattle.contents.proofs.Receive.{fill_rx_appends}
use Rattle.verdict.specs.declared.Judged.TheVariants as verdict
use Rattle.receiver.specs.declared.Receiver.{Receiver}
use Rattle.receiver.specs.Receiver.{with_fifo, good, judged, received, received_bytes}
use Rattle.delivery.proofs.Receive.Storing.{Ready, Shut, Stores, fits}

module _ (n : FifoNumber) (r : Receiver) (m bytes : List ℕ) (h : Ready r) (clear : r.epc.stall ≡ false) (short : length bytes ≤ 64) where
  -- A packet of a byte or more is stored whole and acknowledged.
  pub sound_judged : judged true (length bytes) r ≡ verdict.Ack
  unfolding judged pick
  sound_judged = rw (h.enabled, clear, (fits n r m bytes h clear short))

  sound_received : (pid : Bool) → 1 ≤ length bytes → received pid true bytes r ≡ good pid (with_fifo (fill_rx r.fifo bytes) r)
  unfolding received pick
  sound_received pid some = rw (h.enabled, clear, (fits n r m bytes h clear short), ne_eqb (length bytes) 0 (omega arith))

  sound_bytes : 1 ≤ length bytes → received_bytes n true bytes r m ≡ fill_rx_bytes n r.fifo bytes m
  unfolding received_bytes pick
  sound_bytes some = rw (h.enabled, clear, (fits n r m bytes h clear short), ne_eqb (length bytes) 0 (omega arith))

  pub sound_stores : (pid : Bool) → Counters r.fifo.read r.fifo.write → length m ≡ 392 → 1 ≤ length bytes
      → Stores pid bytes (rx_contents n (received pid true bytes r).fifo (received_bytes n true bytes r m)) (received pid true bytes r)
  sound_stores pid k l some =
      let e : rx_contents n (fill_rx r.fifo bytes) (fill_rx_bytes n r.fifo bytes m) ≡ rx_contents n r.fifo m ++ bytes =
      fill_rx_appends n r.fifo m bytes k l (fits n r m bytes h clear short) in
      let z : rx_contents n r.fifo m ≡ [] = contents_none (start_of Receive n) rx_size m r.fifo.read r.fifo.write h.empty in
      let w : rx_contents n r.fifo m ++ bytes ≡ bytes = ap (λ (c : List ℕ). c ++ bytes) z in
      rw (sound_received pid some, sound_bytes some)
      (record { shut = record { enabled = refl; flagged = refl }; waiting = λ x. rw h.err; whole = e ∙ w })

  -- Damaged data is not answered, and leaves RX_ERR.
  pub unsound_judged : judged false (length bytes) r ≡ verdict.Silence
  unfolding judged pick
  unsound_judged = rw (h.enabled, clear, (fits n r m bytes h clear short))

  pub unsound_shuts : (pid : Bool) → Shut (received pid false bytes r) × ((received pid false bytes r).err ≡ true)
  unfolding received pick
  unsound_shuts pid = rw (h.enabled, clear, (fits n r m bytes h clear short)) (record { enabled = refl; flagged = rw h.last }, refl)

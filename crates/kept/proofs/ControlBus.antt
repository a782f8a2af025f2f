-- A bus event keeps endpoint 0 well formed in the operational state, where the enables are free. FIFO0's counters are under 256.
-- Assumes nothing.
use Prim.Native.Nat.{ℕ}
use mathlib.Core.Path.{◌≡◌, refl}
use mathlib.Core.Bool.{Bool, true, false}
use lib.ListN.{length}
use mathlib.Core.List.{List}
use Rattle.choice.proofs.ByTest.{by_test}
use Rattle.contents.proofs.Ring.{Counters}
use Rattle.fifo0.specs.Control.{spend0}
use Rattle.control.specs.declared.Control.{Control}
use Rattle.control.specs.State.{well_formed, with_receives, with_mark}
use Rattle.kept.proofs.Control.{in_order, well, spend0_in_order, fill0_in_order}
use Rattle.controlbus.specs.declared.Sent0.{Sent0}
use Rattle.controlbus.specs.declared.Sent0.TheVariants as answer
use Rattle.verdict.specs.declared.Judged.{Judged}
use Rattle.verdict.specs.declared.Judged.TheVariants as judged
use Rattle.controlbus.specs.Bus.{answer_in, after_in, sent, handshake, judge_out, stored, after_out, received, out_token}
use Rattle.controlbus.specs.Setup.{setup_dropped, taken, after_setup, received_setup}

abbrev pub Well : Control → Type 0
Well c = well_formed true c ≡ true

module _ (c : Control) (h : Well c) where
  after_in_keeps : (a : Sent0) → Well (with_mark false (after_in a c))
  unfolding well_formed
  after_in_keeps answer.Silence = h
  after_in_keeps answer.Nak = h
  after_in_keeps answer.Stall = h
  after_in_keeps answer.Data0 = h
  after_in_keeps answer.Data1 = h

  -- After the answer to an IN token.
  pub sent_keeps : Well (sent c)
  sent_keeps = after_in_keeps (answer_in c)

  -- After the end of the wait.
  pub handshake_keeps : (acked : Bool) → Well (handshake acked c)
  unfolding handshake
  handshake_keeps acked = by_test Well acked (λ _. well true _ (spend0_in_order c.fifo) refl) (λ _. h)

  -- After an OUT token; after a SETUP token whose data did not come.
  pub out_token_keeps : Well (out_token c)
  unfolding well_formed
  out_token_keeps = h

  pub setup_dropped_keeps : Well (setup_dropped c)
  unfolding well_formed
  setup_dropped_keeps = h

  disarmed_keeps : Well (with_receives false c)
  unfolding well_formed
  disarmed_keeps = h

module _ (c : Control) (h : Well c) (k : Counters c.fifo.read c.fifo.write) (pid sound : Bool) (s : List ℕ) where
  stored_keeps : Well (stored pid c s)
  unfolding stored
  stored_keeps = by_test Well _ (λ _. disarmed_keeps c h) (λ _. well true _ (fill0_in_order c.fifo k (in_order true c h) s) refl)

  after_out_keeps : (j : Judged) → Well (after_out j pid c s)
  unfolding well_formed
  after_out_keeps judged.Silence = h
  after_out_keeps judged.Nak = h
  after_out_keeps judged.Stall = h
  after_out_keeps judged.Overrun = h
  after_out_keeps judged.Ack = stored_keeps

  -- After data for an OUT token.
  pub received_keeps : Well (received pid sound c s)
  received_keeps = after_out_keeps (judge_out sound (length s) c)

  taken_keeps : Well (taken c s)
  taken_keeps =
      let e : Counters c.fifo.write c.fifo.write = record { read_small = k.write_small; write_small = k.write_small } in
      well true (taken c s) (fill0_in_order (spend0 c.fifo) e (spend0_in_order c.fifo) s) refl

  -- After data for a SETUP token.
  pub received_setup_keeps : Well (received_setup pid sound c s)
  unfolding after_setup
  received_setup_keeps = by_test Well _ (λ _. by_test Well _ (λ _. h) (λ _. taken_keeps)) (λ _. setup_dropped_keeps c h)

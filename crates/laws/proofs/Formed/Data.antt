-- Data keeps a state well formed, in the operational state.
-- Assumes nothing.
use Prim.Native.Nat.{ℕ}
use mathlib.Core.Bool.{Bool, true}
use mathlib.Core.List.{List}
use lib.ListN.{length}
use Rattle.window.specs.declared.FifoNumber.{FifoNumber}
use Rattle.window.specs.Window.{fifo0, index_of}
use Rattle.verdict.specs.declared.Judged.{Judged}
use Rattle.receiver.specs.Receiver as receiver
use Rattle.controlbus.specs.Bus as zero
use Rattle.controlbus.specs.Setup as setup
use Rattle.kept.proofs.Receiver as kept-receiver
use Rattle.kept.proofs.ControlBus as kept-bus
use Rattle.state.specs.declared.Chip.{Chip}
use Rattle.state.specs.State.{receiver_at}
use Rattle.data.specs.Data.{marked_out, overrun, judged_at, data_zero, data_receiver, data_setup, data_now}
use Rattle.laws.specs.Typed.{TypedChip}
use Rattle.laws.proofs.Typed.Steps.{judged_by, data_by}
use Rattle.laws.proofs.Formed.Facts.{Facts, with_control_well, with_receiver_well, with_events_well}
use Rattle.laws.proofs.Formed.Registers.{counters0, counters_rx}
use Rattle.laws.proofs.Formed.Ends.{idled_facts}
use Rattle.laws.proofs.Formed.Tokens.{Gives}

-- the answer to data, and its bits
module _ (n : Chip) (f : Facts true n) where
  marked_out_facts : (k : FifoNumber) → Facts true (marked_out k n)
  unfolding marked_out
  marked_out_facts k = with_events_well true n f _

  overrun_facts : (k : FifoNumber) → Facts true (overrun k n)
  unfolding overrun
  overrun_facts k = with_events_well true n f _

  judged_at_facts : (j : Judged) (k : FifoNumber) → Gives (judged_at j k n)
  judged_at_facts j k = judged_by (Facts true) n f j k (marked_out_facts k) (overrun_facts k)

module _ (pid sound : Bool) (c : Chip) (t : TypedChip c) (f : Facts true c) (s : List ℕ) where
  data_zero_facts : Gives (data_zero pid sound c s)
  unfolding data_zero
  data_zero_facts =
      let z : _ = kept-bus.received_keeps c.control f.control (counters0 c t) pid sound s in
      judged_at_facts _ (idled_facts true _ (with_control_well true c f _ z)) (zero.judge_out sound (length s) c.control) fifo0

  data_receiver_facts : (n : FifoNumber) → Gives (data_receiver n pid sound c s)
  unfolding data_receiver
  data_receiver_facts n =
      let r : _ = kept-receiver.received_keeps true pid sound s (receiver_at n c) (counters_rx c t n) (f.receivers (index_of n)) in
      judged_at_facts _ (idled_facts true _ (with_receiver_well true c f n _ r)) (receiver.judged sound (length s) (receiver_at n c)) n

  data_setup_facts : Gives (data_setup pid sound c s)
  unfolding data_setup
  data_setup_facts =
      let z : _ = kept-bus.received_setup_keeps c.control f.control (counters0 c t) pid sound s in
      judged_at_facts _ (idled_facts true _ (with_control_well true c f _ z)) (setup.judge_setup pid sound (length s) c.control) fifo0

  -- After data, awaited or not.
  pub data_now_facts : Gives (data_now pid sound c s)
  data_now_facts = data_by (Facts true) c f pid sound s data_zero_facts data_receiver_facts data_setup_facts

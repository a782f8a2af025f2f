-- Demand 3's other premises are needed: for each of them a run that breaks it and loses, doubles or changes a packet, computed by the checker.
-- Assumes nothing.
use mathlib.Core.Path.{◌≡◌, refl}
use mathlib.Core.List.{[], ◌∷◌}
use lib.Count.{count_trailing_zeros}
use Rattle.choice.specs.Choice.{pick}
use Rattle.window.specs.Window.{index_of}
use Rattle.ring.specs.Ring.{store_all, bytes_from}
use Rattle.fifo0.specs.Control.{rcount, put0, take0, fill0}
use Rattle.txfifo.specs.Transmit.{put_tx, refill_tx}
use Rattle.rxfifo.specs.Receive.{take_rx, fill_rx}
use Rattle.event.specs.Event.{ranges, count_of, kind_of, values_of, within, in_range}
use Rattle.epc.specs.Epc.{takes}
use Rattle.verdict.specs.Verdict.{heard}
use Rattle.sender.specs.Sender as sender
use Rattle.sender.specs.Sender.{near, moved, marked, command}
use Rattle.receiver.specs.Receiver as receiver
use Rattle.receiver.specs.Receiver.{flushed, received, received_bytes}
use Rattle.control.specs.State as zero
use Rattle.control.specs.State.{unmarked_empty}
use Rattle.control.specs.Registers.{flushed_by, tx_command, rx_bits}
use Rattle.controlbus.specs.Bus as controlbus
use Rattle.controlbus.specs.Bus.{disabled, handshake, judge_out, stored}
use Rattle.controlbus.specs.Setup.{refused, judge_setup, after_setup}
use Rattle.interrupt.specs.Interrupt.{maev, line}
use Rattle.settings.specs.Settings.{stop_sender, stop_receiver, stop_zero, nfsr_write, mask_write}
use Rattle.reads.specs.Read.{mask_of, control_read, sender_read, receiver_read, read_of}
use Rattle.writes.specs.Write.{control_command, receive_command, control_write, control_bytes, sender_command, sender_write, sender_bytes, receiver_write, write_of, bytes_of}
use Rattle.tokens.specs.Tokens.{own, zero_takes, sender_takes, receiver_takes, in_mask, out_mask, winner}
use Rattle.answer.specs.Answer.{packet_of}
use Rattle.ends.specs.Ends.{idled, done_flush, done_byte, sender_byte, ended_zero, ended_sender, ended_at, dropped_setup}
use Rattle.data.specs.Data.{marked_out, overrun, data_zero, data_zero_bytes, data_receiver, data_receiver_bytes, data_setup, data_setup_bytes, data_at, data_at_bytes}
use Rattle.bus.specs.Bus.{awaiting, marked_in, in_zero, in_sender, in_at, out_at, setup_token}
use Rattle.step.specs.Step.{quiet, read_step, write_step, in_step, out_step, setup_step, data_step, data_step_bytes, end_step, step_of, step_bytes}
use Rattle.packet.specs.Packet.{packet_bytes}
use Rattle.formed.specs.Formed.{sends, receives, unheld, flush_beside, held_beside, pending_for, senders_well, receivers_well, registers_well, well_formed}
use Rattle.laws.specs.Settings.{is_access}
use Rattle.laws.specs.Driver.{reserved}
use Rattle.driver.specs.Registers.{written, written_all, value, seen}
use Rattle.driver.specs.Driver.{set_up, accepted, admission, offered_by, offered, answered, send_served}
use Rattle.receiving.specs.Receive.{taken, rounds, flushing, accepting, judged, receive_served}
use Rattle.delivery.specs.Host.{over, is_over, is_acks, is_datas, is_others, elsewhere, other_token, other_rest}
use Rattle.delivery.specs.World.{start_world, held, is_done, is_delivered, is_taken, called, act_offer, act_send, act_receive, answer_to, happens, hostly, goes, sees, host_in, got_in, act_in, act_ack, is_ack, act_take, act_out, host_out, sent, act_data, after_token, act_other, act, acts}
use Rattle.delivery.specs.Lists.{waiting, has, host_held, recover_sending, recover_receiving, Sent, Received, SentAgain, ReceivedAgain}
use Rattle.delivery.proofs.Runs.Sides.{A, B, sides, same_packet, same_packets, sending, receiving, not_sent, not_received, not_sent_again, not_received_again}
use Rattle.delivery.proofs.Runs.Breaks.{empty_out, after_empty_out, many, long_out, in_left_open, out_left_open, other_left_open, expects_1_at_start, sends_1_at_start, in_reset, in_reset_in_between, out_reset, out_reset_in_between, forged_ack, forged_data, forged_answer, not_kept, old_driver_sends, old_driver_expects, old_packet, old_offer, not_set_up}

-- ---- what the sender knows delivered, what it holds, what the receiver has

pub record Needed : Type 0 where
  -- the driver never sees the empty packet, and RX_EN stays clear: no later packet comes in
  pub on_empty_out : receiving empty_out ≡ sides ([] ∷ []) [] []
  pub on_after_empty_out : receiving after_empty_out ≡ sides ([] ∷ []) (A ∷ []) []
  pub then_after_empty_out : receiving (recover_receiving after_empty_out) ≡ sides ([] ∷ []) (A ∷ []) []
  -- 65 bytes never have room
  pub on_long_out : receiving long_out ≡ sides [] (many ∷ []) []
  pub then_long_out : receiving (recover_receiving long_out) ≡ sides [] (many ∷ []) []
  -- A is lost
  pub on_in_left_open : sending in_left_open ≡ sides (A ∷ []) [] []
  -- the driver has B, which was for another
  pub on_out_left_open : receiving out_left_open ≡ sides [] (A ∷ []) (B ∷ [])
  -- A is lost
  pub on_other_left_open : receiving other_left_open ≡ sides (A ∷ []) [] []
  -- A is taken for a repeat and lost
  pub on_expects_1_at_start : sending expects_1_at_start ≡ sides (A ∷ []) [] []
  pub on_sends_1_at_start : receiving sends_1_at_start ≡ sides (A ∷ []) [] []
  -- B is taken for a repeat and lost
  pub on_in_reset : sending in_reset ≡ sides (A ∷ B ∷ []) [] (A ∷ [])
  pub on_out_reset : receiving out_reset ≡ sides (A ∷ B ∷ []) [] (A ∷ [])
  -- a repeat is taken for a new packet: A, or B, is doubled
  pub on_in_reset_in_between : sending in_reset_in_between ≡ sides (A ∷ []) [] (A ∷ A ∷ [])
  pub on_out_reset_in_between : receiving out_reset_in_between ≡ sides (A ∷ B ∷ []) [] (A ∷ B ∷ B ∷ [])
  -- the driver knows A delivered, which the host never got
  pub on_forged_ack : sending forged_ack ≡ sides (A ∷ []) [] []
  -- the driver has B, which the host never sent
  pub on_forged_data : receiving forged_data ≡ sides [] [] (B ∷ [])
  -- the host knows A delivered, which the driver never got
  pub on_forged_answer : receiving forged_answer ≡ sides (A ∷ []) [] []
  -- B has the toggle of A, is taken for its repeat and lost
  pub on_not_kept : receiving not_kept ≡ sides (B ∷ []) [] (A ∷ [])
  -- A is taken for a repeat and lost
  pub on_old_driver_sends : sending old_driver_sends ≡ sides (A ∷ []) [] []
  pub on_old_driver_expects : receiving old_driver_expects ≡ sides (A ∷ []) [] []
  -- the driver has B, which this host never sent; B goes out before A, as one packet with it
  pub on_old_packet : receiving old_packet ≡ sides [] [] (B ∷ [])
  pub on_old_offer : sending old_offer ≡ sides (A ∷ []) [] ((0x42 ∷ 0x43 ∷ 0x41 ∷ []) ∷ [])
  -- A never goes out, B never comes in
  pub on_not_set_up : sending not_set_up ≡ sides [] (A ∷ []) []
  pub then_not_set_up : sending (recover_sending not_set_up) ≡ sides [] (A ∷ []) []
  pub receives_not_set_up : receiving not_set_up ≡ sides [] (B ∷ []) []
  pub then_receives_not_set_up : receiving (recover_receiving not_set_up) ≡ sides [] (B ∷ []) []
  -- no transaction is open where the recovery begins
  pub over_after_empty_out : after_empty_out.host.at ≡ over
  pub over_long_out : long_out.host.at ≡ over
  pub over_not_set_up : not_set_up.host.at ≡ over

pub needed_runs : Needed
unfolding count_trailing_zeros pick index_of store_all bytes_from rcount put0 take0 fill0 put_tx refill_tx take_rx fill_rx ranges count_of kind_of values_of within in_range takes heard near moved marked command sender.answer_in sender.sent sender.well_formed flushed receiver.judged received received_bytes receiver.well_formed unmarked_empty zero.well_formed flushed_by tx_command rx_bits disabled controlbus.answer_in handshake judge_out stored refused judge_setup after_setup maev line stop_sender stop_receiver stop_zero nfsr_write mask_write mask_of control_read sender_read receiver_read read_of control_command receive_command control_write control_bytes sender_command sender_write sender_bytes receiver_write write_of bytes_of own zero_takes sender_takes receiver_takes in_mask out_mask winner packet_of idled done_flush done_byte sender_byte ended_zero ended_sender ended_at dropped_setup marked_out overrun data_zero data_zero_bytes data_receiver data_receiver_bytes data_setup data_setup_bytes data_at data_at_bytes awaiting marked_in in_zero in_sender in_at out_at setup_token quiet read_step write_step in_step out_step setup_step data_step data_step_bytes end_step step_of step_bytes packet_bytes sends receives unheld flush_beside held_beside pending_for senders_well receivers_well registers_well well_formed is_access reserved written written_all value seen set_up accepted admission offered_by offered answered send_served taken rounds flushing accepting judged receive_served is_over is_acks is_datas is_others elsewhere other_token other_rest start_world held is_done is_delivered is_taken called act_offer act_send act_receive answer_to happens hostly goes sees host_in got_in act_in act_ack is_ack act_take act_out host_out sent act_data after_token act_other act acts waiting has host_held recover_sending recover_receiving
needed_runs =
    record {
      on_empty_out = refl;
      on_after_empty_out = refl;
      then_after_empty_out = refl;
      on_long_out = refl;
      then_long_out = refl;
      on_in_left_open = refl;
      on_out_left_open = refl;
      on_other_left_open = refl;
      on_expects_1_at_start = refl;
      on_sends_1_at_start = refl;
      on_in_reset = refl;
      on_out_reset = refl;
      on_in_reset_in_between = refl;
      on_out_reset_in_between = refl;
      on_forged_ack = refl;
      on_forged_data = refl;
      on_forged_answer = refl;
      on_not_kept = refl;
      on_old_driver_sends = refl;
      on_old_driver_expects = refl;
      on_old_packet = refl;
      on_old_offer = refl;
      on_not_set_up = refl;
      then_not_set_up = refl;
      receives_not_set_up = refl;
      then_receives_not_set_up = refl;
      over_after_empty_out = refl;
      over_long_out = refl;
      over_not_set_up = refl;
    }

-- so demand 3's sentences do not hold there
pub record Refuted : Type 0 where
  pub by_empty_out : Received empty_out → ⊥
  pub by_after_empty_out : (after_empty_out.host.at ≡ over → ReceivedAgain after_empty_out) → ⊥
  pub by_long_out : (long_out.host.at ≡ over → ReceivedAgain long_out) → ⊥
  pub by_in_left_open : Sent in_left_open → ⊥
  pub by_out_left_open : Received out_left_open → ⊥
  pub by_other_left_open : Received other_left_open → ⊥
  pub by_expects_1_at_start : Sent expects_1_at_start → ⊥
  pub by_sends_1_at_start : Received sends_1_at_start → ⊥
  pub by_in_reset : Sent in_reset → ⊥
  pub by_out_reset : Received out_reset → ⊥
  pub by_in_reset_in_between : Sent in_reset_in_between → ⊥
  pub by_out_reset_in_between : Received out_reset_in_between → ⊥
  pub by_forged_ack : Sent forged_ack → ⊥
  pub by_forged_data : Received forged_data → ⊥
  pub by_forged_answer : Received forged_answer → ⊥
  pub by_not_kept : Received not_kept → ⊥
  pub by_old_driver_sends : Sent old_driver_sends → ⊥
  pub by_old_driver_expects : Received old_driver_expects → ⊥
  pub by_old_packet : Received old_packet → ⊥
  pub by_old_offer : Sent old_offer → ⊥
  pub by_not_set_up : (not_set_up.host.at ≡ over → SentAgain not_set_up) → ⊥
  pub by_receives_not_set_up : (not_set_up.host.at ≡ over → ReceivedAgain not_set_up) → ⊥

pub refuted : Refuted
unfolding same_packet same_packets
refuted =
    let r : Needed = needed_runs in
    record {
      by_empty_out = not_received empty_out _ _ _ r.on_empty_out (refl, refl);
      by_after_empty_out = not_received_again after_empty_out _ _ _ r.over_after_empty_out r.on_after_empty_out r.then_after_empty_out refl;
      by_long_out = not_received_again long_out _ _ _ r.over_long_out r.on_long_out r.then_long_out refl;
      by_in_left_open = not_sent in_left_open _ _ _ r.on_in_left_open (refl, refl);
      by_out_left_open = not_received out_left_open _ _ _ r.on_out_left_open (refl, refl);
      by_other_left_open = not_received other_left_open _ _ _ r.on_other_left_open (refl, refl);
      by_expects_1_at_start = not_sent expects_1_at_start _ _ _ r.on_expects_1_at_start (refl, refl);
      by_sends_1_at_start = not_received sends_1_at_start _ _ _ r.on_sends_1_at_start (refl, refl);
      by_in_reset = not_sent in_reset _ _ _ r.on_in_reset (refl, refl);
      by_out_reset = not_received out_reset _ _ _ r.on_out_reset (refl, refl);
      by_in_reset_in_between = not_sent in_reset_in_between _ _ _ r.on_in_reset_in_between (refl, refl);
      by_out_reset_in_between = not_received out_reset_in_between _ _ _ r.on_out_reset_in_between (refl, refl);
      by_forged_ack = not_sent forged_ack _ _ _ r.on_forged_ack (refl, refl);
      by_forged_data = not_received forged_data _ _ _ r.on_forged_data (refl, refl);
      by_forged_answer = not_received forged_answer _ _ _ r.on_forged_answer (refl, refl);
      by_not_kept = not_received not_kept _ _ _ r.on_not_kept (refl, refl);
      by_old_driver_sends = not_sent old_driver_sends _ _ _ r.on_old_driver_sends (refl, refl);
      by_old_driver_expects = not_received old_driver_expects _ _ _ r.on_old_driver_expects (refl, refl);
      by_old_packet = not_received old_packet _ _ _ r.on_old_packet (refl, refl);
      by_old_offer = not_sent old_offer _ _ _ r.on_old_offer (refl, refl);
      by_not_set_up = not_sent_again not_set_up _ _ _ r.over_not_set_up r.on_not_set_up r.then_not_set_up refl;
      by_receives_not_set_up = not_received_again not_set_up _ _ _ r.over_not_set_up r.receives_not_set_up r.then_receives_not_set_up refl;
    }

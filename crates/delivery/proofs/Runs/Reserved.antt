-- "nobody else touches the registers 01 reserves": for each reserved access, one by somebody else after which a packet is lost, doubled or changed,
-- or no longer comes through. All is computed by the checker.
-- Assumes nothing.
use mathlib.Core.Path.{◌≡◌, refl}
use mathlib.Core.Bool.{true}
use mathlib.Core.List.{[], ◌∷◌}
use lib.Count.{count_trailing_zeros}
use Rattle.choice.specs.Choice.{pick}
use Rattle.window.specs.Window.{index_of}
use Rattle.ring.specs.Ring.{store_all, bytes_from}
use Rattle.fifo0.specs.Control.{rcount, put0, take0, fill0}
use Rattle.txfifo.specs.Transmit.{put_tx, refill_tx}
use Rattle.rxfifo.specs.Receive.{take_rx, fill_rx}
use Rattle.event.specs.Event.{ranges, count_of, kind_of, values_of, within, in_range}
use Rattle.epc.specs.Epc.{takes}
use Rattle.verdict.specs.Verdict.{heard}
use Rattle.sender.specs.Sender as sender
use Rattle.sender.specs.Sender.{near, moved, marked, command}
use Rattle.receiver.specs.Receiver as receiver
use Rattle.receiver.specs.Receiver.{flushed, received, received_bytes}
use Rattle.control.specs.State as zero
use Rattle.control.specs.State.{unmarked_empty}
use Rattle.control.specs.Registers.{flushed_by, tx_command, rx_bits}
use Rattle.controlbus.specs.Bus as controlbus
use Rattle.controlbus.specs.Bus.{disabled, handshake, judge_out, stored}
use Rattle.controlbus.specs.Setup.{refused, judge_setup, after_setup}
use Rattle.interrupt.specs.Interrupt.{maev, line}
use Rattle.settings.specs.Settings.{stop_sender, stop_receiver, stop_zero, nfsr_write, mask_write}
use Rattle.reads.specs.Read.{mask_of, control_read, sender_read, receiver_read, read_of}
use Rattle.writes.specs.Write.{control_command, receive_command, control_write, control_bytes, sender_command, sender_write, sender_bytes, receiver_write, write_of, bytes_of}
use Rattle.tokens.specs.Tokens.{own, zero_takes, sender_takes, receiver_takes, in_mask, out_mask, winner}
use Rattle.answer.specs.Answer.{packet_of}
use Rattle.ends.specs.Ends.{idled, done_flush, done_byte, sender_byte, ended_zero, ended_sender, ended_at, dropped_setup}
use Rattle.data.specs.Data.{marked_out, overrun, data_zero, data_zero_bytes, data_receiver, data_receiver_bytes, data_setup, data_setup_bytes, data_at, data_at_bytes}
use Rattle.bus.specs.Bus.{awaiting, marked_in, in_zero, in_sender, in_at, out_at, setup_token}
use Rattle.step.specs.Step.{quiet, read_step, write_step, in_step, out_step, setup_step, data_step, data_step_bytes, end_step, step_of, step_bytes}
use Rattle.packet.specs.Packet.{packet_bytes}
use Rattle.formed.specs.Formed.{sends, receives, unheld, flush_beside, held_beside, pending_for, senders_well, receivers_well, registers_well, well_formed}
use Rattle.laws.specs.Settings.{is_access}
use Rattle.laws.specs.Driver.{reserved}
use Rattle.driver.specs.Registers.{written, written_all, value, seen}
use Rattle.driver.specs.Driver.{set_up, accepted, admission, offered_by, offered, answered, send_served}
use Rattle.receiving.specs.Receive.{taken, rounds, flushing, accepting, judged, receive_served}
use Rattle.delivery.specs.Host.{over, is_over, is_acks, is_datas, is_others, elsewhere, other_token, other_rest, sound, offer, send_service, receive_service, take, in_token, ack, out_token, out_data}
use Rattle.delivery.specs.World.{start_world, held, is_done, is_delivered, is_taken, called, act_offer, act_send, act_receive, answer_to, happens, hostly, goes, sees, host_in, got_in, act_in, act_ack, is_ack, act_take, act_out, host_out, sent, act_data, after_token, act_other, act, acts, World}
use Rattle.delivery.specs.Lists.{waiting, has, host_held, recover_sending, recover_receiving}
use Rattle.event.specs.declared.Event.{Event}
use Rattle.event.specs.declared.Event.TheVariants.{Read, Write}
use Rattle.delivery.proofs.Runs.Sides.{A, B, run, stray, sides, sending, receiving}

-- a register access by somebody else
abbrev by_another : Event → World → World
by_another t w = stray t [] w

-- packet A is offered; and has gone to the host, which has sent its ACK; packet B is held by the host; and is in RXFIFO1, and the host has the ACK
abbrev offered_a : World
offered_a = run (offer A ∷ [])

abbrev sent_a : World
sent_a = run (offer A ∷ in_token true true ∷ ack true ∷ [])

abbrev held_b : World
held_b = run (take B ∷ [])

abbrev came_b : World
came_b = run (take B ∷ out_token true ∷ out_data sound true ∷ [])

-- ---- the worlds, by the access

abbrev pub read_2_a : World
read_2_a = by_another (Read 0x2A) sent_a

abbrev pub read_2_d : World
read_2_d = acts (receive_service ∷ []) (by_another (Read 0x2D) came_b)

abbrev pub read_2_e : World
read_2_e = by_another (Read 0x2E) came_b

abbrev pub write_00 : World
write_00 = by_another (Write 0x00 1) came_b

abbrev pub write_04 : World
write_04 = by_another (Write 0x04 0x86) offered_a

abbrev pub write_05 : World
write_05 = by_another (Write 0x05 2) (by_another (Write 0x05 0) offered_a)

abbrev pub write_28 : World
write_28 = by_another (Write 0x28 0x13) offered_a

abbrev pub write_29 : World
write_29 = acts (offer A ∷ in_token true true ∷ ack true ∷ send_service ∷ []) (by_another (Write 0x29 0x44) (run []))

abbrev pub write_2_b : World
write_2_b = acts (in_token true true ∷ ack true ∷ send_service ∷ []) (by_another (Write 0x2B 0x17) sent_a)

abbrev pub write_2_c : World
write_2_c = by_another (Write 0x2C 0x13) held_b

abbrev pub write_2_f : World
write_2_f = acts (receive_service ∷ []) (by_another (Write 0x2F 0x09) came_b)

-- ---- what the sender knows delivered, what it holds, what the receiver has

pub record Reserved : Type 0 where
  -- the flags of the ACK are gone: the driver never knows A delivered
  pub on_read_2_a : sending read_2_a ≡ sides [] (A ∷ []) (A ∷ [])
  pub then_read_2_a : sending (recover_sending read_2_a) ≡ sides [] (A ∷ []) (A ∷ [])
  -- B has lost its first byte
  pub on_read_2_d : receiving read_2_d ≡ sides (B ∷ []) [] ((0x43 ∷ []) ∷ [])
  -- RX_LAST is gone: B is lost
  pub on_read_2_e : receiving read_2_e ≡ sides (B ∷ []) [] []
  -- reset: B is lost
  pub on_write_00 : receiving write_00 ≡ sides (B ∷ []) [] []
  -- another address: A never goes out
  pub on_write_04 : sending write_04 ≡ sides [] (A ∷ []) []
  pub then_write_04 : sending (recover_sending write_04) ≡ sides [] (A ∷ []) []
  -- out of the operational state and back: TX_EN is gone, A never goes out
  pub on_write_05 : sending write_05 ≡ sides [] (A ∷ []) []
  pub then_write_05 : sending (recover_sending write_05) ≡ sides [] (A ∷ []) []
  -- another bus endpoint: A never goes out
  pub on_write_28 : sending write_28 ≡ sides [] (A ∷ []) []
  pub then_write_28 : sending (recover_sending write_28) ≡ sides [] (A ∷ []) []
  -- a byte before A goes out with it
  pub on_write_29 : sending write_29 ≡ sides (A ∷ []) [] ((0x44 ∷ 0x41 ∷ []) ∷ [])
  -- RFF with the next toggle: A is doubled
  pub on_write_2_b : sending write_2_b ≡ sides (A ∷ []) [] (A ∷ A ∷ [])
  -- another bus endpoint: B never comes in
  pub on_write_2_c : receiving write_2_c ≡ sides [] (B ∷ []) []
  pub then_write_2_c : receiving (recover_receiving write_2_c) ≡ sides [] (B ∷ []) []
  -- a flush: the driver takes an empty packet for B
  pub on_write_2_f : receiving write_2_f ≡ sides (B ∷ []) [] ([] ∷ [])
  -- no transaction is open where the recovery begins
  pub over_read_2_a : read_2_a.host.at ≡ over
  pub over_write_04 : write_04.host.at ≡ over
  pub over_write_05 : write_05.host.at ≡ over
  pub over_write_28 : write_28.host.at ≡ over
  pub over_write_2_c : write_2_c.host.at ≡ over

pub reserved_runs : Reserved
unfolding count_trailing_zeros pick index_of store_all bytes_from rcount put0 take0 fill0 put_tx refill_tx take_rx fill_rx ranges count_of kind_of values_of within in_range takes heard near moved marked command sender.answer_in sender.sent sender.well_formed flushed receiver.judged received received_bytes receiver.well_formed unmarked_empty zero.well_formed flushed_by tx_command rx_bits disabled controlbus.answer_in handshake judge_out stored refused judge_setup after_setup maev line stop_sender stop_receiver stop_zero nfsr_write mask_write mask_of control_read sender_read receiver_read read_of control_command receive_command control_write control_bytes sender_command sender_write sender_bytes receiver_write write_of bytes_of own zero_takes sender_takes receiver_takes in_mask out_mask winner packet_of idled done_flush done_byte sender_byte ended_zero ended_sender ended_at dropped_setup marked_out overrun data_zero data_zero_bytes data_receiver data_receiver_bytes data_setup data_setup_bytes data_at data_at_bytes awaiting marked_in in_zero in_sender in_at out_at setup_token quiet read_step write_step in_step out_step setup_step data_step data_step_bytes end_step step_of step_bytes packet_bytes sends receives unheld flush_beside held_beside pending_for senders_well receivers_well registers_well well_formed is_access reserved written written_all value seen set_up accepted admission offered_by offered answered send_served taken rounds flushing accepting judged receive_served is_over is_acks is_datas is_others elsewhere other_token other_rest start_world held is_done is_delivered is_taken called act_offer act_send act_receive answer_to happens hostly goes sees host_in got_in act_in act_ack is_ack act_take act_out host_out sent act_data after_token act_other act acts waiting has host_held recover_sending recover_receiving
reserved_runs =
    record {
      on_read_2_a = refl;
      then_read_2_a = refl;
      on_read_2_d = refl;
      on_read_2_e = refl;
      on_write_00 = refl;
      on_write_04 = refl;
      then_write_04 = refl;
      on_write_05 = refl;
      then_write_05 = refl;
      on_write_28 = refl;
      then_write_28 = refl;
      on_write_29 = refl;
      on_write_2_b = refl;
      on_write_2_c = refl;
      then_write_2_c = refl;
      on_write_2_f = refl;
      over_read_2_a = refl;
      over_write_04 = refl;
      over_write_05 = refl;
      over_write_28 = refl;
      over_write_2_c = refl;
    }

-- Runs in which demand 3's premises hold, computed by the checker: things are lost, damaged, repeated and refused, and no packet is lost or doubled.
-- Assumes nothing.
use mathlib.Core.Path.{◌≡◌, refl}
use mathlib.Core.Bool.{true, false}
use mathlib.Core.List.{List, [], ◌∷◌}
use Rattle.delivery.proofs.Runs.Sides.{A, B, run}
use lib.Count.{count_trailing_zeros}
use Rattle.choice.specs.Choice.{pick}
use Rattle.window.specs.Window.{index_of}
use Rattle.ring.specs.Ring.{store_all, bytes_from}
use Rattle.fifo0.specs.Control.{rcount, put0, take0, fill0}
use Rattle.txfifo.specs.Transmit.{put_tx, refill_tx}
use Rattle.rxfifo.specs.Receive.{take_rx, fill_rx}
use Rattle.event.specs.declared.Event.TheVariants.{In, Out, Data, Ack}
use Rattle.event.specs.Event.{ranges, count_of, kind_of, values_of, within, in_range}
use Rattle.epc.specs.Epc.{takes}
use Rattle.verdict.specs.Verdict.{heard}
use Rattle.sender.specs.Sender as sender
use Rattle.sender.specs.Sender.{near, moved, marked, command}
use Rattle.receiver.specs.Receiver as receiver
use Rattle.receiver.specs.Receiver.{flushed, received, received_bytes}
use Rattle.control.specs.State as zero
use Rattle.control.specs.State.{unmarked_empty}
use Rattle.control.specs.Registers.{flushed_by, tx_command, rx_bits}
use Rattle.controlbus.specs.Bus as controlbus
use Rattle.controlbus.specs.Bus.{disabled, handshake, judge_out, stored}
use Rattle.controlbus.specs.Setup.{refused, judge_setup, after_setup}
use Rattle.interrupt.specs.Interrupt.{maev, line}
use Rattle.settings.specs.Settings.{stop_sender, stop_receiver, stop_zero, nfsr_write, mask_write}
use Rattle.reads.specs.Read.{mask_of, control_read, sender_read, receiver_read, read_of}
use Rattle.writes.specs.Write.{control_command, receive_command, control_write, control_bytes, sender_command, sender_write, sender_bytes, receiver_write, write_of, bytes_of}
use Rattle.tokens.specs.Tokens.{own, zero_takes, sender_takes, receiver_takes, in_mask, out_mask, winner}
use Rattle.answer.specs.Answer.{packet_of}
use Rattle.ends.specs.Ends.{idled, done_flush, done_byte, sender_byte, ended_zero, ended_sender, ended_at, dropped_setup}
use Rattle.data.specs.Data.{marked_out, overrun, data_zero, data_zero_bytes, data_receiver, data_receiver_bytes, data_setup, data_setup_bytes, data_at, data_at_bytes}
use Rattle.bus.specs.Bus.{awaiting, marked_in, in_zero, in_sender, in_at, out_at, setup_token}
use Rattle.step.specs.Step.{quiet, read_step, write_step, in_step, out_step, setup_step, data_step, data_step_bytes, end_step, step_of, step_bytes}
use Rattle.packet.specs.Packet.{packet_bytes}
use Rattle.formed.specs.Formed.{sends, receives, unheld, flush_beside, held_beside, pending_for, senders_well, receivers_well, registers_well, well_formed}
use Rattle.laws.specs.Settings.{is_access}
use Rattle.laws.specs.Driver.{reserved}
use Rattle.driver.specs.Registers.{written, written_all, value, seen}
use Rattle.driver.specs.Driver.{set_up, accepted, admission, offered_by, offered, answered, send_served}
use Rattle.receiving.specs.Receive.{taken, rounds, flushing, accepting, judged, receive_served}
use Rattle.delivery.specs.Host.{is_over, is_acks, is_datas, is_others, elsewhere, other_token, other_rest, Packet, sound, damaged, offer, send_service, receive_service, take, in_token, ack, out_token, out_data, other, timeout, late}
use Rattle.delivery.specs.World.{start_world, held, is_done, is_delivered, is_taken, called, act_offer, act_send, act_receive, answer_to, happens, hostly, goes, sees, host_in, got_in, act_in, act_ack, is_ack, act_take, act_out, host_out, sent, act_data, after_token, act_other, act, acts, Lists}
use Rattle.delivery.specs.Lists.{waiting, has, host_held, recover_sending, recover_receiving}

abbrev lists : List Packet → List Packet → List Packet → List Packet → List Packet → Lists
lists o d g k t = record { offers = o; delivered = d; got = g; known = k; taken = t }

-- offers, delivered, got, known, taken
pub record Meets : Type 0 where
  -- the host's ACK is lost: the packet is sent again, and the host drops the repeat
  pub ack_lost :
      (run (offer B ∷ in_token true true ∷ ack false ∷ timeout ∷ send_service ∷ in_token true true ∷ ack true ∷ send_service ∷ [])).lists
      ≡ lists (B ∷ []) (B ∷ []) (B ∷ []) [] []
  -- the data is lost: the host gets the packet by the second IN only. A chip that has forgotten it after the data packet (RFF brings nothing
  -- back) could not answer so
  pub data_lost :
      (run (offer A ∷ in_token true false ∷ timeout ∷ send_service ∷ in_token true true ∷ ack true ∷ send_service ∷ [])).lists
      ≡ lists (A ∷ []) (A ∷ []) (A ∷ []) [] []
  -- a timeout comes before the host's ACK, which is late: the packet is sent again, and the host drops the repeat
  pub ack_late :
      (run (offer A ∷ in_token true true ∷ late ∷ send_service ∷ ack true ∷ in_token true true ∷ ack true ∷ send_service ∷ [])).lists
      ≡ lists (A ∷ []) (A ∷ []) (A ∷ []) [] []
  -- transactions of others pass by, with no timeout between: an OUT with its data, an IN with the host's ACK, and data whose token was lost
  pub others_pass :
      (run
      (offer A ∷ other (Out 9 (record { 0 = 2 })) [] ∷ other (Data 0 1) B ∷ other (In 9 (record { 0 = 1 })) [] ∷ other Ack [] ∷ other (Data 1 1) B
      ∷ in_token true true ∷ ack true ∷ send_service ∷ [])
      ).lists
      ≡ lists (A ∷ []) (A ∷ []) (A ∷ []) [] []
  -- the IN token is lost: nothing is to be sent again
  pub in_lost :
      (run (offer A ∷ in_token false true ∷ timeout ∷ send_service ∷ in_token true true ∷ ack true ∷ send_service ∷ [])).lists
      ≡ lists (A ∷ []) (A ∷ []) (A ∷ []) [] []
  -- a damaged OUT is flushed, and sent again by the host
  pub out_damaged :
      (run
      (take A ∷ out_token true ∷ out_data (damaged true B) true ∷ timeout ∷ receive_service ∷ out_token true ∷ out_data sound true ∷ receive_service ∷ [])
      ).lists
      ≡ lists [] [] [] (A ∷ []) (A ∷ [])
  -- the chip's ACK is lost: the host repeats, and the driver flushes the repeat
  pub out_repeated :
      (run
      (take A ∷ out_token true ∷ out_data sound false ∷ timeout ∷ receive_service ∷ out_token true ∷ out_data sound true ∷ receive_service ∷ take B
      ∷ out_token true ∷ out_data sound true ∷ receive_service ∷ [])
      ).lists
      ≡ lists [] [] [] (A ∷ B ∷ []) (A ∷ B ∷ [])
  -- an OUT before the last packet is taken is NAKed, and sent again
  pub out_early :
      (run
      (take A ∷ out_token true ∷ out_data sound true ∷ take B ∷ out_token true ∷ out_data sound true ∷ receive_service ∷ out_token true
      ∷ out_data sound true ∷ receive_service ∷ [])
      ).lists
      ≡ lists [] [] [] (A ∷ B ∷ []) (A ∷ B ∷ [])
  -- an offer while a packet is held is refused, and may come again later
  pub offer_refused :
      (run
      (offer A ∷ offer B ∷ in_token true true ∷ ack true ∷ offer B ∷ send_service ∷ offer B ∷ in_token true true ∷ ack true ∷ send_service ∷ [])
      ).lists
      ≡ lists (A ∷ B ∷ []) (A ∷ B ∷ []) (A ∷ B ∷ []) [] []

pub meets : Meets
unfolding count_trailing_zeros pick index_of store_all bytes_from rcount put0 take0 fill0 put_tx refill_tx take_rx fill_rx ranges count_of kind_of values_of within in_range takes heard near moved marked command sender.answer_in sender.sent sender.well_formed flushed receiver.judged received received_bytes receiver.well_formed unmarked_empty zero.well_formed flushed_by tx_command rx_bits disabled controlbus.answer_in handshake judge_out stored refused judge_setup after_setup maev line stop_sender stop_receiver stop_zero nfsr_write mask_write mask_of control_read sender_read receiver_read read_of control_command receive_command control_write control_bytes sender_command sender_write sender_bytes receiver_write write_of bytes_of own zero_takes sender_takes receiver_takes in_mask out_mask winner packet_of idled done_flush done_byte sender_byte ended_zero ended_sender ended_at dropped_setup marked_out overrun data_zero data_zero_bytes data_receiver data_receiver_bytes data_setup data_setup_bytes data_at data_at_bytes awaiting marked_in in_zero in_sender in_at out_at setup_token quiet read_step write_step in_step out_step setup_step data_step data_step_bytes end_step step_of step_bytes packet_bytes sends receives unheld flush_beside held_beside pending_for senders_well receivers_well registers_well well_formed is_access reserved written written_all value seen set_up accepted admission offered_by offered answered send_served taken rounds flushing accepting judged receive_served is_over is_acks is_datas is_others elsewhere other_token other_rest start_world held is_done is_delivered is_taken called act_offer act_send act_receive answer_to happens hostly goes sees host_in got_in act_in act_ack is_ack act_take act_out host_out sent act_data after_token act_other act acts waiting has host_held recover_sending recover_receiving
meets =
    record {
      ack_lost = refl;
      data_lost = refl;
      ack_late = refl;
      others_pass = refl;
      in_lost = refl;
      out_damaged = refl;
      out_repeated = refl;
      out_early = refl;
      offer_refused = refl;
    }

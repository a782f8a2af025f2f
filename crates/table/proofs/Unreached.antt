-- States that no run reaches, but that document 01 allows: each is well formed, and its next step is computed.
-- Assumes nothing.
use mathlib.Core.Path.{◌≡◌, refl}
use mathlib.Core.Bool.{true, false}
use mathlib.Core.List.{[]}
use lib.Count.{count_trailing_zeros}
use Rattle.event.specs.declared.Event.TheVariants as event
use Rattle.answer.specs.declared.Answer.TheVariants as answer
use Rattle.state.specs.declared.Wait.TheVariants as wait
use Rattle.state.specs.declared.Endpoint.{Endpoint}
use Rattle.state.specs.declared.Chip.{Chip}
use Rattle.state.specs.State as state
use Rattle.state.specs.Set.{with_control, with_sender, with_nfsr, with_pending}
use Rattle.control.specs.State as zero
use Rattle.formed.specs.Formed.{sends, receives, unheld, flush_beside, held_beside, pending_for, senders_well, receivers_well, registers_well}
use Rattle.formed.specs.Formed as formed
use Rattle.choice.specs.Choice.{pick}
use Rattle.window.specs.Window.{index_of, numbered}
use Rattle.ring.specs.Ring.{store_all, bytes_from}
use Rattle.fifo0.specs.Control.{rcount, put0, take0, fill0}
use Rattle.txfifo.specs.Transmit.{put_tx, refill_tx}
use Rattle.rxfifo.specs.Receive.{take_rx, fill_rx}
use Rattle.epc.specs.Epc.{takes}
use Rattle.verdict.specs.Verdict.{heard}
use Rattle.sender.specs.Sender.{moved, marked, command, sent}
use Rattle.sender.specs.Sender as sender-sender
use Rattle.receiver.specs.Receiver as receiver-receiver
use Rattle.receiver.specs.Receiver.{flushed, judged, received, received_bytes}
use Rattle.control.specs.Registers.{flushed_by, tx_command, rx_bits}
use Rattle.controlbus.specs.Bus.{disabled, handshake, judge_out, stored}
use Rattle.controlbus.specs.Bus as controlbus-bus
use Rattle.controlbus.specs.Setup.{refused, judge_setup, after_setup}
use Rattle.interrupt.specs.Interrupt.{maev, line}
use Rattle.settings.specs.Settings.{stop_sender, stop_receiver, stop_zero, nfsr_write, mask_write}
use Rattle.reads.specs.Read.{mask_of, control_read, sender_read, receiver_read, read_of}
use Rattle.writes.specs.Write.{control_command, receive_command, control_write, control_bytes, sender_command, sender_write, sender_bytes, receiver_write, write_of}
use Rattle.writes.specs.Write as writes-write
use Rattle.tokens.specs.Tokens.{own, zero_takes, sender_takes, receiver_takes, in_mask, out_mask, winner}
use Rattle.answer.specs.Answer.{packet_of}
use Rattle.ends.specs.Ends.{idled, done_flush, done_byte, sender_byte, ended_zero, ended_sender, ended_at, dropped_setup}
use Rattle.data.specs.Data.{marked_out, overrun, data_zero, data_zero_bytes, data_receiver, data_receiver_bytes, data_setup, data_setup_bytes, data_at, data_at_bytes}
use Rattle.bus.specs.Bus.{awaiting, marked_in, in_zero, in_sender, in_at, out_at, setup_token}
use Rattle.step.specs.Step.{quiet, read_step, write_step, in_step, out_step, setup_step, data_step, data_step_bytes, end_step, step_of, step_bytes}

-- the operational state with a handshake awaited of an endpoint
abbrev awaiting_of : Endpoint → Chip
awaiting_of e = with_pending (state.awaiting_only (wait.Handshake e)) (with_nfsr 2 state.reset_chip)

abbrev outside : Chip
outside = with_control (zero.with_mark true zero.reset_control) state.reset_chip

abbrev waits0 : Chip
waits0 = awaiting_of (record { 0 = 0 })

abbrev waits0_received : Chip
waits0_received = with_control (zero.with_fifo (record { read = 0; write = 1; last = 0; received = true }) zero.reset_control) (awaiting_of (record { 0 = 0 }))

abbrev waits0_marked : Chip
waits0_marked = with_control (zero.with_mark true zero.reset_control) (awaiting_of (record { 0 = 0 }))

abbrev waits1_armed : Chip
waits1_armed = with_sender (numbered 1) (sender-sender.with_bits 0 false true true sender-sender.reset_sender) (awaiting_of (record { 0 = 1 }))

abbrev acked_only : Chip
acked_only = with_sender (numbered 1) (sender-sender.with_flags false true false sender-sender.reset_sender) state.reset_chip

-- each is well formed
pub record Allowed : Type 0 where
  pub mark_outside : formed.well_formed outside ≡ true
  pub awaits_without_tx_en : formed.well_formed waits0 ≡ true
  pub awaits_with_received_bytes : formed.well_formed waits0_received ≡ true
  pub awaits_with_the_mark : formed.well_formed waits0_marked ≡ true
  pub awaits_armed : formed.well_formed waits1_armed ≡ true
  pub ack_stat_without_tx_done : formed.well_formed acked_only ≡ true

-- and steps by the rules, taken literally
pub record Steps : Type 0 where
  -- NFSR 2 keeps the mark
  pub mark_outside : (step_of (event.Write 0x05 2) [] outside []).chip.control.mark ≡ true
  -- an ACK sets both flags
  pub awaits_without_tx_en : (step_of event.Ack [] waits0 []).chip.control.ack ≡ true
  -- an ACK empties FIFO0, received bytes too
  pub awaits_with_received_bytes : (step_of event.Ack [] waits0_received []).chip.control.fifo.read ≡ 1
  -- a timeout leaves the mark
  pub awaits_with_the_mark : (step_of event.Timeout [] waits0_marked []).chip.control.mark ≡ true
  -- a timeout sets TX_DONE and leaves TX_EN
  pub awaits_armed : (state.sender_at (numbered 1) (step_of event.Timeout [] waits1_armed []).chip).enabled ≡ true
  -- TXS1 shows it
  pub ack_stat_without_tx_done : (step_of (event.Read 0x2A) [] acked_only []).answer ≡ answer.Value 0x5F

pub allowed : Allowed
unfolding sender-sender.near sender-sender.well_formed receiver-receiver.well_formed zero.unmarked_empty zero.well_formed formed.well_formed sends receives unheld flush_beside held_beside pending_for senders_well receivers_well registers_well index_of pick
allowed =
    record {
      mark_outside = refl;
      awaits_without_tx_en = refl;
      awaits_with_received_bytes = refl;
      awaits_with_the_mark = refl;
      awaits_armed = refl;
      ack_stat_without_tx_done = refl;
    }

pub steps : Steps
unfolding count_trailing_zeros pick index_of store_all bytes_from rcount put0 take0 fill0 put_tx refill_tx take_rx fill_rx takes heard moved marked command sent sender-sender.answer_in flushed judged received received_bytes flushed_by tx_command rx_bits disabled handshake judge_out stored controlbus-bus.answer_in refused judge_setup after_setup maev line stop_sender stop_receiver stop_zero nfsr_write mask_write mask_of control_read sender_read receiver_read read_of control_command receive_command control_write control_bytes sender_command sender_write sender_bytes receiver_write write_of writes-write.bytes_of own zero_takes sender_takes receiver_takes in_mask out_mask winner packet_of idled done_flush done_byte sender_byte ended_zero ended_sender ended_at dropped_setup marked_out overrun data_zero data_zero_bytes data_receiver data_receiver_bytes data_setup data_setup_bytes data_at data_at_bytes awaiting marked_in in_zero in_sender in_at out_at setup_token quiet read_step write_step in_step out_step setup_step data_step data_step_bytes end_step step_of step_bytes
steps =
    record {
      mark_outside = refl;
      awaits_without_tx_en = refl;
      awaits_with_received_bytes = refl;
      awaits_with_the_mark = refl;
      awaits_armed = refl;
      ack_stat_without_tx_done = refl;
    }

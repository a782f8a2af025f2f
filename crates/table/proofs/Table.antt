-- Document 01's table of worked examples, P1 to P12. P1 to P4, P7 to P9 and P12 are whole runs: the printed bytes of a trace, computed.
-- Assumes nothing.
use Prim.Native.Nat.{ℕ}
use mathlib.Core.Path.{◌≡◌, refl}
use mathlib.Core.List.{List}
use lib.Count.{count_trailing_zeros}
use Rattle.choice.specs.Choice.{pick}
use Rattle.window.specs.Window.{index_of}
use Rattle.window.specs.declared.FifoNumber.{FifoNumber}
use Rattle.ring.specs.Ring.{level, store_all, bytes_from}
use Rattle.fifo0.specs.Control.{rcount, put0, take0, fill0}
use Rattle.txfifo.specs.declared.TxFifo.{TxFifo}
use Rattle.txfifo.specs.Transmit.{put_tx, put_tx_bytes, refill_tx}
use Rattle.rxfifo.specs.Receive.{take_rx, fill_rx}
use Rattle.event.specs.Event.{ranges, event_of, count_of}
use Rattle.trace.specs.Encode.{numbers}
use Rattle.trace.specs.Number.{value, number_from, number_at}
use Rattle.trace.specs.Number as trace-number
use Rattle.trace.specs.Record.{before, field, fields_at, body_at, record_at, read_at}
use Rattle.epc.specs.Epc.{takes}
use Rattle.verdict.specs.Verdict.{heard}
use Rattle.sender.specs.Sender.{moved, marked, command, sent}
use Rattle.sender.specs.Sender as sender-sender
use Rattle.receiver.specs.Receiver.{flushed, judged, received, received_bytes}
use Rattle.control.specs.Registers.{flushed_by, tx_command, rx_bits}
use Rattle.controlbus.specs.Bus.{disabled, handshake, judge_out, stored}
use Rattle.controlbus.specs.Bus as controlbus-bus
use Rattle.controlbus.specs.Setup.{refused, judge_setup, after_setup}
use Rattle.interrupt.specs.Interrupt.{maev, line}
use Rattle.settings.specs.Settings.{stop_sender, stop_receiver, stop_zero, nfsr_write, mask_write}
use Rattle.reads.specs.Read.{mask_of, control_read, sender_read, receiver_read, read_of}
use Rattle.writes.specs.Write.{control_command, receive_command, control_write, control_bytes, sender_command, sender_write, sender_bytes, receiver_write, write_of}
use Rattle.writes.specs.Write as writes-write
use Rattle.tokens.specs.Tokens.{own, zero_takes, sender_takes, receiver_takes, in_mask, out_mask, winner}
use Rattle.answer.specs.Answer.{packet_of}
use Rattle.ends.specs.Ends.{idled, done_flush, done_byte, sender_byte, ended_zero, ended_sender, ended_at, dropped_setup}
use Rattle.data.specs.Data.{marked_out, overrun, data_zero, data_zero_bytes, data_receiver, data_receiver_bytes, data_setup, data_setup_bytes, data_at, data_at_bytes}
use Rattle.bus.specs.Bus.{awaiting, marked_in, in_zero, in_sender, in_at, out_at, setup_token}
use Rattle.step.specs.Step.{quiet, read_step, write_step, in_step, out_step, setup_step, data_step, data_step_bytes, end_step, step_of, step_bytes}
use Rattle.digits.specs.Text.{overlay, last_digits, decimal}
use Rattle.packet.specs.Packet.{packet_bytes, hex_bytes}
use Rattle.lines.specs.Line.{payload_text, value_text, answer_text, line_text, refusal_text}
use Rattle.running.specs.Output.{did, line_of, shown, output_from, output}
use Rattle.table.proofs.Text.{ascii, figure, pairs, hex}
use Rattle.table.proofs.Worked.{filled, full_ignores}

-- `output` is what the run program prints of a trace
pub record Table : Type 0 where
  -- P1: this run
  pub P1 : output (hex "02050202048501022811022941022B0303050107012A") ≡ ascii "0 - 0\n1 - 0\n2 - 0\n3 - 0\n4 - 0\n5 data0 41 0\n6 - 0\n7 read 7F 0\n"
  -- P2: 08 for 07: last read 3F
  pub P2 : output (hex "02050202048501022811022941022B0303050108012A") ≡ ascii "0 - 0\n1 - 0\n2 - 0\n3 - 0\n4 - 0\n5 data0 41 0\n6 - 0\n7 read 3F 0\n"
  -- P3: after P2, 13 to 2B: the IN gives data0 41
  pub P3 : output (hex "02050202048501022811022941022B0303050108012A022B13030501") ≡ ascii "0 - 0\n1 - 0\n2 - 0\n3 - 0\n4 - 0\n5 data0 41 0\n6 - 0\n7 read 3F 0\n8 - 0\n9 data0 41 0\n"
  -- P4: after P2, 03 to 2B: empty data0
  pub P4 : output (hex "02050202048501022811022941022B0303050108012A022B03030501") ≡ ascii "0 - 0\n1 - 0\n2 - 0\n3 - 0\n4 - 0\n5 data0 41 0\n6 - 0\n7 read 3F 0\n8 - 0\n9 data0 - 0\n"
  -- P5: levels 33, 34: TXS 1F, 1E
  pub P5 : (sender-sender.status_of (filled 33) ≡ 0x1F) × (sender-sender.status_of (filled 34) ≡ 0x1E)
  -- P6: a 65th byte changes nothing, whatever FIFO, counters, byte and memory
  pub P6 : (n : FifoNumber) (f : TxFifo) (m : List ℕ) (b : ℕ) → level f.read f.write ≡ 64 → (put_tx f ≡ f) × (put_tx_bytes n f b m ≡ m)
  -- P7: TX_EN clear: NAK, NAKEV 02
  pub P7 : output (hex "02050202048501022811030501010E") ≡ ascii "0 - 0\n1 - 0\n2 - 0\n3 nak 0\n4 read 02 0\n"
  -- P8: EPC1 91, armed: STALL, then TXS1 3F
  pub P8 : output (hex "0205020204850102289101022941022B03030501012A") ≡ ascii "0 - 0\n1 - 0\n2 - 0\n3 - 0\n4 - 0\n5 stall 0\n6 read 3F 0\n"
  -- P9: 1 and 3 both bus endpoint 1, only 3 armed: NAK
  pub P9 : output (hex "02050202048501022811023011023142023303030501") ≡ ascii "0 - 0\n1 - 0\n2 - 0\n3 - 0\n4 - 0\n5 - 0\n6 nak 0\n"
  -- P10: read 250, write 4: ten bytes
  pub P10 : level 250 4 ≡ 10
  -- P11: 85 01 is 133; 85 00 refusal 2; 85 alone refusal 1
  pub P11 : (number_at (hex "8501") 0 ≡ value 133 2) × (number_at (hex "8500") 0 ≡ trace-number.refused 2) × (number_at (hex "85") 0 ≡ trace-number.refused 1)
  -- P12: SETUP sent twice: ACK twice, 8 bytes
  pub P12 : output (hex "020502020485010505000600010801020304050607080505000600010801020304050607080126012501250125012501250125012501250126") ≡ ascii "0 - 0\n1 - 0\n2 - 0\n3 ack 0\n4 - 0\n5 ack 0\n6 read 58 0\n7 read 01 0\n8 read 02 0\n9 read 03 0\n10 read 04 0\n11 read 05 0\n12 read 06 0\n13 read 07 0\n14 read 08 0\n15 read 00 0\n"

pub table : Table
unfolding figure pairs count_trailing_zeros pick index_of store_all bytes_from rcount put0 take0 fill0 put_tx refill_tx take_rx fill_rx ranges event_of count_of numbers number_from trace-number.bytes_of before field fields_at body_at record_at read_at takes heard moved marked command sent sender-sender.answer_in flushed judged received received_bytes flushed_by tx_command rx_bits disabled handshake judge_out stored controlbus-bus.answer_in refused judge_setup after_setup maev line stop_sender stop_receiver stop_zero nfsr_write mask_write mask_of control_read sender_read receiver_read read_of control_command receive_command control_write control_bytes sender_command sender_write sender_bytes receiver_write write_of writes-write.bytes_of own zero_takes sender_takes receiver_takes in_mask out_mask winner packet_of idled done_flush done_byte sender_byte ended_zero ended_sender ended_at dropped_setup marked_out overrun data_zero data_zero_bytes data_receiver data_receiver_bytes data_setup data_setup_bytes data_at data_at_bytes awaiting marked_in in_zero in_sender in_at out_at setup_token quiet read_step write_step in_step out_step setup_step data_step data_step_bytes end_step step_of step_bytes overlay last_digits decimal packet_bytes hex_bytes payload_text value_text answer_text line_text refusal_text did line_of shown output_from output
table =
    record {
      P1 = refl;
      P2 = refl;
      P3 = refl;
      P4 = refl;
      P5 = (refl, refl);
      P6 = full_ignores;
      P7 = refl;
      P8 = refl;
      P9 = refl;
      P10 = refl;
      P11 = (refl, refl, refl);
      P12 = refl;
    }

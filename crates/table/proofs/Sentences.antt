-- Sentences of document 01 that no worked example tells, each with an example of its own: the printed bytes of a trace, or an equation over the
-- definitions that the contracts cite. What is quoted is 01. Assumes nothing.
use Prim.Native.Nat.{ℕ}
use mathlib.Core.Path.{◌≡◌, refl}
use mathlib.Core.Bool.{true, false}
use mathlib.Core.List.{List, [], ◌∷◌}
use lib.Count.{count_trailing_zeros}
use lib.ListN.{replicate}
use Rattle.std.specs.Prelude.{Ok, Err}
use Rattle.choice.specs.Choice.{pick}
use Rattle.refusal.specs.declared.Refusal.TheVariants.{OutOfRange, NotWellFormed, OfferTooLong, PacketHeld}
use Rattle.window.specs.Window.{index_of}
use Rattle.ring.specs.Ring.{store_all, bytes_from}
use Rattle.fifo0.specs.Control.{rcount, put0, take0, fill0}
use Rattle.txfifo.specs.Transmit.{put_tx, refill_tx}
use Rattle.rxfifo.specs.Receive.{take_rx, fill_rx}
use Rattle.event.specs.declared.Event.TheVariants as event
use Rattle.event.specs.Event.{ranges, event_of, count_of, kind_of, values_of, within, in_range, bus_endpoint}
use Rattle.trace.specs.Number.{number_from}
use Rattle.trace.specs.Record.{end, before, field, fields_at, body_at, record_at, read_at}
use Rattle.epc.specs.Epc.{takes}
use Rattle.verdict.specs.Verdict.{heard}
use Rattle.sender.specs.declared.Sender.{Sender}
use Rattle.sender.specs.Sender.{moved, marked, command, sent}
use Rattle.sender.specs.Sender as sender
use Rattle.receiver.specs.declared.Receiver.{Receiver}
use Rattle.receiver.specs.Receiver.{flushed, judged, received, received_bytes}
use Rattle.receiver.specs.Receiver as receiver
use Rattle.control.specs.declared.Control.{Control}
use Rattle.control.specs.State as zero
use Rattle.control.specs.Registers.{flushed_by, tx_command, rx_bits}
use Rattle.controlbus.specs.Bus.{disabled, handshake, judge_out, stored}
use Rattle.controlbus.specs.Bus as zero-bus
use Rattle.controlbus.specs.Setup.{refused, judge_setup, after_setup}
use Rattle.state.specs.declared.Wait.{Wait}
use Rattle.state.specs.declared.Wait.TheVariants as wait
use Rattle.state.specs.declared.Chip.{Chip}
use Rattle.state.specs.State.{Model, reset_chip, reset}
use Rattle.state.specs.Set.{with_nfsr, with_pending}
use Rattle.interrupt.specs.Interrupt.{maev, line}
use Rattle.settings.specs.Settings.{stop_sender, stop_receiver, stop_zero, nfsr_write, mask_write}
use Rattle.reads.specs.Read.{mask_of, control_read, sender_read, receiver_read, read_of}
use Rattle.writes.specs.Write.{control_command, receive_command, control_write, control_bytes, sender_command, sender_write, sender_bytes, receiver_write, write_of, bytes_of}
use Rattle.tokens.specs.Tokens.{own, zero_takes, sender_takes, receiver_takes, in_mask, out_mask, winner}
use Rattle.answer.specs.Answer.{packet_of}
use Rattle.ends.specs.Ends.{idled, done_flush, done_byte, sender_byte, ended_zero, ended_sender, ended_at, dropped_setup}
use Rattle.data.specs.Data.{marked_out, overrun, data_zero, data_zero_bytes, data_receiver, data_receiver_bytes, data_setup, data_setup_bytes, data_at, data_at_bytes}
use Rattle.bus.specs.Bus.{awaiting, marked_in, in_zero, in_sender, in_at, out_at, setup_token}
use Rattle.step.specs.Step.{quiet, read_step, write_step, in_step, out_step, setup_step, data_step, data_step_bytes, end_step, step_of, step_bytes}
use Rattle.formed.specs.Formed.{sends, receives, unheld, flush_beside, held_beside, pending_for, senders_well, receivers_well, registers_well, well_formed}
use Rattle.chip.specs.Checked.{refusing, stepped, stepped_bytes}
use Rattle.driver.specs.declared.Driver.{Driver}
use Rattle.driver.specs.declared.Did.TheVariants.{Nothing, Delivered}
use Rattle.driver.specs.Registers.{written}
use Rattle.driver.specs.Driver.{Call, call, fresh, startable, set_up, started, admission, offered_by, offered, answered, send_served}
use Rattle.receiving.specs.Receive.{padded, receive_served}
use Rattle.receiving.specs.Receive as receiving
use Rattle.digits.specs.Text.{overlay, last_digits, decimal}
use Rattle.packet.specs.Packet.{packet_bytes, hex_bytes}
use Rattle.lines.specs.Line.{payload_text, value_text, answer_text, line_text, refusal_text}
use Rattle.running.specs.Output.{spot_at, did, line_of, shown, output_from, output}
use Rattle.running.specs.Run.{Running, running, stopping, run_of}
use Rattle.running.specs.Run as run
use Rattle.table.proofs.Text.{ascii, figure, pairs, hex}
use Rattle.table.proofs.Worked.{filled}

-- NFSR has two bits, so 4 is not well formed
abbrev ill : Chip
ill = with_nfsr 4 reset_chip

abbrev ill_model : Model
ill_model = record { chip = ill; memory = reset.memory }

abbrev ill_run : Running
ill_run = running (spot_at ill reset.memory 0 0) (0 ∷ []) 0

-- the operational state with something awaited: a handshake on 0, data on an endpoint
abbrev awaits : Wait → Chip
awaits w = with_pending (record { wait = w; holds = false; held = 0; flush = false }) (with_nfsr 2 reset_chip)

abbrev awaits_ack : Chip
awaits_ack = awaits (wait.Handshake (record { 0 = 0 }))

abbrev awaits_data : ℕ → Chip
awaits_data e = awaits (wait.Data (record { 0 = e }))

-- what a start that is refused gives
abbrev not_started : Call
not_started = call reset fresh (Err OutOfRange)

-- a driver that holds a packet, and one that has delivered it
abbrev holding : Driver
holding = record { held = true; sends = false; expects = false }

abbrev delivered : Driver
delivered = record { held = false; sends = true; expects = false }

-- endpoint 0 and a receiver after reset with so many received bytes; a sender with none, saved and read as given
abbrev filled0 : ℕ → Control
filled0 n = zero.with_fifo (record { read = 0; write = n; last = 0; received = true }) zero.reset_control

abbrev filled_rx : ℕ → Receiver
filled_rx n = receiver.with_fifo (record { read = 0; write = n; last = 0 }) receiver.reset_receiver

abbrev spent : ℕ → ℕ → Sender
spent saved read = sender.with_fifo (record { read = read; write = read; saved = saved }) sender.reset_sender

-- `output` is what the run program prints of a trace
pub record Sentences : Type 0 where
  -- ---- the trace
  -- "register 0..63", of a read and of a write
  pub register_64_read : output (hex "013F0140") ≡ ascii "0 read 00 0\n1 refuse 4 at 2\n"
  pub register_64_written : output (hex "023F00024000") ≡ ascii "0 - 0\n1 refuse 4 at 3\n"
  -- "address 0..127"
  pub address_128 : output (hex "037F0003800100") ≡ ascii "0 - 0\n1 refuse 4 at 3\n"
  -- "PID 0..1"
  pub pid_2 : output (hex "0601010006020100") ≡ ascii "0 - 0\n1 refuse 4 at 4\n"
  -- "The end at a record's start, or a place past it, is no refusal."
  pub past_the_end : (read_at (hex "07") 1 ≡ end) × (read_at (hex "07") 2 ≡ end)
  -- ---- refusals
  -- "5 state not well formed": "state as given", of one event, of a run (also at the end) and of the two services
  pub given_with_5 : (m : List ℕ) → (stepped (event.Write 0x29 0x41) [] ill m ≡ refusing NotWellFormed ill) × (stepped_bytes (event.Write 0x29 0x41) [] ill m ≡ m)
  pub given_with_5_run : (run_of (hex "07") ill_run ≡ stopping (run.refused 5 0) ill_run) × (run_of [] ill_run ≡ stopping (run.refused 5 0) ill_run)
  pub given_with_5_service : (d : Driver) → (send_served ill_model d ≡ call ill_model d (Err NotWellFormed)) × (receive_served ill_model d ≡ call ill_model d (Err NotWellFormed))
  -- "An event given without a trace meets 4 too, state unchanged.": the handshake is still awaited
  pub given_with_4 : (m : List ℕ) → (stepped (event.In 128 (bus_endpoint 0)) [] awaits_ack m ≡ refusing OutOfRange awaits_ack) × (stepped_bytes (event.Write 0x40 1) [] reset_chip m ≡ m)
  -- "6 driver offered over 64 bytes", "7 offered while a packet is held": "both states as given"
  pub given_with_6 : offered (replicate 65 0x41) reset fresh ≡ call reset fresh (Err OfferTooLong)
  pub given_with_7 : offered (0x41 ∷ []) reset holding ≡ call reset holding (Err PacketHeld)
  -- "5 before 1 to 4, 6 and 7"
  pub five_before_6_and_7 : offered (replicate 65 0x41) ill_model holding ≡ call ill_model holding (Err NotWellFormed)
  -- ---- well formed
  -- "levels within size", of FIFO0, a transmit FIFO and a receive FIFO
  pub level0_within_8 : (zero.well_formed true (filled0 8) ≡ true) × (zero.well_formed true (filled0 9) ≡ false)
  pub tx_level_within_64 : (sender.well_formed true (filled 64) ≡ true) × (sender.well_formed true (filled 65) ≡ false)
  pub rx_level_within_64 : (receiver.well_formed true (filled_rx 64) ≡ true) × (receiver.well_formed true (filled_rx 65) ≡ false)
  -- "read - saved at most 64"
  pub saved_within_64 : (sender.well_formed true (spent 0 64) ≡ true) × (sender.well_formed true (spent 0 65) ≡ false)
  -- "and 0 while LAST is set"
  pub saved_at_last : (sender.well_formed true (sender.with_last true (spent 1 1)) ≡ true) × (sender.well_formed true (sender.with_last true (spent 0 1)) ≡ false)
  -- "or data (0, 2, 4, 6; ..)"
  pub who_awaits_data : (well_formed (awaits_data 0) ≡ true) × (well_formed (awaits_data 2) ≡ true) × (well_formed (awaits_data 4) ≡ true) × (well_formed (awaits_data 6) ≡ true)
  pub who_awaits_none : (well_formed (awaits_data 1) ≡ false) × (well_formed (awaits_data 3) ≡ false) × (well_formed (awaits_data 5) ≡ false) × (well_formed (awaits_data 7) ≡ false)
  -- ---- registers
  -- "07 MAMSK"; "0B mask"; "0D mask"; "0F mask"
  pub masks_read_back : output (hex "0207FF010107020BFF01010B020DFF01010D020FFF01010F") ≡ ascii "0 - 0\n1 read FF 0\n2 - 0\n3 read FF 0\n4 - 0\n5 read FF 0\n6 - 0\n7 read FF 0\n"
  -- "0C RXEV: .. 3..1 RX_LAST or RX_ERR"
  pub rx_err_in_rxev : output (hex "02050202048501022C12023413023C14022F01023701023F01040502060000016104050306000001620405040600000163010C") ≡ ascii "0 - 0\n1 - 0\n2 - 0\n3 - 0\n4 - 0\n5 - 0\n6 - 0\n7 - 0\n8 - 0\n9 - 0\n10 - 0\n11 - 0\n12 - 0\n13 - 0\n14 read 0E 0\n"
  -- "7 TX_URUN (not 0)": endpoint 0 has no LAST, its packet is never broken
  pub no_tx_urun_on_0 : output (hex "02050202048501022141022301030500070122") ≡ ascii "0 - 0\n1 - 0\n2 - 0\n3 - 0\n4 data0 41 0\n5 - 0\n6 read 68 0\n"
  -- "the others 6..5 stored"
  pub rxc_keeps_6_and_5 : output (hex "020502022FF701012F") ≡ ascii "0 - 0\n1 - 0\n2 read 65 0\n"
  -- "TXD reads 0."
  pub txd_reads_0 : output (hex "0221410121022941012902314101310239410139") ≡ ascii "0 - 0\n1 read 00 0\n2 - 0\n3 read 00 0\n4 - 0\n5 read 00 0\n6 - 0\n7 read 00 0\n"
  -- ---- tokens and IN
  -- "the endpoints with EP_EN and that number"
  pub ep_en_and_number : output (hex "02050202048501022801030501022812030501022811030501") ≡ ascii "0 - 0\n1 - 0\n2 - 0\n3 - 0\n4 - 0\n5 - 0\n6 - 0\n7 nak 0\n"
  -- "Not enabled (TX_EN clear; on 0 also RX_EN set or, H, received bytes unread), NAK"
  pub rx_en_or_unread : output (hex "020502020485010227010223010305000405000600010161030500") ≡ ascii "0 - 0\n1 - 0\n2 - 0\n3 - 0\n4 nak 0\n5 - 0\n6 ack 0\n7 nak 0\n"
  pub sent_once_read : output (hex "0205020204850102270102230104050006000101610125030500") ≡ ascii "0 - 0\n1 - 0\n2 - 0\n3 - 0\n4 - 0\n5 ack 0\n6 read 61 0\n7 data0 - 0\n"
  -- "a broken packet, all bytes spent, saved = read, .. TX_EN cleared": RFF brings nothing back
  pub broken_for_good : output (hex "02050202048501022811022941022B01030501012B022B13030501") ≡ ascii "0 - 0\n1 - 0\n2 - 0\n3 - 0\n4 - 0\n5 broken 0\n6 read 00 0\n7 - 0\n8 data0 - 0\n"
  -- ---- data
  -- "unsound, silence, on 2, 4, 6 bytes stored, RX_ERR set, RX_EN cleared": on 0 none of it; "7 RX_ERR (not 0)"
  pub unsound_on_0 : output (hex "02050202048501022701040500060000026162012601270122") ≡ ascii "0 - 0\n1 - 0\n2 - 0\n3 - 0\n4 - 0\n5 read 00 0\n6 read 01 0\n7 read 08 0\n"
  -- "Silence if IGN_SETUP, .. PID 1": as IGN_SETUP stands at the data
  pub setup_ignored : output (hex "02050202048501050500022704060001080102030405060708050500022700060001080102030405060708") ≡ ascii "0 - 0\n1 - 0\n2 - 0\n3 - 0\n4 - 0\n5 - 0\n6 - 0\n7 ack 0\n"
  pub setup_with_pid_1 : output (hex "02050202048501050500060101080102030405060708050500060001080102030405060708") ≡ ascii "0 - 0\n1 - 0\n2 - 0\n3 - 0\n4 - 0\n5 ack 0\n"
  -- "Else bytes to send go, 8 stored, .. TOGGLE 0, TX_EN .. cleared": TOGGLE of RXS0, which a DATA1 had set; that of TXC0 stays
  pub setup_clears : output (hex "0205020204850102270104050006010101610125022305022142050500060001080102030405060708012601230125") ≡ ascii "0 - 0\n1 - 0\n2 - 0\n3 - 0\n4 ack 0\n5 read 61 0\n6 - 0\n7 - 0\n8 - 0\n9 ack 0\n10 read 58 0\n11 read 04 0\n12 read 01 0\n"
  -- ---- the driver
  -- "Start makes the reset state, then writes ..": what the five writes leave alone
  pub starts_from_reset : ((set_up 5 (bus_endpoint 1) (bus_endpoint 2)).chip.control ≡ zero.reset_control) × ((set_up 5 (bus_endpoint 1) (bus_endpoint 2)).chip.masks ≡ reset_chip.masks) × ((set_up 5 (bus_endpoint 1) (bus_endpoint 2)).memory ≡ replicate 392 0)
  -- "a in 0..127, e, f in 1..15 (else 4, with the reset state and a driver that holds nothing)"
  pub startable_bounds : (startable 0 (bus_endpoint 1) (bus_endpoint 15) ≡ true) × (startable 127 (bus_endpoint 15) (bus_endpoint 1) ≡ true)
  pub start_a_128 : started 128 (bus_endpoint 1) (bus_endpoint 2) ≡ not_started
  pub start_e_0_and_16 : (started 5 (bus_endpoint 0) (bus_endpoint 2) ≡ not_started) × (started 5 (bus_endpoint 16) (bus_endpoint 2) ≡ not_started)
  pub start_f_0_and_16 : (started 5 (bus_endpoint 1) (bus_endpoint 0) ≡ not_started) × (started 5 (bus_endpoint 1) (bus_endpoint 16) ≡ not_started)
  -- "held and TX_DONE: with ACK_STAT flip the toggle, hold nothing"
  pub flips_with_ack : (m : Model) → answered 0x60 m holding ≡ call m delivered (Ok Delivered)
  -- "The answer itself has room for 64 bytes, unused ones 0"
  pub room_for_64 : padded (0x41 ∷ 0x42 ∷ []) ≡ 0x41 ∷ 0x42 ∷ replicate 62 0
  -- "Neither flag: nothing.": 2F is not written, so RX_EN is not set, whatever was counted
  pub no_flag_no_write : (m : Model) (d : Driver) → receiving.judged 0x0F m d ≡ call m d (Ok Nothing)

pub sentences : Sentences
unfolding figure pairs count_trailing_zeros pick index_of store_all bytes_from rcount put0 take0 fill0 put_tx refill_tx take_rx fill_rx ranges event_of count_of kind_of values_of within in_range number_from before field fields_at body_at record_at read_at takes heard moved marked command sent sender.answer_in sender.near sender.well_formed flushed judged received received_bytes receiver.well_formed zero.unmarked_empty zero.well_formed flushed_by tx_command rx_bits disabled handshake judge_out stored zero-bus.answer_in refused judge_setup after_setup maev line stop_sender stop_receiver stop_zero nfsr_write mask_write mask_of control_read sender_read receiver_read read_of control_command receive_command control_write control_bytes sender_command sender_write sender_bytes receiver_write write_of bytes_of own zero_takes sender_takes receiver_takes in_mask out_mask winner packet_of idled done_flush done_byte sender_byte ended_zero ended_sender ended_at dropped_setup marked_out overrun data_zero data_zero_bytes data_receiver data_receiver_bytes data_setup data_setup_bytes data_at data_at_bytes awaiting marked_in in_zero in_sender in_at out_at setup_token quiet read_step write_step in_step out_step setup_step data_step data_step_bytes end_step step_of step_bytes sends receives unheld flush_beside held_beside pending_for senders_well receivers_well registers_well well_formed stepped stepped_bytes written startable set_up started admission offered_by offered answered send_served receiving.judged receive_served run_of overlay last_digits decimal packet_bytes hex_bytes payload_text value_text answer_text line_text refusal_text did line_of shown output_from output
sentences =
    record {
      register_64_read = refl;
      register_64_written = refl;
      address_128 = refl;
      pid_2 = refl;
      past_the_end = (refl, refl);
      given_with_5 = λ m. (refl, refl);
      given_with_5_run = (refl, refl);
      given_with_5_service = λ d. (refl, refl);
      given_with_4 = λ m. (refl, refl);
      given_with_6 = refl;
      given_with_7 = refl;
      five_before_6_and_7 = refl;
      level0_within_8 = (refl, refl);
      tx_level_within_64 = (refl, refl);
      rx_level_within_64 = (refl, refl);
      saved_within_64 = (refl, refl);
      saved_at_last = (refl, refl);
      who_awaits_data = (refl, refl, refl, refl);
      who_awaits_none = (refl, refl, refl, refl);
      masks_read_back = refl;
      rx_err_in_rxev = refl;
      no_tx_urun_on_0 = refl;
      rxc_keeps_6_and_5 = refl;
      txd_reads_0 = refl;
      ep_en_and_number = refl;
      rx_en_or_unread = refl;
      sent_once_read = refl;
      broken_for_good = refl;
      unsound_on_0 = refl;
      setup_ignored = refl;
      setup_with_pid_1 = refl;
      setup_clears = refl;
      starts_from_reset = (refl, refl, refl);
      startable_bounds = (refl, refl);
      start_a_128 = refl;
      start_e_0_and_16 = (refl, refl);
      start_f_0_and_16 = (refl, refl);
      flips_with_ack = λ m. refl;
      room_for_64 = refl;
      no_flag_no_write = λ m d. refl;
    }

-- What a read of each register shows, and what it leaves: "those not named read 0".
use Rattle.std.specs.Prelude.{ℕ, ◌+◌, ◌*◌, ◌%◌, false, ◌&&◌, List, replicate, eqb, leb}
use Rattle.choice.specs.Choice.{pick}
use Rattle.window.specs.declared.FifoNumber.{FifoNumber}
use Rattle.epc.specs.Bits.{bit_of}
use Rattle.epc.specs.Epc as epc
use Rattle.sender.specs.Sender as sender
use Rattle.receiver.specs.Receiver as receiver
use Rattle.control.specs.Registers as control
use Rattle.state.specs.declared.Chip.{Chip}
use Rattle.state.specs.State.{sender_at, receiver_at}
use Rattle.state.specs.Set.{with_control, with_sender, with_receiver, with_events}
use Rattle.interrupt.specs.Interrupt.{txev, rxev, nakev, maev}
use Rattle.reads.specs.declared.ReadOut.{ReadOut}
use Rattle.slot.specs.declared.Register.{Register}
use Rattle.slot.specs.declared.Register.TheVariants.{Epc, Data, Status, Command}
use Rattle.slot.specs.Slot.{slot_of}

abbrev pub shown : ℕ → Chip → ReadOut
shown v c = record { chip = c; value = v }

-- FAR: "bit 7 AD_EN, 6..0 address"
abbrev pub far_of : Chip → ℕ
far_of c = 128 * bit_of c.aden + c.address % 128

-- "07 MAMSK"; "0B mask" of TXEV; "0D mask" of RXEV; "0F mask" of NAKEV
unfoldable pub mask_of : ℕ → Chip → ℕ
mask_of which c = pick (eqb which 0) c.masks.main (pick (eqb which 1) c.masks.tx (pick (eqb which 2) c.masks.rx c.masks.nak))

-- "7..4 overrun, cleared on read"
abbrev pub rxev_read : Chip → ReadOut
rxev_read c =
    record { chip = with_events (record { over = replicate 4 false; nakin = c.events.nakin; nakout = c.events.nakout }) c; value = rxev c }

-- "3..0 NAK to IN, 7..4 NAK to OUT, cleared on read"
abbrev pub nakev_read : Chip → ReadOut
nakev_read c =
    record { chip = with_events (record { over = c.events.over; nakin = replicate 4 false; nakout = replicate 4 false }) c; value = nakev c }

-- "20 EPC0 .. 21 TXD0, 22 TXS0, 23 TXC0, 25 RXD0, 26 RXS0, 27 RXC0"; "TXD reads 0"; "A read clears the flags"
unfoldable pub control_read : ℕ → Chip → List ℕ → ReadOut
control_read a c m =
    pick (eqb a 0x20) (shown (control.epc_value c.control) c)
    (pick (eqb a 0x22) (shown (control.tx_status c.control) (with_control (control.tx_cleared c.control) c))
    (pick (eqb a 0x23) (shown (control.tx_command_value c.control) c)
    (pick (eqb a 0x25) (shown (control.take_data c.control m).value (with_control (control.take_data c.control m).next c))
    (pick (eqb a 0x26) (shown (control.rx_status c.control) (with_control (control.rx_cleared c.control) c))
    (pick (eqb a 0x27) (shown (control.rx_command_value c.control) c)
    (shown 0 c))))))

-- the four registers of an endpoint that sends: EPC, TXD, TXS, TXC
unfoldable pub sender_read : Register → FifoNumber → Chip → ReadOut
sender_read Epc n c = shown (epc.epc_value (sender_at n c).epc) c
sender_read Data n c = shown 0 c
sender_read Status n c = shown (sender.status_of (sender_at n c)) (with_sender n (sender.cleared (sender_at n c)) c)
sender_read Command n c = shown (sender.command_value (sender_at n c)) c

-- the four registers of an endpoint that receives: EPC, RXD, RXS, RXC
unfoldable pub receiver_read : Register → FifoNumber → Chip → List ℕ → ReadOut
receiver_read Epc n c m = shown (epc.epc_value (receiver_at n c).epc) c
receiver_read Data n c m =
    shown (receiver.take_byte n (receiver_at n c) m).value (with_receiver n (receiver.take_byte n (receiver_at n c) m).next c)
receiver_read Status n c m = shown (receiver.status_of (receiver_at n c)) (with_receiver n (receiver.cleared (receiver_at n c)) c)
receiver_read Command n c m = shown (receiver.command_value (receiver_at n c)) c

abbrev pub endpoint_read : ℕ → Chip → List ℕ → ReadOut
endpoint_read a c m =
    pick (slot_of a).sends (sender_read (slot_of a).register (slot_of a).number c) (receiver_read (slot_of a).register (slot_of a).number c m)

-- every address
unfoldable pub read_of : ℕ → Chip → List ℕ → ReadOut
read_of a c m =
    pick (eqb a 0x04) (shown (far_of c) c)
    (pick (eqb a 0x05) (shown c.nfsr c)
    (pick (eqb a 0x06) (shown (maev c) c)
    (pick (eqb a 0x07) (shown (mask_of 0 c) c)
    (pick (eqb a 0x0A) (shown (txev c) c)
    (pick (eqb a 0x0B) (shown (mask_of 1 c) c)
    (pick (eqb a 0x0C) (rxev_read c)
    (pick (eqb a 0x0D) (shown (mask_of 2 c) c)
    (pick (eqb a 0x0E) (nakev_read c)
    (pick (eqb a 0x0F) (shown (mask_of 3 c) c)
    (pick (leb 0x20 a && leb a 0x27) (control_read a c m)
    (pick (leb 0x28 a && leb a 0x3F) (endpoint_read a c m)
    (shown 0 c))))))))))))

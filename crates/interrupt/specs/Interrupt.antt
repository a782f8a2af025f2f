-- TXEV, RXEV, NAKEV, MAEV and the interrupt line, as functions of the state.
use Rattle.std.specs.Prelude.{ℕ, ◌+◌, ◌*◌, ◌%◌, Bool, false, ◌&&◌, ◌||◌, not, List, get_or, eqb}
use Rattle.std.specs.Int.Bits.{bit_and}
use Rattle.epc.specs.Bits.{bit_of, has}
use Rattle.sender.specs.declared.Sender.{Sender}
use Rattle.sender.specs.Sender.{reset_sender}
use Rattle.receiver.specs.declared.Receiver.{Receiver}
use Rattle.receiver.specs.Receiver.{reset_receiver}
use Rattle.state.specs.declared.Chip.{Chip}

-- two bytes share a bit
abbrev pub shares : ℕ → ℕ → Bool
shares a b = not (eqb (bit_and a b) 0)

-- the sender of TXFIFO1 + i, the receiver of RXFIFO1 + i
abbrev pub sender_of : ℕ → Chip → Sender
sender_of i c = get_or c.senders i reset_sender

abbrev pub receiver_of : ℕ → Chip → Receiver
receiver_of i c = get_or c.receivers i reset_receiver

-- a flag of a list of four, by FIFO number
abbrev pub flag_of : ℕ → List Bool → ℕ
flag_of k l = bit_of (get_or l k false)

-- TXEV: "bits 3..0 copy TX_DONE of FIFO 0..3; 7..5 copy TX_URUN of 3..1"
abbrev pub txev : Chip → ℕ
txev c =
    bit_of c.control.done + 2 * bit_of (sender_of 0 c).done + 4 * bit_of (sender_of 1 c).done + 8 * bit_of (sender_of 2 c).done
    + 32 * bit_of (sender_of 0 c).urun + 64 * bit_of (sender_of 1 c).urun + 128 * bit_of (sender_of 2 c).urun

abbrev pub reported : Receiver → ℕ
reported r = bit_of (r.last || r.err)

-- RXEV: "bit 0 RX_LAST of FIFO0; 3..1 RX_LAST or RX_ERR; 7..4 overrun"
abbrev pub rxev : Chip → ℕ
rxev c =
    bit_of c.control.last + 2 * reported (receiver_of 0 c) + 4 * reported (receiver_of 1 c) + 8 * reported (receiver_of 2 c)
    + 16 * flag_of 0 c.events.over + 32 * flag_of 1 c.events.over + 64 * flag_of 2 c.events.over + 128 * flag_of 3 c.events.over

-- NAKEV: "3..0 NAK to IN, 7..4 NAK to OUT"
abbrev pub nakev : Chip → ℕ
nakev c =
    flag_of 0 c.events.nakin + 2 * flag_of 1 c.events.nakin + 4 * flag_of 2 c.events.nakin + 8 * flag_of 3 c.events.nakin
    + 16 * flag_of 0 c.events.nakout + 32 * flag_of 1 c.events.nakout + 64 * flag_of 2 c.events.nakout + 128 * flag_of 3 c.events.nakout

-- MAEV: "bit 6 if RXEV and its mask share a bit, bit 4 NAKEV, bit 2 TXEV; the rest 0"
unfoldable pub maev : Chip → ℕ
maev c =
    4 * bit_of (shares (txev c) c.masks.tx) + 16 * bit_of (shares (nakev c) c.masks.nak) + 64 * bit_of (shares (rxev c) c.masks.rx)

-- "MAMSK bit 7 set and MAEV sharing one of bits 6..0 with it"
unfoldable pub line : Chip → Bool
line c = has 128 c.masks.main && shares (maev c) (c.masks.main % 128)

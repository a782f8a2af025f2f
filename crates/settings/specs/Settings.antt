-- What writes of MCNTRL, FAR, NFSR and the masks leave, and who awaits a handshake.
use Rattle.std.specs.Prelude.{ℕ, ◌%◌, ◌≡◌, Bool, true, false, List, replicate, eqb}
use Rattle.choice.specs.Choice.{pick}
use Rattle.window.specs.declared.FifoNumber.{FifoNumber}
use Rattle.window.specs.Window.{numbered}
use Rattle.epc.specs.Bits.{has, odd}
use Rattle.sender.specs.Sender as sender
use Rattle.receiver.specs.Receiver as receiver
use Rattle.control.specs.Registers as control-registers
use Rattle.state.specs.declared.Endpoint.{Endpoint}
use Rattle.state.specs.declared.Wait.{Wait}
use Rattle.state.specs.declared.Wait.TheVariants.{Nothing, Handshake, Data, Setup}
use Rattle.state.specs.declared.Chip.{Chip}
use Rattle.state.specs.State.{sender_at, receiver_at, nothing, reset_chip}
use Rattle.state.specs.Set.{with_control, with_sender, with_receiver, with_nfsr, with_far, with_masks, with_pending}

-- "2 is operational"
abbrev pub operational : Chip → Bool
operational c = eqb c.nfsr 2

-- that endpoint awaits a handshake
abbrev pub awaits_in : Endpoint → Wait → Bool
awaits_in e Nothing = false
awaits_in e (Handshake w) = eqb w.0 e.0
awaits_in e (Data w) = false
awaits_in e Setup = false

abbrev pub awaits : Endpoint → Chip → Bool
awaits e c = awaits_in e c.pending.wait

-- "the whole byte is held, the newest replacing older"
abbrev pub held_byte : ℕ → Chip → Chip
held_byte v c = with_pending (record { wait = c.pending.wait; holds = true; held = v; flush = c.pending.flush }) c

-- "bit 0 written 1 resets everything (H)"
pub record Reset (v : ℕ) (c : Chip) (m : List ℕ) (r : Chip) (m' : List ℕ) : Type 0 where
  pub state : r ≡ pick (odd v) reset_chip c
  pub bytes : m' ≡ pick (odd v) (replicate 392 0) m

-- FAR: "bit 7 AD_EN, 6..0 address"
abbrev pub far_write : ℕ → Chip → Chip
far_write v c = with_far (has 128 v) (v % 128) c

-- "Writing another value clears TX_EN, LAST, RX_EN, all waits, held command bytes, held flushes and the SETUP mark, without TX_DONE; FIFO bytes
-- stay": TX_EN and LAST of a sender, RX_EN of a receiver, then TX_EN, RX_EN and the mark of endpoint 0 and what is awaited and held
unfoldable pub stop_sender : FifoNumber → Chip → Chip
stop_sender n c = with_sender n (sender.stopped (sender_at n c)) c

unfoldable pub stop_receiver : FifoNumber → Chip → Chip
stop_receiver n c = with_receiver n (receiver.stopped (receiver_at n c)) c

unfoldable pub stop_zero : Chip → Chip
stop_zero c = with_pending nothing (with_control (control-registers.stopped c.control) c)

abbrev pub stop : Chip → Chip
stop c =
    stop_zero
    (stop_receiver (numbered 3)
    (stop_receiver (numbered 2)
    (stop_receiver (numbered 1)
    (stop_sender (numbered 3)
    (stop_sender (numbered 2)
    (stop_sender (numbered 1) c))))))

-- "NFSR bits 1..0: 2 is operational"
unfoldable pub nfsr_write : ℕ → Chip → Chip
nfsr_write v c = pick (eqb (v % 4) 2) (with_nfsr (v % 4) c) (stop (with_nfsr (v % 4) c))

-- "07 MAMSK"; "0B mask" of TXEV; "0D mask" of RXEV; "0F mask" of NAKEV
unfoldable pub mask_write : ℕ → ℕ → Chip → Chip
mask_write which v c =
    pick (eqb which 0) (with_masks (record { main = v; tx = c.masks.tx; rx = c.masks.rx; nak = c.masks.nak }) c)
    (pick (eqb which 1) (with_masks (record { main = c.masks.main; tx = v; rx = c.masks.rx; nak = c.masks.nak }) c)
    (pick (eqb which 2) (with_masks (record { main = c.masks.main; tx = c.masks.tx; rx = v; nak = c.masks.nak }) c)
    (with_masks (record { main = c.masks.main; tx = c.masks.tx; rx = c.masks.rx; nak = v }) c)))

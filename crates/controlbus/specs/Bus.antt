-- Endpoint 0 at a bus event: an IN token, the end of the wait for a handshake, an OUT token and its data.
use Rattle.std.specs.Prelude.{ℕ, ◌≡◌, Bool, true, false, ◌||◌, not, List, length, eqb}
use Rattle.choice.specs.Choice.{pick}
use Rattle.fifo0.specs.Control.{rcount, fits0, fill0, fill0_bytes, spend0}
use Rattle.control.specs.declared.Control.{Control}
use Rattle.control.specs.State.{with_fifo, with_epc, with_tx_flags, with_rx_flags, with_sends, with_receives, with_mark}
use Rattle.verdict.specs.declared.Judged.{Judged}
use Rattle.verdict.specs.declared.Judged.TheVariants as judged
use Rattle.verdict.specs.Verdict.{heard, is_ack}
use Rattle.controlbus.specs.declared.Sent0.{Sent0}
use Rattle.controlbus.specs.declared.Sent0.TheVariants as answer

-- "Not enabled (TX_EN clear; on 0 also RX_EN set or, H, received bytes unread)"
unfoldable pub disabled : Control → Bool
disabled c = not c.sends || c.receives || not (eqb (rcount c.fifo) 0)

-- "In order: IGN_IN, silence. Not enabled (..), NAK and its NAKEV bit. STALL set: answer STALL, TX_EN and ACK_STAT cleared, TX_DONE set. ..
-- Else DATA0 or DATA1 by TOGGLE with all bytes held"
unfoldable pub answer_in : Control → Sent0
answer_in c =
    pick c.ignin answer.Silence
    (pick (disabled c) answer.Nak
    (pick c.stall answer.Stall
    (pick c.txtoggle answer.Data1 answer.Data0)))

-- "STALL set: answer STALL, TX_EN and ACK_STAT cleared, TX_DONE set."; "DEF clears when endpoint 0's data goes out."
abbrev pub after_in : Sent0 → Control → Control
after_in answer.Silence c = c
after_in answer.Nak c = c
after_in answer.Stall c = with_sends false (with_tx_flags false true c)
after_in answer.Data0 c = with_epc c.stall false c
after_in answer.Data1 c = with_epc c.stall false c

-- "If the previous token to 0 was a SETUP that was taken": after an IN, answered or not, it was none
abbrev pub sent : Control → Control
sent c = with_mark false (after_in (answer_in c) c)

-- "On 0: ACK empties FIFO0, clears TX_EN, sets both flags; otherwise bytes and TX_EN stay, flags unchanged (H)."
unfoldable pub handshake : Bool → Control → Control
handshake acked c = pick acked (with_sends false (with_tx_flags true true (with_fifo (spend0 c.fifo) c))) c

-- "In order: IGN_OUT, silence; RX_EN clear, NAK and its bit (unsound data: silence); STALL (unsound: silence) answers STALL, clears RX_EN,
-- sets RX_LAST on 0; no room (on 2, 4, 6 level plus count over 64; on 0 any byte held, or over 8), overrun bit and NAK without its NAKEV bit,
-- RX_EN kept (unsound: silence); unsound, silence, on 2, 4, 6 bytes stored, RX_ERR set, RX_EN cleared; count 0, ACK, RX_EN cleared; else
-- stored, ACK, RX_LAST set, TOGGLE = PID, RX_EN cleared, on 0 SETUP cleared."
unfoldable pub judge_out : Bool → ℕ → Control → Judged
judge_out sound count c =
    pick c.ignout judged.Silence
    (pick (not c.receives) (heard sound judged.Nak)
    (pick c.stall (heard sound judged.Stall)
    (pick (not (fits0 c.fifo count)) (heard sound judged.Overrun)
    (heard sound judged.Ack))))

-- "count 0, ACK, RX_EN cleared; else stored, ACK, RX_LAST set, TOGGLE = PID, RX_EN cleared, on 0 SETUP cleared."
unfoldable pub stored : Bool → Control → List ℕ → Control
stored pid c s =
    pick (eqb (length s) 0)
    (with_receives false c)
    (with_receives false (with_rx_flags false pid true (with_fifo (fill0 c.fifo s) c)))

abbrev pub stored_bytes : Control → List ℕ → List ℕ → List ℕ
stored_bytes c s m = pick (eqb (length s) 0) m (fill0_bytes c.fifo s m)

pub record Stored (pid : Bool) (c : Control) (s : List ℕ) (m : List ℕ) (r : Control) (m' : List ℕ) : Type 0 where
  pub state : r ≡ stored pid c s
  pub bytes : m' ≡ stored_bytes c s m

-- "STALL (..) answers STALL, clears RX_EN, sets RX_LAST on 0; no room (..), overrun bit and NAK without its NAKEV bit, RX_EN kept";
-- "'Unsound: silence' below changes no flag and no byte."
abbrev pub after_out : Judged → Bool → Control → List ℕ → Control
after_out judged.Silence pid c s = c
after_out judged.Nak pid c s = c
after_out judged.Stall pid c s = with_receives false (with_rx_flags c.setup c.toggle true c)
after_out judged.Overrun pid c s = c
after_out judged.Ack pid c s = stored pid c s

abbrev pub after_out_bytes : Judged → Control → List ℕ → List ℕ → List ℕ
after_out_bytes j c s m = pick (is_ack j) (stored_bytes c s m) m

abbrev pub received : Bool → Bool → Control → List ℕ → Control
received pid sound c s = after_out (judge_out sound (length s) c) pid c s

abbrev pub received_bytes : Bool → Control → List ℕ → List ℕ → List ℕ
received_bytes sound c s m = after_out_bytes (judge_out sound (length s) c) c s m

pub record Received (pid sound : Bool) (c : Control) (s : List ℕ) (m : List ℕ) (r : Control) (m' : List ℕ) : Type 0 where
  pub state : r ≡ received pid sound c s
  pub bytes : m' ≡ received_bytes sound c s m

-- "If the previous token to 0 was a SETUP that was taken": after an OUT it was none
abbrev pub out_token : Control → Control
out_token c = with_mark false c

-- Endpoint 0 at a SETUP token: its data, or another bus event that comes instead of it.
use Rattle.std.specs.Prelude.{ℕ, ◌≡◌, Bool, true, false, ◌||◌, not, List, length, eqb}
use Rattle.choice.specs.Choice.{pick}
use Rattle.fifo0.specs.Control.{rcount, fill0, fill0_bytes, spend0}
use Rattle.control.specs.declared.Control.{Control}
use Rattle.control.specs.State.{with_fifo, with_rx_flags, with_sends, with_receives, with_mark}
use Rattle.verdict.specs.declared.Judged.{Judged}
use Rattle.verdict.specs.declared.Judged.TheVariants.{Silence, Ack}
use Rattle.verdict.specs.Verdict.{is_ack}

-- "Silence if IGN_SETUP, unsound, PID 1, count not 8."
unfoldable pub refused : Bool → Bool → ℕ → Control → Bool
refused pid sound count c = c.ignsetup || not sound || pid || not (eqb count 8)

-- "Silence if .. If the previous token to 0 was a SETUP that was taken (a dropped one counts, H): ACK, data dropped. Unread bytes: silence.
-- Else bytes to send go, 8 stored, ACK"
unfoldable pub judge_setup : Bool → Bool → ℕ → Control → Judged
judge_setup pid sound count c =
    pick (refused pid sound count c) Silence
    (pick c.mark Ack
    (pick (not (eqb (rcount c.fifo) 0)) Silence
    Ack))

-- "If the previous token to 0 was a SETUP that was taken": after one that was not taken, or whose data never came, it was none
abbrev pub setup_dropped : Control → Control
setup_dropped c = with_mark false c

-- "Else bytes to send go, 8 stored, ACK, RX_LAST and SETUP set, TOGGLE 0, TX_EN and RX_EN cleared."
abbrev pub taken : Control → List ℕ → Control
taken c s = with_mark true (with_receives false (with_sends false (with_rx_flags true false true (with_fifo (fill0 (spend0 c.fifo) s) c))))

abbrev pub taken_bytes : Control → List ℕ → List ℕ → List ℕ
taken_bytes c s m = fill0_bytes (spend0 c.fifo) s m

pub record TakenSetup (c : Control) (s : List ℕ) (m : List ℕ) (r : Control) (m' : List ℕ) : Type 0 where
  pub state : r ≡ taken c s
  pub bytes : m' ≡ taken_bytes c s m

-- "(a dropped one counts, H): ACK, data dropped": nothing changes, the mark stays. Other data that is acknowledged is taken.
unfoldable pub after_setup : Judged → Control → List ℕ → Control
after_setup j c s = pick (is_ack j) (pick c.mark c (taken c s)) (setup_dropped c)

abbrev pub after_setup_bytes : Judged → Control → List ℕ → List ℕ → List ℕ
after_setup_bytes j c s m = pick (is_ack j) (pick c.mark m (taken_bytes c s m)) m

abbrev pub received_setup : Bool → Bool → Control → List ℕ → Control
received_setup pid sound c s = after_setup (judge_setup pid sound (length s) c) c s

abbrev pub received_setup_bytes : Bool → Bool → Control → List ℕ → List ℕ → List ℕ
received_setup_bytes pid sound c s m = after_setup_bytes (judge_setup pid sound (length s) c) c s m

pub record ReceivedSetup (pid sound : Bool) (c : Control) (s : List ℕ) (m : List ℕ) (r : Control) (m' : List ℕ) : Type 0 where
  pub state : r ≡ received_setup pid sound c s
  pub bytes : m' ≡ received_setup_bytes pid sound c s m

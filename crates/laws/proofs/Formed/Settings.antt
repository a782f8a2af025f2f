-- A write of NFSR keeps a state well formed: into the operational state, in which all is allowed that was, and out of it.
-- Assumes nothing.
use Prim.Native.Nat.{ℕ, ◌%◌, ◌<◌}
use native.Mathlib.Omega.{arith}
use mathlib.Core.Path.{◌≡◌, refl}
use mathlib.Core.Bool.{Bool, true, false, not, ◌&&◌, ◌||◌}
use lib.Dec.{eqb, leb, ltb}
use Rattle.choice.proofs.ByTest.{by_test}
use Rattle.window.specs.Window.{tx_size, rx_size}
use Rattle.ring.specs.Ring.{level}
use Rattle.sender.specs.declared.Sender.{Sender}
use Rattle.sender.specs.Sender as sender
use Rattle.receiver.specs.declared.Receiver.{Receiver}
use Rattle.receiver.specs.Receiver as receiver
use Rattle.kept.proofs.Control as kept-control
use Rattle.state.specs.declared.Chip.{Chip}
use Rattle.state.specs.Set.{with_nfsr}
use Rattle.settings.specs.Settings.{nfsr_write}
use Rattle.formed.specs.Formed.{well_formed}
use Rattle.laws.specs.Typed.{TypedChip}
use Rattle.laws.proofs.Formed.Facts.{WellSender, WellReceiver, Facts, shown}
use Rattle.laws.proofs.Formed.Pending.{entered_well}
use Rattle.laws.proofs.Formed.Stopped.{stopped_facts}

-- what is asked outside the operational state and inside is asked less inside
entered : (o a b : Bool) → (a && (o || b)) ≡ true → (a && (true || b)) ≡ true
entered true a b h = h
entered false true b h = refl
entered false false b h = h

module _ (o : Bool) where
  sender_entered : (s : Sender) → WellSender o s → WellSender true s
  unfolding sender.well_formed
  sender_entered s h =
      entered o (leb (level s.fifo.read s.fifo.write) tx_size && sender.near s && ltb s.high 8 && ltb s.epc.number.0 16)
      (not s.last && not s.enabled) h

  receiver_entered : (r : Receiver) → WellReceiver o r → WellReceiver true r
  unfolding receiver.well_formed
  receiver_entered r h =
      entered o (leb (level r.fifo.read r.fifo.write) rx_size && ltb r.middle 4 && ltb r.epc.number.0 16) (not r.enabled) h

module _ (o : Bool) (c : Chip) (f : Facts o c) (x : ℕ) (small : x < 4) where
  entered_facts : eqb x 2 ≡ true → Facts true (with_nfsr x c)
  entered_facts e =
      record {
        state = e;
        control = kept-control.well true c.control (kept-control.in_order o c.control f.control) refl;
        senders = λ i. sender_entered o _ (f.senders i);
        receivers = λ i. receiver_entered o _ (f.receivers i);
        nfsr_small = small;
        address_small = f.address_small;
        pending = entered_well o c.pending f.pending;
      }

-- A write of NFSR keeps a state well formed.
pub nfsr_keeps : (o : Bool) (v : ℕ) (c : Chip) → TypedChip c → Facts o c → well_formed (nfsr_write v c) ≡ true
unfolding nfsr_write
nfsr_keeps o v c t f =
    let small : v % 4 < 4 = omega arith in
    by_test (λ (d : Chip). well_formed d ≡ true) _
    (λ e. shown true _ (entered_facts o c f (v % 4) small e))
    (λ e. shown false _ (stopped_facts o c t f (v % 4) small e))

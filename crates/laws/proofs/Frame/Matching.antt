-- Who takes a token does not change with the end of a wait: AD_EN, the address, DEF and the EPCs stay.
-- Assumes nothing.
use Prim.Native.Nat.{ℕ}
use mathlib.Core.Path.{◌≡◌, refl, ◌∙◌}
use mathlib.Core.Bool.{Bool, true}
use mathlib.Core.List.{List}
use Rattle.choice.proofs.ByTest.{by_test}
use Rattle.window.specs.declared.FifoNumber.{FifoNumber}
use Rattle.event.specs.declared.BusEndpoint.{BusEndpoint}
use Rattle.sender.specs.declared.Sender.{Sender}
use Rattle.sender.specs.Sender as sender
use Rattle.receiver.specs.declared.Receiver.{Receiver}
use Rattle.control.specs.declared.Control.{Control}
use Rattle.control.specs.Registers.{flushed_by, tx_command}
use Rattle.controlbus.specs.Bus as zero-bus
use Rattle.state.specs.declared.Events.{Events}
use Rattle.state.specs.declared.Pending.{Pending}
use Rattle.state.specs.declared.Chip.{Chip}
use Rattle.state.specs.State.{sender_at}
use Rattle.state.specs.Set.{with_sender}
use Rattle.tokens.specs.Tokens.{own, zero_takes, sender_takes, receiver_takes, in_mask, out_mask}
use Rattle.window.specs.Window.{numbered}
use Rattle.ends.specs.Ends.{idled, done_flush, done_byte, sender_byte, ended_zero, ended_sender, ended, dropped_setup, dropped}
use Rattle.step.specs.Step.{quiet}
use Rattle.laws.proofs.Typed.Steps.{ended_by, dropped_by}
use Rattle.laws.specs.Settings.{Settled, Epcs, Configured}
use Rattle.laws.proofs.Frame.Epcs.{epcs_then, alike, sender_epcs, command_epc}

-- what a match looks at
pub record Looks (c c' : Chip) : Type 0 where
  pub same : Configured c c'
  pub def : c'.control.def ≡ c.control.def

module _ (a : ℕ) (e : BusEndpoint) (c c' : Chip) (k : Looks c c') where
  pub zero_by : zero_takes a e c' ≡ zero_takes a e c
  unfolding zero_takes own
  zero_by = rw (k.same.settled.aden, k.same.settled.address, k.def)

  sender_by : (n : FifoNumber) → sender_takes a e n c' ≡ sender_takes a e n c
  unfolding sender_takes own
  sender_by n = rw (k.same.settled.aden, k.same.settled.address, k.same.epcs.senders n)

  receiver_by : (n : FifoNumber) → receiver_takes a e n c' ≡ receiver_takes a e n c
  unfolding receiver_takes own
  receiver_by n = rw (k.same.settled.aden, k.same.settled.address, k.same.epcs.receivers n)

  pub in_by_lem : in_mask a e c' ≡ in_mask a e c
  unfolding in_mask
  in_by_lem = rw (zero_by, sender_by (numbered 1), sender_by (numbered 2), sender_by (numbered 3))

  pub out_by_lem : out_mask a e c' ≡ out_mask a e c
  unfolding out_mask
  out_by_lem = rw (zero_by, receiver_by (numbered 1), receiver_by (numbered 2), receiver_by (numbered 3))

-- a chip with other endpoints, events or waits
pub kept : (c : Chip) (z : Control) (s : List Sender) (r : List Receiver) (e : Events) (h : Pending)
    → Settled c (record {
      control = z;
      senders = s;
      receivers = r;
      nfsr = c.nfsr;
      aden = c.aden;
      address = c.address;
      masks = c.masks;
      events = e;
      pending = h;
    })
kept c z s r e h = record { nfsr = refl; aden = refl; address = refl }

pub settled_then : (a b c : Chip) → Settled a b → Settled b c → Settled a c
settled_then a b c x y = record { nfsr = y.nfsr ∙ x.nfsr; aden = y.aden ∙ x.aden; address = y.address ∙ x.address }

pub configured_then : (a b c : Chip) → Configured a b → Configured b c → Configured a c
configured_then a b c x y =
    record { settled = settled_then a b c x.settled y.settled; epcs = epcs_then a b c x.epcs y.epcs }

looks : (c : Chip) → Looks c c
looks c = record { same = record { settled = kept c _ _ _ _ _; epcs = alike c c refl refl }; def = refl }

byte_epc : (holds : Bool) (v : ℕ) (s : Sender) → (sender_byte holds v s).epc ≡ s.epc
unfolding sender_byte
byte_epc holds v s = by_test (λ (x : Sender). x.epc ≡ s.epc) _ (λ _. command_epc true v s) (λ _. refl)

-- endpoint 0's wait, its held flush and its held byte leave DEF
abbrev Def-of : Control → Control → Type 0
Def-of z x = x.def ≡ z.def

flush_def : (v : ℕ) (z : Control) → Def-of z (flushed_by v z)
unfolding flushed_by
flush_def v z = by_test (Def-of z) _ (λ _. refl) (λ _. refl)

byte_def : (holds : Bool) (v : ℕ) (z : Control) → Def-of z (done_byte holds v z)
unfolding done_byte tx_command
byte_def holds v z = by_test (Def-of z) _ (λ _. flush_def v z) (λ _. refl)

done_def : (flush : Bool) (z : Control) → Def-of z (done_flush flush z)
unfolding done_flush
done_def flush z = by_test (Def-of z) _ (λ _. refl) (λ _. refl)

handshake_def : (acked : Bool) (z : Control) → Def-of z (zero-bus.handshake acked z)
unfolding zero-bus.handshake
handshake_def acked z = by_test (Def-of z) _ (λ _. refl) (λ _. refl)

module _ (acked : Bool) (c : Chip) where
  zero_looks : Looks c (ended_zero acked c)
  unfolding ended_zero idled
  zero_looks =
      record {
        same = record { settled = kept c _ _ _ _ _; epcs = alike c _ refl refl };
        def = byte_def _ _ _ ∙ done_def _ _ ∙ handshake_def acked c.control;
      }

  sender_looks : (k : FifoNumber) → Looks c (ended_sender k acked c)
  unfolding ended_sender idled
  sender_looks k =
      let s : Sender = sender.handshake acked (sender_at k c) in
      let x : Sender = sender_byte c.pending.holds c.pending.held s in
      let e : Epcs c (with_sender k x c) = sender_epcs c k x (byte_epc c.pending.holds c.pending.held s) in
      record { same = record { settled = kept c _ _ _ _ _; epcs = record { senders = e.senders; receivers = e.receivers } }; def = refl }

  pub ended_looks : Looks c (ended acked c)
  ended_looks = ended_by (Looks c) c (looks c) acked zero_looks sender_looks

dropped_looks : (c : Chip) → Looks c (dropped c)
unfolding dropped_setup idled
dropped_looks c =
    dropped_by (Looks c) c (looks c)
    (record { same = record { settled = kept c _ _ _ _ _; epcs = alike c _ refl refl }; def = refl })
    (record { same = record { settled = kept c _ _ _ _ _; epcs = alike c _ refl refl }; def = refl })

-- A token is matched by the same AD_EN, address, DEF and EPCs before the end of a wait and after it.
pub quiet_looks : (acked : Bool) (c : Chip) → Looks c (quiet acked c)
unfolding quiet
quiet_looks acked c =
    let x : Chip = ended acked c in
    let a : Looks c x = ended_looks acked c in
    let b : Looks x (quiet acked c) = dropped_looks x in
    record { same = configured_then c x (quiet acked c) a.same b.same; def = b.def ∙ a.def }

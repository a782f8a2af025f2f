-- What a change of one part of the chip leaves at every other place.
-- Assumes nothing.
use mathlib.Core.Path.{◌≡◌, refl, sym, ap, ◌∙◌}
use mathlib.Core.Bool.{false, false≢true}
use lib.ListN.{get_or}
use lib.Seq.{get_or-set_other}
use borrow.Author.Tests.{eqb-false}
use Rattle.window.specs.declared.FifoNumber.{FifoNumber}
use Rattle.window.specs.Window.{index_of}
use Rattle.control.specs.declared.Control.{Control}
use Rattle.sender.specs.declared.Sender.{Sender}
use Rattle.sender.specs.Sender.{reset_sender}
use Rattle.receiver.specs.declared.Receiver.{Receiver}
use Rattle.receiver.specs.Receiver.{reset_receiver}
use Rattle.state.specs.declared.Pending.{Pending}
use Rattle.state.specs.declared.Events.{Events}
use Rattle.state.specs.declared.Chip.{Chip}
use Rattle.state.specs.Set.{with_control, with_sender, with_receiver, with_events, with_pending}
use Rattle.laws.specs.Place.{Place, zero, sends, receives, at, state_at, awaited, Stays}

-- a place's state by its three parts
pub state_parts : (p : Place) (c c' : Chip) → c'.control ≡ c.control → c'.senders ≡ c.senders → c'.receivers ≡ c.receivers
    → state_at p c' ≡ state_at p c
state_parts zero c c' e f g = e
state_parts (sends n) c c' e f g = ap (λ (l : _). get_or l (index_of n) reset_sender) f
state_parts (receives n) c c' e f g = ap (λ (l : _). get_or l (index_of n) reset_receiver) g

module _ (c : Chip) where
  pub state_control : (p : Place) (x : Control) → at zero p ≡ false → state_at p (with_control x c) ≡ state_at p c
  state_control zero x other = absurd {0} (false≢true (sym other))
  state_control (sends n) x other = refl
  state_control (receives n) x other = refl

  pub state_sender : (p : Place) (k : FifoNumber) (x : Sender) → at (sends k) p ≡ false → state_at p (with_sender k x c) ≡ state_at p c
  state_sender zero k x other = refl
  state_sender (sends n) k x other =
      get_or-set_other c.senders (index_of k) (index_of n) x reset_sender (λ e. eqb-false (index_of k) (index_of n) other (sym e))
  state_sender (receives n) k x other = refl

  pub state_receiver : (p : Place) (k : FifoNumber) (x : Receiver) → at (receives k) p ≡ false → state_at p (with_receiver k x c) ≡ state_at p c
  state_receiver zero k x other = refl
  state_receiver (sends n) k x other = refl
  state_receiver (receives n) k x other =
      get_or-set_other c.receivers (index_of k) (index_of n) x reset_receiver (λ e. eqb-false (index_of k) (index_of n) other (sym e))

  pub state_pending : (p : Place) (x : Pending) → state_at p (with_pending x c) ≡ state_at p c
  state_pending p x = state_parts p c (with_pending x c) refl refl refl

module _ (p : Place) (c c' : Chip) (state : state_at p c' ≡ state_at p c) where
  -- nothing awaited or held has changed
  pub stays_by : c'.pending ≡ c.pending → Stays p c c'
  unfolding awaited
  stays_by e = record { state = state; awaits = rw e; held = λ _. e }

  -- nothing is awaited of this place, before or after
  pub free_by : awaited p c ≡ false → awaited p c' ≡ false → Stays p c c'
  free_by before after = record { state = state; awaits = after ∙ sym before; held = λ yes. absurd {0} (false≢true (sym before ∙ yes)) }

pub stays : (p : Place) (c : Chip) → Stays p c c
stays p c = record { state = refl; awaits = refl; held = λ _. refl }

pub stays_then : (p : Place) {a b c : Chip} → Stays p a b → Stays p b c → Stays p a c
stays_then p x y =
    record { state = y.state ∙ x.state; awaits = y.awaits ∙ x.awaits; held = λ h. y.held (x.awaits ∙ h) ∙ x.held h }

pub stays_from : (p : Place) {a b c : Chip} → Stays p a b → Stays p a c → awaited p b ≡ false → Stays p b c
stays_from p x y free =
    record {
      state = y.state ∙ sym x.state;
      awaits = y.awaits ∙ sym x.awaits;
      held = λ h. absurd {0} (false≢true (sym free ∙ h));
    }

module _ (p : Place) (c : Chip) where
  -- a part of the chip that is no endpoint's, or another's
  pub plain_stays : (c' : Chip) → c'.control ≡ c.control → c'.senders ≡ c.senders → c'.receivers ≡ c.receivers → c'.pending ≡ c.pending
      → Stays p c c'
  plain_stays c' e f g h = stays_by p c c' (state_parts p c c' e f g) h

  pub events_stay : (x : Events) → Stays p c (with_events x c)
  events_stay x = plain_stays (with_events x c) refl refl refl refl

  pub control_stays : (x : Control) → at zero p ≡ false → Stays p c (with_control x c)
  control_stays x other = stays_by p c (with_control x c) (state_control c p x other) refl

  pub sender_stays : (k : FifoNumber) (x : Sender) → at (sends k) p ≡ false → Stays p c (with_sender k x c)
  sender_stays k x other = stays_by p c (with_sender k x c) (state_sender c p k x other) refl

  pub receiver_stays : (k : FifoNumber) (x : Receiver) → at (receives k) p ≡ false → Stays p c (with_receiver k x c)
  receiver_stays k x other = stays_by p c (with_receiver k x c) (state_receiver c p k x other) refl

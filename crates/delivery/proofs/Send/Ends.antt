-- Endpoint 1 seen over an event that leaves it as it was, and over the end of its wait.
-- Assumes nothing.
use Prim.Native.Nat.{ℕ}
use mathlib.Core.Path.{◌≡◌, ◌∙◌}
use mathlib.Core.Bool.{Bool, true, false}
use mathlib.Core.List.{List, []}
use Rattle.choice.specs.Choice.{pick}
use Rattle.window.specs.declared.Kind.TheVariants as kind
use Rattle.window.specs.Window.{start_of, numbered}
use Rattle.contents.proofs.Ring.{sixty_four}
use Rattle.contents.proofs.Windows.{contents_window}
use Rattle.event.specs.declared.Event.TheVariants as event
use Rattle.sender.specs.declared.Sender.{Sender}
use Rattle.sender.specs.Sender.{handshake}
use Rattle.state.specs.declared.Wait.TheVariants as wait
use Rattle.state.specs.declared.Chip.{Chip}
use Rattle.state.specs.State.{Model}
use Rattle.settings.specs.Settings.{operational}
use Rattle.ends.specs.Ends.{idled, sender_byte, ended_sender, ended_at}
use Rattle.step.specs.Step.{quiet, end_step, step_of, step_bytes}
use Rattle.laws.specs.Place.{endpoint, sends, Same}
use Rattle.laws.proofs.Frame.Waits.{quiet_free}
use Rattle.laws.specs.Next.{next}
use Rattle.laws.proofs.Typed.At.{sender_same}
use Rattle.delivery.specs.Host.{Packet}
use Rattle.delivery.specs.Stage.{view_of, between, Spent, Idle, Armed, Waiting, Acked, Failed}
use Rattle.delivery.proofs.Send.Fifo.{view_as, acked_ends, failed_ends}
use Rattle.delivery.proofs.Send.Chip.{first, Sized}

-- ---- left as it was

module _ (m m' : List ℕ) (e : (x y : ℕ) → between m' x y ≡ between m x y) (s : Sender) (b h h' : Bool) where
  idle_over : Idle (view_as s b h m) → Idle (view_as s b h' m')
  idle_over i = record { nothing = i.nothing; done = i.done; free = i.free }

  armed_over : (p : Packet) (t : Bool) → Armed p t (view_as s b h m) → Armed p t (view_as s b h' m')
  armed_over p t a =
      record {
        enabled = a.enabled;
        last = a.last;
        toggled = a.toggled;
        done = a.done;
        marked = a.marked;
        fits = a.fits;
        bytes = e _ _ ∙ a.bytes;
        free = a.free;
      }

  spent_over : (p : Packet) → Spent p (view_as s b h m) → Spent p (view_as s b h' m')
  spent_over p x = record { nothing = x.nothing; fits = x.fits; bytes = e _ _ ∙ x.bytes }

  waiting_over : (p : Packet) → h' ≡ h → Waiting p (view_as s b h m) → Waiting p (view_as s b h' m')
  waiting_over p q x = record { spent = spent_over p x.spent; done = x.done; waits = x.waits; unheld = q ∙ x.unheld }

  acked_over : Acked (view_as s b h m) → Acked (view_as s b h' m')
  acked_over x = record { nothing = x.nothing; done = x.done; ack = x.ack; free = x.free }

  failed_over : (p : Packet) → Failed p (view_as s b h m) → Failed p (view_as s b h' m')
  failed_over p x = record { spent = spent_over p x.spent; done = x.done; ack = x.ack; free = x.free }

module _ (m m' : Model) (k : Same (sends (numbered 1)) m m') where
  same_between : (x y : ℕ) → between m'.memory x y ≡ between m.memory x y
  unfolding between
  same_between x y = contents_window sixty_four (start_of kind.Transmit (numbered 1)) m'.memory m.memory x y k.bytes

  pub idle_same : Idle (view_of m) → Idle (view_of m')
  idle_same i = rw (k.endpoint.state, k.endpoint.awaits) (idle_over _ _ same_between _ _ _ _ i)

  pub armed_same : (p : Packet) (t : Bool) → Armed p t (view_of m) → Armed p t (view_of m')
  armed_same p t i = rw (k.endpoint.state, k.endpoint.awaits) (armed_over _ _ same_between _ _ _ _ p t i)

  pub waiting_same : (p : Packet) → Waiting p (view_of m) → Waiting p (view_of m')
  waiting_same p i =
      let h : m'.chip.pending.holds ≡ m.chip.pending.holds = rw (k.endpoint.held i.waits) in
      rw (k.endpoint.state, k.endpoint.awaits) (waiting_over _ _ same_between _ _ _ _ p h i)

  pub acked_same : Acked (view_of m) → Acked (view_of m')
  acked_same i = rw (k.endpoint.state, k.endpoint.awaits) (acked_over _ _ same_between _ _ _ _ i)

  pub failed_same : (p : Packet) → Failed p (view_of m) → Failed p (view_of m')
  failed_same p i = rw (k.endpoint.state, k.endpoint.awaits) (failed_over _ _ same_between _ _ _ _ p i)

-- ---- the end of the wait

module _ (acked : Bool) (c : Chip) (l : Sized c) (w : c.pending.wait ≡ wait.Handshake (endpoint 1)) (unheld : c.pending.holds ≡ false) where
  quiet_first : first (quiet acked c) ≡ handshake acked (first c)
  unfolding quiet ended_at ended_sender idled sender_byte pick
  quiet_first = rw (w, unheld) (sender_same (numbered 1) (handshake acked (first c)) c l)

module _ (p : Packet) (m : Model) (on : operational m.chip ≡ true) (l : Sized m.chip) (w : m.chip.pending.wait ≡ wait.Handshake (endpoint 1))
    (x : Waiting p (view_of m)) where
  -- The host's ACK ends it.
  pub ack_acked : Acked (view_of (next event.Ack [] m))
  unfolding step_of step_bytes end_step pick
  ack_acked =
      rw (on, quiet_first true m.chip l w x.unheld, quiet_free (sends (numbered 1)) true m.chip)
      (acked_ends p (first m.chip) _ _ _ m.memory x)

  -- A timeout ends it.
  pub timeout_failed : Failed p (view_of (next event.Timeout [] m))
  unfolding step_of step_bytes end_step pick
  timeout_failed =
      rw (on, quiet_first false m.chip l w x.unheld, quiet_free (sends (numbered 1)) false m.chip)
      (failed_ends p (first m.chip) _ _ _ m.memory x)

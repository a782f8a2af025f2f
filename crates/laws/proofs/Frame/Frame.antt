-- An event for one endpoint leaves every other endpoint as it was, but for the exceptions, and no other.
-- Assumes nothing.
use Prim.Native.Nat.{ℕ}
use mathlib.Core.Path.{◌≡◌, refl, sym, ap, ◌∙◌}
use mathlib.Core.Bool.{Bool, true, false, false≢true}
use mathlib.Core.List.{List}
use lib.Dec.{eqb}
use Rattle.choice.specs.Choice.{pick}
use Rattle.window.specs.declared.Kind.TheVariants as kind
use Rattle.window.specs.Window.{fifo0, start_of}
use Rattle.fifo0.specs.Control.{contents0}
use Rattle.txfifo.specs.Transmit.{tx_contents}
use Rattle.rxfifo.specs.Receive.{rx_contents}
use Rattle.contents.proofs.Ring.{eight, sixty_four}
use Rattle.contents.proofs.Windows.{contents_window}
use Rattle.event.specs.declared.Event.{Event}
use Rattle.event.specs.declared.Event.TheVariants as event
use Rattle.control.specs.declared.Control.{Control}
use Rattle.sender.specs.declared.Sender.{Sender}
use Rattle.receiver.specs.declared.Receiver.{Receiver}
use Rattle.state.specs.declared.Wait.{Wait}
use Rattle.state.specs.declared.Wait.TheVariants as wait
use Rattle.state.specs.declared.Chip.{Chip}
use Rattle.state.specs.State.{Model}
use Rattle.settings.specs.Settings.{operational}
use Rattle.ends.specs.Ends.{ended}
use Rattle.data.specs.Data.{data_now_bytes}
use Rattle.step.specs.Step.{read_step, write_step, in_step, out_step, setup_step, data_step, data_step_bytes, end_step, step_of, step_bytes}
use Rattle.laws.specs.Next.{next}
use Rattle.laws.specs.Place.{Place, zero, sends, receives, State, state_at, bytes_at, Owner, nobody, is_owner, Same}
use Rattle.laws.specs.Owner.{data_owner, owner, is_for, cut, exempt, acks, quieted}
use Rattle.laws.specs.Settings.{is_access}
use Rattle.laws.proofs.Frame.Parts.{stays, stays_then}
use Rattle.laws.proofs.Frame.Registers.{read_stays, write_stays, write_bytes}
use Rattle.laws.proofs.Frame.Waits.{over_in, ended_wait, quiet_stays}
use Rattle.laws.proofs.Frame.Taking.{data_bytes}
use Rattle.laws.proofs.Frame.Events.{in_after, out_after, setup_after, data_after}

pub same : (p : Place) (m : Model) → Same p m m
same p m = record { endpoint = stays p m.chip; bytes = refl }

-- in the operational state
module _ (p : Place) (c : Chip) (on : operational c ≡ true) where
  now : (o : Owner) → is_owner (pick (operational c) o nobody) p ≡ false → is_owner o p ≡ false
  unfolding pick
  now o other = rw on at other

-- data is judged after the end of a wait for a handshake
data_kept : (p : Place) (c : Chip) (pid sound : Bool) (s m : List ℕ) → is_owner (data_owner c.pending.wait) p ≡ false
    → bytes_at p (data_now_bytes pid sound (ended false c) s m) ≡ bytes_at p m
data_kept p c pid sound s m other =
    data_bytes p (ended false c) pid sound s m (ended false c).pending.wait (rw (ended_wait false c) (go c.pending.wait other))
  where
    go : (w : Wait) → is_owner (data_owner w) p ≡ false → is_owner (data_owner (over_in w)) p ≡ false
    go wait.Nothing h = refl
    go (wait.Handshake e) h = refl
    go (wait.Data e) h = h
    go wait.Setup h = h

-- A bus event leaves every endpoint that it is not for exactly as the end of what was awaited leaves it.
pub bus_frame : (e : Event) (s : List ℕ) (m : Model) (p : Place) → is_access e ≡ false → operational m.chip ≡ true → is_for e m.chip p ≡ false
    → Same p (quieted e m) (next e s m)
unfolding is_access owner step_of step_bytes in_step out_step setup_step data_step data_step_bytes end_step pick
bus_frame (event.Read a) s m p t on other = absurd {0} (false≢true (sym t))
bus_frame (event.Write a v) s m p t on other = absurd {0} (false≢true (sym t))
bus_frame (event.In a e) s m p t on other = rw on (record { endpoint = in_after p m.chip a e (now p m.chip on _ other); bytes = refl })
bus_frame (event.Out a e) s m p t on other = rw on (record { endpoint = out_after p m.chip a e (now p m.chip on _ other); bytes = refl })
bus_frame (event.Setup a e) s m p t on other = rw on (record { endpoint = setup_after p m.chip a e (now p m.chip on _ other); bytes = refl })
bus_frame (event.Data pid sound) s m p t on other =
    rw on (record {
      endpoint = data_after p m.chip (eqb pid 1) (eqb sound 1) s (now p m.chip on _ other);
      bytes = data_kept p m.chip (eqb pid 1) (eqb sound 1) s m.memory (now p m.chip on _ other);
    })
bus_frame event.Ack s m p t on other = rw on (record { endpoint = stays p _; bytes = refl })
bus_frame event.Timeout s m p t on other = rw on (record { endpoint = stays p _; bytes = refl })

-- Outside the operational state it changes nothing.
off : (e : Event) (s : List ℕ) (m : Model) (p : Place) → is_access e ≡ false → operational m.chip ≡ false → Same p m (next e s m)
unfolding is_access step_of step_bytes in_step out_step setup_step data_step data_step_bytes end_step pick
off (event.Read a) s m p t no-bus = absurd {0} (false≢true (sym t))
off (event.Write a v) s m p t no-bus = absurd {0} (false≢true (sym t))
off (event.In a e) s m p t no-bus = rw no-bus (same p _)
off (event.Out a e) s m p t no-bus = rw no-bus (same p _)
off (event.Setup a e) s m p t no-bus = rw no-bus (same p _)
off (event.Data pid sound) s m p t no-bus = rw no-bus (same p _)
off event.Ack s m p t no-bus = rw no-bus (same p _)
off event.Timeout s m p t no-bus = rw no-bus (same p _)

-- where nothing is awaited of the endpoint, the end of a wait leaves it too
bus_same : (e : Event) (s : List ℕ) (m : Model) (p : Place) → is_access e ≡ false → is_for e m.chip p ≡ false → cut m.chip p ≡ false
    → Same p m (next e s m)
bus_same e s m p t other free = go (operational m.chip) refl
  where
    go : (b : Bool) → operational m.chip ≡ b → Same p m (next e s m)
    go true on =
        let r : Same p (quieted e m) (next e s m) = bus_frame e s m p t on other in
        record { endpoint = stays_then p (quiet_stays p (acks e) m.chip (rw on at free)) r.endpoint; bytes = r.bytes }
    go false no-bus = off e s m p t no-bus

-- An event for one endpoint leaves every other endpoint's counters, last byte read, flags, command bits, window and wait as they were, but for a
-- write that resets the chip or leaves the operational state, and the bus event that ends the other's wait or drops its awaited OUT.
pub frame : (e : Event) (s : List ℕ) (m : Model) (p : Place) → is_for e m.chip p ≡ false → exempt e m.chip p ≡ false → Same p m (next e s m)
unfolding owner exempt step_of step_bytes read_step write_step is_access
frame (event.Read a) s m p other ok = record { endpoint = read_stays p m.chip a other m.memory; bytes = refl }
frame (event.Write a v) s m p other ok =
    record { endpoint = write_stays p m.chip a other v ok; bytes = write_bytes p m.chip a other v ok m.memory }
frame (event.In a e) s m p other ok = bus_same (event.In a e) s m p refl other ok
frame (event.Out a e) s m p other ok = bus_same (event.Out a e) s m p refl other ok
frame (event.Setup a e) s m p other ok = bus_same (event.Setup a e) s m p refl other ok
frame (event.Data pid sound) s m p other ok = bus_same (event.Data pid sound) s m p refl other ok
frame event.Ack s m p other ok = bus_same event.Ack s m p refl other ok
frame event.Timeout s m p other ok = bus_same event.Timeout s m p refl other ok

-- the bytes that an endpoint's FIFO holds, first to last
abbrev pub holds : (p : Place) → State p → List ℕ → List ℕ
holds zero z m = contents0 z.fifo m
holds (sends n) s m = tx_contents n s.fifo m
holds (receives n) r m = rx_contents n r.fifo m

-- An endpoint that is as it was holds the same bytes.
pub same_holds : (p : Place) (m m' : Model) → Same p m m' → holds p (state_at p m'.chip) m'.memory ≡ holds p (state_at p m.chip) m.memory
same_holds zero m m' k =
    ap (λ (z : Control). contents0 z.fifo m'.memory) k.endpoint.state
    ∙ contents_window eight (start_of kind.Control fifo0) m'.memory m.memory _ _ k.bytes
same_holds (sends n) m m' k =
    ap (λ (s : Sender). tx_contents n s.fifo m'.memory) k.endpoint.state
    ∙ contents_window sixty_four (start_of kind.Transmit n) m'.memory m.memory _ _ k.bytes
same_holds (receives n) m m' k =
    ap (λ (r : Receiver). rx_contents n r.fifo m'.memory) k.endpoint.state
    ∙ contents_window sixty_four (start_of kind.Receive n) m'.memory m.memory _ _ k.bytes

-- The driver's calls on endpoint 1: an offer arms it, the send service reads TXS and resends, the receive service leaves it as it was.
-- Assumes nothing.
use Prim.Native.Nat.{ℕ, ◌≤◌, ◌<◌}
use mathlib.Core.Path.{◌≡◌, refl, ap, ◌∙◌}
use mathlib.Core.Bool.{Bool, true, false}
use mathlib.Core.List.{[]}
use lib.ListN.{length}
use lib.Dec.{eqb}
use Rattle.choice.specs.Choice.{pick}
use Rattle.contents.proofs.Ring.{Counters}
use Rattle.event.specs.declared.Event.TheVariants as event
use Rattle.epc.specs.Bits.{has}
use Rattle.sender.specs.declared.Sender.{Sender}
use Rattle.sender.specs.Sender.{cleared, command}
use Rattle.state.specs.declared.Chip.{Chip}
use Rattle.state.specs.State.{Model}
use Rattle.state.specs.Set.{with_sender}
use Rattle.settings.specs.Settings.{operational}
use Rattle.window.specs.Window.{numbered}
use Rattle.step.specs.Step.{read_step, write_step, step_of, step_bytes}
use Rattle.laws.specs.Place.{Place, awaited, Same}
use Rattle.laws.specs.Owner.{register_owner, slot_place, owner, exempt}
use Rattle.laws.proofs.Frame.Parts.{stays_then}
use Rattle.laws.proofs.Frame.Frame.{same, frame}
use Rattle.laws.specs.Typed.{Typed}
use Rattle.laws.proofs.Typed.At.{sender_same}
use Rattle.driver.specs.declared.Driver.{Driver}
use Rattle.driver.specs.Registers.{whole, written, written_all, value, seen}
use Rattle.driver.specs.Driver.{armed, again, accepted}
use Rattle.driving.specs.Touches.{Touches, Receiving, rxd, rxs, rxc}
use Rattle.driving.proofs.Reached.{touches_by}
use Rattle.delivery.specs.Host.{Packet}
use Rattle.delivery.specs.Stage.{View, view_of, Idle, Armed, Waiting, Acked, Failed}
use Rattle.delivery.proofs.Send.Fifo.{view_as, resent_arms, offer_arms, shows_done, shows_ack}
use Rattle.delivery.proofs.Send.Chip.{first, Sized, put_sized, txc_written, all_put, txs_value, txs_seen}
use Rattle.delivery.proofs.Send.Token.{one}

-- endpoint 1 put
put_view : (x : Sender) (m : Model) → Sized m.chip
    → ◌≡◌ {A = View} (view_of (whole (with_sender (numbered 1) x m.chip) m.memory)) (view_as x (awaited one m.chip) m.chip.pending.holds m.memory)
unfolding awaited
put_view x m l = rw (sender_same (numbered 1) x m.chip l) refl

-- ---- TXC1

module _ (v : ℕ) (m : Model) (free : awaited one m.chip ≡ false) (on : operational m.chip ≡ true) (l : Sized m.chip) where
  commanded : view_of (written 0x2B v m) ≡ view_as (command true v (first m.chip)) false m.chip.pending.holds m.memory
  commanded =
      let x : Sender = command true v (first m.chip) in
      rw (txc_written v m free on) (put_view x m l ∙ ap (λ (b : Bool). view_as x b m.chip.pending.holds m.memory) free)

-- ---- an offer

awaited_by : (c c' : Chip) → c'.pending ≡ c.pending → awaited one c' ≡ awaited one c
unfolding awaited
awaited_by c c' e = rw e

module _ (p : Packet) (m : Model) (d : Driver) (t : Typed m) (on : operational m.chip ≡ true) (i : Idle (view_of m)) (le : length p ≤ 64) where
  pub offered_arms : Armed p d.sends (view_of (accepted p m d).model)
  unfolding accepted
  offered_arms =
      let n : Model = written_all 0x29 p m in
      let s : Sender = first m.chip in
      let r : _ = all_put p m t.chip.senders.sized in
      let free : awaited one n.chip ≡ false = awaited_by m.chip n.chip r.pending ∙ i.free in
      let up : operational n.chip ≡ true = ap (λ (k : ℕ). eqb k 2) r.nfsr ∙ on in
      let c : Counters s.fifo.read s.fifo.write =
      record { read_small = (t.chip.senders.each _).read_byte; write_small = (t.chip.senders.each _).write_byte } in
      rw (commanded (armed d.sends) n free up r.sized, r.sender, r.memory)
      (offer_arms p s m.memory c t.memory.sized i.nothing.empty le d.sends n.chip.pending.holds i.done)

-- ---- the send service

module _ (m : Model) (l : Sized m.chip) where
  pub seen_view : view_of (seen 0x2A m) ≡ view_as (cleared (first m.chip)) (awaited one m.chip) m.chip.pending.holds m.memory
  seen_view = rw (txs_seen m) (put_view (cleared (first m.chip)) m l)

  pub seen_sized : Sized (seen 0x2A m).chip
  seen_sized = rw (txs_seen m) (put_sized (cleared (first m.chip)) m.chip l)

pub seen_on : (m : Model) → operational (seen 0x2A m).chip ≡ operational m.chip
seen_on m = rw (txs_seen m) refl

-- what TXS shows
pub txs_done : (m : Model) → has 0x20 (value 0x2A m) ≡ (first m.chip).done
txs_done m = rw (txs_value m) (shows_done (first m.chip))

pub txs_ack : (m : Model) → has 0x40 (value 0x2A m) ≡ (first m.chip).ack
txs_ack m = rw (txs_value m) (shows_ack (first m.chip))

-- the flags are clear after the read
module _ (m : Model) (l : Sized m.chip) where
  pub idle_seen : Idle (view_of m) → Idle (view_of (seen 0x2A m))
  idle_seen i = rw (seen_view m l) (record { nothing = record { off = i.nothing.off; empty = i.nothing.empty }; done = refl; free = i.free })

  pub acked_seen : Acked (view_of m) → Idle (view_of (seen 0x2A m))
  acked_seen i = rw (seen_view m l) (record { nothing = record { off = i.nothing.off; empty = i.nothing.empty }; done = refl; free = i.free })

  pub armed_seen : (p : Packet) (t : Bool) → Armed p t (view_of m) → Armed p t (view_of (seen 0x2A m))
  armed_seen p t a =
      rw (seen_view m l) (record {
        enabled = a.enabled;
        last = a.last;
        toggled = a.toggled;
        done = refl;
        marked = a.marked;
        fits = a.fits;
        bytes = a.bytes;
        free = a.free;
      })

  pub waiting_seen : (p : Packet) → Waiting p (view_of m) → Waiting p (view_of (seen 0x2A m))
  waiting_seen p a =
      rw (seen_view m l) (record {
        spent = record {
          nothing = record { off = a.spent.nothing.off; empty = a.spent.nothing.empty };
          fits = a.spent.fits;
          bytes = a.spent.bytes;
        };
        done = refl;
        waits = a.waits;
        unheld = a.unheld;
      })

  -- A failed packet is armed again.
  pub failed_again : (p : Packet) (t : Bool) → operational m.chip ≡ true → Failed p (view_of m) → Armed p t (view_of (written 0x2B (again t) (seen 0x2A m)))
  failed_again p t on a =
      let n : Model = seen 0x2A m in
      let s : Sender = cleared (first m.chip) in
      let e : view_of n ≡ view_as s (awaited one m.chip) m.chip.pending.holds m.memory = seen_view m l in
      let f : first n.chip ≡ s = ap (λ (v : View). v.sender) e in
      let free : awaited one n.chip ≡ false = ap (λ (v : View). v.awaits) e ∙ a.free in
      let h : n.memory ≡ m.memory = ap (λ (v : View). v.memory) e in
      rw (commanded (again t) n free (seen_on m ∙ on) (seen_sized m l), f, h)
      (resent_arms p t s false n.chip.pending.holds m.memory (record {
        nothing = record { off = a.spent.nothing.off; empty = a.spent.nothing.empty };
        fits = a.spent.fits;
        bytes = a.spent.bytes;
      }) refl)

-- ---- the receive service

same_then : (p : Place) {a b c : Model} → Same p a b → Same p b c → Same p a c
same_then p x y = record { endpoint = stays_then p x.endpoint y.endpoint; bytes = y.bytes ∙ x.bytes }

received_read : (a : ℕ) (m : Model) → Receiving (event.Read a) → Same one m (seen a m)
unfolding seen step_of step_bytes read_step owner register_owner slot_place exempt pick
received_read a m rxd = frame (event.Read 0x2D) [] m one refl refl
received_read a m rxs = frame (event.Read 0x2E) [] m one refl refl

received_write : (a v : ℕ) (m : Model) → Receiving (event.Write a v) → v < 256 → Same one m (written a v m)
unfolding written step_of step_bytes write_step owner register_owner slot_place exempt pick
received_write a v m (rxc x) b = frame (event.Write 0x2F x) [] m one refl refl

pub receiving_same : {m n : Model} → Touches Receiving m n → Same one m n
receiving_same = touches_by (Same one) (same one) (λ _ _ _ x y. same_then one x y) received_read received_write

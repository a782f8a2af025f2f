-- The IN of the pipe: endpoint 1 takes it, and answers NAK or the packet.
-- Assumes nothing.
use Prim.Native.Nat.{ℕ}
use mathlib.Core.Path.{◌≡◌, refl, ◌∙◌}
use mathlib.Core.Bool.{Bool, true, false}
use mathlib.Core.List.{List, []}
use Rattle.choice.specs.Choice.{pick}
use Rattle.window.specs.Window.{index_of, numbered}
use Rattle.event.specs.declared.Event.TheVariants as event
use Rattle.sender.specs.declared.Sender.{Sender}
use Rattle.sender.specs.declared.Sent.TheVariants as sends
use Rattle.sender.specs.Sender.{sent}
use Rattle.state.specs.declared.Wait.TheVariants as wait
use Rattle.state.specs.declared.Chip.{Chip}
use Rattle.state.specs.State.{Model}
use Rattle.state.specs.Set.{with_sender}
use Rattle.answer.specs.declared.Answer.{Answer}
use Rattle.answer.specs.declared.Answer.TheVariants as answer
use Rattle.answer.specs.declared.Packet as packet
use Rattle.answer.specs.Answer.{gives, packet_at}
use Rattle.bus.specs.Bus.{awaiting, marked_in, answered_sender, in_sender, in_at}
use Rattle.step.specs.Step.{quiet, in_step, step_of, step_bytes}
use Rattle.laws.specs.Place as place
use Rattle.laws.specs.Place.{endpoint, Place, sending_place, awaited}
use Rattle.laws.specs.Next.{next}
use Rattle.laws.proofs.Typed.At.{sender_same}
use Rattle.delivery.specs.Standing.{SetUp}
use Rattle.delivery.proofs.Standing.Reaches.{Ranges, epc_unstalled, in_reaches}
use Rattle.delivery.specs.World.{Pipes}
use Rattle.delivery.specs.Host.{Packet}
use Rattle.delivery.specs.Stage.{View, view_of, Armed, Waiting}
use Rattle.delivery.proofs.Send.Fifo.{view_as, nak_answer, nak_stays, data_answer, sent_waits}
use Rattle.delivery.proofs.Send.Chip.{first, Sized}

abbrev pub one : Place
one = place.sends (numbered 1)

-- ---- who takes it

-- the pipe as it was set up
pub record Stands (p : Pipes) (c : Chip) : Type 0 where
  pub ranges : Ranges p
  pub as_set_up : SetUp p c
  pub sized : Sized c

module _ (p : Pipes) (c : Chip) (q : Stands p c) where
  pub unstalled : (first c).epc.stall ≡ false
  unstalled = rw q.as_set_up.sends_as (epc_unstalled p.e.0 q.ranges.sends_high)

  module _ (m : List ℕ) (w : c.pending.wait ≡ wait.Nothing) where
    quiet_none : quiet false c ≡ c
    unfolding quiet
    quiet_none = rw w refl

    pub in_taken : step_of (event.In p.a p.e) [] c m ≡ in_sender (endpoint 1) c
    unfolding step_of in_step in_at pick
    in_taken = rw (q.as_set_up.operates, quiet_none, in_reaches p c q.ranges q.as_set_up)

-- ---- NAK

module _ (c : Chip) (l : Sized c) (off : (first c).enabled ≡ false) where
  nak_out : in_sender (endpoint 1) c ≡ gives (marked_in (numbered 1) (with_sender (numbered 1) (first c) c)) answer.Nak
  unfolding in_sender
  nak_out = rw (nak_answer (first c) off, nak_stays (first c) off)

  nak_view : (m : List ℕ)
      → ◌≡◌ {A = View} (view_of (record { chip = marked_in (numbered 1) (with_sender (numbered 1) (first c) c); memory = m })) (view_of (record { chip = c; memory = m }))
  unfolding marked_in awaited
  nak_view m = rw (sender_same (numbered 1) (first c) c l) refl

-- ---- the packet

-- DATA0 or DATA1 by the toggle
abbrev pub data_of : Bool → packet.Packet → Answer
data_of true p = answer.Data1 p
data_of false p = answer.Data0 p

by_toggle : (t : Bool) (s : Sender) (n : Chip)
    → answered_sender (pick t sends.Data1 sends.Data0) (endpoint 1) s n
    ≡ gives (awaiting (wait.Handshake (endpoint 1)) n) (data_of t (packet_at (numbered 1) s))
unfolding pick
by_toggle true s n = refl
by_toggle false s n = refl

module _ (c : Chip) (l : Sized c) (on : (first c).enabled ≡ true) (no : (first c).epc.stall ≡ false) (last : (first c).last ≡ true) where
  data_out : in_sender (endpoint 1) c
      ≡ gives (awaiting (wait.Handshake (endpoint 1)) (with_sender (numbered 1) (sent (first c)) c)) (data_of (first c).toggle (packet_at (numbered 1) (first c)))
  unfolding in_sender
  data_out = rw (data_answer (first c) on no last) (by_toggle (first c).toggle (first c) (with_sender (numbered 1) (sent (first c)) c))

  data_view : (m : List ℕ)
      → ◌≡◌ {A = View} (view_of (record { chip = awaiting (wait.Handshake (endpoint 1)) (with_sender (numbered 1) (sent (first c)) c); memory = m })) (view_as (sent (first c)) true false m)
  unfolding awaiting awaited sending_place index_of pick
  data_view m = rw (sender_same (numbered 1) (sent (first c)) c l) refl

-- ---- the pipe's IN on the whole state

module _ (i : Pipes) (m : Model) (q : Stands i m.chip) (w : m.chip.pending.wait ≡ wait.Nothing) where
  -- Off: NAK, and endpoint 1 is as it was.
  module _ (off : (first m.chip).enabled ≡ false) where
    pub in_nak : (step_of (event.In i.a i.e) [] m.chip m.memory).answer ≡ answer.Nak
    in_nak = rw (in_taken i m.chip q m.memory w, nak_out m.chip q.sized off) refl

    pub in_nak_view : view_of (next (event.In i.a i.e) [] m) ≡ view_of m
    unfolding step_bytes
    in_nak_view =
        rw (in_taken i m.chip q m.memory w, nak_out m.chip q.sized off) (nak_view m.chip q.sized off m.memory)

  -- Armed: the packet with its toggle, and its handshake is awaited.
  module _ (p : Packet) (t : Bool) (x : Armed p t (view_of m)) where
    data_from : step_of (event.In i.a i.e) [] m.chip m.memory
        ≡ gives (awaiting (wait.Handshake (endpoint 1)) (with_sender (numbered 1) (sent (first m.chip)) m.chip))
        (data_of (first m.chip).toggle (packet_at (numbered 1) (first m.chip)))
    data_from =
        in_taken i m.chip q m.memory w
        ∙ data_out m.chip q.sized x.enabled (unstalled i m.chip q) x.last

    pub in_data : (step_of (event.In i.a i.e) [] m.chip m.memory).answer ≡ data_of t (packet_at (numbered 1) (first m.chip))
    in_data = rw (data_from, x.toggled) refl

    pub in_waits : Waiting p (view_of (next (event.In i.a i.e) [] m))
    unfolding step_bytes
    in_waits =
        rw (data_from, data_view m.chip q.sized x.enabled (unstalled i m.chip q) x.last m.memory)
        (sent_waits p t (first m.chip) _ _ m.memory (unstalled i m.chip q) x)

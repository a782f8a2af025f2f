-- Data that reaches endpoint 2 after the OUT token of the pipe, and data that nobody awaits: what is left and answered.
-- Assumes nothing.
use Prim.Native.Nat.{ℕ, ◌≤◌}
use mathlib.Core.Path.{◌≡◌, refl, ap, ◌∙◌}
use mathlib.Core.Bool.{Bool, true, false}
use mathlib.Core.List.{List, []}
use lib.ListN.{length}
use lib.Dec.{eqb}
use Rattle.choice.specs.Choice.{pick}
use Rattle.window.specs.declared.FifoNumber.{FifoNumber}
use Rattle.event.specs.declared.Event.TheVariants as event
use Rattle.epc.specs.Bits.{bit_of}
use Rattle.rxfifo.specs.Receive.{rx_contents}
use Rattle.contents.proofs.Ring.{Counters}
use Rattle.verdict.specs.declared.Judged.{Judged}
use Rattle.verdict.specs.declared.Judged.TheVariants as verdict
use Rattle.verdict.specs.Verdict as judging
use Rattle.verdict.specs.Verdict.{heard}
use Rattle.receiver.specs.declared.Receiver.{Receiver}
use Rattle.receiver.specs.Receiver.{judged, received, received_bytes}
use Rattle.state.specs.declared.Wait.{Wait}
use Rattle.state.specs.declared.Wait.TheVariants.{Nothing, Data}
use Rattle.state.specs.declared.Chip.{Chip}
use Rattle.state.specs.State.{Model}
use Rattle.state.specs.Set.{with_receiver}
use Rattle.settings.specs.Settings.{operational}
use Rattle.window.specs.Window.{numbered}
use Rattle.answer.specs.declared.Out.{Out}
use Rattle.answer.specs.Answer.{silent}
use Rattle.ends.specs.Ends.{idled, ended_in, ended}
use Rattle.data.specs.Data.{marked_out, overrun, judged_at, data_receiver, data_receiver_bytes, data_at, data_at_bytes, data_in, data_in_bytes, data_now, data_now_bytes}
use Rattle.step.specs.Step.{data_step, data_step_bytes, step_of, step_bytes}
use Rattle.laws.specs.Typed.{Typed, TypedReceiver}
use Rattle.laws.specs.Next.{next}
use Rattle.laws.proofs.Typed.At.{receiver_same}
use Rattle.laws.proofs.Typed.Steps.{judged_by}
use Rattle.driving.proofs.Packet.{held}
use Rattle.delivery.specs.World.{answer_to, is_ack}
use Rattle.laws.specs.Place.{endpoint}
use Rattle.delivery.proofs.Receive.Storing.{Ready, Shut, Stores, shut_judged, shut_received, shut_bytes}
use Rattle.delivery.proofs.Receive.Sound.{sound_judged, sound_stores, unsound_judged, unsound_shuts}
use Rattle.delivery.proofs.Receive.Alike.{rx, Alike}

-- what is answered to data changes no receiver, and is an ACK where it is judged so
judged_receivers : (j : Judged) (k : FifoNumber) (c : Chip) → (judged_at j k c).chip.receivers ≡ c.receivers
unfolding marked_out overrun
judged_receivers j k c = judged_by (λ (n : Chip). n.receivers ≡ c.receivers) c refl j k refl refl

judged_ack : (j : Judged) (k : FifoNumber) (c : Chip) → is_ack (judged_at j k c).answer ≡ judging.is_ack j
unfolding is_ack
judged_ack verdict.Silence k c = refl
judged_ack verdict.Nak k c = refl
judged_ack verdict.Stall k c = refl
judged_ack verdict.Overrun k c = refl
judged_ack verdict.Ack k c = refl

-- ---- data where the chip awaits something known

module _ (m : Model) (on : operational m.chip ≡ true) (p q : ℕ) (s : List ℕ) where
  abbrev c : Chip
  c = m.chip

  -- nothing is awaited
  module _ (none : c.pending.wait ≡ Nothing) where
    none_ended : ended false c ≡ c
    none_ended = ap (λ (v : Wait). ended_in v false c) none

    pub none_answer : is_ack (answer_to (event.Data p q) s m) ≡ false
    unfolding answer_to step_of data_step pick is_ack
    none_answer =
        ap (λ (b : Bool). is_ack (pick b (data_now (eqb p 1) (eqb q 1) (ended false c) s) (silent c)).answer) on
        ∙ ap (λ (x : Chip). is_ack (data_now (eqb p 1) (eqb q 1) x s).answer) none_ended
        ∙ ap (λ (v : Wait). is_ack (data_in v (eqb p 1) (eqb q 1) c s).answer) none

  -- data of endpoint 2 is awaited
  module _ (typed : Typed m) (due : c.pending.wait ≡ Data (endpoint 2)) where
    due_ended : ended false c ≡ c
    due_ended = ap (λ (v : Wait). ended_in v false c) due

    step_is : step_of (event.Data p q) s c m.memory ≡ data_receiver (numbered 1) (eqb p 1) (eqb q 1) c s
    unfolding step_of data_step data_at pick
    step_is =
        ap (λ (b : Bool). pick b (data_now (eqb p 1) (eqb q 1) (ended false c) s) (silent c)) on
        ∙ ap (λ (x : Chip). data_now (eqb p 1) (eqb q 1) x s) due_ended
        ∙ ap (λ (v : Wait). data_in v (eqb p 1) (eqb q 1) c s) due

    bytes_are : step_bytes (event.Data p q) s c m.memory ≡ received_bytes (numbered 1) (eqb q 1) s (rx m) m.memory
    unfolding step_bytes data_step_bytes data_at_bytes data_receiver_bytes pick
    bytes_are =
        ap (λ (b : Bool). pick b (data_now_bytes (eqb p 1) (eqb q 1) (ended false c) s m.memory) m.memory) on
        ∙ ap (λ (x : Chip). data_now_bytes (eqb p 1) (eqb q 1) x s m.memory) due_ended
        ∙ ap (λ (v : Wait). data_in_bytes v (eqb p 1) (eqb q 1) c s m.memory) due

    pub due_state : rx (next (event.Data p q) s m) ≡ received (eqb p 1) (eqb q 1) s (rx m)
    unfolding data_receiver idled
    due_state =
        let r : Receiver = received (eqb p 1) (eqb q 1) s (rx m) in
        let n : Chip = idled (with_receiver (numbered 1) r c) in
        ap (λ (o : Out). rx (record { chip = o.chip; memory = [] })) step_is
        ∙ rw (judged_receivers (judged (eqb q 1) (length s) (rx m)) (numbered 1) n)
        (receiver_same (numbered 1) r c typed.chip.receivers.sized)

    pub due_bytes : held (next (event.Data p q) s m)
        ≡ rx_contents (numbered 1) (received (eqb p 1) (eqb q 1) s (rx m)).fifo (received_bytes (numbered 1) (eqb q 1) s (rx m) m.memory)
    due_bytes =
        ap (λ (r : Receiver). rx_contents (numbered 1) r.fifo (next (event.Data p q) s m).memory) due_state
        ∙ ap (λ (l : List ℕ). rx_contents (numbered 1) (received (eqb p 1) (eqb q 1) s (rx m)).fifo l) bytes_are

    pub due_answer : is_ack (answer_to (event.Data p q) s m) ≡ judging.is_ack (judged (eqb q 1) (length s) (rx m))
    unfolding answer_to data_receiver
    due_answer = ap (λ (o : Out). is_ack o.answer) step_is ∙ judged_ack (judged (eqb q 1) (length s) (rx m)) (numbered 1) _

-- ---- by what endpoint 2 is

pid_is : (g : Bool) → eqb (bit_of g) 1 ≡ g
pid_is true = refl
pid_is false = refl

module _ (m : Model) (on : operational m.chip ≡ true) (typed : Typed m) (due : m.chip.pending.wait ≡ Data (endpoint 2)) (g : Bool) (s : List ℕ) where
  abbrev good : Model
  good = next (event.Data (bit_of g) 1) s m

  abbrev bad : Model
  bad = next (event.Data (bit_of g) 0) s m

  counters : Counters (rx m).fifo.read (rx m).fifo.write
  unfolding Rattle.window.specs.Window.index_of pick
  counters =
      let r : TypedReceiver (rx m) = typed.chip.receivers.each 0 in
      record { read_small = r.read_byte; write_small = r.write_byte }

  -- Ready, a packet of 1 to 64 bytes is stored and acknowledged, and damage is kept in mind and not answered.
  module _ (h : Ready (rx m)) (clear : (rx m).epc.stall ≡ false) (short : length s ≤ 64) where
    pub good_stored : 1 ≤ length s → Stores g s (held good) (rx good)
    good_stored some =
        rw (due_bytes m on (bit_of g) 1 s typed due, due_state m on (bit_of g) 1 s typed due, pid_is g)
        (sound_stores (numbered 1) (rx m) m.memory s h clear short g counters typed.memory.sized some)

    pub good_acked : is_ack (answer_to (event.Data (bit_of g) 1) s m) ≡ true
    good_acked =
        due_answer m on (bit_of g) 1 s typed due ∙ ap judging.is_ack (sound_judged (numbered 1) (rx m) m.memory s h clear short)

    pub bad_shut : Shut (rx bad) × ((rx bad).err ≡ true)
    bad_shut = rw (due_state m on (bit_of g) 0 s typed due) (unsound_shuts (numbered 1) (rx m) m.memory s h clear short (eqb (bit_of g) 1))

    pub bad_silent : is_ack (answer_to (event.Data (bit_of g) 0) s m) ≡ false
    bad_silent =
        due_answer m on (bit_of g) 0 s typed due ∙ ap judging.is_ack (unsound_judged (numbered 1) (rx m) m.memory s h clear short)

  -- Shut, nothing changes and nothing is acknowledged.
  module _ (h : Shut (rx m)) (q : ℕ) where
    heard_nak : (sound : Bool) → judging.is_ack (heard sound verdict.Nak) ≡ false
    unfolding heard pick
    heard_nak true = refl
    heard_nak false = refl

    pub shut_silent : is_ack (answer_to (event.Data (bit_of g) q) s m) ≡ false
    shut_silent =
        due_answer m on (bit_of g) q s typed due
        ∙ ap judging.is_ack (shut_judged (numbered 1) (rx m) m.memory s (eqb (bit_of g) 1) (eqb q 1) h)
        ∙ heard_nak (eqb q 1)

    pub shut_alike : Alike m (next (event.Data (bit_of g) q) s m)
    shut_alike =
        let r : _ = shut_received (numbered 1) (rx m) m.memory s (eqb (bit_of g) 1) (eqb q 1) h in
        let b : _ = shut_bytes (numbered 1) (rx m) m.memory s (eqb (bit_of g) 1) (eqb q 1) h in
        record {
          state = due_state m on (bit_of g) q s typed due ∙ r;
          bytes =
              due_bytes m on (bit_of g) q s typed due
              ∙ ap (λ (x : Receiver). rx_contents (numbered 1) x.fifo (received_bytes (numbered 1) (eqb q 1) s (rx m) m.memory)) r
              ∙ ap (λ (l : List ℕ). rx_contents (numbered 1) (rx m).fifo l) b;
        }

-- A token keeps a state well formed, in the operational state: whoever takes an IN sends, whoever takes an OUT receives.
-- Assumes nothing.
use Prim.Native.Nat.{ℕ}
use mathlib.Core.Path.{◌≡◌, refl}
use mathlib.Core.Bool.{true}
use Rattle.std.specs.Prelude.{Option, None, Some}
use Rattle.choice.proofs.ByTest.{by_test}
use Rattle.window.specs.declared.FifoNumber.{FifoNumber}
use Rattle.window.specs.Window.{fifo0, index_of, numbered}
use Rattle.event.specs.declared.BusEndpoint.{BusEndpoint}
use Rattle.sender.specs.declared.Sender.{Sender}
use Rattle.sender.specs.Sender as sender
use Rattle.controlbus.specs.Bus as zero
use Rattle.kept.proofs.Sender as kept-sender
use Rattle.kept.proofs.ControlBus as kept-bus
use Rattle.state.specs.declared.Endpoint.{Endpoint}
use Rattle.state.specs.declared.Wait.TheVariants as wait
use Rattle.state.specs.declared.Chip.{Chip}
use Rattle.state.specs.State.{sender_at, fifo_of}
use Rattle.state.specs.Set.{with_control, with_sender}
use Rattle.tokens.specs.Tokens.{zero_takes, sender_takes, receiver_takes, in_mask, out_mask, winner}
use Rattle.answer.specs.declared.Out.{Out}
use Rattle.bus.specs.Bus.{awaiting, marked_in, in_zero, in_sender, in_at, in_by, in_token, out_at, out_by, out_token, setup_token}
use Rattle.formed.specs.Formed.{sends, receives}
use Rattle.laws.specs.Typed.{TypedChip}
use Rattle.laws.proofs.Typed.Steps.{answered_zero_by, answered_sender_by}
use Rattle.laws.proofs.Frame.Lowest.{in_lowest, out_lowest}
use Rattle.laws.proofs.Formed.Facts.{Facts, with_control_well, with_sender_well, with_events_well, with_pending_well}
use Rattle.laws.proofs.Formed.Pending.{handshake_well, data_well, setup_well}
use Rattle.laws.proofs.Formed.Registers.{counters_tx}
use Rattle.laws.proofs.Formed.Lowest.{whoever, lowest_sends, lowest_receives}

abbrev pub Gives : Out → Type 0
Gives o = Facts true o.chip

module _ (address : ℕ) (e : BusEndpoint) (c : Chip) where
  -- Whoever takes an IN token sends, whoever takes an OUT token receives.
  in_sends : whoever sends (winner (in_mask address e c)) ≡ true
  in_sends =
      rw (in_lowest address e c) (lowest_sends (zero_takes address e c) (sender_takes address e (numbered 1) c)
      (sender_takes address e (numbered 2) c) (sender_takes address e (numbered 3) c))

  out_receives : whoever receives (winner (out_mask address e c)) ≡ true
  out_receives =
      rw (out_lowest address e c) (lowest_receives (zero_takes address e c) (receiver_takes address e (numbered 1) c)
      (receiver_takes address e (numbered 2) c) (receiver_takes address e (numbered 3) c))

-- ---- the answer to an IN token

module _ (n : Chip) (f : Facts true n) where
  marked_in_facts : (k : FifoNumber) → Facts true (marked_in k n)
  unfolding marked_in
  marked_in_facts k = with_events_well true n f _

  handshake_facts : (e : Endpoint) → sends e ≡ true → Facts true (awaiting (wait.Handshake e) n)
  unfolding awaiting
  handshake_facts e h = with_pending_well true n f _ (handshake_well e h)

  data_facts : (e : Endpoint) → receives e ≡ true → Facts true (awaiting (wait.Data e) n)
  unfolding awaiting
  data_facts e h = with_pending_well true n f _ (data_well e h)

  setup_facts : Facts true (awaiting wait.Setup n)
  unfolding awaiting
  setup_facts = with_pending_well true n f _ setup_well

module _ (c : Chip) (t : TypedChip c) (f : Facts true c) where
  in_zero_facts : Gives (in_zero c)
  unfolding in_zero sends
  in_zero_facts =
      let n : Chip = with_control (zero.sent c.control) c in
      let k : Facts true n = with_control_well true c f _ (kept-bus.sent_keeps c.control f.control) in
      answered_zero_by (Facts true) n k (zero.answer_in c.control) _ (marked_in_facts n k fifo0) (handshake_facts n k _ refl)

  in_sender_facts : (e : Endpoint) → sends e ≡ true → Gives (in_sender e c)
  unfolding in_sender
  in_sender_facts e h =
      let i : FifoNumber = fifo_of e in
      let s : Sender = sender_at i c in
      let n : Chip = with_sender i (sender.sent s) c in
      let k : Facts true n = with_sender_well true c f i _ (kept-sender.sent_keeps s (counters_tx c t i) (f.senders (index_of i))) in
      answered_sender_by (Facts true) n k (sender.answer_in s) e s (marked_in_facts n k i) (handshake_facts n k e h)

  in_at_facts : (e : Endpoint) → sends e ≡ true → Gives (in_at e c)
  unfolding in_at
  in_at_facts e h = by_test Gives _ (λ _. in_zero_facts) (λ _. in_sender_facts e h)

  in_by_facts : (w : Option Endpoint) → whoever sends w ≡ true → Gives (in_by w c)
  in_by_facts None h = f
  in_by_facts (Some e) h = in_at_facts e h

  -- After an IN token.
  pub in_facts : (address : ℕ) (e : BusEndpoint) → Gives (in_token address e c)
  in_facts address e = in_by_facts (winner (in_mask address e c)) (in_sends address e c)

-- ---- OUT and SETUP tokens

module _ (c : Chip) (f : Facts true c) where
  out_at_facts : (e : Endpoint) → receives e ≡ true → Facts true (out_at e c)
  unfolding out_at
  out_at_facts e h =
      by_test (Facts true) _
      (λ _. data_facts _ (with_control_well true c f _ (kept-bus.out_token_keeps c.control f.control)) e h)
      (λ _. data_facts c f e h)

  out_by_facts : (w : Option Endpoint) → whoever receives w ≡ true → Gives (out_by w c)
  out_by_facts None h = f
  out_by_facts (Some e) h = out_at_facts e h

  -- After an OUT token.
  pub out_facts : (address : ℕ) (e : BusEndpoint) → Gives (out_token address e c)
  out_facts address e = out_by_facts (winner (out_mask address e c)) (out_receives address e c)

  -- After a SETUP token.
  pub setup_token_facts : (address : ℕ) (e : BusEndpoint) → Gives (setup_token address e c)
  unfolding setup_token
  setup_token_facts address e = by_test Gives _ (λ _. setup_facts c f) (λ _. f)

-- A token leaves every endpoint but the one that takes it, and data every endpoint but the one whose data is awaited.
-- Assumes nothing.
use Prim.Native.Nat.{ℕ}
use mathlib.Core.Path.{◌≡◌, refl, ◌∙◌}
use mathlib.Core.Bool.{Bool, false}
use mathlib.Core.List.{List}
use lib.Dec.{eqb}
use Rattle.std.specs.Prelude.{Option}
use Rattle.choice.proofs.ByTest.{by_test}
use Rattle.window.specs.declared.FifoNumber.{FifoNumber}
use Rattle.fifo0.specs.Control.{spend0}
use Rattle.contents.proofs.Control.{fill0_kept}
use Rattle.contents.proofs.Receive.{fill_rx_kept}
use Rattle.event.specs.declared.BusEndpoint.{BusEndpoint}
use Rattle.receiver.specs.Receiver as receiver
use Rattle.state.specs.declared.Endpoint.{Endpoint}
use Rattle.state.specs.declared.Wait.{Wait}
use Rattle.state.specs.declared.Wait.TheVariants.{Nothing, Handshake, Data, Setup}
use Rattle.state.specs.declared.Events.{Events}
use Rattle.state.specs.declared.Pending.{Pending}
use Rattle.state.specs.declared.Chip.{Chip}
use Rattle.state.specs.State.{receiver_at, fifo_of}
use Rattle.state.specs.Set.{with_control, with_sender, with_receiver, with_events, with_pending}
use Rattle.tokens.specs.Tokens.{zero_takes}
use Rattle.bus.specs.Bus.{in_by, out_by, setup_token}
use Rattle.data.specs.Data.{data_zero_bytes, data_receiver_bytes, data_setup_bytes, data_at_bytes, data_in, data_in_bytes}
use Rattle.laws.specs.Place.{Place, zero, receives, at, state_at, bytes_at, Owner, is_owner, awaited_of, awaited, Stays}
use Rattle.laws.specs.Owner.{in_owner, out_owner, setup_owner, data_owner}
use Rattle.laws.proofs.Frame.Owners.{receiving_is_zero, receiving_is_receives}
use Rattle.laws.proofs.Frame.Parts.{state_parts, state_control, state_sender, state_receiver, state_pending, stays, free_by}
use Rattle.laws.proofs.Frame.Bytes.{kept_bytes}
use Rattle.laws.proofs.Frame.BusEvents.{Left, before, now, Over, over, Changes, in_by_lem, out_by_lem, setup_by, data_by}

module _ (p : Place) (c : Chip) (free : awaited p c ≡ false) (o : Owner) (other : is_owner o p ≡ false) where
  -- nothing of this place is awaited then
  left_free : (h : Pending) → Left o c h → is_owner (awaited_of h.wait) p ≡ false
  unfolding awaited
  left_free h before = free
  left_free h (now w e) = rw e other

  over_free : (h : Pending) → Over h → is_owner (awaited_of h.wait) p ≡ false
  over_free h over = refl

  changes : (L : Pending → Type 0) → ((h : Pending) → L h → is_owner (awaited_of h.wait) p ≡ false) → Changes (Stays p c) o L c
  unfolding awaited
  changes L ok =
      record {
        none = λ _. stays p c;
        waits = λ h l. free_by p c (with_pending h c) (state_pending c p h) free (ok h l);
        control = λ own x e h l. left (with_control x c) e h l (state_control c p x (rw own at other));
        sender = λ k own x _ e h l. left (with_sender k x c) e h l (state_sender c p k x (rw own at other));
        receiver = λ k own x _ e h l. left (with_receiver k x c) e h l (state_receiver c p k x (rw own at other));
      }
    where
      left : (n : Chip) (e : Events) (h : Pending) → L h → state_at p n ≡ state_at p c → Stays p c (with_pending h (with_events e n))
      left n e h l same =
          let r : Chip = with_pending h (with_events e n) in
          free_by p c r (state_parts p n r refl refl refl ∙ same) free (ok h l)

module _ (p : Place) (c : Chip) (free : awaited p c ≡ false) where
  pub in_stays : (w : Option Endpoint) → is_owner (in_owner w) p ≡ false → Stays p c (in_by w c).chip
  in_stays w other = in_by_lem (Stays p c) c w (changes p c free (in_owner w) other _ (left_free p c free (in_owner w) other))

  pub out_stays : (w : Option Endpoint) → is_owner (out_owner w) p ≡ false → Stays p c (out_by w c).chip
  out_stays w other = out_by_lem (Stays p c) c w (changes p c free (out_owner w) other _ (left_free p c free (out_owner w) other))

  pub setup_stays : (a : ℕ) (e : BusEndpoint) → is_owner (setup_owner (zero_takes a e c)) p ≡ false → Stays p c (setup_token a e c).chip
  setup_stays a e other =
      let o : Owner = setup_owner (zero_takes a e c) in
      setup_by (Stays p c) c a e (changes p c free o other _ (left_free p c free o other))

  pub data_stays : (pid sound : Bool) (s : List ℕ) (w : Wait) → is_owner (data_owner w) p ≡ false → Stays p c (data_in w pid sound c s).chip
  data_stays pid sound s w other =
      data_by (Stays p c) c pid sound s w (changes p c free (data_owner w) other _ (over_free p c free (data_owner w) other))

module _ (p : Place) (c : Chip) (pid sound : Bool) (s m : List ℕ) where
  abbrev Kept : List ℕ → Type 0
  Kept m' = bytes_at p m' ≡ bytes_at p m

  zero_bytes : at zero p ≡ false → Kept (data_zero_bytes sound c s m)
  unfolding data_zero_bytes
  zero_bytes other =
      by_test Kept _ (λ _.
      by_test Kept _ (λ _. refl) (λ _. kept_bytes zero p m _ other (fill0_kept c.control.fifo m s))) (λ _. refl)

  setup_bytes : at zero p ≡ false → Kept (data_setup_bytes pid sound c s m)
  unfolding data_setup_bytes
  setup_bytes other =
      by_test Kept _ (λ _.
      by_test Kept _ (λ _. refl) (λ _. kept_bytes zero p m _ other (fill0_kept (spend0 c.control.fifo) m s))) (λ _. refl)

  receiver_bytes : (k : FifoNumber) → at (receives k) p ≡ false → Kept (data_receiver_bytes k sound c s m)
  unfolding data_receiver_bytes receiver.received_bytes
  receiver_bytes k other =
      let filled : _ = kept_bytes (receives k) p m _ other (fill_rx_kept k (receiver_at k c).fifo m s) in
      by_test Kept _ (λ _. refl) (λ _.
      by_test Kept _ (λ _. refl) (λ _.
      by_test Kept _ (λ _. refl) (λ _.
      by_test Kept _ (λ _. filled) (λ _.
      by_test Kept _ (λ _. refl) (λ _. filled)))))

  pub data_bytes : (w : Wait) → is_owner (data_owner w) p ≡ false → Kept (data_in_bytes w pid sound c s m)
  unfolding data_at_bytes
  data_bytes Nothing other = refl
  data_bytes (Handshake e) other = refl
  data_bytes (Data e) other =
      by_test Kept (eqb e.0 0)
      (λ t. zero_bytes (rw (receiving_is_zero e t) at other))
      (λ t. receiver_bytes (fifo_of e) (rw (receiving_is_receives e t) at other))
  data_bytes Setup other = setup_bytes other

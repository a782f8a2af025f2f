-- The end of a wait leaves every endpoint but the one that was awaited, and then nothing is awaited.
-- Assumes nothing.
use mathlib.Core.Path.{◌≡◌, refl, ◌∙◌}
use mathlib.Core.Bool.{Bool, false}
use lib.Dec.{eqb}
use Rattle.choice.proofs.ByTest.{by_test}
use Rattle.state.specs.declared.Endpoint.{Endpoint}
use Rattle.state.specs.declared.Wait.{Wait}
use Rattle.state.specs.declared.Wait.TheVariants.{Nothing, Handshake, Data, Setup}
use Rattle.state.specs.declared.Chip.{Chip}
use Rattle.state.specs.State.{fifo_of}
use Rattle.ends.specs.Ends.{idled, ended_zero, ended_sender, ended_at, ended_in, ended, dropped_setup, dropped_in}
use Rattle.step.specs.Step.{quiet}
use Rattle.laws.specs.Place.{Place, zero, at, sending_place, state_at, is_owner, awaited_of, awaited, Stays}
use Rattle.laws.proofs.Frame.Owners.{sending_is_zero, sending_is_sends}
use Rattle.laws.proofs.Frame.Parts.{state_control, state_sender, state_pending, free_by}

module _ (p : Place) (c : Chip) where
  ended_zero_lem : (acked : Bool) → at zero p ≡ false → state_at p (ended_zero acked c) ≡ state_at p c
  unfolding ended_zero idled
  ended_zero_lem acked other = state_pending _ p _ ∙ state_control c p _ other

  ended_at_lem : (e : Endpoint) (acked : Bool) → at (sending_place e) p ≡ false → state_at p (ended_at e acked c) ≡ state_at p c
  unfolding ended_at ended_sender idled
  ended_at_lem e acked other =
      by_test (λ (x : Chip). state_at p x ≡ state_at p c) (eqb e.0 0)
      (λ t. ended_zero_lem acked (rw (sending_is_zero e t) at other))
      (λ t. state_pending _ p _ ∙ state_sender c p (fifo_of e) _ (rw (sending_is_sends e t) at other))

  ended_state : (w : Wait) (acked : Bool) → is_owner (awaited_of w) p ≡ false → state_at p (ended_in w acked c) ≡ state_at p c
  ended_state Nothing acked other = refl
  ended_state (Handshake e) acked other = ended_at_lem e acked other
  ended_state (Data e) acked other = refl
  ended_state Setup acked other = refl

  dropped_state : (w : Wait) → is_owner (awaited_of w) p ≡ false → state_at p (dropped_in w c) ≡ state_at p c
  unfolding dropped_setup idled
  dropped_state Nothing other = refl
  dropped_state (Handshake e) other = refl
  dropped_state (Data e) other = state_pending c p _
  dropped_state Setup other = state_pending _ p _ ∙ state_control c p _ other

-- a wait for a handshake is over, another one goes on
abbrev pub over_in : Wait → Wait
over_in Nothing = Nothing
over_in (Handshake e) = Nothing
over_in (Data e) = Data e
over_in Setup = Setup

module _ (acked : Bool) (c : Chip) where
  ended_at_wait : (e : Endpoint) → (ended_at e acked c).pending.wait ≡ Nothing
  unfolding ended_at ended_zero ended_sender idled
  ended_at_wait e = by_test (λ (x : Chip). x.pending.wait ≡ Nothing) (eqb e.0 0) (λ _. refl) (λ _. refl)

  pub ended_wait : (ended acked c).pending.wait ≡ over_in c.pending.wait
  ended_wait = go c.pending.wait refl
    where
      go : (w : Wait) → c.pending.wait ≡ w → (ended_in w acked c).pending.wait ≡ over_in w
      go Nothing q = q
      go (Handshake e) q = ended_at_wait e
      go (Data e) q = q
      go Setup q = q

  pub quiet_wait : (quiet acked c).pending.wait ≡ Nothing
  unfolding quiet
  quiet_wait = go c.pending.wait (ended acked c) ended_wait
    where
      go : (w : Wait) (x : Chip) → x.pending.wait ≡ over_in w → (dropped_in x.pending.wait x).pending.wait ≡ Nothing
      go Nothing x q = rw q
      go (Handshake e) x q = rw q
      go (Data e) x q = rw q (unfold idled in refl)
      go Setup x q = rw q (unfold dropped_setup idled in refl)

pub quiet_free : (p : Place) (acked : Bool) (c : Chip) → awaited p (quiet acked c) ≡ false
unfolding awaited
quiet_free p acked c = rw (quiet_wait acked c)

module _ (p : Place) (acked : Bool) (c : Chip) (free : awaited p c ≡ false) where
  -- over or not, nothing is awaited of this place
  pub ended_free : awaited p (ended acked c) ≡ false
  unfolding awaited
  ended_free = rw (ended_wait acked c) (go c.pending.wait free)
    where
      go : (w : Wait) → is_owner (awaited_of w) p ≡ false → is_owner (awaited_of (over_in w)) p ≡ false
      go Nothing h = refl
      go (Handshake e) h = refl
      go (Data e) h = h
      go Setup h = h

  pub ended_stays : Stays p c (ended acked c)
  ended_stays = free_by p c (ended acked c) (ended_state p c c.pending.wait acked (unfold awaited in free)) free ended_free

  pub quiet_stays : Stays p c (quiet acked c)
  unfolding quiet awaited
  quiet_stays =
      let x : Chip = ended acked c in
      free_by p c (quiet acked c) (dropped_state p x x.pending.wait ended_free ∙ ended_stays.state) free (quiet_free p acked c)

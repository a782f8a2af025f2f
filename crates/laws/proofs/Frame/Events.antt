-- A bus event leaves every endpoint that it is not for as the end of a wait leaves it.
-- Assumes nothing.
use Prim.Native.Nat.{ℕ}
use mathlib.Core.Path.{◌≡◌, refl, ◌∙◌}
use mathlib.Core.Bool.{Bool, false}
use mathlib.Core.List.{List}
use Rattle.event.specs.declared.BusEndpoint.{BusEndpoint}
use Rattle.state.specs.declared.Wait.{Wait}
use Rattle.state.specs.declared.Wait.TheVariants.{Nothing, Handshake, Data, Setup}
use Rattle.state.specs.declared.Chip.{Chip}
use Rattle.tokens.specs.Tokens.{zero_takes, in_mask, out_mask, winner}
use Rattle.bus.specs.Bus.{in_token, out_token, setup_token}
use Rattle.ends.specs.Ends.{ended, dropped_in}
use Rattle.data.specs.Data.{data_in, data_now}
use Rattle.step.specs.Step.{quiet}
use Rattle.laws.specs.Place.{Place, is_owner, awaited, Stays}
use Rattle.laws.specs.Owner.{in_owner, out_owner, setup_owner, data_owner}
use Rattle.laws.proofs.Frame.Parts.{stays, stays_then, stays_from}
use Rattle.laws.proofs.Frame.Waits.{ended_wait, ended_free, ended_stays, quiet_free, quiet_stays}
use Rattle.laws.proofs.Frame.Taking.{in_stays, out_stays, setup_stays, data_stays}
use Rattle.laws.proofs.Frame.Matching.{zero_by, in_by_lem, out_by_lem, quiet_looks}

module _ (p : Place) (c : Chip) (a : ℕ) (e : BusEndpoint) where
  -- nothing is awaited then
  abbrev q : Chip
  q = quiet false c

  pub in_after : is_owner (in_owner (winner (in_mask a e c))) p ≡ false → Stays p q (in_token a e q).chip
  in_after other = in_stays p q (quiet_free p false c) (winner (in_mask a e q)) (rw (in_by_lem a e c q (quiet_looks false c)) other)

  pub out_after : is_owner (out_owner (winner (out_mask a e c))) p ≡ false → Stays p q (out_token a e q).chip
  out_after other = out_stays p q (quiet_free p false c) (winner (out_mask a e q)) (rw (out_by_lem a e c q (quiet_looks false c)) other)

  pub setup_after : is_owner (setup_owner (zero_takes a e c)) p ≡ false → Stays p q (setup_token a e q).chip
  setup_after other = setup_stays p q (quiet_free p false c) a e (rw (zero_by a e c q (quiet_looks false c)) other)

module _ (p : Place) (c : Chip) (pid sound : Bool) (s : List ℕ) where
  -- where no data is awaited, the end of a wait is all
  none_awaited : (x : Chip) → x.pending.wait ≡ Nothing
      → Stays p (dropped_in x.pending.wait x) (data_in x.pending.wait pid sound x s).chip
  none_awaited x q = rw q (stays p _)

  -- where another's data is, nothing of this place is
  other_awaited : awaited p c ≡ false → is_owner (data_owner (ended false c).pending.wait) p ≡ false
      → Stays p (quiet false c) (data_now pid sound (ended false c) s).chip
  other_awaited free other =
      let x : Chip = ended false c in
      let n : Stays p x (data_now pid sound x s).chip = data_stays p x (ended_free p false c free) pid sound s x.pending.wait other in
      stays_from p (quiet_stays p false c free) (stays_then p (ended_stays p false c free) n) (quiet_free p false c)

  pub data_after : is_owner (data_owner c.pending.wait) p ≡ false → Stays p (quiet false c) (data_now pid sound (ended false c) s).chip
  unfolding quiet awaited
  data_after other = go c.pending.wait refl other
    where
      go : (w : Wait) → c.pending.wait ≡ w → is_owner (data_owner w) p ≡ false
          → Stays p (quiet false c) (data_now pid sound (ended false c) s).chip
      go Nothing q h = none_awaited (ended false c) (ended_wait false c ∙ rw q refl)
      go (Handshake e) q h = none_awaited (ended false c) (ended_wait false c ∙ rw q refl)
      go (Data e) q h = other_awaited (rw q h) (rw (ended_wait false c, q) h)
      go Setup q h = other_awaited (rw q h) (rw (ended_wait false c, q) h)

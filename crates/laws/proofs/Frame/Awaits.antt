-- After data, a host ACK or a timeout nothing is awaited.
-- Assumes nothing.
use Prim.Native.Nat.{ℕ}
use mathlib.Core.Path.{◌≡◌, refl, sym, ◌∙◌}
use mathlib.Core.Bool.{Bool, true, false, false≢true}
use mathlib.Core.List.{List}
use lib.Dec.{eqb}
use Rattle.choice.specs.Choice.{pick}
use Rattle.event.specs.declared.Event.{Event}
use Rattle.event.specs.declared.Event.TheVariants as event
use Rattle.state.specs.declared.Wait.{Wait}
use Rattle.state.specs.declared.Wait.TheVariants.{Nothing, Handshake, Data, Setup}
use Rattle.state.specs.declared.Pending.{Pending}
use Rattle.state.specs.declared.Chip.{Chip}
use Rattle.state.specs.State.{Model}
use Rattle.settings.specs.Settings.{operational}
use Rattle.ends.specs.Ends.{ended}
use Rattle.data.specs.Data.{data_in}
use Rattle.step.specs.Step.{data_step, end_step, step_of}
use Rattle.laws.specs.Place.{nobody}
use Rattle.laws.specs.Next.{next}
use Rattle.laws.specs.Owner.{data_owner}
use Rattle.laws.specs.Settings.{is_access, is_token}
use Rattle.laws.proofs.Frame.Waits.{over_in, ended_wait, quiet_wait}
use Rattle.laws.proofs.Frame.BusEvents.{Over, over, Changes, data_by}

-- nobody's data is awaited only where nothing is
data_none : (w : Wait) → data_owner (over_in w) ≡ nobody → over_in w ≡ Nothing
data_none Nothing e = refl
data_none (Handshake w) e = refl
data_none (Data w) e = cc
data_none Setup e = cc

abbrev Ended : Chip → Type 0
Ended c = c.pending.wait ≡ Nothing

data_over : (pid sound : Bool) (s : List ℕ) (c : Chip) (w : Wait) → c.pending.wait ≡ over_in w
    → Ended (data_in c.pending.wait pid sound c s).chip
data_over pid sound s c w q = data_by Ended c pid sound s c.pending.wait changes
  where
    ended_by : (h : Pending) → Over h → h.wait ≡ Nothing
    ended_by h over = refl

    changes : Changes Ended (data_owner c.pending.wait) Over c
    changes =
        record {
          none = λ e. q ∙ data_none w (rw q at e);
          waits = λ h l. ended_by h l;
          control = λ own x e h l. ended_by h l;
          sender = λ k own x _ e h l. ended_by h l;
          receiver = λ k own x _ e h l. ended_by h l;
        }

-- After data, a host ACK or a timeout nothing is awaited.
pub wait_over : (e : Event) (s : List ℕ) (m : Model) → is_access e ≡ false → is_token e ≡ false → operational m.chip ≡ true
    → (next e s m).chip.pending.wait ≡ Nothing
unfolding is_access is_token step_of data_step end_step pick
wait_over (event.Read a) s m t u on = absurd {0} (false≢true (sym t))
wait_over (event.Write a v) s m t u on = absurd {0} (false≢true (sym t))
wait_over (event.In a e) s m t u on = absurd {0} (false≢true (sym u))
wait_over (event.Out a e) s m t u on = absurd {0} (false≢true (sym u))
wait_over (event.Setup a e) s m t u on = absurd {0} (false≢true (sym u))
wait_over (event.Data pid sound) s m t u on =
    rw on (data_over (eqb pid 1) (eqb sound 1) s (ended false m.chip) m.chip.pending.wait (ended_wait false m.chip))
wait_over event.Ack s m t u on = rw on (quiet_wait true m.chip)
wait_over event.Timeout s m t u on = rw on (quiet_wait false m.chip)

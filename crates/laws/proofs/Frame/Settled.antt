-- NFSR, AD_EN and the address stay at every event but a write of MCNTRL, FAR or NFSR, what is awaited at every other register access, and the
-- EPCs at every bus event.
-- Assumes nothing.
use Prim.Native.Nat.{ℕ}
use mathlib.Core.Path.{◌≡◌, refl, sym, ◌∙◌}
use mathlib.Core.Bool.{Bool, true, false, ◌||◌, false≢true}
use mathlib.Core.List.{List}
use lib.Dec.{eqb}
use Rattle.event.specs.declared.Event.{Event}
use Rattle.event.specs.declared.Event.TheVariants as event
use Rattle.state.specs.declared.Pending.{Pending}
use Rattle.state.specs.declared.Chip.{Chip}
use Rattle.state.specs.State.{Model}
use Rattle.tokens.specs.Tokens.{in_mask, out_mask, winner}
use Rattle.ends.specs.Ends.{ended}
use Rattle.step.specs.Step.{quiet, read_step, write_step, step_of}
use Rattle.laws.specs.Next.{next}
use Rattle.laws.proofs.Typed.Steps.{Hears, step_by}
use Rattle.laws.specs.Place.{Owner}
use Rattle.laws.specs.Owner.{register_owner}
use Rattle.laws.specs.Settings.{Settled, Epcs, Configured, Untouched, is_setting, sets, is_access}
use Rattle.laws.proofs.Frame.Accesses as accesses
use Rattle.laws.proofs.Frame.BusEvents as bus
use Rattle.laws.proofs.Frame.Epcs.{epcs_then, alike, sender_epcs, receiver_epcs}
use Rattle.laws.proofs.Frame.Matching.{kept, configured_then, ended_looks, quiet_looks}

-- ---- register accesses

accessed : (o : Owner) (c : Chip) → accesses.Changes (Untouched c) o c
accessed o c =
    record {
      none = record { settled = kept c _ _ _ _ _; wait = refl };
      masks = λ x. record { settled = record { nfsr = refl; aden = refl; address = refl }; wait = refl };
      events = λ x. record { settled = kept c _ _ _ _ _; wait = refl };
      control = λ own x. record { settled = kept c _ _ _ _ _; wait = refl };
      sender = λ k own x. record { settled = kept c _ _ _ _ _; wait = refl };
      receiver = λ k own x. record { settled = kept c _ _ _ _ _; wait = refl };
      held0 = λ own x h t same. record { settled = kept c _ _ _ _ _; wait = same };
      held = λ k own h t same. record { settled = kept c _ _ _ _ _; wait = same };
    }

-- none of the three is written
pub or_no : (a b : Bool) → (a || b) ≡ false → (a ≡ false) × (b ≡ false)
or_no true b e = absurd {0} (false≢true (sym e))
or_no false b e = (refl, e)

pub unset : (a : ℕ) → is_setting a ≡ false → (eqb a 0x00 ≡ false) × (eqb a 0x04 ≡ false) × (eqb a 0x05 ≡ false)
unset a ok =
    let e : _ = or_no (eqb a 0x00 || eqb a 0x04) (eqb a 0x05) ok in
    let f : _ = or_no (eqb a 0x00) (eqb a 0x04) e.0 in
    (f.0, f.1, e.1)

-- A register access other than a write of MCNTRL, FAR or NFSR leaves NFSR, AD_EN, the address and what is awaited.
pub access_keeps_settings : (e : Event) (s : List ℕ) (m : Model) → is_access e ≡ true → sets e ≡ false → Untouched m.chip (next e s m).chip
unfolding is_access sets step_of read_step write_step
access_keeps_settings (event.Read a) s m t ok =
    accesses.read_by (Untouched m.chip) m.chip a (accessed (register_owner a) m.chip) m.memory
access_keeps_settings (event.Write a v) s m t ok =
    accesses.write_by (Untouched m.chip) m.chip a (accessed (register_owner a) m.chip) v
    (λ e _. absurd {0} (false≢true (sym (unset a ok).0 ∙ e)))
    (λ e. absurd {0} (false≢true (sym (unset a ok).1 ∙ e)))
    (λ _ e. absurd {0} (false≢true (sym (unset a ok).2 ∙ e)))
access_keeps_settings (event.In a e) s m t ok = absurd {0} (false≢true t)
access_keeps_settings (event.Out a e) s m t ok = absurd {0} (false≢true t)
access_keeps_settings (event.Setup a e) s m t ok = absurd {0} (false≢true t)
access_keeps_settings (event.Data pid sound) s m t ok = absurd {0} (false≢true t)
access_keeps_settings event.Ack s m t ok = absurd {0} (false≢true t)
access_keeps_settings event.Timeout s m t ok = absurd {0} (false≢true t)

-- ---- bus events

unheard : (c : Chip) → Configured c c
unheard c = record { settled = kept c _ _ _ _ _; epcs = alike c c refl refl }

heard : (o : Owner) (L : Pending → Type 0) (c : Chip) → bus.Changes (Configured c) o L c
heard o L c =
    record {
      none = λ _. unheard c;
      waits = λ h l. record { settled = kept c _ _ _ _ _; epcs = alike c _ refl refl };
      control = λ own x e h l. record { settled = kept c _ _ _ _ _; epcs = alike c _ refl refl };
      sender = λ k own x same e h l. beside _ (kept c _ _ _ _ _) refl refl (sender_epcs c k x same);
      receiver = λ k own x same e h l. beside _ (kept c _ _ _ _ _) refl refl (receiver_epcs c k x same);
    }
  where
    beside : {n : Chip} (r : Chip) → Settled c r → r.senders ≡ n.senders → r.receivers ≡ n.receivers → Epcs c n → Configured c r
    beside {n} r s e f k = record { settled = s; epcs = epcs_then c n r k (alike n r e f) }

-- after the end of a wait
module _ (c : Chip) where
  abbrev q : Chip
  q = quiet false c

  later : (n : Chip) → Configured q n → Configured c n
  later n h = configured_then c q n (quiet_looks false c).same h

  hears : Hears (Configured c) c
  hears =
      record {
        none = unheard c;
        in_token_lem = λ _ a e. later _ (bus.in_by_lem (Configured q) q (winner (in_mask a e q)) (heard _ _ q));
        out_token_lem = λ _ a e. later _ (bus.out_by_lem (Configured q) q (winner (out_mask a e q)) (heard _ _ q));
        setup_token_lem = λ _ a e. later _ (bus.setup_by (Configured q) q a e (heard _ _ q));
        data_packet = λ _ pid sound s.
            let x : Chip = ended false c in
            configured_then c x _ (ended_looks false c).same (bus.data_by (Configured x) x pid sound s x.pending.wait (heard _ _ x));
        end = λ _ acked. (quiet_looks acked c).same;
      }

-- Every bus event leaves NFSR, AD_EN, the address and every EPC.
pub bus_keeps_settings : (e : Event) (s : List ℕ) (m : Model) → is_access e ≡ false → Configured m.chip (next e s m).chip
unfolding is_access
bus_keeps_settings e s m t =
    step_by (Configured m.chip) m.chip (hears m.chip) e s m.memory
    (λ a q. absurd {0} (false≢true (sym (rw q at t)))) (λ a v q. absurd {0} (false≢true (sym (rw q at t))))

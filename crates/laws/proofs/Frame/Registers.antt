-- A register access leaves every endpoint but the register's own, where it neither resets the chip nor leaves the operational state.
-- Assumes nothing.
use Prim.Native.Nat.{ℕ, ◌%◌}
use mathlib.Core.Path.{◌≡◌, refl, sym, ◌∙◌}
use mathlib.Core.Bool.{true, false, ◌&&◌, false≢true}
use mathlib.Core.List.{List}
use lib.Dec.{eqb, leb}
use borrow.Author.Tests.{eqb-true}
use Rattle.choice.proofs.ByTest.{by_test}
use Rattle.window.specs.declared.FifoNumber.{FifoNumber}
use Rattle.epc.specs.Bits.{odd}
use Rattle.contents.proofs.Transmit.{put_tx_kept}
use Rattle.contents.proofs.Control.{put0_kept}
use Rattle.state.specs.declared.Endpoint.{Endpoint}
use Rattle.state.specs.declared.Wait.{Wait}
use Rattle.state.specs.declared.Wait.TheVariants.{Nothing, Handshake, Data, Setup}
use Rattle.state.specs.declared.Pending.{Pending}
use Rattle.state.specs.declared.Chip.{Chip}
use Rattle.state.specs.State.{sender_at, zero_place}
use Rattle.state.specs.Set.{with_control, with_masks, with_pending}
use Rattle.slot.specs.declared.Register.{Register}
use Rattle.slot.specs.declared.Register.TheVariants as register
use Rattle.slot.specs.Slot.{slot_of}
use Rattle.settings.specs.Settings.{awaits, awaits_in, far_write, nfsr_write}
use Rattle.reads.specs.Read.{read_of}
use Rattle.writes.specs.Write.{control_bytes, sender_bytes, endpoint_bytes, write_of, bytes_of}
use Rattle.laws.specs.Place.{Place, zero, sends, at, sending_place, bytes_at, Owner, is_owner, awaited_of, awaited, Stays}
use Rattle.laws.specs.Owner.{slot_place, register_owner, resets}
use Rattle.laws.proofs.Frame.Owners.{owner_zero, owner_slot, slot_sends, sending_zero, sending_at}
use Rattle.laws.proofs.Frame.Parts.{state_pending, stays, stays_then, free_by, plain_stays, events_stay, control_stays, sender_stays, receiver_stays}
use Rattle.laws.proofs.Frame.Bytes.{kept_bytes}
use Rattle.laws.proofs.Frame.Accesses.{Changes, read_by, write_by}

-- where one endpoint awaits a handshake, nothing is awaited of another
waits_elsewhere : (p : Place) (e : Endpoint) (w : Wait) → awaits_in e w ≡ true → at (sending_place e) p ≡ false
    → is_owner (awaited_of w) p ≡ false
unfolding sending_place
waits_elsewhere p e Nothing t other = refl
waits_elsewhere p e (Handshake w) t other = rw (eqb-true w.0 e.0 t) other
waits_elsewhere p e (Data w) t other = absurd {0} (false≢true t)
waits_elsewhere p e Setup t other = absurd {0} (false≢true t)

-- what is held for the endpoint that awaits a handshake is no other's
held_stays : (p : Place) (c : Chip) (e : Endpoint) (h : Pending) → awaits e c ≡ true → h.wait ≡ c.pending.wait → at (sending_place e) p ≡ false
    → Stays p c (with_pending h c)
unfolding awaited
held_stays p c e h t same other =
    let free : awaited p c ≡ false = waits_elsewhere p e c.pending.wait t other in
    free_by p c (with_pending h c) (state_pending c p h) free (rw same free)

changes : (p : Place) (o : Owner) (c : Chip) → is_owner o p ≡ false → Changes (Stays p c) o c
changes p o c other =
    record {
      none = stays p c;
      masks = λ x. plain_stays p c (with_masks x c) refl refl refl refl;
      events = events_stay p c;
      control = λ own x. control_stays p c x (rw own at other);
      sender = λ k own x. sender_stays p c k x (rw own at other);
      receiver = λ k own x. receiver_stays p c k x (rw own at other);
      held0 = λ own x h t same.
          let z : at zero p ≡ false = rw own at other in
          stays_then p (control_stays p c x z) (held_stays p (with_control x c) zero_place h t same (sending_zero p z));
      held = λ k own h t same. held_stays p c _ h t same (sending_at p k (rw own at other));
    }

-- the two writes that reach every endpoint
module _ (a v : ℕ) where
  mcntrl_resets : eqb a 0x00 ≡ true → odd v ≡ true → resets a v ≡ true
  mcntrl_resets e t = simp (e, t)

  nfsr_resets : eqb a 0x00 ≡ false → eqb a 0x05 ≡ true → eqb (v % 4) 2 ≡ false → resets a v ≡ true
  nfsr_resets e f t = simp (e, f, t)

module _ (p : Place) (c : Chip) (a : ℕ) (other : is_owner (register_owner a) p ≡ false) where
  pub read_stays : (m : List ℕ) → Stays p c (read_of a c m).chip
  read_stays m = read_by (Stays p c) c a (changes p (register_owner a) c other) m

  module _ (v : ℕ) (ok : resets a v ≡ false) where
    nfsr_stays : eqb a 0x00 ≡ false → eqb a 0x05 ≡ true → Stays p c (nfsr_write v c)
    unfolding nfsr_write
    nfsr_stays e f =
        by_test (Stays p c) (eqb (v % 4) 2)
        (λ _. plain_stays p c _ refl refl refl refl)
        (λ t. absurd {0} (false≢true (sym ok ∙ nfsr_resets a v e f t)))

    pub write_stays : Stays p c (write_of a v c)
    write_stays =
        write_by (Stays p c) c a (changes p (register_owner a) c other) v
        (λ e t. absurd {0} (false≢true (sym ok ∙ mcntrl_resets a v e t)))
        (λ _. plain_stays p c (far_write v c) refl refl refl refl)
        nfsr_stays

    module _ (m : List ℕ) where
      abbrev Kept : List ℕ → Type 0
      Kept m' = bytes_at p m' ≡ bytes_at p m

      control_bytes_lem : at zero p ≡ false → Kept (control_bytes a v c m)
      unfolding control_bytes
      control_bytes_lem z =
          by_test Kept _ (λ _.
          by_test Kept _ (λ _. refl) (λ _. kept_bytes zero p m _ z (put0_kept c.control.fifo m v))) (λ _. refl)

      sender_bytes_lem : (r : Register) (k : FifoNumber) → at (sends k) p ≡ false → Kept (sender_bytes r k v c m)
      unfolding sender_bytes
      sender_bytes_lem register.Epc k s = refl
      sender_bytes_lem register.Data k s = kept_bytes (sends k) p m _ s (put_tx_kept k (sender_at k c).fifo m v)
      sender_bytes_lem register.Status k s = refl
      sender_bytes_lem register.Command k s = refl

      endpoint_bytes_lem : at (slot_place a) p ≡ false → Kept (endpoint_bytes a v c m)
      endpoint_bytes_lem s =
          by_test Kept (slot_of a).sends
          (λ e. sender_bytes_lem (slot_of a).register (slot_of a).number (rw (slot_sends a e) at s))
          (λ _. refl)

      pub write_bytes : Kept (bytes_of a v c m)
      unfolding bytes_of
      write_bytes =
          by_test Kept (eqb a 0x00) (λ e. by_test Kept _ (λ t. absurd {0} (false≢true (sym ok ∙ mcntrl_resets a v e t))) (λ _. refl)) (λ _.
          by_test Kept (leb 0x20 a && leb a 0x27) (λ g. control_bytes_lem (rw (owner_zero a g) at other)) (λ g.
          by_test Kept (leb 0x28 a && leb a 0x3F) (λ h. endpoint_bytes_lem (rw (owner_slot a g h) at other)) (λ _. refl)))

-- What a register access can change of the chip, by the endpoint that the register is of.
-- Assumes nothing.
use Prim.Native.Nat.{ℕ}
use mathlib.Core.Path.{◌≡◌, refl, ◌∙◌, ap}
use mathlib.Core.Bool.{true, false}
use mathlib.Core.List.{List}
use lib.Dec.{eqb}
use Rattle.choice.proofs.ByTest.{by_test}
use Rattle.window.specs.declared.FifoNumber.{FifoNumber}
use Rattle.epc.specs.Bits.{odd}
use Rattle.control.specs.declared.Control.{Control}
use Rattle.sender.specs.declared.Sender.{Sender}
use Rattle.receiver.specs.declared.Receiver.{Receiver}
use Rattle.state.specs.declared.Masks.{Masks}
use Rattle.state.specs.declared.Events.{Events}
use Rattle.state.specs.declared.Pending.{Pending}
use Rattle.state.specs.declared.Chip.{Chip}
use Rattle.state.specs.State.{reset_chip, zero_place}
use Rattle.state.specs.Set.{with_control, with_sender, with_receiver, with_masks, with_events, with_pending}
use Rattle.slot.specs.Slot.{sending}
use Rattle.settings.specs.Settings.{awaits, far_write, nfsr_write, mask_write}
use Rattle.reads.specs.Read.{read_of}
use Rattle.writes.specs.Write.{write_of}
use Rattle.laws.proofs.Typed.Accesses as accesses
use Rattle.laws.proofs.Typed.Accesses.{OfSlot, number}
use Rattle.laws.specs.Place.{zero, sends, receives, Owner, one}
use Rattle.laws.specs.Owner.{register_owner}
use Rattle.laws.proofs.Frame.Owners.{owner_zero, owner_slot, slot_sends, slot_receives}

-- the changes: a mask, the events that a read clears, the register's own endpoint; while that endpoint awaits a handshake, what is held
pub record Changes (P : Chip → Type 0) (o : Owner) (c : Chip) : Type 0 where
  pub none : P c
  pub masks : (x : Masks) → P (with_masks x c)
  pub events : (x : Events) → P (with_events x c)
  pub control : o ≡ one zero → (x : Control) → P (with_control x c)
  pub sender : (k : FifoNumber) → o ≡ one (sends k) → (x : Sender) → P (with_sender k x c)
  pub receiver : (k : FifoNumber) → o ≡ one (receives k) → (x : Receiver) → P (with_receiver k x c)
  pub held0 : o ≡ one zero → (x : Control) (h : Pending) → awaits zero_place c ≡ true → h.wait ≡ c.pending.wait
      → P (with_pending h (with_control x c))
  pub held : (k : FifoNumber) → o ≡ one (sends k) → (h : Pending) → awaits (sending k) c ≡ true → h.wait ≡ c.pending.wait → P (with_pending h c)

module _ (P : Chip → Type 0) (c : Chip) (a : ℕ) (h : Changes P (register_owner a) c) where
  at_sends : OfSlot a true → register_owner a ≡ one (sends (number a))
  at_sends s = owner_slot a s.above s.inside ∙ ap one (slot_sends a s.way)

  at_receives : OfSlot a false → register_owner a ≡ one (receives (number a))
  at_receives s = owner_slot a s.above s.inside ∙ ap one (slot_receives a s.way)

  mask_write_lem : (v which : ℕ) → P (mask_write which v c)
  unfolding mask_write
  mask_write_lem v which =
      by_test P _ (λ _. h.masks _) (λ _. by_test P _ (λ _. h.masks _) (λ _. by_test P _ (λ _. h.masks _) (λ _. h.masks _)))

  -- A read changes the register's own endpoint, and clears events.
  pub read_by : (m : List ℕ) → P (read_of a c m).chip
  read_by m =
      accesses.read_by P a c m (record {
        none = h.none;
        rxev = h.events _;
        nakev = h.events _;
        txs0 = λ e. h.control (owner_zero a e) _;
        rxd0 = λ e. h.control (owner_zero a e) _;
        rxs0 = λ e. h.control (owner_zero a e) _;
        txs = λ s. h.sender _ (at_sends s) _;
        rxd = λ s. h.receiver _ (at_receives s) _;
        rxs = λ s. h.receiver _ (at_receives s) _;
      })

  -- A write changes the register's own endpoint, a mask, or FAR; a reset and a write of NFSR are the caller's to answer.
  pub write_by : (v : ℕ)
      → (eqb a 0x00 ≡ true → odd v ≡ true → P reset_chip)
      → (eqb a 0x04 ≡ true → P (far_write v c))
      → (eqb a 0x00 ≡ false → eqb a 0x05 ≡ true → P (nfsr_write v c))
      → P (write_of a v c)
  write_by v reset far nfsr =
      accesses.write_by P a v c (record {
        none = h.none;
        reset = reset;
        far = far;
        nfsr = nfsr;
        mask = mask_write_lem v;
        epc0 = λ e. h.control (owner_zero a e) _;
        txd0 = λ e. h.control (owner_zero a e) _;
        txc0 = λ e. h.control (owner_zero a e) _;
        held0 = λ e t. h.held0 (owner_zero a e) c.control _ t refl;
        rxc0 = λ e. h.control (owner_zero a e) _;
        bits0 = λ e _. h.control (owner_zero a e) _;
        flush0 = λ e t. h.held0 (owner_zero a e) _ _ t refl;
        epc_tx = λ s. h.sender _ (at_sends s) _;
        txd = λ s. h.sender _ (at_sends s) _;
        txc = λ s. h.sender _ (at_sends s) _;
        held = λ s t. h.held _ (at_sends s) _ t refl;
        epc_rx = λ s. h.receiver _ (at_receives s) _;
        rxc = λ s. h.receiver _ (at_receives s) _;
      })

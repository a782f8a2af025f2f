-- What stands when the chip leaves the operational state: the facts of a well-formed state that is not operational.
-- Assumes nothing.
use Prim.Native.Nat.{ℕ, zero, suc, ◌<◌}
use native.Mathlib.Omega.{arith}
use mathlib.Core.Path.{◌≡◌}
use mathlib.Core.Bool.{Bool, false}
use mathlib.Core.List.{List, [], ◌∷◌}
use lib.ListN.{get_or, set, length}
use lib.Dec.{eqb}
use Rattle.choice.specs.Choice.{pick}
use Rattle.window.specs.Window.{index_of}
use Rattle.sender.specs.Sender as sender
use Rattle.receiver.specs.Receiver as receiver
use Rattle.kept.proofs.Sender as kept-sender
use Rattle.kept.proofs.Receiver as kept-receiver
use Rattle.kept.proofs.Control as kept-control
use Rattle.state.specs.declared.Chip.{Chip}
use Rattle.state.specs.Set.{with_nfsr}
use Rattle.settings.specs.Settings.{stop_sender, stop_receiver, stop_zero, stop}
use Rattle.laws.specs.Typed.{Each, TypedChip}
use Rattle.laws.proofs.Formed.Facts.{WellSender, WellReceiver, Facts}
use Rattle.laws.proofs.Formed.Pending.{nothing_well}

-- a function at each of three elements, one after another
abbrev thrice : {A : Type 0} → (A → A) → A → List A → List A
thrice f past l =
    let a = set l 0 (f (get_or l 0 past)) in
    let b = set a 1 (f (get_or a 1 past)) in
    set b 2 (f (get_or b 2 past))

each_thrice : {A : Type 0} (P Q : A → Type 0) (f : A → A) (past : A) (l : List A) → length l ≡ 3 → ((x : A) → P x → Q (f x)) → Q past
    → Each P past l → Each Q past (thrice f past l)
each_thrice P Q f past [] e k q h i = absurd {0} (omega arith)
each_thrice P Q f past (x ∷ []) e k q h i = absurd {0} (omega arith)
each_thrice P Q f past (x ∷ y ∷ []) e k q h i = absurd {0} (omega arith)
each_thrice P Q f past (x ∷ y ∷ z ∷ []) e k q h zero = k x (h 0)
each_thrice P Q f past (x ∷ y ∷ z ∷ []) e k q h (suc zero) = k y (h 1)
each_thrice P Q f past (x ∷ y ∷ z ∷ []) e k q h (suc (suc zero)) = k z (h 2)
each_thrice P Q f past (x ∷ y ∷ z ∷ []) e k q h (suc (suc (suc i))) = q
each_thrice P Q f past (x ∷ y ∷ z ∷ w ∷ l) e k q h i = absurd {0} (omega arith)

module _ (o : Bool) (c : Chip) (t : TypedChip c) (f : Facts o c) (x : ℕ) (small : x < 4) where
  pub stopped_facts : eqb x 2 ≡ false → Facts false (stop (with_nfsr x c))
  unfolding stop_sender stop_receiver stop_zero index_of pick
  stopped_facts e =
      record {
        state = e;
        control = kept-control.stopped_well o false c.control f.control;
        senders =
            each_thrice (WellSender o) (WellSender false) sender.stopped sender.reset_sender c.senders t.senders.sized
            (kept-sender.stopped_keeps o false) (kept-sender.reset_well_formed false) f.senders;
        receivers =
            each_thrice (WellReceiver o) (WellReceiver false) receiver.stopped receiver.reset_receiver c.receivers t.receivers.sized
            (kept-receiver.stopped_keeps o false) (kept-receiver.reset_well_formed false) f.receivers;
        nfsr_small = small;
        address_small = f.address_small;
        pending = nothing_well false;
      }

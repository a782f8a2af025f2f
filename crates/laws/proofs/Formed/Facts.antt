-- What the test of a whole state says, part by part, and that the parts are all it says. A chip with one part changed is well formed where
-- the new part is: each setter once.
-- Assumes nothing.
use Prim.Native.Nat.{ℕ, zero, suc, ◌<◌}
use native.Mathlib.Omega.{arith}
use mathlib.Core.Path.{◌≡◌}
use mathlib.Core.Bool.{Bool, true, ◌&&◌, and-eq-true_iff}
use mathlib.Core.List.{List}
use lib.ListN.{get_or, length, get_or-eq_default}
use lib.Dec.{ltb}
use borrow.Author.Tests.{ltb-true, lt-ltb}
use Rattle.choice.specs.Choice.{pick}
use Rattle.window.specs.declared.FifoNumber.{FifoNumber}
use Rattle.window.specs.Window.{index_of, numbered}
use Rattle.control.specs.declared.Control.{Control}
use Rattle.control.specs.State as control
use Rattle.sender.specs.declared.Sender.{Sender}
use Rattle.sender.specs.Sender as sender
use Rattle.receiver.specs.declared.Receiver.{Receiver}
use Rattle.receiver.specs.Receiver as receiver
use Rattle.kept.proofs.Sender as kept-sender
use Rattle.kept.proofs.Receiver as kept-receiver
use Rattle.state.specs.declared.Masks.{Masks}
use Rattle.state.specs.declared.Events.{Events}
use Rattle.state.specs.declared.Pending.{Pending}
use Rattle.state.specs.declared.Chip.{Chip}
use Rattle.state.specs.State.{sender_at, receiver_at}
use Rattle.state.specs.Set.{with_control, with_sender, with_receiver, with_far, with_masks, with_events, with_pending}
use Rattle.settings.specs.Settings.{operational}
use Rattle.formed.specs.Formed.{pending_well, senders_well, receivers_well, registers_well, well_formed}
use Rattle.laws.specs.Typed.{Each, TypedChip}
use Rattle.laws.proofs.Typed.Arrays.{each_set}

abbrev pub WellSender : Bool → Sender → Type 0
WellSender o s = sender.well_formed o s ≡ true

abbrev pub WellReceiver : Bool → Receiver → Type 0
WellReceiver o r = receiver.well_formed o r ≡ true

abbrev pub WellPending : Bool → Pending → Type 0
WellPending o p = pending_well o p ≡ true

-- a whole state's, with o for the operational state
pub record Facts (o : Bool) (c : Chip) : Type 0 where
  pub state : operational c ≡ o
  pub control : control.well_formed o c.control ≡ true
  pub senders : Each (WellSender o) sender.reset_sender c.senders
  pub receivers : Each (WellReceiver o) receiver.reset_receiver c.receivers
  pub nfsr_small : c.nfsr < 4
  pub address_small : c.address < 128
  pub pending : WellPending o c.pending

both : (a b : Bool) → a ≡ true → b ≡ true → (a && b) ≡ true
both a b x y = (and-eq-true_iff a b).1 (x, y)

-- three elements are all of an array of three
each_three : {A : Type 0} (P : A → Type 0) (past : A) (l : List A) → length l ≡ 3 → P past
    → P (get_or l 0 past) → P (get_or l 1 past) → P (get_or l 2 past) → Each P past l
each_three P past l e d h0 h1 h2 zero = h0
each_three P past l e d h0 h1 h2 (suc zero) = h1
each_three P past l e d h0 h1 h2 (suc (suc zero)) = h2
each_three P past l e d h0 h1 h2 (suc (suc (suc i))) = rw (get_or-eq_default l past {n = suc (suc (suc i))} (omega arith)) d

module _ (o : Bool) (c : Chip) where
  senders_known : length c.senders ≡ 3 → senders_well o c ≡ true → Each (WellSender o) sender.reset_sender c.senders
  unfolding senders_well index_of pick
  senders_known e h =
      let s : FifoNumber → Bool = λ n. sender.well_formed o (sender_at n c) in
      let a : _ = (and-eq-true_iff (s (numbered 1) && s (numbered 2)) (s (numbered 3))).0 h in
      let b : _ = (and-eq-true_iff (s (numbered 1)) (s (numbered 2))).0 a.0 in
      each_three (WellSender o) sender.reset_sender c.senders e (kept-sender.reset_well_formed o) b.0 b.1 a.1

  receivers_known : length c.receivers ≡ 3 → receivers_well o c ≡ true → Each (WellReceiver o) receiver.reset_receiver c.receivers
  unfolding receivers_well index_of pick
  receivers_known e h =
      let r : FifoNumber → Bool = λ n. receiver.well_formed o (receiver_at n c) in
      let a : _ = (and-eq-true_iff (r (numbered 1) && r (numbered 2)) (r (numbered 3))).0 h in
      let b : _ = (and-eq-true_iff (r (numbered 1)) (r (numbered 2))).0 a.0 in
      each_three (WellReceiver o) receiver.reset_receiver c.receivers e (kept-receiver.reset_well_formed o) b.0 b.1 a.1

registers_known : (c : Chip) → registers_well c ≡ true → (c.nfsr < 4) × (c.address < 128)
unfolding registers_well
registers_known c h =
    let e : _ = (and-eq-true_iff (ltb c.nfsr 4) (ltb c.address 128)).0 h in
    (ltb-true c.nfsr 4 e.0, ltb-true c.address 128 e.1)

-- What the test says.
pub known : (o : Bool) (c : Chip) → operational c ≡ o → TypedChip c → well_formed c ≡ true → Facts o c
unfolding well_formed
known o c e t h =
    let z : Bool = control.well_formed o c.control in
    let s : Bool = senders_well o c in
    let r : Bool = receivers_well o c in
    let g : Bool = registers_well c in
    let a : _ = (and-eq-true_iff (z && s && r && g) (pending_well o c.pending)).0 (rw e at h) in
    let b : _ = (and-eq-true_iff (z && s && r) g).0 a.0 in
    let d : _ = (and-eq-true_iff (z && s) r).0 b.0 in
    let f : _ = (and-eq-true_iff z s).0 d.0 in
    let small : _ = registers_known c b.1 in
    record {
      state = e;
      control = f.0;
      senders = senders_known o c t.senders.sized f.1;
      receivers = receivers_known o c t.receivers.sized d.1;
      nfsr_small = small.0;
      address_small = small.1;
      pending = a.1;
    }

-- the facts of a chip are those of its parts
made : (o : Bool) (c : Chip) → operational c ≡ o → control.well_formed o c.control ≡ true → Each (WellSender o) sender.reset_sender c.senders
    → Each (WellReceiver o) receiver.reset_receiver c.receivers → c.nfsr < 4 → c.address < 128 → WellPending o c.pending → Facts o c
made o c e z s r n a p =
    record { state = e; control = z; senders = s; receivers = r; nfsr_small = n; address_small = a; pending = p }

-- That is all it says.
module _ (o : Bool) (c : Chip) (f : Facts o c) where
  senders_shown : senders_well o c ≡ true
  unfolding senders_well
  senders_shown = both _ _ (both _ _ (f.senders (index_of (numbered 1))) (f.senders (index_of (numbered 2)))) (f.senders (index_of (numbered 3)))

  receivers_shown : receivers_well o c ≡ true
  unfolding receivers_well
  receivers_shown =
      both _ _ (both _ _ (f.receivers (index_of (numbered 1))) (f.receivers (index_of (numbered 2)))) (f.receivers (index_of (numbered 3)))

  registers_shown : registers_well c ≡ true
  unfolding registers_well
  registers_shown = both _ _ (lt-ltb c.nfsr 4 f.nfsr_small) (lt-ltb c.address 128 f.address_small)

  pub shown : well_formed c ≡ true
  unfolding well_formed
  shown = rw (f.state, f.control, senders_shown, receivers_shown, registers_shown, f.pending)

  -- One part changed.
  pub with_control_well : (x : Control) → control.well_formed o x ≡ true → Facts o (with_control x c)
  with_control_well x h = made o _ f.state h f.senders f.receivers f.nfsr_small f.address_small f.pending

  pub with_sender_well : (n : FifoNumber) (x : Sender) → WellSender o x → Facts o (with_sender n x c)
  with_sender_well n x h =
      made o _ f.state f.control
      (each_set (WellSender o) sender.reset_sender c.senders (index_of n) x f.senders h)
      f.receivers f.nfsr_small f.address_small f.pending

  pub with_receiver_well : (n : FifoNumber) (x : Receiver) → WellReceiver o x → Facts o (with_receiver n x c)
  with_receiver_well n x h =
      made o _ f.state f.control f.senders
      (each_set (WellReceiver o) receiver.reset_receiver c.receivers (index_of n) x f.receivers h)
      f.nfsr_small f.address_small f.pending

  pub with_far_well : (x : Bool) (y : ℕ) → y < 128 → Facts o (with_far x y c)
  with_far_well x y h = made o _ f.state f.control f.senders f.receivers f.nfsr_small h f.pending

  pub with_masks_well : (x : Masks) → Facts o (with_masks x c)
  with_masks_well x = made o _ f.state f.control f.senders f.receivers f.nfsr_small f.address_small f.pending

  pub with_events_well : (x : Events) → Facts o (with_events x c)
  with_events_well x = made o _ f.state f.control f.senders f.receivers f.nfsr_small f.address_small f.pending

  pub with_pending_well : (x : Pending) → WellPending o x → Facts o (with_pending x c)
  with_pending_well x h = made o _ f.state f.control f.senders f.receivers f.nfsr_small f.address_small h

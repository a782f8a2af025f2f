-- A register access that is not reserved to the driver leaves the endpoints of TXFIFO1 and RXFIFO1 as they were.
-- Assumes nothing.
use Prim.Native.Nat.{ℕ, zero, suc, ◌+◌, ◌-◌, ◌/◌, ◌%◌, ◌≤◌}
use native.Mathlib.Omega.{arith}
use native.Mathlib.Decide.{dec_le}
use mathlib.Core.Path.{◌≡◌, refl, sym, subst}
use mathlib.Core.Bool.{Bool, true, false, ◌&&◌, ◌||◌, false≢true, and-eq-true_iff}
use mathlib.Core.List.{List}
use lib.Dec.{eqb, leb}
use borrow.Author.Tests.{leb-true, eqb-true}
use Rattle.choice.specs.Choice.{pick}
use Rattle.choice.proofs.ByTest.{by_test}
use Rattle.window.specs.declared.FifoNumber.{FifoNumber}
use Rattle.window.specs.Window.{index_of, numbered}
use Rattle.event.specs.declared.Event.{Event}
use Rattle.event.specs.declared.Event.TheVariants as event
use Rattle.state.specs.State.{Model}
use Rattle.slot.specs.Slot.{slot_of}
use Rattle.reads.specs.Read.{sender_read, receiver_read, read_of}
use Rattle.writes.specs.Write.{sender_write, sender_bytes, receiver_write, write_of, bytes_of}
use Rattle.step.specs.Step.{read_step, write_step, step_of, step_bytes}
use Rattle.laws.specs.Next.{next}
use Rattle.laws.specs.Place as place
use Rattle.laws.specs.Place.{Place, at, Owner, one, is_owner, Same}
use Rattle.laws.specs.Owner.{slot_place, register_owner, owner, resets, exempt}
use Rattle.laws.specs.Settings.{is_setting, sets, is_access}
use Rattle.laws.specs.Driver.{Piped, endpoint1, endpoint2, reserved}
use Rattle.laws.proofs.Frame.Frame.{same, frame}
use Rattle.laws.proofs.Frame.Settled.{or_no, unset}

-- their registers are 28 to 2F
index_later : (k : FifoNumber) → (k.0 ≡ 1 → ⊥) → eqb (index_of k) (index_of (numbered 1)) ≡ false
index_later k other = go
  where
    zeroth : index_of (numbered 1) ≡ 0
    zeroth = unfold index_of pick in refl

    later : eqb (index_of k) 0 ≡ false
    later = unfold index_of in
        (by_test (λ (i : ℕ). eqb i 0 ≡ false) (eqb k.0 1) (λ e. absurd {0} (other (eqb-true k.0 1 e))) (λ _.
        by_test (λ (i : ℕ). eqb i 0 ≡ false) (eqb k.0 2) (λ _. refl) (λ _. refl)))

    go : eqb (index_of k) (index_of (numbered 1)) ≡ false
    go = rw zeroth later

slot_later : (p : Place) → Piped p → (a : ℕ) → (a / 8 % 4 ≡ 1 → ⊥) → is_owner (one (slot_place a)) p ≡ false
unfolding slot_place
slot_later p endpoint1 a other = by_test (λ (q : Place). at q p ≡ false) _ (λ _. index_later (slot_of a).number other) (λ _. refl)
slot_later p endpoint2 a other = by_test (λ (q : Place). at q p ≡ false) _ (λ _. refl) (λ _. index_later (slot_of a).number other)

owner_later : (p : Place) → Piped p → (a : ℕ) → (0x28 ≤ a → a ≤ 0x2F → ⊥) → is_owner (register_owner a) p ≡ false
unfolding register_owner
owner_later p d a outside =
    by_test (λ (o : Owner). is_owner o p ≡ false) _ (λ _. not_zero p d) (λ _.
    by_test (λ (o : Owner). is_owner o p ≡ false) (leb 0x28 a && leb a 0x3F) (λ t.
    let e : _ = (and-eq-true_iff (leb 0x28 a) (leb a 0x3F)).0 t in
    let low : 0x28 ≤ a = leb-true 0x28 a e.0 in
    let high : a ≤ 0x3F = leb-true a 0x3F e.1 in
    slot_later p d a (λ k. outside low (omega arith))) (λ _. refl))
  where
    not_zero : (q : Place) → Piped q → is_owner (one place.zero) q ≡ false
    not_zero q endpoint1 = refl
    not_zero q endpoint2 = refl

-- one after another, 28 to 2F
by_address : (P : ℕ → Type 0) (a : ℕ) → 0x28 ≤ a → a ≤ 0x2F
    → P 0x28 → P 0x29 → P 0x2A → P 0x2B → P 0x2C → P 0x2D → P 0x2E → P 0x2F → P a
by_address P a low high x0 x1 x2 x3 x4 x5 x6 x7 = subst P back (go (a - 0x28) (omega arith))
  where
    back : 0x28 + (a - 0x28) ≡ a
    back = omega arith

    go : (d : ℕ) → d ≤ 7 → P (0x28 + d)
    go zero h = x0
    go (suc zero) h = x1
    go (suc (suc zero)) h = x2
    go (suc (suc (suc zero))) h = x3
    go (suc (suc (suc (suc zero)))) h = x4
    go (suc (suc (suc (suc (suc zero))))) h = x5
    go (suc (suc (suc (suc (suc (suc zero)))))) h = x6
    go (suc (suc (suc (suc (suc (suc (suc zero))))))) h = x7
    go (suc (suc (suc (suc (suc (suc (suc (suc d)))))))) h = absurd {0} (omega arith)

-- within, or not
at_address : (P : ℕ → Type 0) (a : ℕ) → (0x28 ≤ a → a ≤ 0x2F → P a) → ((0x28 ≤ a → a ≤ 0x2F → ⊥) → P a) → P a
at_address P a inside outside = go (dec_le 0x28 a) (dec_le a 0x2F)
  where
    go : Dec (0x28 ≤ a) → Dec (a ≤ 0x2F) → P a
    go (yes low) (yes high) = inside low high
    go (yes low) (no high) = outside (λ l h. high h)
    go (no low) h = outside (λ l _. low l)

first_of : (a b c d e f : Bool) → (a || b || c || d || e || f) ≡ false → a ≡ false
first_of a b c d e f h =
    (or_no a b (or_no (a || b) c (or_no (a || b || c) d (or_no (a || b || c || d) e (or_no (a || b || c || d || e) f h).0).0).0).0).0

-- An event that is not reserved is no write of MCNTRL, FAR or NFSR.
pub unreserved_sets : (e : Event) → reserved e ≡ false → sets e ≡ false
unfolding reserved sets
unreserved_sets (event.Read a) ok = refl
unreserved_sets (event.Write a v) ok = first_of _ _ _ _ _ _ ok
unreserved_sets (event.In a e) ok = refl
unreserved_sets (event.Out a e) ok = refl
unreserved_sets (event.Setup a e) ok = refl
unreserved_sets (event.Data pid sound) ok = refl
unreserved_sets event.Ack ok = refl
unreserved_sets event.Timeout ok = refl

no_reset : (v a : ℕ) → is_setting a ≡ false → resets a v ≡ false
no_reset v a ok = simp ((unset a ok).0, (unset a ok).2)

module _ (s : List ℕ) (m : Model) (p : Place) (d : Piped p) where
  abbrev ReadKeeps : ℕ → Type 0
  ReadKeeps a = reserved (event.Read a) ≡ false → Same p m (next (event.Read a) s m)

  abbrev WriteKeeps : ℕ → ℕ → Type 0
  WriteKeeps v a = reserved (event.Write a v) ≡ false → Same p m (next (event.Write a v) s m)

  never : {A : Type 0} → true ≡ false → A
  never e = absurd {0} (false≢true (sym e))

  -- EPC, TXD and TXC show, TXS is reserved; EPC and RXC show, RXD and RXS are reserved
  read_keeps : (a : ℕ) → 0x28 ≤ a → a ≤ 0x2F → ReadKeeps a
  unfolding reserved step_of step_bytes read_step read_of sender_read receiver_read pick
  read_keeps a low high =
      by_address ReadKeeps a low high (λ _. same p m) (λ _. same p m) (λ e. never e) (λ _. same p m) (λ _. same p m) (λ e. never e) (λ e. never e) (λ _. same p m)

  -- EPC, TXD and TXC are reserved, TXS ignores writes; EPC and RXC are reserved, RXD and RXS ignore writes
  write_keeps : (v a : ℕ) → 0x28 ≤ a → a ≤ 0x2F → WriteKeeps v a
  unfolding reserved step_of step_bytes write_step write_of sender_write receiver_write bytes_of sender_bytes pick
  write_keeps v a low high =
      by_address (WriteKeeps v) a low high (λ e. never e) (λ e. never e) (λ _. same p m) (λ e. never e) (λ e. never e) (λ _. same p m) (λ _. same p m) (λ e. never e)

  -- elsewhere the access is for another endpoint, or for none
  read_away : (a : ℕ) → (0x28 ≤ a → a ≤ 0x2F → ⊥) → ReadKeeps a
  unfolding owner exempt
  read_away a outside ok = frame (event.Read a) s m p (owner_later p d a outside) refl

  write_away : (v a : ℕ) → (0x28 ≤ a → a ≤ 0x2F → ⊥) → WriteKeeps v a
  unfolding owner exempt sets
  write_away v a outside ok = frame (event.Write a v) s m p (owner_later p d a outside) (no_reset v a (unreserved_sets (event.Write a v) ok))

-- A register access that is not reserved leaves the endpoints of TXFIFO1 and RXFIFO1 as they were.
pub unreserved_keeps : (e : Event) (s : List ℕ) (m : Model) (p : Place) → Piped p → is_access e ≡ true → reserved e ≡ false → Same p m (next e s m)
unfolding is_access
unreserved_keeps (event.Read a) s m p d t ok = at_address (ReadKeeps s m p d) a (read_keeps s m p d a) (read_away s m p d a) ok
unreserved_keeps (event.Write a v) s m p d t ok =
    at_address (WriteKeeps s m p d v) a (write_keeps s m p d v a) (write_away s m p d v a) ok
unreserved_keeps (event.In a e) s m p d t ok = absurd {0} (false≢true t)
unreserved_keeps (event.Out a e) s m p d t ok = absurd {0} (false≢true t)
unreserved_keeps (event.Setup a e) s m p d t ok = absurd {0} (false≢true t)
unreserved_keeps (event.Data pid sound) s m p d t ok = absurd {0} (false≢true t)
unreserved_keeps event.Ack s m p d t ok = absurd {0} (false≢true t)
unreserved_keeps event.Timeout s m p d t ok = absurd {0} (false≢true t)

-- Whose register an address names, and at which place a FIFO number or an endpoint stands.
-- Assumes nothing.
use Prim.Native.Nat.{ℕ, ◌+◌, ◌*◌, ◌/◌, ◌%◌}
use native.Mathlib.Omega.{arith}
use mathlib.Core.Path.{◌≡◌, refl}
use mathlib.Core.Bool.{true, false, ◌&&◌}
use lib.Dec.{eqb, leb}
use borrow.Author.Tests.{ne_eqb}
use Rattle.choice.specs.Choice.{pick}
use Rattle.choice.proofs.ByTest.{by_test}
use Rattle.window.specs.declared.FifoNumber.{FifoNumber}
use Rattle.window.specs.Window.{index_of}
use Rattle.state.specs.declared.Endpoint.{Endpoint}
use Rattle.state.specs.State.{fifo_of, zero_place}
use Rattle.slot.specs.Slot.{slot_of, sending}
use Rattle.laws.specs.Place.{Place, zero, sends, receives, at, sending_place, receiving_place, one}
use Rattle.laws.specs.Owner.{slot_place, register_owner}

module _ (a : ℕ) where
  pub owner_zero : (leb 0x20 a && leb a 0x27) ≡ true → register_owner a ≡ one zero
  unfolding register_owner pick
  owner_zero e = rw e

  pub owner_slot : (leb 0x20 a && leb a 0x27) ≡ false → (leb 0x28 a && leb a 0x3F) ≡ true → register_owner a ≡ one (slot_place a)
  unfolding register_owner pick
  owner_slot e f = rw (e, f)

  pub slot_sends : (slot_of a).sends ≡ true → slot_place a ≡ sends (slot_of a).number
  unfolding slot_place pick
  slot_sends e = rw e

  pub slot_receives : (slot_of a).sends ≡ false → slot_place a ≡ receives (slot_of a).number
  unfolding slot_place pick
  slot_receives e = rw e

-- a FIFO number has one of three indices
by_index : (P : ℕ → Type 0) (k : FifoNumber) → P 0 → P 1 → P 2 → P (index_of k)
unfolding index_of
by_index P k x y z = by_test P _ (λ _. x) (λ _. by_test P _ (λ _. y) (λ _. z))

-- the endpoint that sends from a FIFO stands at that FIFO's place
sending_index : (k : FifoNumber) → index_of (fifo_of (sending k)) ≡ index_of k
sending_index k = by_index (λ (i : ℕ). index_of (record { 0 = (1 + 2 * i) / 2 + (1 + 2 * i) % 2 }) ≡ i) k first second third
  where
    first : index_of (record { 0 = 1 }) ≡ 0
    first = unfold index_of pick in refl

    second : index_of (record { 0 = 2 }) ≡ 1
    second = unfold index_of pick in refl

    third : index_of (record { 0 = 3 }) ≡ 2
    third = unfold index_of pick in refl

pub sending_at : (p : Place) (k : FifoNumber) → at (sends k) p ≡ false → at (sending_place (sending k)) p ≡ false
unfolding sending_place pick
sending_at p k other = rw (ne_eqb (1 + 2 * index_of k) 0 (omega arith)) (go p other)
  where
    go : (q : Place) → at (sends k) q ≡ false → at (sends (fifo_of (sending k))) q ≡ false
    go zero h = refl
    go (sends n) h = rw (sending_index k) h
    go (receives n) h = refl

pub sending_zero : (p : Place) → at zero p ≡ false → at (sending_place zero_place) p ≡ false
unfolding sending_place pick
sending_zero p other = other

-- an endpoint's place by its number
module _ (e : Endpoint) where
  pub sending_is_zero : eqb e.0 0 ≡ true → sending_place e ≡ zero
  unfolding sending_place pick
  sending_is_zero t = rw t

  pub sending_is_sends : eqb e.0 0 ≡ false → sending_place e ≡ sends (fifo_of e)
  unfolding sending_place pick
  sending_is_sends t = rw t

  pub receiving_is_zero : eqb e.0 0 ≡ true → receiving_place e ≡ zero
  unfolding receiving_place pick
  receiving_is_zero t = rw t

  pub receiving_is_receives : eqb e.0 0 ≡ false → receiving_place e ≡ receives (fifo_of e)
  unfolding receiving_place pick
  receiving_is_receives t = rw t

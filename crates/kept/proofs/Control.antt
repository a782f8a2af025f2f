-- A register access keeps endpoint 0 well formed, in and outside the operational state. FIFO0's counters are under 256.
-- The laws of FIFO0 alone and of the test's parts are for the bus events too.
-- Assumes nothing.
use Prim.Native.Nat.{ℕ, ◌≤◌, ◌<◌}
use native.Mathlib.Omega.{arith}
use mathlib.Core.Path.{◌≡◌, refl}
use mathlib.Core.Logic.{◌≢◌}
use mathlib.Core.Bool.{Bool, true, false, ◌&&◌, ◌||◌, not, and-eq-true_iff}
use mathlib.Core.List.{List}
use lib.ListN.{length}
use lib.Dec.{leb, eqb}
use borrow.Author.Tests.{leb-true, leb-false, eqb-true, eqb-false, ne_eqb, le-leb, not-true}
use Rattle.choice.proofs.ByTest.{by_test}
use Rattle.ring.specs.declared.Taken.{Taken}
use Rattle.ring.specs.Ring.{level, full}
use Rattle.fifo0.specs.declared.Fifo0.{Fifo0}
use Rattle.fifo0.specs.Control.{reset0, rcount, put0, take0, fill0, spend0}
use Rattle.contents.proofs.Ring.{Counters, level_adds, level_read}
use Rattle.contents.proofs.Control.{second_false, Canonical0, put0_canonical, take0_canonical, fill0_canonical, spend0_canonical, reset0_canonical}
use Rattle.control.specs.declared.Control.{Control}
use Rattle.epc.specs.Bits.{odd}
use Rattle.control.specs.State.{with_fifo, reset_control, unmarked_empty, well_formed}
use Rattle.control.specs.Registers.{with_epc_byte, tx_cleared, rx_cleared, flushed, flushed_by, tx_command, rx_bits, rx_command, take_data, stopped}

-- FIFO0 alone: at most 8 bytes, and received only where there are some
pub record InOrder (f : Fifo0) : Type 0 where
  pub within : level f.read f.write ≤ 8
  pub canonical : Canonical0 f

-- the enables in or outside the operational state
abbrev pub still : Bool → Control → Bool
still operational c = operational || not (c.sends || c.receives)

-- the test of the mark of received bytes, as a fact, and back
marked : (f : Fifo0) → unmarked_empty f ≡ true → Canonical0 f
unfolding unmarked_empty
marked f e = record { stands = λ t. eqb-false _ 0 (not-true _ (rw t at e)) }

by_mark : (r : Bool) (n : ℕ) → (r ≡ true → n ≢ 0) → (not r || not (eqb n 0)) ≡ true
by_mark true n h = rw (ne_eqb n 0 (h refl))
by_mark false n h = refl

unmarked : (f : Fifo0) → Canonical0 f → unmarked_empty f ≡ true
unfolding unmarked_empty
unmarked f h = by_mark f.received (level f.read f.write) h.stands

module _ (operational : Bool) (c : Control) where
  -- What the test says of FIFO0 and of the enables, and that the two are all it says.
  pub in_order : well_formed operational c ≡ true → InOrder c.fifo
  unfolding well_formed
  in_order h =
      let e : _ = (and-eq-true_iff (leb (level c.fifo.read c.fifo.write) 8 && unmarked_empty c.fifo) (still operational c)).0 h in
      let d : _ = (and-eq-true_iff (leb (level c.fifo.read c.fifo.write) 8) (unmarked_empty c.fifo)).0 e.0 in
      record { within = leb-true _ 8 d.0; canonical = marked c.fifo d.1 }

  pub is_still : well_formed operational c ≡ true → still operational c ≡ true
  unfolding well_formed
  is_still h = ((and-eq-true_iff (leb (level c.fifo.read c.fifo.write) 8 && unmarked_empty c.fifo) (still operational c)).0 h).1

  pub well : InOrder c.fifo → still operational c ≡ true → well_formed operational c ≡ true
  unfolding well_formed
  well f e = rw (le-leb _ 8 f.within, unmarked c.fifo f.canonical, e)

-- FIFO0 after a flush, a put, a take, a packet, an ACK.
pub reset0_in_order : InOrder reset0
reset0_in_order = record { within = omega arith; canonical = reset0_canonical }

module _ (f : Fifo0) where
  pub spend0_in_order : InOrder (spend0 f)
  spend0_in_order = record { within = omega arith; canonical = spend0_canonical f }

  some_held : rcount f ≢ 0 → level f.read f.write ≢ 0
  unfolding rcount
  some_held = by_test (λ (k : ℕ). k ≢ 0 → level f.read f.write ≢ 0) _ (λ _ h. h) (λ _ h. absurd {0} (h refl))

module _ (f : Fifo0) (c : Counters f.read f.write) (h : InOrder f) where
  put0_within : level (put0 f).read (put0 f).write ≤ 8
  unfolding put0
  put0_within =
      by_test (λ (g : Fifo0). level g.read g.write ≤ 8) _ (λ _. h.within) (λ room.
      let few : level f.read f.write < 8 = leb-false 8 _ (second_false (not (eqb (rcount f) 0)) (full 8 f.read f.write) room) in
      omega (arith, level_adds f.read f.write c 1 (omega arith)))

  pub put0_in_order : InOrder (put0 f)
  put0_in_order = record { within = put0_within; canonical = put0_canonical f h.canonical }

  take0_within : (m : List ℕ) → level (take0 f m).next.read (take0 f m).next.write ≤ 8
  unfolding take0
  take0_within m =
      by_test (λ (r : Taken Fifo0). level r.next.read r.next.write ≤ 8) _ (λ _. h.within) (λ some.
      omega (arith, level_read f.read f.write c (some_held f (eqb-false _ 0 some)), h.within))

  pub take0_in_order : (m : List ℕ) → InOrder (take0 f m).next
  take0_in_order m = record { within = take0_within m; canonical = take0_canonical f m c h.canonical }

  fill0_within : (s : List ℕ) → level (fill0 f s).read (fill0 f s).write ≤ 8
  unfolding fill0
  fill0_within s =
      by_test (λ (g : Fifo0). level g.read g.write ≤ 8) _ (λ room.
      let e : _ = (and-eq-true_iff (eqb (level f.read f.write) 0) (leb (length s) 8)).0 room in
      let none : level f.read f.write ≡ 0 = eqb-true _ 0 e.0 in
      let fits : length s ≤ 8 = leb-true _ 8 e.1 in
      omega (arith, level_adds f.read f.write c (length s) (omega arith))) (λ _. h.within)

  pub fill0_in_order : (s : List ℕ) → InOrder (fill0 f s)
  fill0_in_order s = record { within = fill0_within s; canonical = fill0_canonical f s c h.canonical }

-- The reset state is well formed.
pub reset_well : (operational : Bool) → well_formed operational reset_control ≡ true
reset_well true = well true reset_control reset0_in_order refl
reset_well false = well false reset_control reset0_in_order refl

-- outside the operational state an enable that is stored as 0 leaves them still
tx_still : (operational enable sends receives : Bool) → (operational || not (sends || receives)) ≡ true
    → (operational || not ((operational && enable) || receives)) ≡ true
tx_still true enable sends receives e = refl
tx_still false enable true receives e = cc
tx_still false enable false receives e = e

rx_still : (operational enable sends receives : Bool) → (operational || not (sends || receives)) ≡ true
    → (operational || not (sends || (operational && enable))) ≡ true
rx_still true enable sends receives e = refl
rx_still false enable true receives e = e
rx_still false enable false receives e = refl

module _ (operational : Bool) (c : Control) (h : well_formed operational c ≡ true) where
  -- EPC0 written, TXS0 and RXS0 read: neither FIFO0 nor an enable.
  pub epc_keeps : (v : ℕ) → well_formed operational (with_epc_byte v c) ≡ true
  unfolding well_formed
  epc_keeps v = h

  pub tx_cleared_keeps : well_formed operational (tx_cleared c) ≡ true
  unfolding well_formed
  tx_cleared_keeps = h

  pub rx_cleared_keeps : well_formed operational (rx_cleared c) ≡ true
  unfolding well_formed
  rx_cleared_keeps = h

  -- A flush, and FLUSH of a command byte.
  pub flushed_keeps : well_formed operational (flushed c) ≡ true
  flushed_keeps = well operational (flushed c) reset0_in_order (is_still operational c h)

  flushed_by_keeps : (v : ℕ) → well_formed operational (flushed_by v c) ≡ true
  unfolding flushed_by
  flushed_by_keeps v = by_test (λ (d : Control). well_formed operational d ≡ true) _ (λ _. flushed_keeps) (λ _. h)

-- TXC0, RXC0.
module _ (operational : Bool) (c : Control) (h : well_formed operational c ≡ true) (v : ℕ) where
  pub tx_command_keeps : well_formed operational (tx_command operational v c) ≡ true
  unfolding tx_command
  tx_command_keeps =
      let k : _ = flushed_by_keeps operational c h v in
      well operational _ (in_order operational (flushed_by v c) k) (tx_still operational (odd v) (flushed_by v c).sends (flushed_by v c).receives (is_still operational _ k))

  pub rx_bits_keeps : well_formed operational (rx_bits operational v c) ≡ true
  unfolding rx_bits
  rx_bits_keeps = well operational _ (in_order operational c h) (rx_still operational (odd v) c.sends c.receives (is_still operational c h))

pub rx_command_keeps : (operational : Bool) (c : Control) → well_formed operational c ≡ true → (v : ℕ)
    → well_formed operational (rx_command operational v c) ≡ true
rx_command_keeps operational c h v = rx_bits_keeps operational (flushed_by v c) (flushed_by_keeps operational c h v) v

-- TXD0 written, RXD0 read.
module _ (operational : Bool) (c : Control) (h : well_formed operational c ≡ true) (k : Counters c.fifo.read c.fifo.write) where
  pub put_keeps : well_formed operational (with_fifo (put0 c.fifo) c) ≡ true
  put_keeps = well operational _ (put0_in_order c.fifo k (in_order operational c h)) (is_still operational c h)

  pub take_keeps : (m : List ℕ) → well_formed operational (take_data c m).next ≡ true
  take_keeps m = well operational _ (take0_in_order c.fifo k (in_order operational c h) m) (is_still operational c h)

-- The operational state is left: well formed in it and outside it.
pub stopped_well : (before after : Bool) (c : Control) → well_formed before c ≡ true → well_formed after (stopped c) ≡ true
stopped_well before true c h = well true (stopped c) (in_order before c h) refl
stopped_well before false c h = well false (stopped c) (in_order before c h) refl

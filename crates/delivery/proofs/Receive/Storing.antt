-- Endpoint 2 by itself: ready for a packet, or shut with a packet or damage in it, and what data finds and leaves.
-- Assumes nothing.
use Prim.Native.Nat.{ℕ, ◌+◌, ◌≤◌}
use native.Mathlib.Omega.{arith}
use mathlib.Core.Path.{◌≡◌, refl}
use mathlib.Core.Logic.{◌⊎◌}
use mathlib.Core.Bool.{Bool, true, false, not, ◌&&◌, ◌||◌}
use mathlib.Core.List.{List}
use lib.ListN.{length}
use borrow.Author.Tests.{le-leb}
use Rattle.choice.specs.Choice.{pick}
use Rattle.window.specs.declared.FifoNumber.{FifoNumber}
use Rattle.ring.specs.Ring.{level}
use Rattle.rxfifo.specs.Receive.{fits_rx}
use Rattle.verdict.specs.declared.Judged.TheVariants as verdict
use Rattle.verdict.specs.Verdict.{heard}
use Rattle.receiver.specs.declared.Receiver.{Receiver}
use Rattle.receiver.specs.Receiver.{judged, received, received_bytes}
use Rattle.delivery.specs.World.{same}
use Rattle.delivery.specs.Lists.{waits}

-- RX_EN set, no flag, no byte
pub record Ready (r : Receiver) : Type 0 where
  pub enabled : r.enabled ≡ true
  pub last : r.last ≡ false
  pub err : r.err ≡ false
  pub empty : level r.fifo.read r.fifo.write ≡ 0

-- RX_EN clear, a packet whole or damaged
pub record Shut (r : Receiver) : Type 0 where
  pub enabled : r.enabled ≡ false
  pub flagged : (r.last || r.err) ≡ true

abbrev pub Shape : Receiver → Type 0
Shape r = Ready r ⊎ Shut r

-- no packet that the driver will take
pub ready_waits : (r : Receiver) (x : Bool) → Ready r → waits r x ≡ false
ready_waits r x h = rw h.last

-- damage is not taken
pub err_waits : (r : Receiver) (x : Bool) → r.err ≡ true → waits r x ≡ false
err_waits r x h = go r.last r.err (same r.toggle x) h
  where
    go : (l e t : Bool) → e ≡ true → (l && not e && t) ≡ false
    go true e t q = rw q
    go false e t q = refl

-- what sound data leaves
pub record Stores (pid : Bool) (bytes c : List ℕ) (r : Receiver) : Type 0 where
  pub shut : Shut r
  pub waiting : (x : Bool) → waits r x ≡ same pid x
  pub whole : c ≡ bytes

module _ (n : FifoNumber) (r : Receiver) (m bytes : List ℕ) (h : Ready r) (clear : r.epc.stall ≡ false) (short : length bytes ≤ 64) where
  pub fits : fits_rx r.fifo (length bytes) ≡ true
  fits =
      let room : level r.fifo.read r.fifo.write + length bytes ≤ 64 = omega (arith, h.empty) in
      le-leb _ 64 room

-- Shut, it is not acknowledged and changes nothing.
module _ (n : FifoNumber) (r : Receiver) (m bytes : List ℕ) (pid sound : Bool) (h : Shut r) where
  pub shut_judged : judged sound (length bytes) r ≡ heard sound verdict.Nak
  unfolding judged pick
  shut_judged = rw h.enabled

  pub shut_received : received pid sound bytes r ≡ r
  unfolding received pick
  shut_received = rw h.enabled

  pub shut_bytes : received_bytes n sound bytes r m ≡ m
  unfolding received_bytes pick
  shut_bytes = rw h.enabled

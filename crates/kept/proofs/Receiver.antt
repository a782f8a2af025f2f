-- Every step of endpoints 2, 4 and 6 keeps a state well formed, and the reset state is.
-- The counters are under 256 where a step depends on it.
-- Assumes nothing.
use Prim.Native.Nat.{ℕ, ◌+◌, ◌%◌, ◌≤◌, ◌<◌}
use native.Mathlib.Omega.{arith}
use mathlib.Core.Path.{◌≡◌, refl}
use mathlib.Core.Logic.{◌≢◌}
use mathlib.Core.Bool.{Bool, true, false, not, ◌&&◌, ◌||◌, and-eq-true_iff, or-true}
use mathlib.Core.List.{List}
use lib.ListN.{length}
use lib.Dec.{leb, ltb}
use borrow.Author.Tests.{leb-true, ltb-true, eqb-false, le-leb, lt-ltb}
use Rattle.choice.proofs.ByTest.{by_test}
use Rattle.window.specs.declared.FifoNumber.{FifoNumber}
use Rattle.ring.specs.declared.Taken.{Taken}
use Rattle.ring.specs.Ring.{next, level}
use Rattle.rxfifo.specs.declared.RxFifo.{RxFifo}
use Rattle.rxfifo.specs.Receive.{take_rx, fill_rx}
use Rattle.epc.specs.Epc.{epc_of}
use Rattle.receiver.specs.declared.Receiver.{Receiver}
use Rattle.receiver.specs.Receiver.{reset_receiver, cleared, flushed, command, take_byte, received, stopped, well_formed}
use Rattle.writes.specs.Write.{receiver_epc}

-- the counters are bytes
pub record Counters (f : RxFifo) : Type 0 where
  pub read_small : f.read < 256
  pub write_small : f.write < 256

-- what well-formedness asks of the counters
abbrev Fits : RxFifo → Type 0
Fits f = level f.read f.write ≤ 64

-- and of what the bits of RXC leave alone
abbrev Parts : Receiver → Type 0
Parts s = Fits s.fifo × (s.epc.number.0 < 16)

-- all that it asks
record Facts (operational : Bool) (s : Receiver) : Type 0 where
  parts : Parts s
  middle_small : s.middle < 4
  quiet : (operational || not s.enabled) ≡ true

known : (operational : Bool) (s : Receiver) → well_formed operational s ≡ true → Facts operational s
unfolding well_formed
known operational s w =
    let fits : Bool = leb (level s.fifo.read s.fifo.write) 64 in
    let middle : Bool = ltb s.middle 4 in
    let number : Bool = ltb s.epc.number.0 16 in
    let d : _ = (and-eq-true_iff (fits && middle && number) (operational || not s.enabled)).0 w in
    let c : _ = (and-eq-true_iff (fits && middle) number).0 d.0 in
    let b : _ = (and-eq-true_iff fits middle).0 c.0 in
    record { parts = (leb-true _ 64 b.0, ltb-true _ 16 c.1); middle_small = ltb-true _ 4 b.1; quiet = d.1 }

shown : (operational : Bool) (s : Receiver) → Facts operational s → well_formed operational s ≡ true
unfolding well_formed
shown operational s f =
    rw (le-leb _ 64 f.parts.0, lt-ltb _ 4 f.middle_small, lt-ltb _ 16 f.parts.1, f.quiet)

-- a state whose RX_EN is cleared
unarmed : (operational : Bool) (s : Receiver) → Parts s → s.middle < 4 → s.enabled ≡ false → Facts operational s
unarmed operational s p m e = record { parts = p; middle_small = m; quiet = rw e (or-true operational) }

fill_fits : (f : RxFifo) (bytes : List ℕ) → Counters f → Fits f → Fits (fill_rx f bytes)
unfolding fill_rx
fill_fits f bytes c l =
    by_test Fits _ (λ e.
    let room : level f.read f.write + length bytes ≤ 64 = leb-true _ 64 e in
    let fits : level f.read ((f.write + length bytes) % 256) ≤ 64 = omega arith in
    fits) (λ _. l)

take_fits : (n : FifoNumber) (f : RxFifo) (m : List ℕ) → Counters f → Fits f → Fits (take_rx n f m).next
unfolding take_rx
take_fits n f m c l =
    by_test (λ (t : Taken RxFifo). Fits t.next) _ (λ _. l) (λ e.
    let some : level f.read f.write ≢ 0 = eqb-false _ 0 e in
    let fits : level (next f.read) f.write ≤ 64 = omega arith in
    fits)

-- an RXC byte before its bits
flushed_parts : (v : ℕ) (s : Receiver) → Parts s → Parts (flushed v s)
unfolding flushed
flushed_parts v s p = by_test Parts _ (λ _. (omega arith, p.1)) (λ _. p)

command_facts : (operational : Bool) (v : ℕ) (s : Receiver) → Facts operational s → Facts operational (command operational v s)
command_facts true v s f = record { parts = flushed_parts v s f.parts; middle_small = omega arith; quiet = refl }
command_facts false v s f = record { parts = flushed_parts v s f.parts; middle_small = omega arith; quiet = refl }

received_facts : (operational pid sound : Bool) (bytes : List ℕ) (s : Receiver) → Counters s.fifo
    → Facts operational s → Facts operational (received pid sound bytes s)
unfolding received
received_facts operational pid sound bytes s c f =
    let held : Fits (fill_rx s.fifo bytes) = fill_fits s.fifo bytes c f.parts.0 in
    by_test (Facts operational) _ (λ _. f) (λ _.
    by_test (Facts operational) _ (λ _.
    by_test (Facts operational) _ (λ _. unarmed operational _ f.parts f.middle_small refl) (λ _. f)) (λ _.
    by_test (Facts operational) _ (λ _. f) (λ _.
    by_test (Facts operational) _ (λ _. unarmed operational _ (held, f.parts.1) f.middle_small refl) (λ _.
    by_test (Facts operational) _ (λ _. unarmed operational _ f.parts f.middle_small refl) (λ _.
    unarmed operational _ (held, f.parts.1) f.middle_small refl)))))

-- An RXC write keeps a state well formed, inside the operational state and outside.
pub command_keeps : (operational : Bool) (v : ℕ) (s : Receiver)
    → well_formed operational s ≡ true → well_formed operational (command operational v s) ≡ true
command_keeps operational v s w = shown operational _ (command_facts operational v s (known operational s w))

-- So does an RXD read.
pub take_keeps : (operational : Bool) (n : FifoNumber) (s : Receiver) (m : List ℕ) → Counters s.fifo
    → well_formed operational s ≡ true → well_formed operational (take_byte n s m).next ≡ true
take_keeps operational n s m c w =
    let f : _ = known operational s w in
    shown operational _
    (record { parts = (take_fits n s.fifo m c f.parts.0, f.parts.1); middle_small = f.middle_small; quiet = f.quiet })

-- So does data after an OUT token.
pub received_keeps : (operational pid sound : Bool) (bytes : List ℕ) (s : Receiver) → Counters s.fifo
    → well_formed operational s ≡ true → well_formed operational (received pid sound bytes s) ≡ true
received_keeps operational pid sound bytes s c w =
    shown operational _ (received_facts operational pid sound bytes s c (known operational s w))

-- So does a read of RXS.
pub cleared_keeps : (operational : Bool) (s : Receiver) → well_formed operational s ≡ true → well_formed operational (cleared s) ≡ true
unfolding well_formed
cleared_keeps operational s w = w

-- Where the operational state is left, the state is well formed outside it and inside.
pub stopped_keeps : (operational after : Bool) (s : Receiver) → well_formed operational s ≡ true → well_formed after (stopped s) ≡ true
stopped_keeps operational after s w =
    let f : _ = known operational s w in
    shown after _ (unarmed after _ f.parts f.middle_small refl)

-- An EPC write keeps a state well formed.
pub epc_keeps : (operational : Bool) (v : ℕ) (s : Receiver)
    → well_formed operational s ≡ true → well_formed operational (receiver_epc (epc_of v) s) ≡ true
epc_keeps operational v s w =
    let f : _ = known operational s w in
    shown operational _ (record { parts = (f.parts.0, omega arith); middle_small = f.middle_small; quiet = f.quiet })

-- The reset state is well formed.
pub reset_well_formed : (operational : Bool) → well_formed operational reset_receiver ≡ true
unfolding well_formed
reset_well_formed operational = rw (or-true operational)

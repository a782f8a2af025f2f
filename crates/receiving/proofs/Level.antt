-- RXFIFO1's level: RXS shows it up to 15 and leaves it, a read of RXD takes one byte of it.
-- Assumes nothing.
use Prim.Native.Nat.{ℕ, zero, suc, ◌-◌, ◌%◌, ◌≤◌, min}
use native.Mathlib.Omega.{arith}
use mathlib.Core.Path.{◌≡◌, refl, sym, ap, ◌∙◌}
use mathlib.Core.Bool.{Bool, true, not, ◌&&◌, ◌||◌, and-eq-true_iff}
use mathlib.Core.List.{List, [], ◌∷◌}
use lib.ListN.{length, get_or, set}
use lib.Dec.{leb, ltb}
use borrow.Author.Tests.{leb-true, eqb-true, eqb-false}
use Rattle.choice.specs.Choice.{pick}
use Rattle.choice.proofs.ByTest.{by_test}
use Rattle.window.specs.declared.FifoNumber.{FifoNumber}
use Rattle.window.specs.Window.{index_of, numbered}
use Rattle.ring.specs.declared.Taken.{Taken}
use Rattle.ring.specs.Ring.{next, level}
use Rattle.rxfifo.specs.declared.RxFifo.{RxFifo}
use Rattle.rxfifo.specs.Receive.{take_rx}
use Rattle.receiver.specs.declared.Receiver.{Receiver}
use Rattle.receiver.specs.Receiver.{reset_receiver, cleared, take_byte}
use Rattle.receiver.specs.Receiver as receiver
use Rattle.control.specs.State as control
use Rattle.state.specs.declared.Chip.{Chip}
use Rattle.state.specs.State.{Model, receiver_at}
use Rattle.settings.specs.Settings.{operational}
use Rattle.formed.specs.Formed.{senders_well, receivers_well, registers_well, pending_well, well_formed}
use Rattle.reads.specs.declared.ReadOut.{ReadOut}
use Rattle.reads.specs.Read.{read_of, receiver_read}
use Rattle.driver.specs.Registers.{value, seen}
use Rattle.driver.proofs.Accesses.{read_value, read_left}
use Rattle.receiving.specs.Receive.{taken, received, Shows}

-- the level of a receiver's FIFO
abbrev level_of : Receiver → ℕ
level_of r = level r.fifo.read r.fifo.write

-- one taken, if there is one
take_level : (n : FifoNumber) (f : RxFifo) (m : List ℕ) → level (take_rx n f m).next.read (take_rx n f m).next.write ≡ level f.read f.write - 1
unfolding take_rx
take_level n f m =
    by_test (λ (t : Taken RxFifo). level t.next.read t.next.write ≡ level f.read f.write - 1) _
    (λ e. let none : level f.read f.write ≡ 0 = eqb-true _ 0 e in omega arith)
    (λ e. let some : level f.read f.write ≡ 0 → ⊥ = eqb-false _ 0 e in
    let less : level (next f.read) f.write ≡ level f.read f.write - 1 = omega arith in
    less)

-- the first receiver after a read of its RXD, of its RXS
taken_first : (n : FifoNumber) (l : List Receiver) (m : List ℕ)
    → level_of (get_or (set l 0 (take_byte n (get_or l 0 reset_receiver) m).next) 0 reset_receiver) ≡ level_of (get_or l 0 reset_receiver) - 1
taken_first n [] m = refl
taken_first n (r ∷ l) m = take_level n r.fifo m

cleared_first : (l : List Receiver)
    → level_of (get_or (set l 0 (cleared (get_or l 0 reset_receiver))) 0 reset_receiver) ≡ level_of (get_or l 0 reset_receiver)
cleared_first [] = refl
cleared_first (r ∷ l) = refl

-- A read of RXD takes a byte, if there is one.
pub level_taken : (m : Model) → received (seen 0x2D m).chip ≡ received m.chip - 1
unfolding seen read_of receiver_read index_of pick
level_taken m = taken_first _ m.chip.receivers m.memory

-- A read of RXS leaves the bytes.
pub level_seen : (m : Model) → received (seen 0x2E m).chip ≡ received m.chip
unfolding seen read_of receiver_read index_of pick
level_seen m = cleared_first m.chip.receivers

-- RXS shows how many there are, up to 15.
pub level_shown : (m : Model) → value 0x2E m % 16 ≡ min (received m.chip) 15
unfolding value read_of receiver_read index_of pick
level_shown m = omega arith

-- so many reads of RXD take so many bytes
pub taken_length : (n : ℕ) (m : Model) → length (taken n m).bytes ≡ n
unfolding taken
taken_length zero m = refl
taken_length (suc n) m = ap suc (taken_length n (seen 0x2D m))

pub taken_level : (n : ℕ) (m : Model) → received (taken n m).model.chip ≡ received m.chip - n
unfolding taken
taken_level zero m = omega arith
taken_level (suc n) m = omega (arith, taken_level n (seen 0x2D m), level_taken m)

-- a well-formed chip has at most 64 bytes there
pub formed_fits : (c : Chip) → well_formed c ≡ true → received c ≤ 64
unfolding well_formed receivers_well receiver.well_formed
formed_fits c w =
    let on : Bool = operational c in
    let r : Receiver = receiver_at (numbered 1) c in
    let number : Bool = ltb r.epc.number.0 16 in
    let fits : Bool = leb (level_of r) 64 && ltb r.middle 4 in
    let second : Bool = receiver.well_formed on (receiver_at (numbered 2) c) in
    let third : Bool = receiver.well_formed on (receiver_at (numbered 3) c) in
    let parts : Bool = control.well_formed on c.control && senders_well on c in
    let all : _ = (and-eq-true_iff (parts && receivers_well on c && registers_well c) (pending_well on c.pending)).0 w in
    let most : _ = (and-eq-true_iff (parts && receivers_well on c) (registers_well c)).0 all.0 in
    let three : _ = (and-eq-true_iff parts (receivers_well on c)).0 most.0 in
    let two : _ = (and-eq-true_iff (receiver.well_formed on r && second) third).0 three.1 in
    let one : _ = (and-eq-true_iff (receiver.well_formed on r) second).0 two.0 in
    let a : _ = (and-eq-true_iff (fits && number) (on || not r.enabled)).0 one.0 in
    let b : _ = (and-eq-true_iff fits number).0 a.0 in
    leb-true _ 64 ((and-eq-true_iff (leb (level_of r) 64) (ltb r.middle 4)).0 b.0).0

-- A read of RXS on a well-formed chip shows how many bytes there are.
pub formed_shows : (m : Model) {r : ReadOut} → well_formed m.chip ≡ true → r ≡ read_of 0x2E m.chip m.memory → Shows (r.value % 16) r.chip
formed_shows m {r} w e =
    let l : received r.chip ≡ received m.chip = ap (λ (x : Model). received x.chip) (read_left 0x2E m e) ∙ level_seen m in
    record {
      shown = ap (λ (v : ℕ). v % 16) (read_value 0x2E m e) ∙ level_shown m ∙ ap (λ (k : ℕ). min k 15) (sym l);
      fits = omega (arith, formed_fits m.chip w);
    }

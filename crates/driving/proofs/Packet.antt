-- A packet that is taken is all that RXFIFO1 held, in order, and leaves it empty: the rounds are enough.
-- Assumes nothing.
use Prim.Native.Nat.{ℕ, zero, suc, ◌-◌, ◌%◌, ◌≤◌, ◌<◌, min}
use native.Mathlib.Omega.{arith}
use mathlib.Core.Path.{◌≡◌, refl, sym, ap, ◌∙◌}
use mathlib.Core.Logic.{◌≢◌}
use mathlib.Core.List.{List, [], ◌∷◌, ◌++◌}
use lib.ListN.{get_or, set}
use Rattle.std.specs.Prelude.{Ok}
use borrow.Author.Tests.{ne_eqb}
use Rattle.choice.specs.Choice.{pick}
use Rattle.choice.proofs.ByTest.{by_test}
use Rattle.window.specs.declared.FifoNumber.{FifoNumber}
use Rattle.window.specs.declared.Kind.TheVariants.{Receive}
use Rattle.window.specs.Window.{rx_size, start_of, index_of, numbered}
use Rattle.ring.specs.Ring.{level}
use Rattle.contents.proofs.Ring.{Counters, contents_none}
use Rattle.contents.proofs.Receive.{take_rx_some}
use Rattle.rxfifo.specs.Receive.{rx_contents, take_rx}
use Rattle.receiver.specs.declared.Receiver.{Receiver}
use Rattle.receiver.specs.Receiver.{reset_receiver, cleared, take_byte}
use Rattle.state.specs.State.{Model, receiver_at}
use Rattle.reads.specs.Read.{read_of, receiver_read}
use Rattle.laws.specs.Typed.{TypedReceiver}
use Rattle.driver.specs.declared.Driver.{Driver}
use Rattle.driver.specs.declared.Did.TheVariants.{Taken}
use Rattle.driver.specs.Registers.{value, seen}
use Rattle.driver.specs.Driver.{Call}
use Rattle.receiving.specs.Receive.{taken, rounds, all_taken, flushing, accepting, judged, receive_served, received}
use Rattle.receiving.proofs.Level.{level_taken, level_seen, level_shown, taken_level, formed_fits}
use Rattle.driving.proofs.Reached.{taken_touches}
use Rattle.driving.proofs.Kept.{Sound, read_sound, touches_keep}

-- the bytes that RXFIFO1 holds
abbrev pub held : Model → List ℕ
held m = rx_contents (numbered 1) (receiver_at (numbered 1) m.chip).fifo m.memory

-- ---- one read

abbrev first : List Receiver → Receiver
first l = get_or l 0 reset_receiver

taken_first : (n : FifoNumber) (l : List Receiver) (m : List ℕ) → Counters (first l).fifo.read (first l).fifo.write
    → level (first l).fifo.read (first l).fifo.write ≢ 0
    → rx_contents n (first l).fifo m
    ≡ (take_rx n (first l).fifo m).value ∷ rx_contents n (first (set l 0 (take_byte n (first l) m).next)).fifo m
taken_first n [] m c some = absurd {0} (some refl)
taken_first n (r ∷ l) m c some = (take_rx_some n r.fifo m c some).list

cleared_first : (n : FifoNumber) (l : List Receiver) (m : List ℕ)
    → rx_contents n (first (set l 0 (cleared (first l)))).fifo m ≡ rx_contents n (first l).fifo m
cleared_first n [] m = refl
cleared_first n (r ∷ l) m = refl

-- RXD gives the first byte and leaves the others.
rxd_held : (m : Model) → Sound m → received m.chip ≢ 0 → held m ≡ value 0x2D m ∷ held (seen 0x2D m)
unfolding value seen read_of receiver_read index_of pick
rxd_held m s some =
    let r : TypedReceiver (first m.chip.receivers) = s.typed.chip.receivers.each 0 in
    taken_first (numbered 1) m.chip.receivers m.memory (record { read_small = r.read_byte; write_small = r.write_byte }) some

-- RXS leaves all.
pub rxs_held : (m : Model) → held (seen 0x2E m) ≡ held m
unfolding seen read_of receiver_read index_of pick
rxs_held m = cleared_first (numbered 1) m.chip.receivers m.memory

-- ---- the rounds

taken_held : (n : ℕ) (m : Model) → Sound m → n ≤ received m.chip → held m ≡ (taken n m).bytes ++ held (taken n m).model
unfolding taken
taken_held zero m s le = refl
taken_held (suc n) m s le =
    rxd_held m s (omega arith)
    ∙ ap (λ (l : List ℕ). value 0x2D m ∷ l) (taken_held n (seen 0x2D m) (read_sound 0x2D m s) (omega (arith, level_taken m)))

none_held : (m : Model) → received m.chip ≡ 0 → held m ≡ []
none_held m e = contents_none (start_of Receive (numbered 1)) rx_size m.memory _ _ e

-- what RXS showed still stands after the read
pub shown_still : (m : Model) → value 0x2E m % 16 ≡ min (received (seen 0x2E m).chip) 15
shown_still m = level_shown m ∙ ap (λ (k : ℕ). min k 15) (sym (level_seen m))

rounds_held : (most count : ℕ) (m : Model) → Sound m → received m.chip < most → count ≡ min (received m.chip) 15
    → (held m ≡ (rounds most count m).bytes) × (received (rounds most count m).model.chip ≡ 0)
unfolding rounds pick
rounds_held zero count m s lt e = absurd {0} (omega arith)
rounds_held (suc most) zero m s lt e = (none_held m (omega arith), omega arith)
rounds_held (suc most) (suc k) m s lt e =
    let n : Model = (taken (suc k) m).model in
    let t : Sound n = touches_keep (taken_touches (suc k) m) s in
    let l : received n.chip ≡ received m.chip - suc k = taken_level (suc k) m in
    let r : _ =
    rounds_held most (value 0x2E n % 16) (seen 0x2E n) (read_sound 0x2E n t) (omega (arith, level_seen n)) (shown_still n) in
    rw (ne_eqb (suc k) 0 (omega arith)) (
      taken_held (suc k) m s (omega arith) ∙ ap (λ (b : List ℕ). (taken (suc k) m).bytes ++ b) (sym (rxs_held n) ∙ r.0),
      r.1,
    )

-- All that RXFIFO1 holds is taken, and nothing is left in it.
pub takes_all : (m : Model) (count : ℕ) → Sound m → count ≡ min (received m.chip) 15
    → (held m ≡ (all_taken count m).bytes) × (received (all_taken count m).model.chip ≡ 0)
takes_all m count s e = rounds_held 65 count m s (omega (arith, formed_fits m.chip s.formed)) e

-- ---- the service

-- the bytes of a call that took a packet
abbrev Took : List ℕ → Call → Type 0
Took bytes x = x.did ≡ Ok Taken → x.bytes ≡ bytes

judged_took : (m : Model) (d : Driver) → Sound m → Took (held m) (judged (value 0x2E m) (seen 0x2E m) d)
unfolding judged flushing accepting
judged_took m d s =
    by_test (Took (held m)) _ (λ _ e. let z : ◌≡◌ {A = ℕ} 0 1 = cc in absurd {0} (omega arith)) (λ _.
    by_test (Took (held m)) _ (λ _.
    by_test (Took (held m)) _ (λ _ e.
    sym (takes_all (seen 0x2E m) (value 0x2E m % 16) (read_sound 0x2E m s) (shown_still m)).0 ∙ rxs_held m)
    (λ _ e. let z : ◌≡◌ {A = ℕ} 0 1 = cc in absurd {0} (omega arith)))
    (λ _ e. let z : ◌≡◌ {A = ℕ} 0 1 = cc in absurd {0} (omega arith)))

-- A packet that the service takes is what RXFIFO1 held.
pub packet_taken : (m : Model) (d : Driver) → Sound m → (receive_served m d).did ≡ Ok Taken → (receive_served m d).bytes ≡ held m
unfolding receive_served
packet_taken m d s =
    by_test (Took (held m)) _ (λ _ e. let z : ◌≡◌ {A = ℕ} 0 1 = cc in absurd {0} (omega arith)) (λ _. judged_took m d s)

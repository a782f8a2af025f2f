-- Each call reaches its state by accesses that are reserved to the driver alone, a start from the reset state: an offer and the send service by
-- those of endpoint 1, the receive service by those of endpoint 2.
-- Assumes nothing.
use Prim.Native.Nat.{ℕ, zero, suc, ◌+◌, ◌%◌, ◌<◌}
use native.Mathlib.Omega.{arith}
use mathlib.Core.Path.{refl}
use mathlib.Core.Bool.{Bool, true, false}
use mathlib.Core.List.{List, [], ◌∷◌}
use Rattle.choice.proofs.ByTest.{by_test}
use Rattle.event.specs.declared.BusEndpoint.{BusEndpoint}
use Rattle.event.specs.declared.Event.{Event}
use Rattle.event.specs.declared.Event.TheVariants as event
use Rattle.state.specs.State.{Model, reset}
use Rattle.laws.specs.Typed.{Bytes}
use Rattle.laws.specs.Driver.{reserved}
use Rattle.driver.specs.declared.Driver.{Driver}
use Rattle.driver.specs.declared.Did.{Did}
use Rattle.driver.specs.declared.Did.TheVariants.{Flushed, Repeat}
use Rattle.driver.specs.Registers.{written, written_all, value, seen}
use Rattle.driver.specs.Driver.{Call, armed, again, set_up, started, accepted, offered, answered, send_served}
use Rattle.driver.proofs.Range.{in_range_lem}
use Rattle.driver.proofs.Cases.{offer_cases}
use Rattle.receiving.specs.Receive.{Taking, taken, rounds, flushing, accepting, judged, receive_served}
use Rattle.driving.specs.Touches.{Touches, none, reads, writes, Reserved, Sending, txs, txd, txc, Receiving, rxd, rxs, rxc, KeepsSending, KeepsExpected, Reaches}

-- What holds of no access, of each one and of one after another holds of them all.
pub touches_by : {P : Event → Type 0} {m n : Model} (R : Model → Model → Type 0) → ((l : Model) → R l l)
    → ((k l o : Model) → R k l → R l o → R k o)
    → ((a : ℕ) (l : Model) → P (event.Read a) → R l (seen a l))
    → ((a v : ℕ) (l : Model) → P (event.Write a v) → v < 256 → R l (written a v l))
    → Touches P m n → R m n
touches_by R same and read write none = same _
touches_by {m = m} {n = n} R same and read write (reads a p t) =
    and m (seen a m) n (read a m p) (touches_by R same and read write t)
touches_by {m = m} {n = n} R same and read write (writes a v p b t) =
    and m (written a v m) n (write a v m p b) (touches_by R same and read write t)

-- accesses after others, and accesses of a wider kind
then : {P : Event → Type 0} {l m n : Model} → Touches P l m → Touches P m n → Touches P l n
then none q = q
then (reads a r p) q = reads a r (then p q)
then (writes a v r b p) q = writes a v r b (then p q)

among : {P Q : Event → Type 0} {m n : Model} → ((e : Event) → P e → Q e) → Touches P m n → Touches Q m n
among f none = none
among f (reads a p t) = reads a (f _ p) (among f t)
among f (writes a v p b t) = writes a v (f _ p) b (among f t)

sending_reserved : (e : Event) → Sending e → Reserved e
unfolding reserved
sending_reserved e txs = refl
sending_reserved e (txd v) = refl
sending_reserved e (txc v) = refl

receiving_reserved : (e : Event) → Receiving e → Reserved e
unfolding reserved
receiving_reserved e rxd = refl
receiving_reserved e rxs = refl
receiving_reserved e (rxc v) = refl

-- what is written to TXC1 is a byte
armed_byte : (toggle : Bool) → armed toggle < 256
armed_byte true = omega arith
armed_byte false = omega arith

again_byte : (toggle : Bool) → again toggle < 256
again_byte true = omega arith
again_byte false = omega arith

-- ---- start

pub start_touches : (a : ℕ) (e f : BusEndpoint) → Touches Reserved reset (started a e f).model
unfolding started set_up reserved
start_touches a e f =
    by_test (λ (x : Call). Touches Reserved reset x.model) _ (λ h.
    let r : _ = in_range_lem a e f h in
    writes 0x05 2 refl (omega arith)
    (writes 0x04 (0x80 + a) refl (omega arith)
    (writes 0x28 (0x10 + e.0) refl (omega arith)
    (writes 0x2C (0x10 + f.0) refl (omega arith)
    (writes 0x2F 0x01 refl (omega arith) none))))) (λ _. none)

-- ---- offer

put_touches : (s : List ℕ) (m : Model) → Bytes s → Touches Sending m (written_all 0x29 s m)
unfolding written_all
put_touches [] m b = none
put_touches (x ∷ s) m b = writes 0x29 x (txd x) (b zero) (put_touches s (written 0x29 x m) (λ i. b (suc i)))

abbrev Sends : Model → Driver → Call → Type 0
Sends m d x = Reaches Sending KeepsExpected m d x

accepted_reaches : (s : List ℕ) (m : Model) (d : Driver) → Bytes s → Sends m d (accepted s m d)
unfolding accepted
accepted_reaches s m d b =
    record { touches = then (put_touches s m b) (writes 0x2B (armed d.sends) (txc _) (armed_byte d.sends) none); keeps = refl }

pub offer_reaches : (s : List ℕ) (m : Model) (d : Driver) → Bytes s → Sends m d (offered s m d)
offer_reaches s m d b = offer_cases (Sends m d) s m d (λ why. record { touches = none; keeps = refl }) (accepted_reaches s m d b)

pub offer_touches : (s : List ℕ) (m : Model) (d : Driver) → Bytes s → Touches Reserved m (offered s m d).model
offer_touches s m d b = among sending_reserved (offer_reaches s m d b).touches

-- ---- send service

answered_reaches : (status : ℕ) (m : Model) (d : Driver) → Sends m d (answered status m d)
unfolding answered
answered_reaches status m d =
    by_test (Sends m d) _ (λ _.
    by_test (Sends m d) _
    (λ _. record { touches = none; keeps = refl })
    (λ _. record { touches = writes 0x2B (again d.sends) (txc _) (again_byte d.sends) none; keeps = refl }))
    (λ _. record { touches = none; keeps = refl })

pub send_reaches : (m : Model) (d : Driver) → Sends m d (send_served m d)
unfolding send_served
send_reaches m d =
    by_test (Sends m d) _ (λ _. record { touches = none; keeps = refl }) (λ _.
    let r : _ = answered_reaches (value 0x2A m) (seen 0x2A m) d in
    record { touches = reads 0x2A txs r.touches; keeps = r.keeps })

pub send_touches : (m : Model) (d : Driver) → Touches Reserved m (send_served m d).model
send_touches m d = among sending_reserved (send_reaches m d).touches

-- ---- receive service

pub taken_touches : (n : ℕ) (m : Model) → Touches Receiving m (taken n m).model
unfolding taken
taken_touches zero m = none
taken_touches (suc n) m = reads 0x2D rxd (taken_touches n (seen 0x2D m))

rounds_touches : (most count : ℕ) (m : Model) → Touches Receiving m (rounds most count m).model
unfolding rounds
rounds_touches zero count m = none
rounds_touches (suc most) count m =
    by_test (λ (t : Taking). Touches Receiving m t.model) _ (λ _. none) (λ _.
    let n : Model = (taken count m).model in
    then (taken_touches count m) (reads 0x2E rxs (rounds_touches most (value 0x2E n % 16) (seen 0x2E n))))

abbrev Receives : Model → Driver → Call → Type 0
Receives m d x = Reaches Receiving KeepsSending m d x

flush_reaches : (why : Did) (m : Model) (d : Driver) → Receives m d (flushing why m d)
unfolding flushing
flush_reaches why m d = record { touches = writes 0x2F 0x09 (rxc _) (omega arith) none; keeps = (refl, refl) }

judged_reaches : (status : ℕ) (m : Model) (d : Driver) → Receives m d (judged status m d)
unfolding judged accepting
judged_reaches status m d =
    by_test (Receives m d) _ (λ _. flush_reaches Flushed m d) (λ _.
    by_test (Receives m d) _ (λ _.
    by_test (Receives m d) _
    (λ _. record { touches = then (rounds_touches 65 (status % 16) m) (writes 0x2F 0x01 (rxc _) (omega arith) none); keeps = (refl, refl) })
    (λ _. flush_reaches Repeat m d)) (λ _. record { touches = none; keeps = (refl, refl) }))

pub receive_reaches : (m : Model) (d : Driver) → Receives m d (receive_served m d)
unfolding receive_served
receive_reaches m d =
    by_test (Receives m d) _ (λ _. record { touches = none; keeps = (refl, refl) }) (λ _.
    let r : _ = judged_reaches (value 0x2E m) (seen 0x2E m) d in
    record { touches = reads 0x2E rxs r.touches; keeps = r.keeps })

pub receive_touches : (m : Model) (d : Driver) → Touches Reserved m (receive_served m d).model
receive_touches m d = among receiving_reserved (receive_reaches m d).touches

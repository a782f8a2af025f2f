-- The receive service leaves endpoint 2 ready: it takes the packet that waits whole, and flushes a repeat and damage.
-- Assumes nothing.
use Prim.Native.Nat.{ℕ, zero, suc, ◌+◌, ◌*◌, ◌/◌, ◌%◌, ◌≤◌, min}
use native.Mathlib.Omega.{arith}
use mathlib.Core.Path.{◌≡◌, refl, sym, ap, ◌∙◌}
use mathlib.Core.Bool.{Bool, true, false, not, ◌&&◌, false≢true}
use mathlib.Core.List.{[]}
use lib.Dec.{eqb}
use Rattle.std.specs.Prelude.{Ok}
use Rattle.choice.specs.Choice.{pick}
use Rattle.choice.proofs.ByTest.{by_test}
use Rattle.ring.specs.Ring.{level}
use Rattle.epc.specs.Bits.{bit_of, has}
use Rattle.receiver.specs.declared.Receiver.{Receiver}
use Rattle.receiver.specs.Receiver.{status_of, cleared, flushed, command, take_byte}
use Rattle.state.specs.State.{Model}
use Rattle.settings.specs.Settings.{operational}
use Rattle.window.specs.Window.{numbered}
use Rattle.reads.specs.Read.{read_of, receiver_read}
use Rattle.writes.specs.Write.{write_of, receiver_write}
use Rattle.laws.proofs.Typed.At.{receiver_same}
use Rattle.driver.specs.declared.Driver.{Driver}
use Rattle.driver.specs.declared.Did.{Did}
use Rattle.driver.specs.declared.Did.TheVariants as did
use Rattle.driver.specs.Registers.{written, value, seen}
use Rattle.driver.specs.Driver.{Call}
use Rattle.receiving.specs.Receive.{Taking, taken, rounds, all_taken, flushing, accepting, received}
use Rattle.driving.proofs.Kept.{Sound, read_sound}
use Rattle.driving.proofs.Packet.{held, rxs_held, shown_still, takes_all}
use Rattle.delivery.specs.World.{is_taken}
use Rattle.delivery.specs.Lists.{waits}
use Rattle.delivery.proofs.Receive.Tally.{due}
use Rattle.delivery.proofs.Receive.Storing.{Ready}
use Rattle.delivery.proofs.Receive.Alike.{rx}

-- ---- RXS

bit_small : (b : Bool) → bit_of b ≤ 1
bit_small true = omega arith
bit_small false = omega arith

bit_is : (b : Bool) (n : ℕ) → n ≡ bit_of b → eqb n 1 ≡ b
bit_is true n e = rw e
bit_is false n e = rw e

module _ (e s t l : Bool) (k : ℕ) where
  abbrev status : ℕ
  status = 128 * bit_of e + 64 * bit_of s + 32 * bit_of t + 16 * bit_of l + min k 15

  bits : (status / 0x80 % 2 ≡ bit_of e) × (status / 0x20 % 2 ≡ bit_of t) × (status / 0x10 % 2 ≡ bit_of l)
  bits =
      let a : _ = bit_small e in
      let b : _ = bit_small s in
      let c : _ = bit_small t in
      let d : _ = bit_small l in
      (omega arith, omega arith, omega arith)

module _ (m : Model) where
  shows : value 0x2E m ≡ status_of (rx m)
  unfolding value read_of receiver_read pick
  shows = refl

  parts : (status_of (rx m) / 0x80 % 2 ≡ bit_of (rx m).err) × (status_of (rx m) / 0x20 % 2 ≡ bit_of (rx m).toggle)
      × (status_of (rx m) / 0x10 % 2 ≡ bit_of (rx m).last)
  parts = bits (rx m).err (rx m).setup (rx m).toggle (rx m).last (level (rx m).fifo.read (rx m).fifo.write)

  pub shows_err : has 0x80 (value 0x2E m) ≡ (rx m).err
  shows_err = bit_is _ _ (ap (λ (v : ℕ). v / 0x80 % 2) shows ∙ parts.0)

  pub shows_toggle : value 0x2E m / 0x20 % 2 ≡ bit_of (rx m).toggle
  shows_toggle = ap (λ (v : ℕ). v / 0x20 % 2) shows ∙ parts.1

  pub shows_last : has 0x10 (value 0x2E m) ≡ (rx m).last
  shows_last = bit_is _ _ (ap (λ (v : ℕ). v / 0x10 % 2) shows ∙ parts.2)

-- ---- what the accesses leave of endpoint 2

module _ (m : Model) (s : Sound m) where
  rxs_state : rx (seen 0x2E m) ≡ cleared (rx m)
  unfolding seen read_of receiver_read pick
  rxs_state = receiver_same (numbered 1) (cleared (rx m)) m.chip s.typed.chip.receivers.sized

  rxd_state : rx (seen 0x2D m) ≡ (take_byte (numbered 1) (rx m) m.memory).next
  unfolding seen read_of receiver_read pick
  rxd_state = receiver_same (numbered 1) (take_byte (numbered 1) (rx m) m.memory).next m.chip s.typed.chip.receivers.sized

  rxc_state : (v : ℕ) → rx (written 0x2F v m) ≡ command (operational m.chip) v (rx m)
  unfolding written write_of receiver_write pick
  rxc_state v = receiver_same (numbered 1) (command (operational m.chip) v (rx m)) m.chip s.typed.chip.receivers.sized

-- in the operational state, and neither flag
record Clear (m : Model) : Type 0 where
  sound : Sound m
  on : operational m.chip ≡ true
  last : (rx m).last ≡ false
  err : (rx m).err ≡ false

rxs_on : (m : Model) → operational m.chip ≡ true → operational (seen 0x2E m).chip ≡ true
unfolding seen read_of receiver_read pick
rxs_on m on = on

rxd_on : (m : Model) → operational m.chip ≡ true → operational (seen 0x2D m).chip ≡ true
unfolding seen read_of receiver_read pick
rxd_on m on = on

rxs_clear : (m : Model) → Sound m → operational m.chip ≡ true → Clear (seen 0x2E m)
rxs_clear m s on =
    record {
      sound = read_sound 0x2E m s;
      on = rxs_on m on;
      last = ap (λ (r : Receiver). r.last) (rxs_state m s);
      err = ap (λ (r : Receiver). r.err) (rxs_state m s);
    }

rxd_clear : (m : Model) → Clear m → Clear (seen 0x2D m)
rxd_clear m k =
    record {
      sound = read_sound 0x2D m k.sound;
      on = rxd_on m k.on;
      last = ap (λ (r : Receiver). r.last) (rxd_state m k.sound) ∙ k.last;
      err = ap (λ (r : Receiver). r.err) (rxd_state m k.sound) ∙ k.err;
    }

taken_clear : (n : ℕ) (m : Model) → Clear m → Clear (taken n m).model
unfolding taken
taken_clear zero m k = k
taken_clear (suc n) m k = taken_clear n (seen 0x2D m) (rxd_clear m k)

rounds_clear : (most count : ℕ) (m : Model) → Clear m → Clear (rounds most count m).model
unfolding rounds
rounds_clear zero count m k = k
rounds_clear (suc most) count m k =
    by_test (λ (t : Taking). Clear t.model) _ (λ _. k) (λ _.
    let n : Model = (taken count m).model in
    let t : Clear n = taken_clear count m k in
    rounds_clear most (value 0x2E n % 16) (seen 0x2E n) (rxs_clear n t.sound t.on))

-- RXC written: a flush, or none where nothing is left
flush_ready : (m : Model) → Clear m → Ready (rx (written 0x2F 0x09 m))
unfolding flushed pick
flush_ready m k =
    rw (rxc_state m k.sound 0x09) (record { enabled = rw k.on; last = k.last; err = k.err; empty = refl })

enable_ready : (m : Model) → Clear m → received m.chip ≡ 0 → Ready (rx (written 0x2F 0x01 m))
unfolding flushed pick
enable_ready m k none =
    rw (rxc_state m k.sound 0x01) (record { enabled = rw k.on; last = k.last; err = k.err; empty = none })

-- ---- the service

-- endpoint 2 is ready again, and the packet that waited is taken
pub record Served (m : Model) (d : Driver) (x : Call) : Type 0 where
  pub ready : Ready (rx x.model)
  pub took : is_taken x.did ≡ waits (rx m) d.expects
  pub packet : waits (rx m) d.expects ≡ true → x.bytes ≡ held m
  pub expects : x.driver.expects ≡ due (waits (rx m) d.expects) d.expects

pub last_waits : (l e t : Bool) → e ≡ false → l ≡ true → (l && not e && t) ≡ t
last_waits l e t h k = rw (h, k)

module _ (m : Model) (d : Driver) (s : Sound m) (on : operational m.chip ≡ true) where
  abbrev pub w : Bool
  w = waits (rx m) d.expects

  never : {A : Type 0} → w ≡ false → w ≡ true → A
  never no-wait wait = absurd {0} (false≢true (sym no-wait ∙ wait))

  pub flush_served : (why : Did) → is_taken (Ok why) ≡ false → w ≡ false → Served m d (flushing why (seen 0x2E m) d)
  unfolding flushing pick
  flush_served why no-take no-wait =
      record {
        ready = flush_ready (seen 0x2E m) (rxs_clear m s on);
        took = no-take ∙ sym no-wait;
        packet = λ wait. never no-wait wait;
        expects = rw no-wait;
      }

  pub nothing_served : Ready (rx m) → w ≡ false → Served m d (record { model = seen 0x2E m; driver = d; did = Ok did.Nothing; bytes = [] })
  unfolding is_taken pick
  nothing_served h no-wait =
      record {
        ready = rw (rxs_state m s) (record { enabled = h.enabled; last = refl; err = refl; empty = h.empty });
        took = sym no-wait;
        packet = λ wait. never no-wait wait;
        expects = rw no-wait;
      }

  pub accept_served : w ≡ true → Served m d (accepting (all_taken (value 0x2E m % 16) (seen 0x2E m)) d)
  unfolding accepting is_taken pick
  accept_served wait =
      let n : Model = seen 0x2E m in
      let k : Clear n = rxs_clear m s on in
      let all : _ = takes_all n (value 0x2E m % 16) k.sound (shown_still m) in
      record {
        ready = enable_ready (all_taken (value 0x2E m % 16) n).model (rounds_clear 65 (value 0x2E m % 16) n k) all.1;
        took = sym wait;
        packet = λ _. sym all.0 ∙ rxs_held m;
        expects = rw wait;
      }

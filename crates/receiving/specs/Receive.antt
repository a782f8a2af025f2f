-- The driver's receive service: RXS is read, and a packet is taken or flushed.
-- What is quoted is 01.
use Rattle.std.specs.Prelude.{ℕ, zero, suc, ◌-◌, ◌/◌, ◌%◌, ◌≤◌, min, ◌≡◌, not, List, [], ◌∷◌, ◌++◌, length, replicate, eqb, Result, Ok, Err}
use Rattle.std.proofs.lemmas.List.Edits.{sets}
use Rattle.choice.specs.Choice.{pick}
use Rattle.refusal.specs.declared.Refusal.{Refusal}
use Rattle.refusal.specs.declared.Refusal.TheVariants.{NotWellFormed}
use Rattle.ring.specs.Ring.{level}
use Rattle.epc.specs.Bits.{bit_of, has}
use Rattle.state.specs.declared.Chip.{Chip}
use Rattle.state.specs.State.{Model, receiver_at}
use Rattle.window.specs.Window.{numbered}
use Rattle.formed.specs.Formed.{well_formed}
use Rattle.driver.specs.declared.Driver.{Driver}
use Rattle.driver.specs.declared.Did.{Did}
use Rattle.driver.specs.declared.Did.TheVariants.{Nothing, Taken, Flushed, Repeat}
use Rattle.driver.specs.Registers.{written, value, seen, Leaves}
use Rattle.driver.specs.Driver.{Call, call, Calls}
use Rattle.receiving.specs.declared.Drained.{Drained}
use Rattle.receiving.specs.declared.Received.{Received}

-- ---- the bytes of a packet

-- bytes read from RXD, and the state after them
pub record Taking : Type 0 where
  pub bytes : List ℕ
  pub model : Model

abbrev pub taking : List ℕ → Model → Taking
taking bytes m = record { bytes = bytes; model = m }

abbrev pub behind : List ℕ → Taking → Taking
behind bytes t = taking (bytes ++ t.bytes) t.model

-- so many reads of RXD at 2D
unfoldable pub taken : ℕ → Model → Taking
taken zero m = taking [] m
taken (suc n) m = behind (value 0x2D m ∷ []) (taken n (seen 0x2D m))

-- "A count of 15 may mean more, so 2E is read again until it shows 0": a round takes as many bytes as 2E showed
unfoldable pub rounds : ℕ → ℕ → Model → Taking
rounds zero count m = taking [] m
rounds (suc most) count m =
    pick (eqb count 0) (taking [] m)
    (let t : Taking = taken count m in
    behind t.bytes (rounds most (value 0x2E t.model % 16) (seen 0x2E t.model)))

-- RXFIFO1 has 64 bytes at most, and every round but the last takes one at least
abbrev pub all_taken : ℕ → Model → Taking
all_taken count m = rounds 65 count m

-- ---- the service

-- RXC at 2F: "RX_EN (2F gets 09 to flush, else 01)"
unfoldable pub flushing : Did → Model → Driver → Call
flushing why m d = call (written 0x2F 0x09 m) d (Ok why)

-- "take all bytes and flip"
unfoldable pub accepting : Taking → Driver → Call
accepting t d =
    record {
      model = written 0x2F 0x01 t.model;
      driver = record { held = d.held; sends = d.sends; expects = not d.expects };
      did = Ok Taken;
      bytes = t.bytes;
    }

-- "RX_ERR, flush; else RX_LAST, if TOGGLE is expected take all bytes and flip, else flush; either way RX_EN"; "Neither flag: nothing."
-- RXS: "7 RX_ERR .., 5 TOGGLE, 4 RX_LAST, 3..0 received bytes"
unfoldable pub judged : ℕ → Model → Driver → Call
judged status m d =
    pick (has 0x80 status) (flushing Flushed m d)
    (pick (has 0x10 status)
    (pick (eqb (status / 0x20 % 2) (bit_of d.expects)) (accepting (all_taken (status % 16) m) d) (flushing Repeat m d))
    (call m d (Ok Nothing)))

-- "Receive service: read 2E"; "the flags are the first read's"; "5 state not well formed"
unfoldable pub receive_served : Model → Driver → Call
receive_served m d = pick (not (well_formed m.chip)) (call m d (Err NotWellFormed)) (judged (value 0x2E m) (seen 0x2E m) d)

-- ---- contracts

-- "The answer itself has room for 64 bytes, unused ones 0"
abbrev pub padded : List ℕ → List ℕ
padded bytes = bytes ++ replicate (64 - length bytes) 0

-- a call's result with the bytes and how many they are
pub record Receives (x : Call) (r : Received) (memory : List ℕ) : Type 0 where
  pub driven : Calls x r.driven memory
  pub count : r.count ≡ length x.bytes
  pub packet : r.packet ≡ padded x.bytes

-- a result without a packet
abbrev pub without : Chip → Driver → Result Did Refusal → Received
without c d x = record { driven = record { chip = c; driver = d; did = x }; count = 0; packet = replicate 64 0 }

-- bytes taken into a packet from a place on
pub record Fills (t : Taking) (at : ℕ) (memory p : List ℕ) (r : Chip) (p' : List ℕ) : Type 0 where
  pub left : Leaves t.model r memory
  pub packet : p' ≡ sets p at t.bytes

-- all bytes taken
pub record Drains (t : Taking) (memory : List ℕ) (r : Drained) : Type 0 where
  pub left : Leaves t.model r.chip memory
  pub count : r.count ≡ length t.bytes
  pub packet : r.packet ≡ padded t.bytes

-- the bytes received into RXFIFO1
abbrev pub received : Chip → ℕ
received c = level (receiver_at (numbered 1) c).fifo.read (receiver_at (numbered 1) c).fifo.write

-- what RXS showed: "received bytes, at most 15", of 64 at most
pub record Shows (count : ℕ) (c : Chip) : Type 0 where
  pub shown : count ≡ min (received c) 15
  pub fits : received c ≤ 64

-- What is seen of an event: the chip after it with the answer, and a packet's bytes by their place in the lent memory.
use Rattle.std.specs.Prelude.{ℕ, ◌≡◌, List}
use Rattle.ring.specs.Ring.{level}
use Rattle.window.specs.declared.FifoNumber.{FifoNumber}
use Rattle.window.specs.declared.Kind.{Kind}
use Rattle.window.specs.declared.Kind.TheVariants as kind
use Rattle.window.specs.Window.{fifo0}
use Rattle.sender.specs.declared.Sender.{Sender}
use Rattle.control.specs.declared.Control.{Control}
use Rattle.state.specs.declared.Chip.{Chip}
use Rattle.answer.specs.declared.Packet.{Packet}
use Rattle.answer.specs.declared.Answer.{Answer}
use Rattle.answer.specs.declared.Answer.TheVariants.{Silence}
use Rattle.answer.specs.declared.Out.{Out}

-- a chip and an answer
abbrev pub gives : Chip → Answer → Out
gives c a = record { chip = c; answer = a }

abbrev pub silent : Chip → Out
silent c = gives c Silence

-- the chip with the answer, and the lent memory
pub record Gives (o : Out) (m : List ℕ) (r : Out) (m' : List ℕ) : Type 0 where
  pub out : r ≡ o
  pub bytes : m' ≡ m

-- "with all bytes held": from the read counter on
unfoldable pub packet_of : Kind → FifoNumber → ℕ → ℕ → Packet
packet_of k n read write = record { window = record { kind = k; number = n }; from = read; count = level read write }

abbrev pub packet0 : Control → Packet
packet0 z = packet_of kind.Control fifo0 z.fifo.read z.fifo.write

abbrev pub packet_at : FifoNumber → Sender → Packet
packet_at n s = packet_of kind.Transmit n s.fifo.read s.fifo.write

-- The chip's state after reset, its endpoints, and which FIFO is whose.
use Rattle.std.specs.Prelude.{ℕ, ◌+◌, ◌/◌, ◌%◌, false, List, get_or, replicate}
use Rattle.window.specs.declared.FifoNumber.{FifoNumber}
use Rattle.window.specs.Window.{index_of}
use Rattle.sender.specs.declared.Sender.{Sender}
use Rattle.sender.specs.Sender.{reset_sender}
use Rattle.receiver.specs.declared.Receiver.{Receiver}
use Rattle.receiver.specs.Receiver.{reset_receiver}
use Rattle.control.specs.State.{reset_control}
use Rattle.state.specs.declared.Endpoint.{Endpoint}
use Rattle.state.specs.declared.Wait.{Wait}
use Rattle.state.specs.declared.Wait.TheVariants.{Nothing}
use Rattle.state.specs.declared.Pending.{Pending}
use Rattle.state.specs.declared.Chip.{Chip}

-- the lent memory has 392 bytes; the whole state is the chip's and the memory's
pub record Model : Type 0 where
  pub chip : Chip
  pub memory : List ℕ

-- "Endpoints 1, 3, 5 send from TXFIFO1 to 3; endpoints 2, 4, 6 receive into RXFIFO1 to 3"; endpoint 0 has FIFO0
abbrev pub fifo_of : Endpoint → FifoNumber
fifo_of e = record { 0 = e.0 / 2 + e.0 % 2 }

abbrev pub sender_at : FifoNumber → Chip → Sender
sender_at n c = get_or c.senders (index_of n) reset_sender

abbrev pub receiver_at : FifoNumber → Chip → Receiver
receiver_at n c = get_or c.receivers (index_of n) reset_receiver

-- endpoint 0's place
abbrev pub zero_place : Endpoint
zero_place = record { 0 = 0 }

-- so much awaited, nothing held
abbrev pub awaiting_only : Wait → Pending
awaiting_only w = record { wait = w; holds = false; held = 0; flush = false }

-- nothing awaited, nothing held
abbrev pub nothing : Pending
nothing = awaiting_only Nothing

-- "Reset: all zero"
abbrev pub reset_chip : Chip
reset_chip =
    record {
      control = reset_control;
      senders = replicate 3 reset_sender;
      receivers = replicate 3 reset_receiver;
      nfsr = 0;
      aden = false;
      address = 0;
      masks = record { main = 0; tx = 0; rx = 0; nak = 0 };
      events = record { over = replicate 4 false; nakin = replicate 4 false; nakout = replicate 4 false };
      pending = nothing;
    }

abbrev pub reset : Model
reset = record { chip = reset_chip; memory = replicate 392 0 }

-- The chip with one part changed: each setter once. A part that is not named stays.
use Rattle.std.specs.Prelude.{ℕ, ◌%◌, Bool, true, set}
use Rattle.window.specs.declared.FifoNumber.{FifoNumber}
use Rattle.window.specs.Window.{index_of}
use Rattle.control.specs.declared.Control.{Control}
use Rattle.sender.specs.declared.Sender.{Sender}
use Rattle.receiver.specs.declared.Receiver.{Receiver}
use Rattle.state.specs.declared.Masks.{Masks}
use Rattle.state.specs.declared.Events.{Events}
use Rattle.state.specs.declared.Pending.{Pending}
use Rattle.state.specs.declared.Chip.{Chip}

abbrev pub with_control : Control → Chip → Chip
with_control x c =
    record {
      control = x;
      senders = c.senders;
      receivers = c.receivers;
      nfsr = c.nfsr;
      aden = c.aden;
      address = c.address;
      masks = c.masks;
      events = c.events;
      pending = c.pending;
    }

abbrev pub with_sender : FifoNumber → Sender → Chip → Chip
with_sender n x c =
    record {
      control = c.control;
      senders = set c.senders (index_of n) x;
      receivers = c.receivers;
      nfsr = c.nfsr;
      aden = c.aden;
      address = c.address;
      masks = c.masks;
      events = c.events;
      pending = c.pending;
    }

abbrev pub with_receiver : FifoNumber → Receiver → Chip → Chip
with_receiver n x c =
    record {
      control = c.control;
      senders = c.senders;
      receivers = set c.receivers (index_of n) x;
      nfsr = c.nfsr;
      aden = c.aden;
      address = c.address;
      masks = c.masks;
      events = c.events;
      pending = c.pending;
    }

abbrev pub with_nfsr : ℕ → Chip → Chip
with_nfsr x c =
    record {
      control = c.control;
      senders = c.senders;
      receivers = c.receivers;
      nfsr = x;
      aden = c.aden;
      address = c.address;
      masks = c.masks;
      events = c.events;
      pending = c.pending;
    }

abbrev pub with_far : Bool → ℕ → Chip → Chip
with_far x y c =
    record {
      control = c.control;
      senders = c.senders;
      receivers = c.receivers;
      nfsr = c.nfsr;
      aden = x;
      address = y;
      masks = c.masks;
      events = c.events;
      pending = c.pending;
    }

abbrev pub with_masks : Masks → Chip → Chip
with_masks x c =
    record {
      control = c.control;
      senders = c.senders;
      receivers = c.receivers;
      nfsr = c.nfsr;
      aden = c.aden;
      address = c.address;
      masks = x;
      events = c.events;
      pending = c.pending;
    }

abbrev pub with_events : Events → Chip → Chip
with_events x c =
    record {
      control = c.control;
      senders = c.senders;
      receivers = c.receivers;
      nfsr = c.nfsr;
      aden = c.aden;
      address = c.address;
      masks = c.masks;
      events = x;
      pending = c.pending;
    }

abbrev pub with_pending : Pending → Chip → Chip
with_pending x c =
    record {
      control = c.control;
      senders = c.senders;
      receivers = c.receivers;
      nfsr = c.nfsr;
      aden = c.aden;
      address = c.address;
      masks = c.masks;
      events = c.events;
      pending = x;
    }

-- the overrun of a FIFO, a NAK to an IN for it, a NAK to an OUT for it: "7..4 overrun"; "3..0 NAK to IN, 7..4 NAK to OUT", by FIFO number
abbrev pub overran : FifoNumber → Events → Events
overran n e = record { over = set e.over (n.0 % 4) true; nakin = e.nakin; nakout = e.nakout }

abbrev pub nakked_in : FifoNumber → Events → Events
nakked_in n e = record { over = e.over; nakin = set e.nakin (n.0 % 4) true; nakout = e.nakout }

abbrev pub nakked_out : FifoNumber → Events → Events
nakked_out n e = record { over = e.over; nakin = e.nakin; nakout = set e.nakout (n.0 % 4) true }

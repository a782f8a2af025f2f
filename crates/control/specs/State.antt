-- The state of endpoint 0: reset, the setters that the other definitions use, and when it is well formed.
use Rattle.std.specs.Prelude.{Bool, false, ◌&&◌, ◌||◌, not, leb, eqb}
use Rattle.window.specs.Window.{size0}
use Rattle.ring.specs.Ring.{level}
use Rattle.fifo0.specs.declared.Fifo0.{Fifo0}
use Rattle.fifo0.specs.Control.{reset0}
use Rattle.control.specs.declared.Control.{Control}

-- "Reset: all zero."
abbrev pub reset_control : Control
reset_control =
    record {
      fifo = reset0;
      stall = false;
      def = false;
      ack = false;
      done = false;
      setup = false;
      toggle = false;
      last = false;
      ignin = false;
      txtoggle = false;
      sends = false;
      ignsetup = false;
      ignout = false;
      receives = false;
      mark = false;
    }

-- the state with another FIFO0
abbrev pub with_fifo : Fifo0 → Control → Control
with_fifo f c =
    record {
      fifo = f;
      stall = c.stall;
      def = c.def;
      ack = c.ack;
      done = c.done;
      setup = c.setup;
      toggle = c.toggle;
      last = c.last;
      ignin = c.ignin;
      txtoggle = c.txtoggle;
      sends = c.sends;
      ignsetup = c.ignsetup;
      ignout = c.ignout;
      receives = c.receives;
      mark = c.mark;
    }

-- with other bits of EPC0: STALL, DEF
abbrev pub with_epc : Bool → Bool → Control → Control
with_epc stall def c =
    record {
      fifo = c.fifo;
      stall = stall;
      def = def;
      ack = c.ack;
      done = c.done;
      setup = c.setup;
      toggle = c.toggle;
      last = c.last;
      ignin = c.ignin;
      txtoggle = c.txtoggle;
      sends = c.sends;
      ignsetup = c.ignsetup;
      ignout = c.ignout;
      receives = c.receives;
      mark = c.mark;
    }

-- with other flags of TXS0: ACK_STAT, TX_DONE
abbrev pub with_tx_flags : Bool → Bool → Control → Control
with_tx_flags ack done c =
    record {
      fifo = c.fifo;
      stall = c.stall;
      def = c.def;
      ack = ack;
      done = done;
      setup = c.setup;
      toggle = c.toggle;
      last = c.last;
      ignin = c.ignin;
      txtoggle = c.txtoggle;
      sends = c.sends;
      ignsetup = c.ignsetup;
      ignout = c.ignout;
      receives = c.receives;
      mark = c.mark;
    }

-- with other flags of RXS0: SETUP, TOGGLE, RX_LAST
abbrev pub with_rx_flags : Bool → Bool → Bool → Control → Control
with_rx_flags setup toggle last c =
    record {
      fifo = c.fifo;
      stall = c.stall;
      def = c.def;
      ack = c.ack;
      done = c.done;
      setup = setup;
      toggle = toggle;
      last = last;
      ignin = c.ignin;
      txtoggle = c.txtoggle;
      sends = c.sends;
      ignsetup = c.ignsetup;
      ignout = c.ignout;
      receives = c.receives;
      mark = c.mark;
    }

-- with other bits of TXC0: IGN_IN, TOGGLE, TX_EN
abbrev pub with_tx : Bool → Bool → Bool → Control → Control
with_tx ignin txtoggle sends c =
    record {
      fifo = c.fifo;
      stall = c.stall;
      def = c.def;
      ack = c.ack;
      done = c.done;
      setup = c.setup;
      toggle = c.toggle;
      last = c.last;
      ignin = ignin;
      txtoggle = txtoggle;
      sends = sends;
      ignsetup = c.ignsetup;
      ignout = c.ignout;
      receives = c.receives;
      mark = c.mark;
    }

-- with other bits of RXC0: IGN_SETUP, IGN_OUT, RX_EN
abbrev pub with_rx : Bool → Bool → Bool → Control → Control
with_rx ignsetup ignout receives c =
    record {
      fifo = c.fifo;
      stall = c.stall;
      def = c.def;
      ack = c.ack;
      done = c.done;
      setup = c.setup;
      toggle = c.toggle;
      last = c.last;
      ignin = c.ignin;
      txtoggle = c.txtoggle;
      sends = c.sends;
      ignsetup = ignsetup;
      ignout = ignout;
      receives = receives;
      mark = c.mark;
    }

-- with another SETUP mark
abbrev pub with_mark : Bool → Control → Control
with_mark mark c =
    record {
      fifo = c.fifo;
      stall = c.stall;
      def = c.def;
      ack = c.ack;
      done = c.done;
      setup = c.setup;
      toggle = c.toggle;
      last = c.last;
      ignin = c.ignin;
      txtoggle = c.txtoggle;
      sends = c.sends;
      ignsetup = c.ignsetup;
      ignout = c.ignout;
      receives = c.receives;
      mark = mark;
    }

-- with another TX_EN, another RX_EN
abbrev pub with_sends : Bool → Control → Control
with_sends sends c = with_tx c.ignin c.txtoggle sends c

abbrev pub with_receives : Bool → Control → Control
with_receives receives c = with_rx c.ignsetup c.ignout receives c

-- an empty FIFO0 does not stand as received: idle fields have one value
unfoldable pub unmarked_empty : Fifo0 → Bool
unmarked_empty f = not f.received || not (eqb (level f.read f.write) 0)

-- "Well formed: levels within size; .. outside the operational state no TX_EN, RX_EN or LAST, nothing awaited." LAST and the waits are others'
-- to know; the SETUP mark is not in it.
unfoldable pub well_formed : Bool → Control → Bool
well_formed operational c =
    leb (level c.fifo.read c.fifo.write) size0
    && unmarked_empty c.fifo
    && (operational || not (c.sends || c.receives))

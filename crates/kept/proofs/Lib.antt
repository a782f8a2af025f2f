-- Well-formedness is kept: endpoints 1, 3, 5; endpoints 2, 4, 6; endpoint 0 at its registers and on the bus.
pub mod Sender
pub mod Receiver
pub mod Control
pub mod ControlBus

-- A chip that answers NAK for ever: its runs show that no sentence of recovery holds of it.
-- Assumes nothing.
use mathlib.Core.Path.{◌≡◌, refl}
use Rattle.delivery.specs.Host.{over}
use Rattle.delivery.specs.Lists.{SentAgain, ReceivedAgain}
use Rattle.delivery.proofs.Runs.Sides.{same_packets, not_sent_again, not_received_again}
use Rattle.delivery.proofs.Runs.Nak.{naks_in, naks_out, naks}

pub sends_never : (naks_in.host.at ≡ over → SentAgain naks_in) → ⊥
unfolding same_packets
sends_never = not_sent_again naks_in _ _ _ naks.in_over naks.sent naks.sent_then refl

pub receives_never : (naks_out.host.at ≡ over → ReceivedAgain naks_out) → ⊥
unfolding same_packets
receives_never = not_received_again naks_out _ _ _ naks.out_over naks.received naks.received_then refl

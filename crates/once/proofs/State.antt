-- One outcome for each input: the state, its event registers and settings.
-- Assumes nothing.
use Rattle.once.proofs.Once.{Once, once, both, same}
use Rattle.state.proofs.Endpoint.fifo.Reads as state-Endpoint-fifo
use Rattle.state.proofs.Pending.idle.Reads as state-Pending-idle
use Rattle.state.proofs.Events.overran.Reads as state-Events-overran
use Rattle.state.proofs.Events.nakked_in.Reads as state-Events-nakked_in
use Rattle.state.proofs.Events.nakked_out.Reads as state-Events-nakked_out
use Rattle.state.proofs.Chip.reset.Reads as state-Chip-reset
use Rattle.state.proofs.Chip.sender.Reads as state-Chip-sender
use Rattle.state.proofs.Chip.with_sender.Reads as state-Chip-with_sender
use Rattle.state.proofs.Chip.receiver.Reads as state-Chip-receiver
use Rattle.state.proofs.Chip.with_receiver.Reads as state-Chip-with_receiver
use Rattle.interrupt.proofs.txev.Reads as interrupt-txev
use Rattle.interrupt.proofs.rxev.Reads as interrupt-rxev
use Rattle.interrupt.proofs.nakev.Reads as interrupt-nakev
use Rattle.interrupt.proofs.maev.Reads as interrupt-maev
use Rattle.interrupt.proofs.line.Reads as interrupt-line
use Rattle.slot.proofs.block.Reads as slot-block
use Rattle.slot.proofs.sending.Reads as slot-sending
use Rattle.settings.proofs.operational.Reads as settings-operational
use Rattle.settings.proofs.awaits.Reads as settings-awaits
use Rattle.settings.proofs.held.Reads as settings-held
use Rattle.settings.proofs.mcntrl.Reads as settings-mcntrl
use Rattle.settings.proofs.far.Reads as settings-far
use Rattle.settings.proofs.nfsr.Reads as settings-nfsr
use Rattle.settings.proofs.mask.Reads as settings-mask
use Rattle.tokens.proofs.own.Reads as tokens-own
use Rattle.tokens.proofs.zero_takes.Reads as tokens-zero_takes
use Rattle.tokens.proofs.in_mask.Reads as tokens-in_mask
use Rattle.tokens.proofs.out_mask.Reads as tokens-out_mask
use Rattle.tokens.proofs.winner.Reads as tokens-winner
use Rattle.answer.proofs.silent.Reads as answer-silent
use Rattle.ends.proofs.idled.Reads as ends-idled
use Rattle.ends.proofs.ended.Reads as ends-ended
use Rattle.ends.proofs.dropped.Reads as ends-dropped
use Rattle.formed.proofs.well_formed.Reads as formed-well_formed

pub state-Endpoint-fifo-once : Once state-Endpoint-fifo.Post (λ κ r s. r)
state-Endpoint-fifo-once = once (λ κ a r s p. p)

pub state-Pending-idle-once : Once state-Pending-idle.Post (λ κ r s. r)
state-Pending-idle-once = once (λ κ a r s p. p)

pub state-Events-overran-once : Once state-Events-overran.Post (λ κ r s. r)
state-Events-overran-once = once (λ κ a r s p. p)

pub state-Events-nakked_in-once : Once state-Events-nakked_in.Post (λ κ r s. r)
state-Events-nakked_in-once = once (λ κ a r s p. p)

pub state-Events-nakked_out-once : Once state-Events-nakked_out.Post (λ κ r s. r)
state-Events-nakked_out-once = once (λ κ a r s p. p)

pub state-Chip-reset-once : Once state-Chip-reset.Post (λ κ r s. r)
state-Chip-reset-once = once (λ κ a r s p. p)

pub state-Chip-sender-once : Once state-Chip-sender.Post (λ κ r s. r)
state-Chip-sender-once = once (λ κ a r s p. p)

pub state-Chip-with_sender-once : Once state-Chip-with_sender.Post (λ κ r s. r)
state-Chip-with_sender-once = once (λ κ a r s p. p)

pub state-Chip-receiver-once : Once state-Chip-receiver.Post (λ κ r s. r)
state-Chip-receiver-once = once (λ κ a r s p. p)

pub state-Chip-with_receiver-once : Once state-Chip-with_receiver.Post (λ κ r s. r)
state-Chip-with_receiver-once = once (λ κ a r s p. p)

pub interrupt-txev-once : Once interrupt-txev.Post (λ κ r s. r)
interrupt-txev-once = once (λ κ a r s p. p)

pub interrupt-rxev-once : Once interrupt-rxev.Post (λ κ r s. r)
interrupt-rxev-once = once (λ κ a r s p. p)

pub interrupt-nakev-once : Once interrupt-nakev.Post (λ κ r s. r)
interrupt-nakev-once = once (λ κ a r s p. p)

pub interrupt-maev-once : Once interrupt-maev.Post (λ κ r s. r)
interrupt-maev-once = once (λ κ a r s p. p)

pub interrupt-line-once : Once interrupt-line.Post (λ κ r s. r)
interrupt-line-once = once (λ κ a r s p. p)

pub slot-block-once : Once slot-block.Post (λ κ r s. r)
slot-block-once = once (λ κ a r s p. p)

pub slot-sending-once : Once slot-sending.Post (λ κ r s. r)
slot-sending-once = once (λ κ a r s p. p)

pub settings-operational-once : Once settings-operational.Post (λ κ r s. r)
settings-operational-once = once (λ κ a r s p. p)

pub settings-awaits-once : Once settings-awaits.Post (λ κ r s. r)
settings-awaits-once = once (λ κ a r s p. p)

pub settings-held-once : Once settings-held.Post (λ κ r s. r)
settings-held-once = once (λ κ a r s p. p)

pub settings-mcntrl-once : Once settings-mcntrl.Post (λ κ r s. both r s.1.0.now)
settings-mcntrl-once = once (λ κ a r s p. same p.state p.bytes)

pub settings-far-once : Once settings-far.Post (λ κ r s. r)
settings-far-once = once (λ κ a r s p. p)

pub settings-nfsr-once : Once settings-nfsr.Post (λ κ r s. r)
settings-nfsr-once = once (λ κ a r s p. p)

pub settings-mask-once : Once settings-mask.Post (λ κ r s. r)
settings-mask-once = once (λ κ a r s p. p)

pub tokens-own-once : Once tokens-own.Post (λ κ r s. r)
tokens-own-once = once (λ κ a r s p. p)

pub tokens-zero_takes-once : Once tokens-zero_takes.Post (λ κ r s. r)
tokens-zero_takes-once = once (λ κ a r s p. p)

pub tokens-in_mask-once : Once tokens-in_mask.Post (λ κ r s. r)
tokens-in_mask-once = once (λ κ a r s p. p)

pub tokens-out_mask-once : Once tokens-out_mask.Post (λ κ r s. r)
tokens-out_mask-once = once (λ κ a r s p. p)

pub tokens-winner-once : Once tokens-winner.Post (λ κ r s. r)
tokens-winner-once = once (λ κ a r s p. p)

pub answer-silent-once : Once answer-silent.Post (λ κ r s. r)
answer-silent-once = once (λ κ a r s p. p)

pub ends-idled-once : Once ends-idled.Post (λ κ r s. r)
ends-idled-once = once (λ κ a r s p. p)

pub ends-ended-once : Once ends-ended.Post (λ κ r s. r)
ends-ended-once = once (λ κ a r s p. p)

pub ends-dropped-once : Once ends-dropped.Post (λ κ r s. r)
ends-dropped-once = once (λ κ a r s p. p)

pub formed-well_formed-once : Once formed-well_formed.Post (λ κ r s. r)
formed-well_formed-once = once (λ κ a r s p. p)

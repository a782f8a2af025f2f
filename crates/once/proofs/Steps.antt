-- One outcome for each input: register accesses, bus events and steps.
-- Assumes nothing.
use Rattle.once.proofs.Once.{Once, once, both, same}
use Rattle.reads.proofs.read.Reads as reads-read
use Rattle.writes.proofs.write.Reads as writes-write
use Rattle.data.proofs.data.Reads as data-data
use Rattle.bus.proofs.in_token.Reads as bus-in_token
use Rattle.bus.proofs.out_token.Reads as bus-out_token
use Rattle.bus.proofs.setup_token.Reads as bus-setup_token
use Rattle.step.proofs.step.Reads as step-step
use Rattle.chip.proofs.step.Reads as chip-step
use Rattle.chip.proofs.read.Reads as chip-read
use Rattle.chip.proofs.write.Reads as chip-write

pub reads-read-once : Once reads-read.Post (λ κ r s. r)
reads-read-once = once (λ κ a r s p. p)

pub writes-write-once : Once writes-write.Post (λ κ r s. both r s.1.0.now)
writes-write-once = once (λ κ a r s p. same p.state p.bytes)

pub data-data-once : Once data-data.Post (λ κ r s. both r s.1.0.now)
data-data-once = once (λ κ a r s p. same p.out p.bytes)

pub bus-in_token-once : Once bus-in_token.Post (λ κ r s. r)
bus-in_token-once = once (λ κ a r s p. p)

pub bus-out_token-once : Once bus-out_token.Post (λ κ r s. r)
bus-out_token-once = once (λ κ a r s p. p)

pub bus-setup_token-once : Once bus-setup_token.Post (λ κ r s. r)
bus-setup_token-once = once (λ κ a r s p. p)

pub step-step-once : Once step-step.Post (λ κ r s. both r s.1.0.now)
step-step-once = once (λ κ a r s p. same p.out p.bytes)

pub chip-step-once : Once chip-step.Post (λ κ r s. both r s.1.0.now)
chip-step-once = once (λ κ a r s p. same p.out p.bytes)

pub chip-read-once : Once chip-read.Post (λ κ r s. both r s.1.0.now)
chip-read-once = once (λ κ a r s p. same p.out p.bytes)

pub chip-write-once : Once chip-write.Post (λ κ r s. both r s.1.0.now)
chip-write-once = once (λ κ a r s p. same p.out p.bytes)

-- One outcome for each input: endpoint 0.
-- Assumes nothing.
use Rattle.once.proofs.Once.{Once, once, both, same}
use Rattle.control.proofs.Control.reset.Reads as control-Control-reset
use Rattle.control.proofs.Control.well_formed.Reads as control-Control-well_formed
use Rattle.control.proofs.Control.epc_value.Reads as control-Control-epc_value
use Rattle.control.proofs.Control.with_epc.Reads as control-Control-with_epc
use Rattle.control.proofs.Control.tx_status.Reads as control-Control-tx_status
use Rattle.control.proofs.Control.tx_cleared.Reads as control-Control-tx_cleared
use Rattle.control.proofs.Control.rx_status.Reads as control-Control-rx_status
use Rattle.control.proofs.Control.rx_cleared.Reads as control-Control-rx_cleared
use Rattle.control.proofs.Control.tx_command_value.Reads as control-Control-tx_command_value
use Rattle.control.proofs.Control.rx_command_value.Reads as control-Control-rx_command_value
use Rattle.control.proofs.Control.flushed.Reads as control-Control-flushed
use Rattle.control.proofs.Control.tx_command.Reads as control-Control-tx_command
use Rattle.control.proofs.Control.rx_bits.Reads as control-Control-rx_bits
use Rattle.control.proofs.Control.rx_command.Reads as control-Control-rx_command
use Rattle.control.proofs.Control.put.Reads as control-Control-put
use Rattle.control.proofs.Control.take.Reads as control-Control-take
use Rattle.control.proofs.Control.stopped.Reads as control-Control-stopped
use Rattle.controlbus.proofs.answer.Reads as controlbus-answer
use Rattle.controlbus.proofs.sent.Reads as controlbus-sent
use Rattle.controlbus.proofs.handshake.Reads as controlbus-handshake
use Rattle.controlbus.proofs.judge.Reads as controlbus-judge
use Rattle.controlbus.proofs.received.Reads as controlbus-received
use Rattle.controlbus.proofs.out_token.Reads as controlbus-out_token
use Rattle.controlbus.proofs.setup.judge_setup.Reads as controlbus-setup-judge_setup
use Rattle.controlbus.proofs.setup.received_setup.Reads as controlbus-setup-received_setup
use Rattle.controlbus.proofs.setup.setup_dropped.Reads as controlbus-setup-setup_dropped

pub control-Control-reset-once : Once control-Control-reset.Post (λ κ r s. r)
control-Control-reset-once = once (λ κ a r s p. p)

pub control-Control-well_formed-once : Once control-Control-well_formed.Post (λ κ r s. r)
control-Control-well_formed-once = once (λ κ a r s p. p)

pub control-Control-epc_value-once : Once control-Control-epc_value.Post (λ κ r s. r)
control-Control-epc_value-once = once (λ κ a r s p. p)

pub control-Control-with_epc-once : Once control-Control-with_epc.Post (λ κ r s. r)
control-Control-with_epc-once = once (λ κ a r s p. p)

pub control-Control-tx_status-once : Once control-Control-tx_status.Post (λ κ r s. r)
control-Control-tx_status-once = once (λ κ a r s p. p)

pub control-Control-tx_cleared-once : Once control-Control-tx_cleared.Post (λ κ r s. r)
control-Control-tx_cleared-once = once (λ κ a r s p. p)

pub control-Control-rx_status-once : Once control-Control-rx_status.Post (λ κ r s. r)
control-Control-rx_status-once = once (λ κ a r s p. p)

pub control-Control-rx_cleared-once : Once control-Control-rx_cleared.Post (λ κ r s. r)
control-Control-rx_cleared-once = once (λ κ a r s p. p)

pub control-Control-tx_command_value-once : Once control-Control-tx_command_value.Post (λ κ r s. r)
control-Control-tx_command_value-once = once (λ κ a r s p. p)

pub control-Control-rx_command_value-once : Once control-Control-rx_command_value.Post (λ κ r s. r)
control-Control-rx_command_value-once = once (λ κ a r s p. p)

pub control-Control-flushed-once : Once control-Control-flushed.Post (λ κ r s. r)
control-Control-flushed-once = once (λ κ a r s p. p)

pub control-Control-tx_command-once : Once control-Control-tx_command.Post (λ κ r s. r)
control-Control-tx_command-once = once (λ κ a r s p. p)

pub control-Control-rx_bits-once : Once control-Control-rx_bits.Post (λ κ r s. r)
control-Control-rx_bits-once = once (λ κ a r s p. p)

pub control-Control-rx_command-once : Once control-Control-rx_command.Post (λ κ r s. r)
control-Control-rx_command-once = once (λ κ a r s p. p)

pub control-Control-put-once : Once control-Control-put.Post (λ κ r s. both r s.1.0.now)
control-Control-put-once = once (λ κ a r s p. same p.state p.bytes)

pub control-Control-take-once : Once control-Control-take.Post (λ κ r s. r)
control-Control-take-once = once (λ κ a r s p. p)

pub control-Control-stopped-once : Once control-Control-stopped.Post (λ κ r s. r)
control-Control-stopped-once = once (λ κ a r s p. p)

pub controlbus-answer-once : Once controlbus-answer.Post (λ κ r s. r)
controlbus-answer-once = once (λ κ a r s p. p)

pub controlbus-sent-once : Once controlbus-sent.Post (λ κ r s. r)
controlbus-sent-once = once (λ κ a r s p. p)

pub controlbus-handshake-once : Once controlbus-handshake.Post (λ κ r s. r)
controlbus-handshake-once = once (λ κ a r s p. p)

pub controlbus-judge-once : Once controlbus-judge.Post (λ κ r s. r)
controlbus-judge-once = once (λ κ a r s p. p)

pub controlbus-received-once : Once controlbus-received.Post (λ κ r s. both r s.1.0.now)
controlbus-received-once = once (λ κ a r s p. same p.state p.bytes)

pub controlbus-out_token-once : Once controlbus-out_token.Post (λ κ r s. r)
controlbus-out_token-once = once (λ κ a r s p. p)

pub controlbus-setup-judge_setup-once : Once controlbus-setup-judge_setup.Post (λ κ r s. r)
controlbus-setup-judge_setup-once = once (λ κ a r s p. p)

pub controlbus-setup-received_setup-once : Once controlbus-setup-received_setup.Post (λ κ r s. both r s.1.0.now)
controlbus-setup-received_setup-once = once (λ κ a r s p. same p.state p.bytes)

pub controlbus-setup-setup_dropped-once : Once controlbus-setup-setup_dropped.Post (λ κ r s. r)
controlbus-setup-setup_dropped-once = once (λ κ a r s p. p)

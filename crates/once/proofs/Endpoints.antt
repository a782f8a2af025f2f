-- One outcome for each input: the endpoints.
-- Assumes nothing.
use Rattle.once.proofs.Once.{Once, once, both, same}
use Rattle.verdict.proofs.Judged.heard.Reads as verdict-Judged-heard
use Rattle.verdict.proofs.Judged.is_ack.Reads as verdict-Judged-is_ack
use Rattle.epc.proofs.bit.Reads as epc-bit
use Rattle.epc.proofs.Epc.reset.Reads as epc-Epc-reset
use Rattle.epc.proofs.Epc.of.Reads as epc-Epc-of
use Rattle.epc.proofs.Epc.value.Reads as epc-Epc-value
use Rattle.epc.proofs.Epc.takes.Reads as epc-Epc-takes
use Rattle.sender.proofs.Sender.reset.Reads as sender-Sender-reset
use Rattle.sender.proofs.Sender.status.Reads as sender-Sender-status
use Rattle.sender.proofs.Sender.cleared.Reads as sender-Sender-cleared
use Rattle.sender.proofs.Sender.command_value.Reads as sender-Sender-command_value
use Rattle.sender.proofs.Sender.command.Reads as sender-Sender-command
use Rattle.sender.proofs.Sender.put.Reads as sender-Sender-put
use Rattle.sender.proofs.Sender.answer.Reads as sender-Sender-answer
use Rattle.sender.proofs.Sender.sent.Reads as sender-Sender-sent
use Rattle.sender.proofs.Sender.handshake.Reads as sender-Sender-handshake
use Rattle.sender.proofs.Sender.stopped.Reads as sender-Sender-stopped
use Rattle.sender.proofs.Sender.well_formed.Reads as sender-Sender-well_formed
use Rattle.receiver.proofs.Receiver.reset.Reads as receiver-Receiver-reset
use Rattle.receiver.proofs.Receiver.status.Reads as receiver-Receiver-status
use Rattle.receiver.proofs.Receiver.cleared.Reads as receiver-Receiver-cleared
use Rattle.receiver.proofs.Receiver.command_value.Reads as receiver-Receiver-command_value
use Rattle.receiver.proofs.Receiver.command.Reads as receiver-Receiver-command
use Rattle.receiver.proofs.Receiver.take.Reads as receiver-Receiver-take
use Rattle.receiver.proofs.Receiver.judge.Reads as receiver-Receiver-judge
use Rattle.receiver.proofs.Receiver.received.Reads as receiver-Receiver-received
use Rattle.receiver.proofs.Receiver.stopped.Reads as receiver-Receiver-stopped
use Rattle.receiver.proofs.Receiver.well_formed.Reads as receiver-Receiver-well_formed

pub verdict-Judged-heard-once : Once verdict-Judged-heard.Post (λ κ r s. r)
verdict-Judged-heard-once = once (λ κ a r s p. p)

pub verdict-Judged-is_ack-once : Once verdict-Judged-is_ack.Post (λ κ r s. r)
verdict-Judged-is_ack-once = once (λ κ a r s p. p)

pub epc-bit-once : Once epc-bit.Post (λ κ r s. r)
epc-bit-once = once (λ κ a r s p. p.0)

pub epc-Epc-reset-once : Once epc-Epc-reset.Post (λ κ r s. r)
epc-Epc-reset-once = once (λ κ a r s p. p)

pub epc-Epc-of-once : Once epc-Epc-of.Post (λ κ r s. r)
epc-Epc-of-once = once (λ κ a r s p. p)

pub epc-Epc-value-once : Once epc-Epc-value.Post (λ κ r s. r)
epc-Epc-value-once = once (λ κ a r s p. p)

pub epc-Epc-takes-once : Once epc-Epc-takes.Post (λ κ r s. r)
epc-Epc-takes-once = once (λ κ a r s p. p)

pub sender-Sender-reset-once : Once sender-Sender-reset.Post (λ κ r s. r)
sender-Sender-reset-once = once (λ κ a r s p. p)

pub sender-Sender-status-once : Once sender-Sender-status.Post (λ κ r s. r)
sender-Sender-status-once = once (λ κ a r s p. p)

pub sender-Sender-cleared-once : Once sender-Sender-cleared.Post (λ κ r s. r)
sender-Sender-cleared-once = once (λ κ a r s p. p)

pub sender-Sender-command_value-once : Once sender-Sender-command_value.Post (λ κ r s. r)
sender-Sender-command_value-once = once (λ κ a r s p. p)

pub sender-Sender-command-once : Once sender-Sender-command.Post (λ κ r s. r)
sender-Sender-command-once = once (λ κ a r s p. p)

pub sender-Sender-put-once : Once sender-Sender-put.Post (λ κ r s. both r s.1.0.now)
sender-Sender-put-once = once (λ κ a r s p. same p.state p.bytes)

pub sender-Sender-answer-once : Once sender-Sender-answer.Post (λ κ r s. r)
sender-Sender-answer-once = once (λ κ a r s p. p)

pub sender-Sender-sent-once : Once sender-Sender-sent.Post (λ κ r s. r)
sender-Sender-sent-once = once (λ κ a r s p. p)

pub sender-Sender-handshake-once : Once sender-Sender-handshake.Post (λ κ r s. r)
sender-Sender-handshake-once = once (λ κ a r s p. p)

pub sender-Sender-stopped-once : Once sender-Sender-stopped.Post (λ κ r s. r)
sender-Sender-stopped-once = once (λ κ a r s p. p)

pub sender-Sender-well_formed-once : Once sender-Sender-well_formed.Post (λ κ r s. r)
sender-Sender-well_formed-once = once (λ κ a r s p. p)

pub receiver-Receiver-reset-once : Once receiver-Receiver-reset.Post (λ κ r s. r)
receiver-Receiver-reset-once = once (λ κ a r s p. p)

pub receiver-Receiver-status-once : Once receiver-Receiver-status.Post (λ κ r s. r)
receiver-Receiver-status-once = once (λ κ a r s p. p)

pub receiver-Receiver-cleared-once : Once receiver-Receiver-cleared.Post (λ κ r s. r)
receiver-Receiver-cleared-once = once (λ κ a r s p. p)

pub receiver-Receiver-command_value-once : Once receiver-Receiver-command_value.Post (λ κ r s. r)
receiver-Receiver-command_value-once = once (λ κ a r s p. p)

pub receiver-Receiver-command-once : Once receiver-Receiver-command.Post (λ κ r s. r)
receiver-Receiver-command-once = once (λ κ a r s p. p)

pub receiver-Receiver-take-once : Once receiver-Receiver-take.Post (λ κ r s. r)
receiver-Receiver-take-once = once (λ κ a r s p. p)

pub receiver-Receiver-judge-once : Once receiver-Receiver-judge.Post (λ κ r s. r)
receiver-Receiver-judge-once = once (λ κ a r s p. p)

pub receiver-Receiver-received-once : Once receiver-Receiver-received.Post (λ κ r s. both r s.1.0.now)
receiver-Receiver-received-once = once (λ κ a r s p. same p.state p.bytes)

pub receiver-Receiver-stopped-once : Once receiver-Receiver-stopped.Post (λ κ r s. r)
receiver-Receiver-stopped-once = once (λ κ a r s p. p)

pub receiver-Receiver-well_formed-once : Once receiver-Receiver-well_formed.Post (λ κ r s. r)
receiver-Receiver-well_formed-once = once (λ κ a r s p. p)

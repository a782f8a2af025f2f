-- One outcome for each input: a record's payload.
-- Assumes nothing.
use Rattle.once.proofs.Once.{Once, once}
use Rattle.trace.proofs.payload.Reads as trace-payload
use Rattle.reader.proofs.payload.Reads as reader-payload

pub trace-payload-once : Once trace-payload.Post (λ κ r s. r.now)
trace-payload-once = once (λ κ a r s p. p)

pub reader-payload-once : Once reader-payload.Post (λ κ r s. r.now)
reader-payload-once = once (λ κ a r s p. p)

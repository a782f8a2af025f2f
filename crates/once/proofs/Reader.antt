-- One outcome for each input: the reader of traces.
-- Assumes nothing.
use mathlib.Core.Path.{sym, ◌∙◌}
use Rattle.once.proofs.Once.{Once, once}
use Rattle.once.proofs.Meanings.{meaning_injective}
use Rattle.refusal.proofs.Refusal.number.Reads as refusal-Refusal-number
use Rattle.event.proofs.BusEndpoint.within.Reads as event-BusEndpoint-within
use Rattle.event.proofs.in_range.Reads as event-in_range
use Rattle.trace.proofs.read.Reads as trace-read
use Rattle.reader.proofs.read.Reads as reader-read
use Rattle.commands.proofs.read.Reads as commands-read

pub refusal-Refusal-number-once : Once refusal-Refusal-number.Post (λ κ r s. r)
refusal-Refusal-number-once = once (λ κ a r s p. p)

pub event-BusEndpoint-within-once : Once event-BusEndpoint-within.Post (λ κ r s. r)
event-BusEndpoint-within-once = once (λ κ a r s p. p)

pub event-in_range-once : Once event-in_range.Post (λ κ r s. r)
event-in_range-once = once (λ κ a r s p. p)

pub trace-read-once : Once trace-read.Post (λ κ r s. r)
trace-read-once κ a r r' s s' p q = meaning_injective r r' (p ∙ sym q)

pub commands-read-once : Once commands-read.Post (λ κ r s. r)
commands-read-once = once (λ κ a r s p. p)

pub reader-read-once : Once reader-read.Post (λ κ r s. r)
reader-read-once κ a r r' s s' p q = meaning_injective r r' (p ∙ sym q)

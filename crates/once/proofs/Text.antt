-- One outcome for each input: the text of a run.
-- Assumes nothing.
use Prim.Native.Nat.{ℕ}
use mathlib.Core.Path.{◌≡◌, sym, ◌∙◌}
use mathlib.Core.List.{List}
use Rattle.once.proofs.Once.{Once, once, both, same}
use Rattle.state.specs.declared.Chip.{Chip}
use Rattle.std.specs.Prelude.{Result}
use Rattle.trace.specs.declared.Refused.{Refused}
use Rattle.running.specs.declared.Stop.{Stop}
use Rattle.running.specs.declared.Ran.{Ran}
use Rattle.running.specs.Run.{Stopped, Runs}
use Rattle.once.proofs.Meanings.{reason_injective}
use Rattle.digits.proofs.place.Reads as digits-place
use Rattle.digits.proofs.put.Reads as digits-put
use Rattle.digits.proofs.text.Reads as digits-text
use Rattle.digits.proofs.hex.Reads as digits-hex
use Rattle.digits.proofs.decimal.Reads as digits-decimal
use Rattle.packet.proofs.count.Reads as packet-count
use Rattle.packet.proofs.bytes.Reads as packet-bytes
use Rattle.packet.proofs.hex.Reads as packet-hex
use Rattle.lines.proofs.line.Reads as lines-line
use Rattle.lines.proofs.refusal.Reads as lines-refusal
use Rattle.running.proofs.run.Reads as running-run

pub digits-place-once : Once digits-place.Post (λ κ r s. r)
digits-place-once = once (λ κ a r s p. p)

pub digits-put-once : Once digits-put.Post (λ κ r s. s.0.now)
digits-put-once = once (λ κ a r s p. p)

pub digits-text-once : Once digits-text.Post (λ κ r s. s.0.now)
digits-text-once = once (λ κ a r s p. p)

pub digits-hex-once : Once digits-hex.Post (λ κ r s. s.0.now)
digits-hex-once = once (λ κ a r s p. p)

pub digits-decimal-once : Once digits-decimal.Post (λ κ r s. both r s.0.now)
digits-decimal-once = once (λ κ a r s p. same p.width p.bytes)

pub packet-count-once : Once packet-count.Post (λ κ r s. r)
packet-count-once = once (λ κ a r s p. p)

pub packet-bytes-once : Once packet-bytes.Post (λ κ r s. both r s.1.1.0.now)
packet-bytes-once = once (λ κ a r s p. same p.count p.bytes)

pub packet-hex-once : Once packet-hex.Post (λ κ r s. s.1.1.0.now)
packet-hex-once = once (λ κ a r s p. p)

pub lines-line-once : Once lines-line.Post (λ κ r s. both r s.0.now)
lines-line-once = once (λ κ a r s p. same p.count p.bytes)

pub lines-refusal-once : Once lines-refusal.Post (λ κ r s. both r s.0.now)
lines-refusal-once = once (λ κ a r s p. same p.count p.bytes)

abbrev ran_of : Chip → ℕ → ℕ → ℕ → Result Stop Refused → Ran
ran_of c place number written stop = record { chip = c; place = place; number = number; written = written; stop = stop }

ran : {c c' : Chip} {x x' y y' z z' : ℕ} {w w' : Result Stop Refused} → c ≡ c' → x ≡ x' → y ≡ y' → z ≡ z' → w ≡ w' → ran_of c x y z w ≡ ran_of c' x' y' z' w'
ran p q x y z = cc

runs : {s : Stopped} {r r' : Ran} {m m' o o' : List ℕ} → Runs s r m o → Runs s r' m' o' → both r (both m o) ≡ both r' (both m' o')
runs p q = same (ran (p.chip ∙ sym q.chip) (p.place ∙ sym q.place) (p.number ∙ sym q.number) (p.written ∙ sym q.written) (reason_injective _ _ (p.why ∙ sym q.why))) (same (p.bytes ∙ sym q.bytes) (p.buffer ∙ sym q.buffer))

pub running-run-once : Once running-run.Post (λ κ r s. both r (both s.1.0.now s.1.1.1.1.1.0.now))
running-run-once κ a r r' s s' p q = runs p.0 q.0

-- One outcome for each input: the driver.
-- Assumes nothing.
use Prim.Native.Nat.{ℕ}
use mathlib.Core.Path.{◌≡◌, sym, ap, ◌∙◌}
use mathlib.Core.List.{List}
use Rattle.std.specs.Prelude.{Result}
use Rattle.refusal.specs.declared.Refusal.{Refusal}
use Rattle.state.specs.declared.Chip.{Chip}
use Rattle.driver.specs.declared.Driver.{Driver}
use Rattle.driver.specs.declared.Did.{Did}
use Rattle.driver.specs.declared.Driven.{Driven}
use Rattle.driver.specs.Driver.{Call, Calls}
use Rattle.receiving.specs.declared.Received.{Received}
use Rattle.receiving.specs.Receive.{Receives}
use Rattle.once.proofs.Once.{Once, both, same, three}
use Rattle.driver.proofs.start.Reads as driver-start
use Rattle.driver.proofs.offer.Reads as driver-offer
use Rattle.driver.proofs.send_service.Reads as driver-send_service
use Rattle.receiving.proofs.receive_service.Reads as receiving-receive_service

abbrev driven_of : Chip → Driver → Result Did Refusal → Driven
driven_of c d x = record { chip = c; driver = d; did = x }

abbrev received_of : Driven → ℕ → List ℕ → Received
received_of x n s = record { driven = x; count = n; packet = s }

calls : {x : Call} {r r' : Driven} {m m' : List ℕ} → Calls x r m → Calls x r' m' → both r m ≡ both r' m'
calls p q = same (three driven_of (p.chip ∙ sym q.chip) (p.driver ∙ sym q.driver) (p.did ∙ sym q.did)) (p.bytes ∙ sym q.bytes)

receives : {x : Call} {r r' : Received} {m m' : List ℕ} → Receives x r m → Receives x r' m' → both r m ≡ both r' m'
receives p q = same (three received_of (ap (λ z. z.one) (calls p.driven q.driven)) (p.count ∙ sym q.count) (p.packet ∙ sym q.packet)) (ap (λ z. z.other) (calls p.driven q.driven))

pub driver-start-once : Once driver-start.Post (λ κ r s. both r s.0.now)
driver-start-once κ a r r' s s' = calls

pub driver-offer-once : Once driver-offer.Post (λ κ r s. both r s.1.1.0.now)
driver-offer-once κ a r r' s s' = calls

pub driver-send_service-once : Once driver-send_service.Post (λ κ r s. both r s.1.1.0.now)
driver-send_service-once κ a r r' s s' = calls

pub receiving-receive_service-once : Once receiving-receive_service.Post (λ κ r s. both r s.1.1.0.now)
receiving-receive_service-once κ a r r' s s' = receives

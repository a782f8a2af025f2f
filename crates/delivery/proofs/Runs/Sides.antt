-- What the two sides of a pipe have, when that contradicts demand 3's sentences, and the packets, runs and stray events of the examples.
-- Assumes nothing.
use mathlib.Core.Path.{◌≡◌, refl, sym, ◌∙◌, ap}
use mathlib.Core.Logic.{◌⊎◌, ⊎_elim}
use mathlib.Core.Bool.{Bool, true, false, ◌&&◌, false≢true}
use mathlib.Core.List.{List, [], ◌∷◌, ◌++◌}
use lib.Dec.{eqb}
use borrow.Author.Tests.{eq-eqb}
use Rattle.event.specs.declared.Event.{Event}
use Rattle.delivery.specs.Host.{over, Packet, Action}
use Rattle.delivery.specs.World.{Pipes, World, held, start_world, happens, acts}
use Rattle.delivery.specs.Lists.{has, host_held, Sent, Received, SentAgain, ReceivedAgain, recover_sending, recover_receiving}

-- ---- the examples

-- address 5, IN by bus endpoint 1, OUT by bus endpoint 2
abbrev pub pipes : Pipes
pipes = record { a = 5; e = record { 0 = 1 }; f = record { 0 = 2 } }

-- two packets
abbrev pub A : Packet
A = 0x41 ∷ []

abbrev pub B : Packet
B = 0x42 ∷ 0x43 ∷ []

abbrev pub run : List Action → World
run xs = acts xs (start_world pipes)

-- an event at the chip that is no action of the host's or the driver's
abbrev pub stray : Event → Packet → World → World
stray t s w = happens t s w.host w.lists w

-- ---- the two sides of a pipe

-- what the sender knows delivered, what it still holds, what the receiver has
pub record Sides : Type 0 where
  pub knows : List Packet
  pub holds : List Packet
  pub gets : List Packet

abbrev pub sides : List Packet → List Packet → List Packet → Sides
sides k h g = record { knows = k; holds = h; gets = g }

abbrev pub sending : World → Sides
sending w = sides w.lists.delivered (held w) w.lists.got

abbrev pub receiving : World → Sides
receiving w = sides w.lists.known (host_held w) (has w)

-- ---- packets that differ

unfoldable pub same_packet : Packet → Packet → Bool
same_packet [] [] = true
same_packet [] (y ∷ ys) = false
same_packet (x ∷ xs) [] = false
same_packet (x ∷ xs) (y ∷ ys) = eqb x y && same_packet xs ys

unfoldable pub same_packets : List Packet → List Packet → Bool
same_packets [] [] = true
same_packets [] (y ∷ ys) = false
same_packets (x ∷ xs) [] = false
same_packets (x ∷ xs) (y ∷ ys) = same_packet x y && same_packets xs ys

packet_same : (p : Packet) → same_packet p p ≡ true
unfolding same_packet
packet_same [] = refl
packet_same (x ∷ xs) = rw (eq-eqb x x refl, packet_same xs)

packets_same : (x : List Packet) → same_packets x x ≡ true
unfolding same_packets
packets_same [] = refl
packets_same (x ∷ xs) = rw (packet_same x, packets_same xs)

pub apart : (x y : List Packet) → same_packets x y ≡ false → x ≡ y → ⊥
apart x y d e = false≢true (sym d ∙ ap (λ z. same_packets x z) (sym e) ∙ packets_same x)

-- ---- what contradicts demand 3

-- what the receiver has is neither what the sender knows delivered, nor that and what the sender holds
abbrev pub Wrong : List Packet → List Packet → List Packet → Type 0
Wrong k h g = (same_packets g k ≡ false) × (same_packets g (k ++ h) ≡ false)

differ : (k h g : List Packet) → Wrong k h g → (k' h' g' : List Packet) → sides k' h' g' ≡ sides k h g → (g' ≡ k') ⊎ (g' ≡ k' ++ h') → ⊥
differ k h g d k' h' g' e o =
    let knows : k' ≡ k = ap (λ x. x.knows) e in
    let holds : h' ≡ h = ap (λ x. x.holds) e in
    let gets : g' ≡ g = ap (λ x. x.gets) e in
    ⊎_elim
    (λ q. apart g k d.0 (sym gets ∙ q ∙ knows))
    (λ q. apart g (k ++ h) d.1 (sym gets ∙ q ∙ ap (λ x. x ++ h') knows ∙ ap (λ x. k ++ x) holds))
    o

pub not_sent : (w : World) (k h g : List Packet) → sending w ≡ sides k h g → Wrong k h g → Sent w → ⊥
not_sent w k h g e d s = differ k h g d _ _ _ e s.once

pub not_received : (w : World) (k h g : List Packet) → receiving w ≡ sides k h g → Wrong k h g → Received w → ⊥
not_received w k h g e d s = differ k h g d _ _ _ e s.once

-- no transaction is open, the recovery leaves the sides as they were, and the sender does not know the packet that it holds delivered
stuck : (k h g : List Packet) → same_packets k (k ++ h) ≡ false → (k' h' g' k'' h'' g'' : List Packet) → sides k' h' g' ≡ sides k h g
    → sides k'' h'' g'' ≡ sides k h g → k'' ≡ k' ++ h' → ⊥
stuck k h g d k' h' g' k'' h'' g'' e e' o =
    apart k (k ++ h) d (sym (ap (λ x. x.knows) e') ∙ o ∙ ap (λ x. x.knows ++ x.holds) e)

pub not_sent_again : (w : World) (k h g : List Packet) → w.host.at ≡ over → sending w ≡ sides k h g → sending (recover_sending w) ≡ sides k h g
    → same_packets k (k ++ h) ≡ false → (w.host.at ≡ over → SentAgain w) → ⊥
not_sent_again w k h g o e e' d s = stuck k h g d _ _ _ _ _ _ e e' (s o).delivered

pub not_received_again : (w : World) (k h g : List Packet) → w.host.at ≡ over → receiving w ≡ sides k h g → receiving (recover_receiving w) ≡ sides k h g
    → same_packets k (k ++ h) ≡ false → (w.host.at ≡ over → ReceivedAgain w) → ⊥
not_received_again w k h g o e e' d s = stuck k h g d _ _ _ _ _ _ e e' (s o).known

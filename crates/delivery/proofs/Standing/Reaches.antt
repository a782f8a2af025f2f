-- The tokens of the two pipes reach endpoints 1 and 2, and no other token does.
-- Assumes nothing.
use Prim.Native.Nat.{ℕ, ◌+◌, ◌/◌, ◌%◌, ◌≤◌}
use native.Mathlib.Omega.{arith}
use mathlib.Core.Path.{◌≡◌, refl, sym, ◌∙◌}
use mathlib.Core.Bool.{Bool, true, false, not, ◌&&◌, false≢true, and-eq-true_iff}
use lib.Dec.{eqb, leb}
use borrow.Author.Tests.{leb-true, eqb-true, ne_eqb, eq-eqb}
use Rattle.std.specs.Prelude.{Option, None, Some}
use Rattle.choice.proofs.ByTest.{by_test}
use Rattle.event.specs.declared.BusEndpoint.{BusEndpoint}
use Rattle.event.specs.declared.Event.{Event}
use Rattle.event.specs.declared.Event.TheVariants as event
use Rattle.epc.specs.Epc.{epc_of, takes}
use Rattle.state.specs.declared.Endpoint.{Endpoint}
use Rattle.state.specs.declared.Wait.{Wait}
use Rattle.state.specs.declared.Wait.TheVariants as wait
use Rattle.state.specs.declared.Chip.{Chip}
use Rattle.state.specs.State.{sender_at, receiver_at}
use Rattle.settings.specs.Settings.{operational}
use Rattle.window.specs.Window.{numbered}
use Rattle.tokens.specs.Tokens.{own, in_mask, out_mask, winner}
use Rattle.step.specs.Step.{quiet}
use Rattle.laws.specs.Place.{endpoint, Place, sends, receives, at, sending_place, receiving_place, Owner, is_owner}
use Rattle.laws.specs.Driver.{Piped, endpoint1, endpoint2}
use Rattle.laws.specs.Owner.{in_owner, out_owner, setup_owner, data_owner, owner, is_for}
use Rattle.laws.proofs.Frame.Matching.{in_by_lem, out_by_lem, quiet_looks}
use Rattle.laws.proofs.Frame.Lowest.{in_first, out_first, in_for_first, out_for_first}
use Rattle.driver.specs.Driver.{startable}
use Rattle.delivery.specs.Host.{elsewhere, other_token}
use Rattle.delivery.specs.World.{Pipes}
use Rattle.delivery.specs.Standing.{SetUp}

-- "a in 0..127, e, f in 1..15"
pub record Ranges (p : Pipes) : Type 0 where
  pub address : p.a ≤ 127
  pub sends_low : 1 ≤ p.e.0
  pub sends_high : p.e.0 ≤ 15
  pub receives_low : 1 ≤ p.f.0
  pub receives_high : p.f.0 ≤ 15

pub pipes_range : (p : Pipes) → startable p.a p.e p.f ≡ true → Ranges p
unfolding startable
pipes_range p h =
    let a : ℕ = p.a in
    let e : ℕ = p.e.0 in
    let f : ℕ = p.f.0 in
    let q : _ = (and-eq-true_iff (leb a 127 && (leb 1 e && leb e 15)) (leb 1 f && leb f 15)).0 h in
    let r : _ = (and-eq-true_iff (leb a 127) (leb 1 e && leb e 15)).0 q.0 in
    let s : _ = (and-eq-true_iff (leb 1 e) (leb e 15)).0 r.1 in
    let t : _ = (and-eq-true_iff (leb 1 f) (leb f 15)).0 q.1 in
    record {
      address = leb-true a 127 r.0;
      sends_low = leb-true 1 e s.0;
      sends_high = leb-true e 15 s.1;
      receives_low = leb-true 1 f t.0;
      receives_high = leb-true f 15 t.1;
    }

-- EPC 10 + n is enabled, not isochronous, without STALL, and of bus endpoint n
epc_number : (n : ℕ) → n ≤ 15 → (epc_of (0x10 + n)).number.0 ≡ n
epc_number n h = omega arith

epc_iso : (n : ℕ) → n ≤ 15 → (epc_of (0x10 + n)).iso ≡ false
epc_iso n h = ne_eqb ((0x10 + n) / 32 % 2) 1 (omega arith)

pub epc_unstalled : (n : ℕ) → n ≤ 15 → (epc_of (0x10 + n)).stall ≡ false
epc_unstalled n h = ne_eqb ((0x10 + n) / 128 % 2) 1 (omega arith)

epc_enabled : (n : ℕ) → n ≤ 15 → (epc_of (0x10 + n)).enabled ≡ true
epc_enabled n h = eq-eqb ((0x10 + n) / 16 % 2) 1 (omega arith)

epc_takes : (n : ℕ) → n ≤ 15 → (e : BusEndpoint) → takes (epc_of (0x10 + n)) e ≡ eqb n e.0
unfolding takes
epc_takes n h e = rw (epc_iso n h, epc_enabled n h, epc_number n h)

module _ (p : Pipes) (c : Chip) (r : Ranges p) (s : SetUp p c) where
  own_is : (a : ℕ) → own a c ≡ eqb p.a a
  unfolding own
  own_is a = rw (s.enabled, s.address)

  sender_takes_lem : (e : BusEndpoint) → takes (sender_at (numbered 1) c).epc e ≡ eqb p.e.0 e.0
  sender_takes_lem e = rw s.sends_as (epc_takes p.e.0 r.sends_high e)

  receiver_takes_lem : (e : BusEndpoint) → takes (receiver_at (numbered 1) c).epc e ≡ eqb p.f.0 e.0
  receiver_takes_lem e = rw s.receives_as (epc_takes p.f.0 r.receives_high e)

  -- The IN token of the one pipe is taken by endpoint 1, the OUT token of the other by endpoint 2.
  pub in_reaches : winner (in_mask p.a p.e c) ≡ Some (endpoint 1)
  in_reaches =
      in_first p.a p.e c (own_is p.a ∙ eq-eqb p.a p.a refl) (sender_takes_lem p.e ∙ eq-eqb p.e.0 p.e.0 refl)
      (ne_eqb p.e.0 0 (omega (arith, r.sends_low)))

  pub out_reaches : winner (out_mask p.a p.f c) ≡ Some (endpoint 2)
  out_reaches =
      out_first p.a p.f c (own_is p.a ∙ eq-eqb p.a p.a refl) (receiver_takes_lem p.f ∙ eq-eqb p.f.0 p.f.0 refl)
      (ne_eqb p.f.0 0 (omega (arith, r.receives_low)))

  -- So it is after the end of what was awaited, when the chip looks.
  pub in_reaches_then : winner (in_mask p.a p.e (quiet false c)) ≡ Some (endpoint 1)
  in_reaches_then = rw (in_by_lem p.a p.e c (quiet false c) (quiet_looks false c)) in_reaches

  pub out_reaches_then : winner (out_mask p.a p.f (quiet false c)) ≡ Some (endpoint 2)
  out_reaches_then = rw (out_by_lem p.a p.f c (quiet false c) (quiet_looks false c)) out_reaches

-- an endpoint that receives stands at no place that sends
receiving_away : (k : Endpoint) → at (receiving_place k) (sends (numbered 1)) ≡ false
unfolding receiving_place
receiving_away k = by_test (λ (q : Place). at q (sends (numbered 1)) ≡ false) _ (λ _. refl) (λ _. refl)

-- an IN is for no endpoint that receives, an OUT for none that sends, a SETUP for neither
module _ (a : ℕ) (e : BusEndpoint) (c : Chip) where
  pub in_not_receives : is_for (event.In a e) c (receives (numbered 1)) ≡ false
  unfolding owner
  in_not_receives =
      by_test (λ (o : Owner). is_owner o (receives (numbered 1)) ≡ false) _ (λ _. go (winner (in_mask a e c))) (λ _. refl)
    where
      away : (k : Endpoint) → at (sending_place k) (receives (numbered 1)) ≡ false
      away k = unfold sending_place in (by_test (λ (q : Place). at q (receives (numbered 1)) ≡ false) _ (λ _. refl) (λ _. refl))

      go : (w : Option Endpoint) → is_owner (in_owner w) (receives (numbered 1)) ≡ false
      go None = refl
      go (Some k) = away k

  pub out_not_sends : is_for (event.Out a e) c (sends (numbered 1)) ≡ false
  unfolding owner
  out_not_sends =
      by_test (λ (o : Owner). is_owner o (sends (numbered 1)) ≡ false) _ (λ _. go (winner (out_mask a e c))) (λ _. refl)
    where
      go : (w : Option Endpoint) → is_owner (out_owner w) (sends (numbered 1)) ≡ false
      go None = refl
      go (Some k) = receiving_away k

  pub setup_not_piped : (q : Place) → Piped q → is_for (event.Setup a e) c q ≡ false
  unfolding owner setup_owner
  setup_not_piped q endpoint1 =
      by_test (λ (o : Owner). is_owner o q ≡ false) _ (λ _. by_test (λ (o : Owner). is_owner o q ≡ false) _ (λ _. refl) (λ _. refl)) (λ _. refl)
  setup_not_piped q endpoint2 =
      by_test (λ (o : Owner). is_owner o q ≡ false) _ (λ _. by_test (λ (o : Owner). is_owner o q ≡ false) _ (λ _. refl) (λ _. refl)) (λ _. refl)

-- data is for no endpoint that sends
pub data_not_sends : (pid sound : ℕ) (c : Chip) → is_for (event.Data pid sound) c (sends (numbered 1)) ≡ false
unfolding owner
data_not_sends pid sound c =
    by_test (λ (o : Owner). is_owner o (sends (numbered 1)) ≡ false) _ (λ _. go c.pending.wait) (λ _. refl)
  where
    go : (w : Wait) → is_owner (data_owner w) (sends (numbered 1)) ≡ false
    go wait.Nothing = refl
    go (wait.Handshake k) = refl
    go (wait.Data k) = receiving_away k
    go wait.Setup = refl

-- ---- tokens of other transactions

swap : (x y : ℕ) → eqb x y ≡ true → eqb y x ≡ true
swap x y e = eq-eqb y x (sym (eqb-true x y e))

swapped : (x y : ℕ) → eqb x y ≡ eqb y x
swapped x y = go (eqb x y) (eqb y x) refl refl
  where
    go : (b c : Bool) → eqb x y ≡ b → eqb y x ≡ c → b ≡ c
    go true true e f = refl
    go true false e f = absurd {0} (false≢true (sym f ∙ swap x y e))
    go false true e f = absurd {0} (false≢true (sym e ∙ swap y x f))
    go false false e f = refl

no_both : (on x y z : Bool) → not (x && y) ≡ true → (on && (x && y && z)) ≡ false
no_both true true true z h = absurd {0} (false≢true h)
no_both true true false z h = refl
no_both true false y z h = refl
no_both false x y z h = refl

module _ (p : Pipes) (c : Chip) (r : Ranges p) (s : SetUp p c) where
  in_elsewhere : (x : ℕ) (y : BusEndpoint) → elsewhere p.a p.e x y ≡ true → is_for (event.In x y) c (sends (numbered 1)) ≡ false
  unfolding elsewhere
  in_elsewhere x y h =
      in_for_first x y c
      ∙ rw (own_is p c r s x, sender_takes_lem p c r s y, swapped p.a x, swapped p.e.0 y.0)
      (no_both (operational c) (eqb x p.a) (eqb y.0 p.e.0) (not (eqb y.0 0)) h)

  out_elsewhere : (x : ℕ) (y : BusEndpoint) → elsewhere p.a p.f x y ≡ true → is_for (event.Out x y) c (receives (numbered 1)) ≡ false
  unfolding elsewhere
  out_elsewhere x y h =
      out_for_first x y c
      ∙ rw (own_is p c r s x, receiver_takes_lem p c r s y, swapped p.a x, swapped p.f.0 y.0)
      (no_both (operational c) (eqb x p.a) (eqb y.0 p.f.0) (not (eqb y.0 0)) h)

  -- A token of another transaction is for neither endpoint of the driver.
  pub other_not_for : (t : Event) → other_token p.a p.e p.f t ≡ true → (q : Place) → Piped q → is_for t c q ≡ false
  unfolding other_token
  other_not_for (event.Read a) h q d = absurd {0} (false≢true h)
  other_not_for (event.Write a v) h q d = absurd {0} (false≢true h)
  other_not_for (event.In x y) h q endpoint1 = in_elsewhere x y h
  other_not_for (event.In x y) h q endpoint2 = in_not_receives x y c
  other_not_for (event.Out x y) h q endpoint1 = out_not_sends x y c
  other_not_for (event.Out x y) h q endpoint2 = out_elsewhere x y h
  other_not_for (event.Setup x y) h q d = setup_not_piped x y c q d
  other_not_for (event.Data pid sound) h q d = absurd {0} (false≢true h)
  other_not_for event.Ack h q d = absurd {0} (false≢true h)
  other_not_for event.Timeout h q d = absurd {0} (false≢true h)

-- Who takes a token, by who matches it: the lowest-numbered. So the endpoints of TXFIFO1 and RXFIFO1 take every token of their bus endpoint, but
-- for bus endpoint 0, at the chip's own address, and no other.
-- Assumes nothing.
use Prim.Native.Nat.{ℕ, ◌+◌, ◌*◌}
use mathlib.Core.Path.{◌≡◌, refl, ap, ◌∙◌}
use mathlib.Core.Bool.{Bool, true, false, ◌&&◌, ◌||◌, not}
use lib.Dec.{eqb}
use lib.Count.{count_trailing_zeros}
use Rattle.std.specs.Prelude.{Option, None, Some}
use Rattle.choice.specs.Choice.{pick}
use Rattle.window.specs.Window.{index_of, numbered}
use Rattle.event.specs.declared.BusEndpoint.{BusEndpoint}
use Rattle.event.specs.declared.Event.TheVariants as event
use Rattle.epc.specs.Bits.{bit_of}
use Rattle.epc.specs.Epc.{takes}
use Rattle.state.specs.declared.Endpoint.{Endpoint}
use Rattle.state.specs.declared.Chip.{Chip}
use Rattle.state.specs.State.{sender_at, receiver_at}
use Rattle.settings.specs.Settings.{operational}
use Rattle.tokens.specs.Tokens.{own, zero_takes, sender_takes, receiver_takes, in_mask, out_mask, winner}
use Rattle.laws.specs.Place.{endpoint, Place, sends, receives, sending_place, receiving_place, Owner, nobody, is_owner}
use Rattle.laws.specs.Owner.{in_owner, out_owner, owner, is_for}

-- "the lowest-numbered of all that match takes the token": of endpoint 0 and three others
abbrev pub lowest_of : ℕ → ℕ → ℕ → Bool → Bool → Bool → Bool → Option Endpoint
lowest_of i j k true x y z = Some (endpoint 0)
lowest_of i j k false true y z = Some (endpoint i)
lowest_of i j k false false true z = Some (endpoint j)
lowest_of i j k false false false true = Some (endpoint k)
lowest_of i j k false false false false = None

-- bit 0 is endpoint 0's; bits 1, 3, 5 are the senders', bits 2, 4, 6 the receivers'
bits : (o x y z : Bool)
    → (winner (bit_of o + 2 * bit_of x + 8 * bit_of y + 32 * bit_of z) ≡ lowest_of 1 3 5 o x y z)
    × (winner (bit_of o + 4 * bit_of x + 16 * bit_of y + 64 * bit_of z) ≡ lowest_of 2 4 6 o x y z)
unfolding winner count_trailing_zeros pick
bits true true true true = (refl, refl)
bits true true true false = (refl, refl)
bits true true false true = (refl, refl)
bits true true false false = (refl, refl)
bits true false true true = (refl, refl)
bits true false true false = (refl, refl)
bits true false false true = (refl, refl)
bits true false false false = (refl, refl)
bits false true true true = (refl, refl)
bits false true true false = (refl, refl)
bits false true false true = (refl, refl)
bits false true false false = (refl, refl)
bits false false true true = (refl, refl)
bits false false true false = (refl, refl)
bits false false false true = (refl, refl)
bits false false false false = (refl, refl)

-- n: bus endpoint 0; w: the chip's own address; d: address 0 with DEF; t: EP_EN, no ISO, and that bus endpoint
own_is : (n w d t : Bool) → (not (n && (w || d)) && (w && t)) ≡ (w && t && not n)
own_is true true d true = refl
own_is true true d false = refl
own_is true false true t = refl
own_is true false false t = refl
own_is false true d true = refl
own_is false true d false = refl
own_is false false d t = refl

-- the event is for the first of the three
first_sends : (o x y z : Bool) → is_owner (in_owner (lowest_of 1 3 5 o x y z)) (sends (numbered 1)) ≡ (not o && x)
unfolding sending_place index_of pick
first_sends true x y z = refl
first_sends false true y z = refl
first_sends false false true z = refl
first_sends false false false true = refl
first_sends false false false false = refl

first_receives : (o x y z : Bool) → is_owner (out_owner (lowest_of 2 4 6 o x y z)) (receives (numbered 1)) ≡ (not o && x)
unfolding receiving_place index_of pick
first_receives true x y z = refl
first_receives false true y z = refl
first_receives false false true z = refl
first_receives false false false true = refl
first_receives false false false false = refl

when_on : (b : Bool) (o : Owner) (p : Place) → is_owner (pick b o nobody) p ≡ (b && is_owner o p)
unfolding pick
when_on true o p = refl
when_on false o p = refl

module _ (a : ℕ) (e : BusEndpoint) (c : Chip) where
  -- The lowest-numbered of the endpoints that match an IN takes it.
  pub in_lowest : winner (in_mask a e c)
      ≡ lowest_of 1 3 5 (zero_takes a e c) (sender_takes a e (numbered 1) c) (sender_takes a e (numbered 2) c) (sender_takes a e (numbered 3) c)
  unfolding in_mask
  in_lowest = (bits (zero_takes a e c) (sender_takes a e (numbered 1) c) (sender_takes a e (numbered 2) c) (sender_takes a e (numbered 3) c)).0

  -- And so for an OUT.
  pub out_lowest : winner (out_mask a e c)
      ≡ lowest_of 2 4 6 (zero_takes a e c) (receiver_takes a e (numbered 1) c) (receiver_takes a e (numbered 2) c) (receiver_takes a e (numbered 3) c)
  unfolding out_mask
  out_lowest = (bits (zero_takes a e c) (receiver_takes a e (numbered 1) c) (receiver_takes a e (numbered 2) c) (receiver_takes a e (numbered 3) c)).1

  -- The endpoint of TXFIFO1 takes every IN for its bus endpoint, but for bus endpoint 0, at the chip's own address, whatever the others are.
  pub in_first : own a c ≡ true → takes (sender_at (numbered 1) c).epc e ≡ true → eqb e.0 0 ≡ false
      → winner (in_mask a e c) ≡ Some (endpoint 1)
  unfolding zero_takes sender_takes
  in_first w t n = in_lowest ∙ simp (n, w, t)

  -- The endpoint of RXFIFO1 takes every OUT for its bus endpoint, but for bus endpoint 0, at the chip's own address, whatever the others are.
  pub out_first : own a c ≡ true → takes (receiver_at (numbered 1) c).epc e ≡ true → eqb e.0 0 ≡ false
      → winner (out_mask a e c) ≡ Some (endpoint 2)
  unfolding zero_takes receiver_takes
  out_first w t n = out_lowest ∙ simp (n, w, t)

  -- The same of the event: it is for that endpoint exactly then, in the operational state.
  pub in_for_first : is_for (event.In a e) c (sends (numbered 1))
      ≡ (operational c && (own a c && takes (sender_at (numbered 1) c).epc e && not (eqb e.0 0)))
  unfolding owner zero_takes sender_takes
  in_for_first =
      when_on (operational c) (in_owner (winner (in_mask a e c))) (sends (numbered 1))
      ∙ rw (in_lowest, first_sends (zero_takes a e c) (sender_takes a e (numbered 1) c) (sender_takes a e (numbered 2) c) (sender_takes a e (numbered 3) c))
      (ap (λ (b : Bool). operational c && b) (own_is (eqb e.0 0) (own a c) (eqb a 0 && c.control.def) (takes (sender_at (numbered 1) c).epc e)))

  pub out_for_first : is_for (event.Out a e) c (receives (numbered 1))
      ≡ (operational c && (own a c && takes (receiver_at (numbered 1) c).epc e && not (eqb e.0 0)))
  unfolding owner zero_takes receiver_takes
  out_for_first =
      when_on (operational c) (out_owner (winner (out_mask a e c))) (receives (numbered 1))
      ∙ rw (out_lowest, first_receives (zero_takes a e c) (receiver_takes a e (numbered 1) c) (receiver_takes a e (numbered 2) c) (receiver_takes a e (numbered 3) c))
      (ap (λ (b : Bool). operational c && b) (own_is (eqb e.0 0) (own a c) (eqb a 0 && c.control.def) (takes (receiver_at (numbered 1) c).epc e)))

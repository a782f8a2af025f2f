-- The events of the host's turns: their fields are bytes, and which are tokens.
-- Assumes nothing.
use Prim.Native.Nat.{ℕ, zero, suc, ◌≤◌, ◌<◌}
use native.Mathlib.Omega.{arith}
use mathlib.Core.Path.{◌≡◌, refl}
use mathlib.Core.Bool.{Bool, true, false, false≢true}
use mathlib.Core.List.{List, [], ◌∷◌}
use Rattle.event.specs.declared.BusEndpoint.{BusEndpoint}
use Rattle.event.specs.declared.Event.{Event}
use Rattle.event.specs.declared.Event.TheVariants as event
use Rattle.event.specs.Event.{values_of}
use Rattle.epc.specs.Bits.{bit_of}
use Rattle.laws.specs.Typed.{Bytes, TypedEvent}
use Rattle.laws.specs.Settings.{is_access, is_token}
use Rattle.delivery.specs.Host.{other_token, other_rest}

pub no_bytes : Bytes []
no_bytes i = omega arith

byte_cons : (b : ℕ) (l : List ℕ) → b < 256 → Bytes l → Bytes (b ∷ l)
byte_cons b l h t zero = h
byte_cons b l h t (suc i) = t i

bit_byte : (b : Bool) → bit_of b < 256
bit_byte true = omega arith
bit_byte false = omega arith

pub in_typed : (a : ℕ) (e : BusEndpoint) → a ≤ 127 → e.0 ≤ 15 → TypedEvent (event.In a e)
unfolding values_of
in_typed a e h k = byte_cons a (e.0 ∷ []) (omega arith) (byte_cons e.0 [] (omega arith) no_bytes)

pub out_typed : (a : ℕ) (e : BusEndpoint) → a ≤ 127 → e.0 ≤ 15 → TypedEvent (event.Out a e)
unfolding values_of
out_typed a e h k = byte_cons a (e.0 ∷ []) (omega arith) (byte_cons e.0 [] (omega arith) no_bytes)

pub data_typed : (pid : Bool) (sound : ℕ) → sound < 256 → TypedEvent (event.Data (bit_of pid) sound)
unfolding values_of
data_typed pid sound h = byte_cons (bit_of pid) (sound ∷ 0 ∷ []) (bit_byte pid) (byte_cons sound (0 ∷ []) h (byte_cons 0 [] (omega arith) no_bytes))

pub ack_typed : TypedEvent event.Ack
unfolding values_of
ack_typed = no_bytes

pub timeout_typed : TypedEvent event.Timeout
unfolding values_of
timeout_typed = no_bytes

-- a token is no register access; nor is data, a host ACK or a timeout, nor are these tokens
pub token_no_access : (t : Event) → is_token t ≡ true → is_access t ≡ false
unfolding is_token is_access
token_no_access (event.Read a) h = absurd {0} (false≢true h)
token_no_access (event.Write a v) h = absurd {0} (false≢true h)
token_no_access (event.In a e) h = refl
token_no_access (event.Out a e) h = refl
token_no_access (event.Setup a e) h = refl
token_no_access (event.Data pid sound) h = refl
token_no_access event.Ack h = refl
token_no_access event.Timeout h = refl

pub other_is_token : (a : ℕ) (e f : BusEndpoint) (t : Event) → other_token a e f t ≡ true → is_token t ≡ true
unfolding other_token is_token
other_is_token a e f (event.Read r) h = absurd {0} (false≢true h)
other_is_token a e f (event.Write r v) h = absurd {0} (false≢true h)
other_is_token a e f (event.In x y) h = refl
other_is_token a e f (event.Out x y) h = refl
other_is_token a e f (event.Setup x y) h = refl
other_is_token a e f (event.Data pid sound) h = absurd {0} (false≢true h)
other_is_token a e f event.Ack h = absurd {0} (false≢true h)
other_is_token a e f event.Timeout h = absurd {0} (false≢true h)

-- what follows a token
pub rest_ends : (t : Event) → other_rest t ≡ true → (is_access t ≡ false) × (is_token t ≡ false)
unfolding other_rest is_access is_token
rest_ends (event.Read r) h = absurd {0} (false≢true h)
rest_ends (event.Write r v) h = absurd {0} (false≢true h)
rest_ends (event.In a e) h = absurd {0} (false≢true h)
rest_ends (event.Out a e) h = absurd {0} (false≢true h)
rest_ends (event.Setup a e) h = absurd {0} (false≢true h)
rest_ends (event.Data pid sound) h = (refl, refl)
rest_ends event.Ack h = (refl, refl)
rest_ends event.Timeout h = absurd {0} (false≢true h)

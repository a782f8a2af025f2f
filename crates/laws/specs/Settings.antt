-- NFSR, FAR and the EPCs, what is awaited, and the events that may change them.
use Rattle.std.specs.Prelude.{ℕ, ◌≡◌, Bool, true, false, ◌||◌, eqb}
use Rattle.event.specs.declared.Event.{Event}
use Rattle.event.specs.declared.Event.TheVariants as event
use Rattle.window.specs.declared.FifoNumber.{FifoNumber}
use Rattle.state.specs.declared.Chip.{Chip}
use Rattle.state.specs.State.{sender_at, receiver_at}

-- NFSR, AD_EN and the address are as they were
pub record Settled (c c' : Chip) : Type 0 where
  pub nfsr : c'.nfsr ≡ c.nfsr
  pub aden : c'.aden ≡ c.aden
  pub address : c'.address ≡ c.address

-- every EPC is as it was
pub record Epcs (c c' : Chip) : Type 0 where
  pub senders : (n : FifoNumber) → (sender_at n c').epc ≡ (sender_at n c).epc
  pub receivers : (n : FifoNumber) → (receiver_at n c').epc ≡ (receiver_at n c).epc

-- both
pub record Configured (c c' : Chip) : Type 0 where
  pub settled : Settled c c'
  pub epcs : Epcs c c'

-- NFSR, AD_EN, the address and what is awaited are as they were
pub record Untouched (c c' : Chip) : Type 0 where
  pub settled : Settled c c'
  pub wait : c'.pending.wait ≡ c.pending.wait

-- "00 MCNTRL", "04 FAR", "05 NFSR"
abbrev pub is_setting : ℕ → Bool
is_setting a = eqb a 0x00 || eqb a 0x04 || eqb a 0x05

-- a write of one of the three
unfoldable pub sets : Event → Bool
sets (event.Read a) = false
sets (event.Write a v) = is_setting a
sets (event.In a e) = false
sets (event.Out a e) = false
sets (event.Setup a e) = false
sets (event.Data pid sound) = false
sets event.Ack = false
sets event.Timeout = false

-- a register access, and a token
unfoldable pub is_access : Event → Bool
is_access (event.Read a) = true
is_access (event.Write a v) = true
is_access (event.In a e) = false
is_access (event.Out a e) = false
is_access (event.Setup a e) = false
is_access (event.Data pid sound) = false
is_access event.Ack = false
is_access event.Timeout = false

unfoldable pub is_token : Event → Bool
is_token (event.Read a) = false
is_token (event.Write a v) = false
is_token (event.In a e) = true
is_token (event.Out a e) = true
is_token (event.Setup a e) = true
is_token (event.Data pid sound) = false
is_token event.Ack = false
is_token event.Timeout = false

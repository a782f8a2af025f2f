-- What the set-up and the turns of the host leave standing, whatever is lost or damaged.
use Rattle.std.specs.Prelude.{◌+◌, ◌≤◌, ◌≡◌, ◌⊎◌, true, false, length}
use Rattle.epc.specs.Epc.{epc_of}
use Rattle.state.specs.declared.Wait.TheVariants.{Nothing, Handshake, Data}
use Rattle.state.specs.declared.Chip.{Chip}
use Rattle.state.specs.State.{sender_at, receiver_at}
use Rattle.settings.specs.Settings.{operational}
use Rattle.window.specs.Window.{numbered}
use Rattle.formed.specs.Formed.{well_formed}
use Rattle.laws.specs.Typed.{Bytes, Typed}
use Rattle.laws.specs.Place.{endpoint, sends, receives, awaited}
use Rattle.driver.specs.Driver.{startable}
use Rattle.delivery.specs.Host.{Open, over, acks, fails, datas, others, is_datas, Host}
use Rattle.delivery.specs.World.{Pipes, World}

-- what the chip awaits, by what the host is at; nothing, after a timeout
unfoldable pub Awaits : Open → Chip → Type 0
Awaits over c = c.pending.wait ≡ Nothing
Awaits acks c = (c.pending.wait ≡ Nothing) ⊎ (c.pending.wait ≡ Handshake (endpoint 1))
Awaits fails c = (c.pending.wait ≡ Nothing) ⊎ (c.pending.wait ≡ Handshake (endpoint 1)) ⊎ (c.pending.wait ≡ Data (endpoint 2))
Awaits datas c = (c.pending.wait ≡ Nothing) ⊎ (c.pending.wait ≡ Data (endpoint 2))
Awaits others c = (awaited (sends (numbered 1)) c ≡ false) × (awaited (receives (numbered 1)) c ≡ false)

-- the chip is as it was set up, and well formed
pub record SetUp (p : Pipes) (c : Chip) : Type 0 where
  pub well : well_formed c ≡ true
  pub operates : operational c ≡ true
  pub enabled : c.aden ≡ true
  pub address : c.address ≡ p.a
  pub sends_as : (sender_at (numbered 1) c).epc ≡ epc_of (0x10 + p.e.0)
  pub receives_as : (receiver_at (numbered 1) c).epc ≡ epc_of (0x10 + p.f.0)

-- the host's packet is of bytes, 64 at most; one that it holds has 1 at least, and it sends none that it does not hold
pub record Holding (h : Host) : Type 0 where
  pub bytes : Bytes h.packet
  pub fits : length h.packet ≤ 64
  pub some : h.holds ≡ true → 1 ≤ length h.packet
  pub sending : is_datas h.at ≡ true → h.holds ≡ true

pub record Standing (w : World) : Type 0 where
  pub startable_as : startable w.pipes.a w.pipes.e w.pipes.f ≡ true
  pub typed : Typed w.model
  pub as_set_up : SetUp w.pipes w.model.chip
  pub awaits : Awaits w.host.at w.model.chip
  pub holding : Holding w.host

-- What is awaited and held stays well formed: nothing, a new wait, a byte or a flush held beside a handshake, NFSR made operational.
-- Assumes nothing.
use Prim.Native.Nat.{ℕ}
use mathlib.Core.Path.{◌≡◌, refl}
use mathlib.Core.Bool.{Bool, true, false, ◌&&◌, ◌||◌, and-eq-true_iff}
use lib.Dec.{eqb}
use Rattle.state.specs.declared.Endpoint.{Endpoint}
use Rattle.state.specs.declared.Wait.{Wait}
use Rattle.state.specs.declared.Wait.TheVariants.{Nothing, Handshake, Data, Setup}
use Rattle.state.specs.declared.Pending.{Pending}
use Rattle.state.specs.State.{nothing, zero_place, awaiting_only}
use Rattle.settings.specs.Settings.{awaits_in}
use Rattle.formed.specs.Formed.{sends, receives, unheld, flush_beside, held_beside, pending_for}
use Rattle.laws.proofs.Formed.Facts.{WellPending}

-- Nothing awaited and nothing held, in the operational state and outside.
pub nothing_well : (o : Bool) → WellPending o nothing
unfolding pending_for unheld
nothing_well o = refl

-- A wait that begins: nothing is held yet.
pub handshake_well : (e : Endpoint) → sends e ≡ true → WellPending true (awaiting_only (Handshake e))
unfolding pending_for held_beside flush_beside
handshake_well e h = rw h

pub data_well : (e : Endpoint) → receives e ≡ true → WellPending true (awaiting_only (Data e))
unfolding pending_for unheld
data_well e h = rw h

pub setup_well : WellPending true (awaiting_only Setup)
unfolding pending_for unheld
setup_well = refl

-- a byte held, a flush held: beside a handshake alone
module _ (o : Bool) (e : Endpoint) (p : Pending) where
  held_in : (v : ℕ) (w : Wait) → awaits_in e w ≡ true → pending_for w o p ≡ true
      → pending_for w o (record { wait = w; holds = true; held = v; flush = p.flush }) ≡ true
  unfolding pending_for held_beside flush_beside
  held_in v Nothing a h = cc
  held_in v (Handshake x) a h =
      let d : _ = (and-eq-true_iff (o && sends x) (held_beside x p)).0 h in
      let b : _ = (and-eq-true_iff (p.holds || eqb p.held 0) (flush_beside x p)).0 d.1 in
      rw (d.0, b.1)
  held_in v (Data x) a h = cc
  held_in v Setup a h = cc

flush_in : (o : Bool) (p : Pending) (w : Wait) → awaits_in zero_place w ≡ true → pending_for w o p ≡ true
    → pending_for w o (record { wait = w; holds = p.holds; held = p.held; flush = true }) ≡ true
unfolding pending_for held_beside flush_beside
flush_in o p Nothing a h = cc
flush_in o p (Handshake x) a h =
    let d : _ = (and-eq-true_iff (o && sends x) (held_beside x p)).0 h in
    let b : _ = (and-eq-true_iff (p.holds || eqb p.held 0) (flush_beside x p)).0 d.1 in
    rw (d.0, b.0, a)
flush_in o p (Data x) a h = cc
flush_in o p Setup a h = cc

module _ (o : Bool) (p : Pending) (h : WellPending o p) where
  -- A command byte held where that endpoint awaits a handshake.
  pub held_well : (e : Endpoint) (v : ℕ) → awaits_in e p.wait ≡ true
      → WellPending o (record { wait = p.wait; holds = true; held = v; flush = p.flush })
  held_well e v a = held_in o e p v p.wait a h

  -- An RXC0 flush held where endpoint 0 awaits a handshake.
  pub flush_well : awaits_in zero_place p.wait ≡ true → WellPending o (record { wait = p.wait; holds = p.holds; held = p.held; flush = true })
  flush_well a = flush_in o p p.wait a h

-- What is awaited and held outside the operational state, nothing, may stand in it.
entered_in : (o : Bool) (p : Pending) (w : Wait) → pending_for w o p ≡ true → pending_for w true p ≡ true
unfolding pending_for
entered_in true p w h = h
entered_in false p Nothing h = h
entered_in false p (Handshake e) h = cc
entered_in false p (Data e) h = cc
entered_in false p Setup h = cc

pub entered_well : (o : Bool) (p : Pending) → WellPending o p → WellPending true p
entered_well o p h = entered_in o p p.wait h

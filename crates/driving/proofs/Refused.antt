-- Which refusal a call meets, by 01's numbers. A call that is refused hands both states back unchanged and takes no byte; a start that is refused
-- leaves the reset state and a driver that holds nothing.
-- Assumes nothing.
use Prim.Native.Nat.{ℕ}
use mathlib.Core.Path.{◌≡◌, refl}
use mathlib.Core.Logic.{◌≢◌}
use mathlib.Core.Bool.{Bool, true, false, not}
use mathlib.Core.List.{List, []}
use Rattle.std.specs.Prelude.{Result}
use Rattle.choice.specs.Choice.{pick}
use Rattle.choice.proofs.ByTest.{by_test}
use Rattle.event.specs.declared.BusEndpoint.{BusEndpoint}
use Rattle.state.specs.State.{Model, reset}
use Rattle.formed.specs.Formed.{well_formed}
use Rattle.driver.specs.declared.Driver.{Driver}
use Rattle.refusal.specs.declared.Refusal.{Refusal}
use Rattle.driver.specs.declared.Did.{Did}
use Rattle.driver.specs.Registers.{value, seen}
use Rattle.driver.specs.Driver.{refused_with, Call, call, fresh, startable, started, accepted, offered, answered, send_served}
use Rattle.driver.proofs.Cases.{offer_cases}
use Rattle.receiving.specs.Receive.{flushing, accepting, judged, receive_served}

-- ---- by which number; an offer's law is `offer_number` of the driver

abbrev Number : ℕ → Call → Type 0
Number n x = refused_with x.did ≡ n

either : (b : Bool) (x y : Call) (i j : ℕ) → Number i x → Number j y → Number (pick b i j) (pick b x y)
unfolding pick
either true x y i j p q = p
either false x y i j p q = q

accepted_number : (s : List ℕ) (m : Model) (d : Driver) → Number 0 (accepted s m d)
unfolding accepted
accepted_number s m d = refl

answered_number : (status : ℕ) (m : Model) (d : Driver) → Number 0 (answered status m d)
unfolding answered
answered_number status m d = by_test (Number 0) _ (λ _. by_test (Number 0) _ (λ _. refl) (λ _. refl)) (λ _. refl)

judged_number : (status : ℕ) (m : Model) (d : Driver) → Number 0 (judged status m d)
unfolding judged flushing accepting
judged_number status m d =
    by_test (Number 0) _ (λ _. refl) (λ _. by_test (Number 0) _ (λ _. by_test (Number 0) _ (λ _. refl) (λ _. refl)) (λ _. refl))

-- "a in 0..127, e, f in 1..15 (else 4 ..)"
pub start_number : (a : ℕ) (e f : BusEndpoint) → refused_with (started a e f).did ≡ pick (startable a e f) 0 4
unfolding started
start_number a e f = either (startable a e f) _ _ 0 4 refl refl

-- "5 state not well formed"
pub send_number : (m : Model) (d : Driver) → refused_with (send_served m d).did ≡ pick (not (well_formed m.chip)) 5 0
unfolding send_served
send_number m d = either (not (well_formed m.chip)) _ _ 5 0 refl (answered_number (value 0x2A m) (seen 0x2A m) d)

pub receive_number : (m : Model) (d : Driver) → refused_with (receive_served m d).did ≡ pick (not (well_formed m.chip)) 5 0
unfolding receive_served
receive_number m d = either (not (well_formed m.chip)) _ _ 5 0 refl (judged_number (value 0x2E m) (seen 0x2E m) d)

-- ---- a refusal changes nothing

pub record Unchanged (m : Model) (d : Driver) (x : Call) : Type 0 where
  pub model : x.model ≡ m
  pub driver : x.driver ≡ d
  pub bytes : x.bytes ≡ []

abbrev pub IfRefused : Model → Driver → Call → Type 0
IfRefused m d x = refused_with x.did ≢ 0 → Unchanged m d x

given : (m : Model) (d : Driver) (x : Result Did Refusal) → IfRefused m d (call m d x)
given m d x some = record { model = refl; driver = refl; bytes = refl }

unrefused : (m : Model) (d : Driver) (x : Call) → Number 0 x → IfRefused m d x
unrefused m d x none some = absurd {0} (some none)

-- "(else 4, with the reset state and a driver that holds nothing)"
pub start_refused : (a : ℕ) (e f : BusEndpoint) → IfRefused reset fresh (started a e f)
unfolding started
start_refused a e f = by_test (IfRefused reset fresh) _ (λ _. unrefused reset fresh _ refl) (λ _. given reset fresh _)

-- "5 .. state as given"; "6 .. both states as given"; "7 .. both states as given"
pub offer_refused : (s : List ℕ) (m : Model) (d : Driver) → IfRefused m d (offered s m d)
offer_refused s m d = offer_cases (IfRefused m d) s m d (λ why. given m d _) (unrefused m d _ (accepted_number s m d))

pub send_refused : (m : Model) (d : Driver) → IfRefused m d (send_served m d)
unfolding send_served
send_refused m d =
    by_test (IfRefused m d) _ (λ _. given m d _) (λ _. unrefused m d _ (answered_number (value 0x2A m) (seen 0x2A m) d))

pub receive_refused : (m : Model) (d : Driver) → IfRefused m d (receive_served m d)
unfolding receive_served
receive_refused m d =
    by_test (IfRefused m d) _ (λ _. given m d _) (λ _. unrefused m d _ (judged_number (value 0x2E m) (seen 0x2E m) d))

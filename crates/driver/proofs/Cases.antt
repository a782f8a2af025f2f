-- An offer is refused and changes nothing, or it is accepted; which refusal it meets, by 01's numbers.
-- Assumes nothing.
use Prim.Native.Nat.{ℕ}
use mathlib.Core.Path.{◌≡◌, refl}
use mathlib.Core.Bool.{Bool, true, false, not}
use mathlib.Core.List.{List}
use lib.ListN.{length}
use lib.Dec.{ltb}
use Rattle.std.specs.Prelude.{Result, Ok, Err, ⊤}
use Rattle.choice.specs.Choice.{pick}
use Rattle.refusal.specs.declared.Refusal.{Refusal}
use Rattle.refusal.specs.declared.Refusal.TheVariants.{NotWellFormed, OfferTooLong, PacketHeld}
use Rattle.state.specs.State.{Model}
use Rattle.formed.specs.Formed.{well_formed}
use Rattle.driver.specs.declared.Driver.{Driver}
use Rattle.driver.specs.Driver.{refused_with, Call, call, accepted, admission, offered_by, offered}

module _ (P : Call → Type 0) (s : List ℕ) (m : Model) (d : Driver) (refused : (why : Refusal) → P (call m d (Err why))) (taken : P (accepted s m d)) where
  by_admission : (x : Result ⊤ Refusal) → P (offered_by x s m d)
  unfolding offered_by
  by_admission (Ok x) = taken
  by_admission (Err why) = refused why

  pub offer_cases : P (offered s m d)
  unfolding offered
  offer_cases = by_admission (admission (length s) m.chip d)

module _ (s : List ℕ) (m : Model) (d : Driver) where
  by_tests : (a b c : Bool)
      → refused_with
      (offered_by (pick a (Err NotWellFormed) (pick b (Err OfferTooLong) (pick c (Err PacketHeld) (Ok tt)))) s m d).did
      ≡ pick a 5 (pick b 6 (pick c 7 0))
  unfolding offered_by accepted pick
  by_tests true b c = refl
  by_tests false true c = refl
  by_tests false false true = refl
  by_tests false false false = refl

  -- "5 before .. 6 and 7; 6 before 7"
  pub offer_number : refused_with (offered s m d).did ≡ pick (not (well_formed m.chip)) 5 (pick (ltb 64 (length s)) 6 (pick d.held 7 0))
  unfolding offered admission
  offer_number = by_tests (not (well_formed m.chip)) (ltb 64 (length s)) d.held

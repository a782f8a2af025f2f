-- A property of both branches is a property of the choice; each branch has what its test said.
-- Assumes nothing.
use mathlib.Core.Path.{◌≡◌, refl}
use mathlib.Core.Bool.{Bool, true, false}
use Rattle.choice.specs.Choice.{pick}

pub by_test : {A : Type 0} (P : A → Type 0) (b : Bool) {x y : A} → (b ≡ true → P x) → (b ≡ false → P y) → P (pick b x y)
unfolding pick
by_test P true f g = f refl
by_test P false f g = g refl

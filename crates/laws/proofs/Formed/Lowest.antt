-- The lowest of those that match an IN sends, of those that match an OUT receives.
-- Assumes nothing.
use Prim.Native.Nat.{ℕ}
use mathlib.Core.Path.{◌≡◌, refl}
use mathlib.Core.Bool.{Bool, true, false}
use Rattle.std.specs.Prelude.{Option, None, Some}
use Rattle.state.specs.declared.Endpoint.{Endpoint}
use Rattle.formed.specs.Formed.{sends, receives}
use Rattle.laws.specs.Place.{endpoint}
use Rattle.laws.proofs.Frame.Lowest.{lowest_of}

-- what is said of whoever takes a token, if anybody does
abbrev pub whoever : (Endpoint → Bool) → Option Endpoint → Bool
whoever p None = true
whoever p (Some e) = p e

-- of endpoint 0 and three others, the lowest that matches is one of them
lowest : (p : Endpoint → Bool) (i j k : ℕ) → p (endpoint 0) ≡ true → p (endpoint i) ≡ true → p (endpoint j) ≡ true → p (endpoint k) ≡ true
    → (a b c d : Bool) → whoever p (lowest_of i j k a b c d) ≡ true
lowest p i j k o x y z true b c d = o
lowest p i j k o x y z false true c d = x
lowest p i j k o x y z false false true d = y
lowest p i j k o x y z false false false true = z
lowest p i j k o x y z false false false false = refl

pub lowest_sends : (a b c d : Bool) → whoever sends (lowest_of 1 3 5 a b c d) ≡ true
unfolding sends
lowest_sends = lowest sends _ _ _ refl refl refl refl

pub lowest_receives : (a b c d : Bool) → whoever receives (lowest_of 2 4 6 a b c d) ≡ true
unfolding receives
lowest_receives = lowest receives _ _ _ refl refl refl refl

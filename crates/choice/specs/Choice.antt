-- The choice by a test, as every definition of this project writes it: pick b x y is x if b, else y.
-- It stays shut until a proof opens it, so that a law can see the test.
use Rattle.std.specs.Prelude.{Bool, true, false}

unfoldable pub pick : {A : Type 0} → Bool → A → A → A
pick true a b = a
pick false a b = b

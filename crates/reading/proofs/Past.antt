-- A number, or fields, read from past a place: they end past it, or their refusal's number is one of 1 to 4.
-- Assumes nothing.
use Prim.Native.Nat.{ℕ, ◌+◌, ◌≤◌, ◌<◌}
use mathlib.Core.List.{List, [], ◌∷◌}
use native.Mathlib.Omega.{arith}
use lib.Dec.{leb, eqb}
use Rattle.choice.specs.Choice.{pick}
use Rattle.choice.proofs.ByTest.{by_test}
use Rattle.trace.specs.Number.{Taken, value, refused, number_from, number_at}
use Rattle.trace.specs.Record.{Fields, fields, rejected, before, field, fields_at}

abbrev pub Numbered : ℕ → Type 0
Numbered k = (1 ≤ k) × (k ≤ 4)

unfoldable pub NumberPast : ℕ → Taken → Type 0
NumberPast place (value v next) = place < next
NumberPast place (refused k) = Numbered k

unfoldable pub FieldsPast : ℕ → Fields → Type 0
FieldsPast place (fields vs next) = place < next
FieldsPast place (rejected k) = Numbered k

module _ (place : ℕ) where
  -- a number whose first byte says that a second comes
  pub second_past : (at v c : ℕ) → place ≤ at + 1 → NumberPast place (pick (eqb c 0) (refused 2) (pick (leb 128 c) (refused 2) (value v (at + 2))))
  unfolding NumberPast
  second_past at v c h = by_test (NumberPast place) _ (λ _. omega arith) (λ _. by_test (NumberPast place) _ (λ _. omega arith) (λ _. omega arith))

  pub number_past : (at : ℕ) (l : List ℕ) → place ≤ at → NumberPast place (number_from at l)
  unfolding number_from NumberPast
  number_past at [] h = omega arith
  number_past at (b ∷ []) h = by_test (NumberPast place) _ (λ _. omega arith) (λ _. omega arith)
  number_past at (b ∷ c ∷ rest) h = by_test (NumberPast place) _ (λ _. omega arith) (λ _. second_past at _ c (omega arith))

  pub before_past : (v : ℕ) (f : Fields) → FieldsPast place f → FieldsPast place (before v f)
  unfolding before FieldsPast
  before_past v (fields vs n) h = h
  before_past v (rejected k) h = h

  pub field_past : (m : ℕ) (t : Taken) (others : ℕ → Fields) → NumberPast place t → ((n : ℕ) → place < n → FieldsPast place (others n))
      → FieldsPast place (field m t others)
  unfolding field NumberPast FieldsPast
  field_past m (value v n) others h o = by_test (FieldsPast place) _ (λ _. before_past v (others n) (o n h)) (λ _. omega arith)
  field_past m (refused k) others h o = h

  pub fields_past : (trace : List ℕ) (at : ℕ) (ms : List ℕ) → place < at → FieldsPast place (fields_at trace at ms)
  unfolding fields_at FieldsPast
  fields_past trace at [] h = h
  fields_past trace at (m ∷ ms) h = field_past m (number_at trace at) _ (number_past at _ (omega arith)) (λ n l. fields_past trace n ms l)

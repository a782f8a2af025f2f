-- Where a number and a run of fields end: past their start, and never past the trace's end.
-- Assumes nothing.
use Prim.Native.Nat.{ℕ, ◌+◌, ◌≤◌, ◌<◌}
use mathlib.Core.Path.{◌≡◌, refl}
use mathlib.Core.Bool.{Bool, true, false}
use mathlib.Core.List.{List, [], ◌∷◌}
use native.Mathlib.Omega.{arith}
use lib.ListN.{length, drop, length-drop}
use lib.Dec.{leb, ltb}
use Rattle.choice.specs.Choice.{pick}
use Rattle.choice.proofs.ByTest.{by_test}
use Rattle.trace.specs.Number.{Taken, value, refused, number_from, number_at}
use Rattle.trace.specs.Record.{Fields, fields, rejected, before, field, fields_at}

-- a first byte below 128 is the number, whatever follows
pub one_byte : (at v : ℕ) (rest : List ℕ) → ltb v 128 ≡ true → number_from at (v ∷ rest) ≡ value v (at + 1)
unfolding number_from pick
one_byte at v [] h = rw h
one_byte at v (c ∷ rest) h = rw h

-- the place after a number, where there is one
pub record Ends (at size : ℕ) (t : Taken) : Type 0 where
  pub ends : (v next : ℕ) → t ≡ value v next → (at < next) × (next ≤ at + size)

refuses : (at size k : ℕ) → Ends at size (refused k)
refuses at size k = record { ends = λ v next e. let z : ◌≡◌ {A = ℕ} 0 1 = cc in (omega arith, omega arith) }

gives : (at size u after : ℕ) → at < after → after ≤ at + size → Ends at size (value u after)
gives at size u after h l = record { ends = λ v next e. let p : after ≡ next = cc in (omega arith, omega arith) }

number_ends : (at : ℕ) (l : List ℕ) → Ends at (length l) (number_from at l)
unfolding number_from
number_ends at [] = refuses at 0 1
number_ends at (b ∷ []) = by_test (Ends at 1) _ (λ _. gives at 1 b (at + 1) (omega arith) (omega arith)) (λ _. refuses at 1 1)
number_ends at (b ∷ c ∷ rest) =
    let size = length (b ∷ c ∷ rest) in
    by_test (Ends at size) _ (λ _. gives at size b (at + 1) (omega arith) (omega arith)) (λ _.
    by_test (Ends at size) _ (λ _. refuses at size 2) (λ _.
    by_test (Ends at size) _ (λ _. refuses at size 2) (λ _.
    gives at size _ (at + 2) (omega arith) (omega arith))))

pub number_within : (trace : List ℕ) (at v next : ℕ) → number_at trace at ≡ value v next → (at < next) × (next ≤ length trace)
number_within trace at v next e =
    let h = (number_ends at (drop at trace)).ends v next e in
    (omega arith, omega (arith, length-drop at trace))

-- fields that were read: the first number, in range, and the others after it
pub record Read (t : Taken) (most : ℕ) (others : ℕ → Fields) (vs : List ℕ) (next : ℕ) : Type 0 where
  pub first : ℕ
  pub then : ℕ
  pub rest : List ℕ
  pub number : t ≡ value first then
  pub inside : leb first most ≡ true
  pub after : others then ≡ fields rest next
  pub all : vs ≡ first ∷ rest

before_read : (v : ℕ) (f : Fields) (vs : List ℕ) (next : ℕ) → before v f ≡ fields vs next → (rest : List ℕ) × (f ≡ fields rest next) × (vs ≡ v ∷ rest)
unfolding before
before_read v (fields ws n) vs next e = let p : n ≡ next = cc in (ws, rw p, cc)
before_read v (rejected k) vs next e = let z : ◌≡◌ {A = ℕ} 0 1 = cc in absurd (omega arith)

pub field_read : (t : Taken) (most : ℕ) (others : ℕ → Fields) (vs : List ℕ) (next : ℕ)
    → field most t others ≡ fields vs next → Read t most others vs next
unfolding field pick
field_read (refused k) most others vs next e = let z : ◌≡◌ {A = ℕ} 0 1 = cc in absurd (omega arith)
field_read (value v n) most others vs next e = go (leb v most) refl e
  where
    go : (b : Bool) → leb v most ≡ b → pick b (before v (others n)) (rejected 4) ≡ fields vs next → Read (value v n) most others vs next
    go false p q = let z : ◌≡◌ {A = ℕ} 0 1 = cc in absurd (omega arith)
    go true p q =
        let r = before_read v (others n) vs next q in
        record { first = v; then = n; rest = r.0; number = refl; inside = p; after = r.1; all = r.2 }

pub fields_within : (trace : List ℕ) (at : ℕ) (ms vs : List ℕ) (next : ℕ) → fields_at trace at ms ≡ fields vs next
    → at ≤ length trace → (at ≤ next) × (next ≤ length trace)
unfolding fields_at
fields_within trace at [] vs next e h = let p : at ≡ next = cc in (omega arith, omega arith)
fields_within trace at (m ∷ ms) vs next e h =
    let r = field_read (number_at trace at) m (λ n. fields_at trace n ms) vs next e in
    let w = number_within trace at r.first r.then r.number in
    let i = fields_within trace r.then ms r.rest next r.after (omega arith) in
    (omega arith, omega arith)

-- where there is a field, the trace did not end before it
pub some_fields_within : (trace : List ℕ) (at m : ℕ) (ms vs : List ℕ) (next : ℕ) → fields_at trace at (m ∷ ms) ≡ fields vs next → (at < next) × (next ≤ length trace)
unfolding fields_at
some_fields_within trace at m ms vs next e =
    let r = field_read (number_at trace at) m (λ n. fields_at trace n ms) vs next e in
    let w = number_within trace at r.first r.then r.number in
    let i = fields_within trace r.then ms r.rest next r.after (omega arith) in
    (omega arith, omega arith)

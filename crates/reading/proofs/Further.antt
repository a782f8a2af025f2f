-- What bytes put after a trace can change: nothing but the end and a refusal 1, and a refusal 1 not into a record that ends within the trace.
-- Assumes nothing.
use Prim.Native.Nat.{ℕ, ◌+◌, ◌-◌, ◌≤◌, ◌<◌}
use mathlib.Core.Path.{◌≡◌, refl}
use mathlib.Core.Bool.{Bool, true, false}
use mathlib.Core.List.{List, [], ◌∷◌, ◌++◌}
use native.Mathlib.Omega.{arith}
use lib.ListN.{length, drop, length-append, length-drop, drop_of_length-le}
use lib.Seq.{drop-append-le}
use lib.Dec.{leb}
use borrow.Author.Tests.{leb-true, leb-false, lt-ltb, le-leb}
use Rattle.choice.specs.Choice.{pick}
use Rattle.choice.proofs.ByTest.{by_test}
use Rattle.event.specs.declared.Event.{Event}
use Rattle.trace.specs.Number.{Taken, value, refused, number_from, number_at}
use Rattle.event.specs.Event.{ranges, count_of}
use Rattle.trace.specs.Record.{Fields, fields, rejected, before, field, fields_at, Reading, event, end, refuse, body_at, record_at, read_at}
use Rattle.reading.proofs.Past.{NumberPast, FieldsPast, second_past, number_past, before_past, field_past, fields_past}

-- a record that ends past a place
RecordPast : ℕ → Reading → Type 0
RecordPast size (event e p n) = size < n
RecordPast size end = Unit
RecordPast size (refuse k p) = Unit

-- what is read from a trace, and from the trace with more after it: the same, or "cut" and then something that ends past the trace
data Grown {A : Type 0} (cut : A) (Past : A → Type 0) : A → A → Type 0 where
  same : {a : A} → Grown cut Past a a
  past : {b : A} → Past b → Grown cut Past cut b

abbrev NumberGrown : ℕ → Taken → Taken → Type 0
NumberGrown size = Grown (refused 1) (NumberPast size)

abbrev FieldsGrown : ℕ → Fields → Fields → Type 0
FieldsGrown size = Grown (rejected 1) (FieldsPast size)

abbrev RecordGrown : ℕ → ℕ → Reading → Reading → Type 0
RecordGrown size at = Grown (refuse 1 at) (RecordPast size)

both : {A : Type 0} {cut : A} {Past : A → Type 0} {x y x' y' : A} (b : Bool) → Grown cut Past x x' → Grown cut Past y y' → Grown cut Past (pick b x y) (pick b x' y')
unfolding pick
both true g h = g
both false g h = h

-- ---- a number

from_grown : (at : ℕ) (l u : List ℕ) → NumberGrown (at + length l) (number_from at l) (number_from at (l ++ u))
unfolding number_from
from_grown at [] u = past (number_past (at + 0) at u (omega arith))
from_grown at (b ∷ []) [] = same
from_grown at (b ∷ []) (c ∷ u) = both _ same (past (second_past (at + 1) at _ c (omega arith)))
from_grown at (b ∷ c ∷ l) u = same

module _ (s u : List ℕ) where
  number_grown : (at : ℕ) → NumberGrown (length s) (number_at s at) (number_at (s ++ u) at)
  unfolding number_from
  number_grown at = go (leb at (length s)) refl
    where
      go : (b : Bool) → leb at (length s) ≡ b → NumberGrown (length s) (number_at s at) (number_at (s ++ u) at)
      go true h =
          let l = leb-true at (length s) h in
          let q : at + length (drop at s) ≡ length s = rw length-drop (omega arith) in
          rw (drop-append-le at s u l) (rw q at (from_grown at (drop at s) u))
      go false h =
          let l = leb-false at (length s) h in
          let o : length s ≤ at = omega arith in
          rw (drop_of_length-le s o) (past (number_past (length s) at (drop at (s ++ u)) o))

  -- ---- fields

  before_grown : {f f' : Fields} (v : ℕ) → FieldsGrown (length s) f f' → FieldsGrown (length s) (before v f) (before v f')
  unfolding before
  before_grown v same = same
  before_grown v (past {b = f} h) = past (before_past (length s) v f h)

  field_grown : {t t' : Taken} (m : ℕ) (ms : List ℕ) → NumberGrown (length s) t t'
      → ((n : ℕ) → FieldsGrown (length s) (fields_at s n ms) (fields_at (s ++ u) n ms))
      → FieldsGrown (length s) (field m t (λ n. fields_at s n ms)) (field m t' (λ n. fields_at (s ++ u) n ms))
  unfolding field
  field_grown m ms (same {a = value v n}) i = both _ (before_grown v (i n)) same
  field_grown m ms (same {a = refused k}) i = same
  field_grown m ms (past {b = t} h) i = past (field_past (length s) m t _ h (λ n l. fields_past (length s) (s ++ u) n ms l))

  fields_grown : (at : ℕ) (ms : List ℕ) → FieldsGrown (length s) (fields_at s at ms) (fields_at (s ++ u) at ms)
  unfolding fields_at
  fields_grown at [] = same
  fields_grown at (m ∷ ms) = field_grown m ms (number_grown at) (λ n. fields_grown n ms)

  -- ---- a record

  payload_past : (trace : List ℕ) (at k : ℕ) (vs : List ℕ) (p : ℕ) → length s < p + count_of k vs → RecordPast (length s) (body_at trace at k (fields vs p))
  unfolding body_at RecordPast
  payload_past trace at k vs p h = by_test (RecordPast (length s)) _ (λ _. h) (λ _. tt)

  body_past : (trace : List ℕ) (at k : ℕ) (f : Fields) → FieldsPast (length s) f → RecordPast (length s) (body_at trace at k f)
  unfolding body_at FieldsPast RecordPast
  body_past trace at k (fields vs p) h = payload_past trace at k vs p (omega arith)
  body_past trace at k (rejected j) h = tt

  body_grown : {f f' : Fields} (at k : ℕ) → FieldsGrown (length s) f f'
      → RecordGrown (length s) at (body_at s at k f) (body_at (s ++ u) at k f')
  unfolding body_at RecordPast pick
  body_grown at k (same {a = fields vs p}) =
      by_test (λ r. RecordGrown (length s) at r (body_at (s ++ u) at k (fields vs p))) (leb (count_of k vs) (length s - p))
      (λ h.
      let l = leb-true (count_of k vs) (length s - p) h in
      rw (le-leb (count_of k vs) (length (s ++ u) - p) (rw length-append (omega arith))) same)
      (λ h. past (payload_past (s ++ u) at k vs p (omega (arith, leb-false (count_of k vs) (length s - p) h))))
  body_grown at k (same {a = rejected j}) = same
  body_grown at k (past {b = f} h) = past (body_past (s ++ u) at k f h)

  record_past : (trace : List ℕ) (at : ℕ) (t : Taken) → NumberPast (length s) t → RecordPast (length s) (record_at trace at t)
  unfolding record_at NumberPast RecordPast
  record_past trace at (value k n) h =
      by_test (RecordPast (length s)) _ (λ _. body_past trace at k _ (fields_past (length s) trace n (ranges k) h)) (λ _. tt)
  record_past trace at (refused k) h = tt

  record_grown : {t t' : Taken} (at : ℕ) → NumberGrown (length s) t t'
      → RecordGrown (length s) at (record_at s at t) (record_at (s ++ u) at t')
  unfolding record_at
  record_grown at (same {a = value k n}) = both _ (body_grown at k (fields_grown n (ranges k))) same
  record_grown at (same {a = refused k}) = same
  record_grown at (past {b = t} h) = past (record_past (s ++ u) at t h)

  read_grown : (at : ℕ) → at < length s → RecordGrown (length s) at (read_at s at) (read_at (s ++ u) at)
  unfolding read_at pick
  read_grown at h =
      rw (lt-ltb at (length s) h, lt-ltb at (length (s ++ u)) (rw length-append (omega arith))) (record_grown at (number_grown at))

  -- more bytes change no answer but the end and a refusal 1
  pub more_same : (at : ℕ) → at < length s → (read_at s at ≡ refuse 1 at → ⊥) → read_at (s ++ u) at ≡ read_at s at
  more_same at h = kept (read_grown at h)
    where
      kept : {r r' : Reading} → RecordGrown (length s) at r r' → (r ≡ refuse 1 at → ⊥) → r' ≡ r
      kept same n = refl
      kept (past o) n = absurd (n refl)

  -- fewer bytes change no record that ends within them
  pub fewer_same : (at : ℕ) → at < length s → (e : Event) (p n : ℕ) → read_at (s ++ u) at ≡ event e p n → n ≤ length s → read_at (s ++ u) at ≡ read_at s at
  unfolding RecordPast
  fewer_same at h = kept (read_grown at h)
    where
      kept : {r r' : Reading} → RecordGrown (length s) at r r' → (e : Event) (p n : ℕ) → r' ≡ event e p n → n ≤ length s → r' ≡ r
      kept same e p n q l = refl
      kept (past o) e p n q l = absurd (omega (arith, rw q at o))

-- What each answer of the reader says of the trace: an event stands there, as a kind and its values in range; the end; a refusal's number and place.
-- And back: where an event stands, the reader gives it.
-- Assumes nothing.
use Prim.Native.Nat.{ℕ, ◌+◌, ◌-◌, ◌≤◌, ◌<◌}
use mathlib.Core.Path.{◌≡◌, refl}
use mathlib.Core.Bool.{true}
use mathlib.Core.List.{List, [], ◌∷◌}
use native.Mathlib.Omega.{arith}
use lib.ListN.{length}
use lib.Dec.{leb}
use borrow.Author.Tests.{ltb-false, leb-true, lt-ltb, le-leb}
use Rattle.choice.specs.Choice.{pick}
use Rattle.choice.proofs.ByTest.{by_test}
use Rattle.event.specs.declared.Event.{Event}
use Rattle.trace.specs.Number.{Taken, value, refused, number_at}
use Rattle.event.specs.Event.{is_kind, ranges, event_of, count_of, kind_of, values_of, in_range}
use Rattle.trace.specs.Record.{Fields, fields, rejected, fields_at, Reading, event, end, refuse, body_at, record_at, read_at}
use Rattle.trace.proofs.Within.{number_within, field_read, fields_within}
use Rattle.reading.proofs.Past.{NumberPast, FieldsPast, number_past, fields_past}
use Rattle.reading.proofs.Table.{Fits, none, more, event_of_lem, kind_of_lem, range_fits, fits_range}

-- an event, its payload from p and the next record at n
pub record Stands (trace : List ℕ) (at : ℕ) (e : Event) (p n : ℕ) : Type 0 where
  pub first : ℕ
  pub kind : number_at trace at ≡ value (kind_of e) first
  pub values : fields_at trace first (ranges (kind_of e)) ≡ fields (values_of e (n - p)) p
  pub range : in_range e (n - p) ≡ true
  pub header : at < p
  pub payload : p ≤ n
  pub inside : n ≤ length trace

-- what an answer says
unfoldable pub Answered : List ℕ → ℕ → Reading → Type 0
Answered trace at (event e p n) = Stands trace at e p n
Answered trace at end = length trace ≤ at
Answered trace at (refuse k p) = (p ≡ at) × (1 ≤ k) × (k ≤ 4)

fields_fit : (trace : List ℕ) (at : ℕ) (ms vs : List ℕ) (next : ℕ) → fields_at trace at ms ≡ fields vs next → Fits vs ms
unfolding fields_at
fields_fit trace at [] vs next e = let p : vs ≡ [] = cc in rw p none
fields_fit trace at (m ∷ ms) vs next e =
    let r = field_read (number_at trace at) m (λ n. fields_at trace n ms) vs next e in
    rw r.all (more r.inside (fields_fit trace r.then ms r.rest next r.after))

module _ (trace : List ℕ) (at : ℕ) where
  body_answers : (k first : ℕ) → number_at trace at ≡ value k first → is_kind k ≡ true → (f : Fields) → fields_at trace first (ranges k) ≡ f → FieldsPast at f
      → Answered trace at (body_at trace at k f)
  unfolding body_at Answered FieldsPast
  body_answers k first e h (fields vs p) q g = by_test (Answered trace at) _ there (λ _. (refl, omega arith, omega arith))
    where
      there : leb (count_of k vs) (length trace - p) ≡ true → Stands trace at (event_of k vs) p (p + count_of k vs)
      there t =
          let f = fields_fit trace first (ranges k) vs p q in
          let b = event_of_lem k vs h f in
          let c : p + count_of k vs - p ≡ count_of k vs = omega arith in
          let w = number_within trace at k first e in
          let i = fields_within trace first (ranges k) vs p q w.1 in
          record {
            first = first;
            kind = rw b.0 e;
            values = rw (c, b.0, b.1) q;
            range = rw c (fits_range (event_of k vs) (count_of k vs) (rw (b.0, b.1) f) (rw (b.0, b.1)));
            header = g;
            payload = omega arith;
            inside = omega (arith, leb-true (count_of k vs) (length trace - p) t);
          }
  body_answers k first e h (rejected j) q g = (refl, g.0, g.1)

  record_answers : (t : Taken) → number_at trace at ≡ t → NumberPast at t → Answered trace at (record_at trace at t)
  unfolding record_at Answered NumberPast
  record_answers (value k first) e g =
      by_test (Answered trace at) _
      (λ h. body_answers k first e h (fields_at trace first (ranges k)) refl (fields_past at trace first (ranges k) g))
      (λ _. (refl, omega arith, omega arith))
  record_answers (refused j) e g = (refl, g.0, g.1)

  answers : Answered trace at (read_at trace at)
  unfolding read_at Answered
  answers = by_test (Answered trace at) _ (λ _. record_answers (number_at trace at) refl (number_past at at _ (omega arith))) (λ h. ltb-false _ _ h)

  pub answer_says : (r : Reading) → read_at trace at ≡ r → Answered trace at r
  answer_says r e = rw e at answers

  -- where an event stands, the reader gives it
  pub stands_read : (e : Event) (p n : ℕ) → Stands trace at e p n → read_at trace at ≡ event e p n
  unfolding read_at record_at body_at pick
  stands_read e p n s =
      let c = (range_fits e (n - p) s.range).1 in
      let k = kind_of_lem e (n - p) in
      let l : count_of (kind_of e) (values_of e (n - p)) ≤ length trace - p = omega arith in
      let q : p + count_of (kind_of e) (values_of e (n - p)) ≡ n = omega arith in
      simp (lt-ltb at (length trace) (omega arith), s.kind, k.0, s.values, le-leb _ _ l, k.2, q)

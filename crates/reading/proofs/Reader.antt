-- The theorems of the reader, each under its sentence; that its contract allows one answer is in the crate once.
-- Assumes nothing.
use Prim.Native.Nat.{ℕ, ◌+◌, ◌-◌, ◌≤◌, ◌<◌}
use mathlib.Core.Path.{◌≡◌, sym, ◌∙◌}
use mathlib.Core.Bool.{true}
use mathlib.Core.Logic.{◌↔◌}
use mathlib.Core.List.{List, [], ◌∷◌, ◌++◌, append_assoc}
use native.Mathlib.Omega.{arith}
use lib.ListN.{length, get_or, take, drop, length-append, length-drop, take-append-drop}
use lib.Seq.{take-add, length-take-le, drop-append-add, drop-append_seam, take-append_seam}
use borrow.Author.Tests.{le-ltb, ne_eqb, leb-true}
use Rattle.choice.specs.Choice.{pick}
use Rattle.event.specs.declared.Event.{Event}
use Rattle.event.specs.declared.Event.TheVariants.{Data}
use Rattle.trace.specs.Number.{value, number_at}
use Rattle.event.specs.Event.{ranges, event_of, count_of, kind_of, values_of, in_range}
use Rattle.trace.specs.Encode.{header, encode}
use Rattle.trace.specs.Record.{fields, fields_at, event, end, refuse, read_at}
use Rattle.reading.proofs.Table.{Fits, none, more, kind_of_lem, range_fits}
use Rattle.reading.proofs.Answers.{Stands, Answered, answer_says, stands_read}
use Rattle.reading.proofs.Further.{more_same, fewer_same}
use Rattle.reading.proofs.RoundTrip.{written}

-- where a data record stands: the place after its kind, its count, and its payload
pub record DataRecord (trace : List ℕ) (at pid sound p n : ℕ) : Type 0 where
  pub first : ℕ
  pub count : ℕ
  pub kind : number_at trace at ≡ value 6 first
  pub values : fields_at trace first (1 ∷ 1 ∷ 64 ∷ []) ≡ fields (pid ∷ sound ∷ count ∷ []) p
  pub most : count ≤ 64
  pub next : n ≡ p + count
  pub size : length (take (n - p) (drop p trace)) ≡ count
  pub last : take n trace ≡ take p trace ++ take (n - p) (drop p trace)

third : {a b c l m n : ℕ} → Fits (a ∷ b ∷ c ∷ []) (l ∷ m ∷ n ∷ []) → c ≤ n
third (more _ (more _ (more h none))) = leb-true _ _ h

module _ (trace : List ℕ) (at : ℕ) where
  stands : (e : Event) (p n : ℕ) → read_at trace at ≡ event e p n → Stands trace at e p n
  unfolding Answered
  stands e p n h = answer_says trace at (event e p n) h

  -- The payload starts past the record's header, and the next place is past the record and never past the trace's end.
  pub next_past : (e : Event) (p n : ℕ) → read_at trace at ≡ event e p n → (at < p) × (p ≤ n) × (n ≤ length trace)
  next_past e p n h = let s = stands e p n h in (s.header, s.payload, s.inside)

  -- A refusal's place is the record's start, and its number is one of document 01's four.
  pub place_is_start : (k p : ℕ) → read_at trace at ≡ refuse k p → (p ≡ at) × (1 ≤ k) × (k ≤ 4)
  unfolding Answered
  place_is_start k p h = answer_says trace at (refuse k p) h

  -- The reader gives the end exactly at the trace's end and past it.
  pub end_exactly : (read_at trace at ≡ end) ↔ (length trace ≤ at)
  unfolding Answered read_at pick
  end_exactly = (λ h. answer_says trace at end h, λ l. rw (le-ltb at (length trace) l))

  -- What the reader gives is in range.
  pub answers_in_range : (e : Event) (p n : ℕ) → read_at trace at ≡ event e p n → in_range e (n - p) ≡ true
  answers_in_range e p n h = (stands e p n h).range

  -- Only a data record has a payload.
  pub no_payload : (e : Event) (p n : ℕ) → read_at trace at ≡ event e p n → ((pid sound : ℕ) → e ≡ Data pid sound → ⊥) → p ≡ n
  unfolding event_of count_of pick
  no_payload e p n h o =
      let s = stands e p n h in
      let c = (range_fits e (n - p) s.range).1 in
      let vs = values_of e (n - p) in
      let d : kind_of e ≡ 6 → ⊥ = λ q. o (get_or vs 0 0) (get_or vs 1 0) (sym (rw q at (kind_of_lem e (n - p)).2)) in
      let z : count_of (kind_of e) vs ≡ 0 = rw (ne_eqb (kind_of e) 6 d) in
      omega arith

  -- A data record's payload is its last bytes: from past its header to the next place, as many as its count field says.
  pub payload_is_last : (pid sound p n : ℕ) → read_at trace at ≡ event (Data pid sound) p n → DataRecord trace at pid sound p n
  unfolding ranges kind_of values_of
  payload_is_last pid sound p n h =
      let s = stands (Data pid sound) p n h in
      let q : p + (n - p) ≡ n = omega arith in
      let a : take (p + (n - p)) trace ≡ take p trace ++ take (n - p) (drop p trace) = take-add p (n - p) trace in
      record {
        first = s.first;
        count = n - p;
        kind = s.kind;
        values = s.values;
        most = third (range_fits (Data pid sound) (n - p) s.range).0;
        next = sym q;
        size = length-take-le (n - p) (drop p trace) (rw length-drop (omega arith));
        last = rw q at a;
      }

  -- Bytes after the trace change no answer but the end and a refusal 1.
  pub more_bytes : (u : List ℕ) → (read_at trace at ≡ end → ⊥) → (read_at trace at ≡ refuse 1 at → ⊥) → read_at (trace ++ u) at ≡ read_at trace at
  more_bytes u h o = let l : ¬ (length trace ≤ at) = λ l. h (end_exactly.1 l) in more_same trace u at (omega arith) o

  -- So a refusal 2, 3 or 4 stays.
  pub refusal_stays : (u : List ℕ) (k : ℕ) → read_at trace at ≡ refuse k at → (k ≡ 1 → ⊥) → read_at (trace ++ u) at ≡ refuse k at
  refusal_stays u k h o = more_bytes u (λ e. let z : ◌≡◌ {A = ℕ} 0 1 = cc in omega arith) (λ e. o (cc)) ∙ h

-- The reader reads no further than the record's end: two traces that agree up to there have the same record there.
pub reads_no_further : (s t : List ℕ) (at : ℕ) (e : Event) (p n : ℕ) → read_at s at ≡ event e p n → take n s ≡ take n t → read_at t at ≡ event e p n
reads_no_further s t at e p n h q =
    let w = next_past s at e p n h in
    let l : length (take n s) ≡ n = length-take-le n s w.2 in
    let m : length (take n t) ≡ n = cc in
    let a : read_at (take n s ++ drop n s) at ≡ event e p n = rw take-append-drop h in
    let b = fewer_same (take n s) (drop n s) at (omega arith) e p n a (omega arith) in
    let c : read_at (take n t) at ≡ event e p n = cc in
    let d = more_same (take n t) (drop n t) at (omega arith) (λ r. let z : ◌≡◌ {A = ℕ} 0 1 = cc in omega arith) in
    cc (take-append-drop n t)

module _ (prefix suffix : List ℕ) (e : Event) (payload : List ℕ) where
  -- The reader refuses nothing that is well written: an event in range, written with anything before and after it, is read back.
  pub round_trip : in_range e (length payload) ≡ true
      → read_at (prefix ++ encode e payload ++ suffix) (length prefix)
      ≡ event e (length prefix + length (header e (length payload))) (length prefix + length (encode e payload))
  round_trip h = stands_read _ _ e _ _ (written prefix suffix e payload h)

  -- And the payload handed out is the payload that was written.
  pub payload_back :
      take (length prefix + length (encode e payload) - (length prefix + length (header e (length payload))))
      (drop (length prefix + length (header e (length payload))) (prefix ++ encode e payload ++ suffix))
      ≡ payload
  payload_back =
      let q : length prefix + length (encode e payload) - (length prefix + length (header e (length payload))) ≡ length payload = rw length-append (omega arith) in
      simp (q, append_assoc, drop-append-add, drop-append_seam, take-append_seam)

-- Reading back what was written: a number, the numbers of a record, and the record with anything before and after it.
-- Assumes nothing.
use Prim.Native.Nat.{ℕ, ◌+◌, ◌-◌, ◌*◌, ◌/◌, ◌%◌, ◌<◌}
use mathlib.Core.Path.{◌≡◌}
use mathlib.Core.Bool.{true}
use mathlib.Core.List.{List, ◌∷◌, ◌++◌, append_assoc}
use native.Mathlib.Nat.{add-zero, add_assoc}
use native.Mathlib.Omega.{arith}
use lib.ListN.{length, drop, length-append}
use lib.Seq.{drop-append_seam, drop-drop}
use lib.Dec.{ltb, leb}
use borrow.Author.Tests.{ltb-false, leb-true, le-ltb, lt-leb, le-leb, ne_eqb}
use Rattle.choice.specs.Choice.{pick}
use Rattle.choice.proofs.ByTest.{by_test}
use Rattle.event.specs.declared.Event.{Event}
use Rattle.trace.specs.Number.{value, number_from, number_at, bytes_of}
use Rattle.event.specs.Event.{ranges, kind_of, values_of, in_range}
use Rattle.trace.specs.Encode.{numbers, header, encode}
use Rattle.trace.specs.Record.{fields, before, field, fields_at}
use Rattle.trace.proofs.Within.{one_byte, field_read, some_fields_within}
use Rattle.reading.proofs.Table.{Fits, none, more, Small, is_kind_lem, kind_of_lem, range_fits}
use Rattle.reading.proofs.Answers.{Stands}

-- a number below 16384 is read back from its bytes, whatever follows them
pub number_back : (at v : ℕ) (rest : List ℕ) → v < 16384 → number_from at (bytes_of v ++ rest) ≡ value v (at + length (bytes_of v))
unfolding bytes_of number_from pick
number_back at v rest h =
    by_test (λ l. number_from at (l ++ rest) ≡ value v (at + length l)) (ltb v 128)
    (one_byte at v rest)
    (λ t.
    let l = ltb-false v 128 t in
    let q : 128 + v % 128 - 128 + 128 * (v / 128) ≡ v = omega arith in
    simp (le-ltb (128 + v % 128) 128 (omega arith), ne_eqb (v / 128) 0 (λ e. omega arith), lt-leb 128 (v / 128) (omega arith), q))

-- and so are numbers within their ranges, one after another
fields_back : {vs ms : List ℕ} → Fits vs ms → Small ms → (trace : List ℕ) (at : ℕ) (rest : List ℕ) → drop at trace ≡ numbers vs ++ rest
    → fields_at trace at ms ≡ fields vs (at + length (numbers vs))
unfolding fields_at field before numbers pick
fields_back none s trace at rest d = rw add-zero
fields_back (more {v} {m} {vs} {ms} h f) s trace at rest d =
    let a = at + length (bytes_of v) in
    let q : drop at trace ≡ bytes_of v ++ (numbers vs ++ rest) = rw append_assoc at d in
    let n : number_at trace at ≡ value v a = rw q (number_back at v (numbers vs ++ rest) (omega (arith, leb-true v m h))) in
    let o : drop a trace ≡ numbers vs ++ rest = rw (← drop-drop (length (bytes_of v)) at trace, q) (drop-append_seam (bytes_of v) _) in
    simp (n, h, fields_back f s.1 trace a rest o, length-append, add_assoc)

-- a record stands where it was written
pub written : (prefix suffix : List ℕ) (e : Event) (payload : List ℕ) → in_range e (length payload) ≡ true
    → Stands (prefix ++ encode e payload ++ suffix) (length prefix) e (length prefix + length (header e (length payload))) (length prefix + length (encode e payload))
unfolding fields_at
written prefix suffix e payload h =
    let size = length payload in
    let at = length prefix in
    let trace = prefix ++ encode e payload ++ suffix in
    let p = at + length (header e size) in
    let n = at + length (encode e payload) in
    let k = kind_of_lem e size in
    let i = is_kind_lem (kind_of e) k.0 in
    let d : drop at trace ≡ header e size ++ (payload ++ suffix) = simp (append_assoc, drop-append_seam) in
    let b : leb (kind_of e) 16383 ≡ true = le-leb (kind_of e) 16383 (omega arith) in
    let f = fields_back (more b (range_fits e size h).0) (omega arith, k.1) trace at (payload ++ suffix) d in
    let r = field_read (number_at trace at) 16383 (λ next. fields_at trace next (ranges (kind_of e))) (kind_of e ∷ values_of e size) p f in
    let c : n - p ≡ size = rw length-append (omega arith) in
    record {
      first = r.then;
      kind = cc;
      values = rw c (cc);
      range = rw c h;
      header = (some_fields_within trace at 16383 (ranges (kind_of e)) (kind_of e ∷ values_of e size) p f).0;
      payload = rw length-append (omega arith);
      inside = simp length-append (omega arith);
    }

-- An event in range has fields that are bytes.
-- Assumes nothing.
use Prim.Native.Nat.{ℕ, zero, suc}
use native.Mathlib.Omega.{arith}
use mathlib.Core.Path.{◌≡◌, refl}
use mathlib.Core.Bool.{Bool, true, ◌&&◌, false≢true, and-eq-true_iff}
use mathlib.Core.List.{List, [], ◌∷◌}
use lib.Dec.{leb, ltb, eqb}
use borrow.Author.Tests.{leb-true, ltb-true}
use Rattle.event.specs.declared.Event.{Event}
use Rattle.event.specs.declared.Event.TheVariants as event
use Rattle.event.specs.Event.{ranges, kind_of, values_of, count_of, within, in_range}
use Rattle.laws.specs.Typed.{Byte, Bytes, TypedEvent}

byte_cons : (b : ℕ) (l : List ℕ) → Byte b → Bytes l → Bytes (b ∷ l)
byte_cons b l h t zero = h
byte_cons b l h t (suc i) = t i

-- bytes by a computed test
abbrev small : List ℕ → Bool
small [] = true
small (b ∷ l) = ltb b 256 && small l

small_bytes : (l : List ℕ) → small l ≡ true → Bytes l
small_bytes [] h = λ i. omega arith
small_bytes (b ∷ l) h =
    let e : _ = (and-eq-true_iff (ltb b 256) (small l)).0 h in
    byte_cons b l (ltb-true b 256 e.0) (small_bytes l e.1)

within_bytes : (vs ms : List ℕ) → within vs ms ≡ true → Bytes ms → Bytes vs
unfolding within
within_bytes [] ms h b i = omega arith
within_bytes (v ∷ vs) [] h b i = absurd {0} (false≢true h)
within_bytes (v ∷ vs) (m ∷ ms) h b zero = omega (arith, leb-true v m ((and-eq-true_iff (leb v m) (within vs ms)).0 h).0, b zero)
within_bytes (v ∷ vs) (m ∷ ms) h b (suc i) = within_bytes vs ms ((and-eq-true_iff (leb v m) (within vs ms)).0 h).1 (λ j. b (suc j)) i

ranges_bytes : (e : Event) → Bytes (ranges (kind_of e))
unfolding ranges kind_of
ranges_bytes (event.Read r) = small_bytes (ranges 1) refl
ranges_bytes (event.Write r v) = small_bytes (ranges 2) refl
ranges_bytes (event.In a e) = small_bytes (ranges 3) refl
ranges_bytes (event.Out a e) = small_bytes (ranges 4) refl
ranges_bytes (event.Setup a e) = small_bytes (ranges 5) refl
ranges_bytes (event.Data p s) = small_bytes (ranges 6) refl
ranges_bytes event.Ack = small_bytes (ranges 7) refl
ranges_bytes event.Timeout = small_bytes (ranges 8) refl

values_bytes : (e : Event) (n : ℕ) → Bytes (values_of e n) → TypedEvent e
unfolding values_of
values_bytes (event.Read r) n h = h
values_bytes (event.Write r v) n h = h
values_bytes (event.In a e) n h = h
values_bytes (event.Out a e) n h = h
values_bytes (event.Setup a e) n h = h
values_bytes (event.Data p s) n h = byte_cons p (s ∷ 0 ∷ []) (h 0) (byte_cons s (0 ∷ []) (h 1) (small_bytes (0 ∷ []) refl))
values_bytes event.Ack n h = h
values_bytes event.Timeout n h = h

-- Whatever bytes stand beside it.
pub in_range_typed : (e : Event) (n : ℕ) → in_range e n ≡ true → TypedEvent e
unfolding in_range
in_range_typed e n h =
    let r : _ = (and-eq-true_iff (within (values_of e n) (ranges (kind_of e))) (eqb n (count_of (kind_of e) (values_of e n)))).0 h in
    values_bytes e n (within_bytes (values_of e n) (ranges (kind_of e)) r.0 (ranges_bytes e))

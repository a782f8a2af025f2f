-- The table of kinds: an event has a kind and values within that kind's ranges, such a kind and values have an event, and the two are inverse.
-- Assumes nothing.
use Prim.Native.Nat.{ℕ, zero, suc, ◌≤◌, ◌<◌}
use mathlib.Core.Path.{◌≡◌, refl}
use mathlib.Core.Bool.{true, and-eq-true_iff, false≢true}
use mathlib.Core.List.{List, [], ◌∷◌}
use native.Mathlib.Omega.{arith}
use lib.Dec.{leb, eqb}
use borrow.Author.Tests.{leb-true, eqb-true, eq-eqb}
use Rattle.choice.specs.Choice.{pick}
use Rattle.event.specs.declared.Event.{Event}
use Rattle.event.specs.declared.Event.TheVariants.{Read, Write, In, Out, Setup, Data, Ack, Timeout}
use Rattle.event.specs.Event.{is_kind, highest_kind, ranges, event_of, count_of, kind_of, values_of, within, in_range}

-- values within their ranges, one for one: what the test `within` says
pub data Fits : List ℕ → List ℕ → Type 0 where
  none : Fits [] []
  more : {v m : ℕ} {vs ms : List ℕ} → leb v m ≡ true → Fits vs ms → Fits (v ∷ vs) (m ∷ ms)

fits_within : {vs ms : List ℕ} → Fits vs ms → within vs ms ≡ true
unfolding within
fits_within none = refl
fits_within (more h f) = rw (h, fits_within f)

within_fits : (vs ms : List ℕ) → within vs ms ≡ true → Fits vs ms
unfolding within
within_fits [] [] h = none
within_fits [] (m ∷ ms) h = absurd (false≢true h)
within_fits (v ∷ vs) [] h = absurd (false≢true h)
within_fits (v ∷ vs) (m ∷ ms) h = let b = (and-eq-true_iff (leb v m) (within vs ms)).0 h in more b.0 (within_fits vs ms b.1)

-- one of the eight
data Kind : ℕ → Type 0 where
  k1 : Kind 1
  k2 : Kind 2
  k3 : Kind 3
  k4 : Kind 4
  k5 : Kind 5
  k6 : Kind 6
  k7 : Kind 7
  k8 : Kind 8

kind : (k : ℕ) → 1 ≤ k → k ≤ 8 → Kind k
kind zero l h = absurd (omega arith)
kind (suc zero) l h = k1
kind (suc (suc zero)) l h = k2
kind (suc (suc (suc zero))) l h = k3
kind (suc (suc (suc (suc zero)))) l h = k4
kind (suc (suc (suc (suc (suc zero))))) l h = k5
kind (suc (suc (suc (suc (suc (suc zero)))))) l h = k6
kind (suc (suc (suc (suc (suc (suc (suc zero))))))) l h = k7
kind (suc (suc (suc (suc (suc (suc (suc (suc zero)))))))) l h = k8
kind (suc (suc (suc (suc (suc (suc (suc (suc (suc n))))))))) l h = absurd (omega arith)

pub is_kind_lem : (k : ℕ) → is_kind k ≡ true → (1 ≤ k) × (k ≤ 8)
is_kind_lem k h = let b = (and-eq-true_iff (leb 1 k) (leb k highest_kind)).0 h in (leb-true _ _ b.0, leb-true _ _ b.1)

-- the event of a kind and values has that kind and those values
of_kind : {k : ℕ} {vs : List ℕ} → Kind k → Fits vs (ranges k) → (kind_of (event_of k vs) ≡ k) × (values_of (event_of k vs) (count_of k vs) ≡ vs)
unfolding ranges event_of count_of kind_of values_of pick
of_kind k1 (more _ none) = (refl, refl)
of_kind k2 (more _ (more _ none)) = (refl, refl)
of_kind k3 (more _ (more _ none)) = (refl, refl)
of_kind k4 (more _ (more _ none)) = (refl, refl)
of_kind k5 (more _ (more _ none)) = (refl, refl)
of_kind k6 (more _ (more _ (more _ none))) = (refl, refl)
of_kind k7 none = (refl, refl)
of_kind k8 none = (refl, refl)

pub event_of_lem : (k : ℕ) (vs : List ℕ) → is_kind k ≡ true → Fits vs (ranges k) → (kind_of (event_of k vs) ≡ k) × (values_of (event_of k vs) (count_of k vs) ≡ vs)
event_of_lem k vs h f = let b = is_kind_lem k h in of_kind (kind k b.0 b.1) f

-- values that two bytes can write
abbrev pub Small : List ℕ → Type 0
Small [] = Unit
Small (m ∷ ms) = (m < 16384) × Small ms

-- the kind of an event is one of the eight, its ranges are small, and its kind and values give it back
pub kind_of_lem : (e : Event) (n : ℕ) → (is_kind (kind_of e) ≡ true) × Small (ranges (kind_of e)) × (event_of (kind_of e) (values_of e n) ≡ e)
unfolding ranges event_of kind_of values_of pick
kind_of_lem (Read r) n = (refl, omega arith, refl)
kind_of_lem (Write r v) n = (refl, omega arith, refl)
kind_of_lem (In a e) n = (refl, omega arith, refl)
kind_of_lem (Out a e) n = (refl, omega arith, refl)
kind_of_lem (Setup a e) n = (refl, omega arith, refl)
kind_of_lem (Data p s) n = (refl, omega arith, refl)
kind_of_lem Ack n = (refl, tt, refl)
kind_of_lem Timeout n = (refl, tt, refl)

-- in range: the values fit, and the bytes beside the event are as many as it says
pub range_fits : (e : Event) (n : ℕ) → in_range e n ≡ true → Fits (values_of e n) (ranges (kind_of e)) × (n ≡ count_of (kind_of e) (values_of e n))
unfolding in_range
range_fits e n h =
    let b = (and-eq-true_iff (within (values_of e n) (ranges (kind_of e))) (eqb n (count_of (kind_of e) (values_of e n)))).0 h in
    (within_fits _ _ b.0, eqb-true _ _ b.1)

pub fits_range : (e : Event) (n : ℕ) → Fits (values_of e n) (ranges (kind_of e)) → n ≡ count_of (kind_of e) (values_of e n) → in_range e n ≡ true
unfolding in_range
fits_range e n f c = rw (fits_within f, eq-eqb n _ c)

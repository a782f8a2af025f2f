-- The output from a place on does not depend on the turns that are allowed, where they are enough for every byte.
-- Assumes nothing.
use Prim.Native.Nat.{ℕ, zero, suc, ◌+◌, ◌≤◌}
use native.Mathlib.Omega.{arith}
use mathlib.Core.Path.{◌≡◌, refl, sym, ap}
use mathlib.Core.List.{List, [], ◌++◌}
use lib.ListN.{length}
use borrow.Author.Tests.{le-ltb}
use Rattle.choice.specs.Choice.{pick}
use Rattle.trace.specs.Record.{Reading, event, end, refuse, read_at, stretch}
use Rattle.reading.proofs.Reader.{next_past}
use Rattle.running.specs.Output.{Spot, did, line_of, shown, output_from}

pub end_read : (trace : List ℕ) (at : ℕ) → length trace ≤ at → read_at trace at ≡ end
unfolding read_at pick
end_read trace at le = rw (le-ltb at (length trace) le)

module _ (trace : List ℕ) where
  -- at the end there is no output
  none : (n : ℕ) (p : Spot) → length trace ≤ p.place → output_from n trace p ≡ []
  unfolding output_from shown
  none zero p le = refl
  none (suc n) p le = rw (end_read trace p.place le)

  -- one record, by what is read there
  same_shown : (p : Spot) (x : Reading) (f g : Spot → List ℕ)
      → ((e : _) (from next : ℕ) → x ≡ event e from next → f (did e (stretch trace from next) next p) ≡ g (did e (stretch trace from next) next p))
      → shown trace p x f ≡ shown trace p x g
  unfolding shown
  same_shown p end f g h = refl
  same_shown p (refuse k at) f g h = refl
  same_shown p (event e from next) f g h = ap (λ (t : List ℕ). line_of e (stretch trace from next) p ++ t) (h e from next refl)

  pub enough : (n m : ℕ) (p : Spot) → length trace ≤ p.place + n → length trace ≤ p.place + m → output_from n trace p ≡ output_from m trace p
  unfolding output_from did
  enough zero m p a b = sym (none m p (omega arith))
  enough (suc n) zero p a b = none (suc n) p (omega arith)
  enough (suc n) (suc m) p a b =
      same_shown p (read_at trace p.place) (output_from n trace) (output_from m trace) (λ e from next h.
      let past : _ = next_past trace p.place e from next h in
      enough n m _ (omega arith) (omega arith))

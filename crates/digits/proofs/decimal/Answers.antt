-- `decimal` meets its contract: the digits that are left, written into the buffer as it is now, give the whole.
-- Assumes nothing.
use Prim.Native.Nat.{ℕ, suc, ◌-◌}
use native.Mathlib.Omega.{arith}
use mathlib.Core.Path.{◌≡◌, refl, sym, ◌∙◌}
use lib.ListN.{length}
use Rattle.digits.specs.Text.{overlay, last_digits, decimal}
use Rattle.digits.proofs.Figures.{all_digits, digit_before}
use Rattle.digits.proofs.Most.{decimal_within}
use Rattle.digits.proofs.Places.{same_place}
use Rattle.digits.proofs.decimal.Goals as goal

-- digits counted of the same number
same_digits : (digits m n : ℕ) → digits ≡ length (decimal m) → m ≡ n → digits ≡ length (decimal n)
same_digits digits m n e same = rw (← same) e

pub loop-k-init : goal.loop-k-init
loop-k-init c =
    let digits = same_digits c.width-digits.result _ c.args.n c.width-digits.ensures (omega arith) in (
      refl,
      rw (digits, all_digits),
      rw (digits, all_digits, c.place-from.ensures) (same_place _ _ _),
    )

pub loop-k-preserved : goal.loop-k-preserved
loop-k-preserved c =
    let k : c.loop-k.k ≡ suc (c.loop-k.k - 1) = omega arith in
    let turn = digit_before c.place-from.result (c.loop-k.k - 1) c.loop-k.rest c.loop-k.out (rw k at c.loop-k.invariant.1) in (
      c.put.auto.out ∙ c.loop-k.invariant.0,
      turn.0,
      rw (c.put.ensures, c.last_digit.ensures) (sym turn.1 ∙ rw k at c.loop-k.invariant.2),
    )

pub returns : goal.returns
unfolding overlay last_digits
returns c =
    let none : c.loop-k.k ≡ 0 = omega arith in
    let digits = same_digits c.width-digits.result _ c.args.n c.width-digits.ensures (omega arith) in
    record {
      width = digits;
      most = rw digits (decimal_within _ 19 (omega (arith, c.ranges.n)));
      bytes = rw none at c.loop-k.invariant.2;
    }

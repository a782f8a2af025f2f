-- A text written, and another after it; an answer written at a place that may be past the end.
-- Assumes nothing.
use Prim.Native.Nat.{ℕ, ◌+◌, ◌≤◌, min}
use native.Mathlib.Omega.{arith}
use mathlib.Core.Path.{◌≡◌, ◌∙◌}
use mathlib.Core.List.{List, ◌++◌}
use lib.ListN.{length}
use Rattle.digits.specs.Text.{overlay}
use Rattle.digits.proofs.Places.{same_place}
use Rattle.printed.proofs.Overlay.{overlay_append}
use Rattle.answer.specs.declared.Answer.{Answer}
use Rattle.lines.specs.Line.{answer_text, Printed}
use Rattle.lines.proofs.Lengths.{answer_length}

-- two texts, the second where the first ends
pub and_then : (at i j : ℕ) (a b x : List ℕ) {y z : List ℕ}
    → y ≡ overlay (at + i) a x → z ≡ overlay (at + j) b y → j ≡ i + length a
    → z ≡ overlay (at + i) (a ++ b) x
and_then at i j a b x p q e =
    let f : at + i + length a ≡ at + j = omega arith in
    rw (overlay_append, f, ← p) q

-- an answer that is known, written at a place that is no further than the buffer's end
pub placed : (at : ℕ) (m out : List ℕ) {a known : Answer} {p r : ℕ} {out' : List ℕ}
    → a ≡ known → p ≡ min at (length out) → Printed p (answer_text known m) out r out'
    → Printed at (answer_text a m) out r out' × (r ≤ 134)
placed at m out {known = known} told e w =
    rw told (
      record { count = w.count; bytes = rw e at w.bytes ∙ same_place at _ out },
      omega (arith, w.count, answer_length known m),
    )

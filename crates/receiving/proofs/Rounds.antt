-- The rounds of the receive service: what is left to take after each, until nothing is left.
-- Assumes nothing.
use Prim.Native.Nat.{ℕ, zero, suc, ◌+◌, ◌-◌, ◌%◌, ◌≤◌, ◌<◌, min}
use native.Mathlib.Omega.{arith}
use native.Mathlib.Nat.{add-zero}
use mathlib.Core.Path.{◌≡◌, refl, sym, ap, ◌∙◌, subst}
use mathlib.Core.List.{List, [], ◌∷◌, ◌++◌, append-nil, append_assoc}
use lib.ListN.{length, take, drop, replicate, length-append, length-drop}
use lib.Seq.{sets, sets-eq, drop-drop, length-take-le}
use borrow.Rule.Slice.PartMut.{mid_of, put_mid}
use Rattle.std.proofs.lemmas.List.{drop_all}
use borrow.Author.Tests.{ne_eqb}
use Rattle.choice.specs.Choice.{pick}
use Rattle.state.specs.declared.Chip.{Chip}
use Rattle.state.specs.State.{Model}
use Rattle.reads.specs.declared.ReadOut.{ReadOut}
use Rattle.reads.specs.Read.{read_of}
use Rattle.driver.specs.Registers.{whole, value, seen}
use Rattle.driver.proofs.Accesses.{joined, read_value, read_left}
use Rattle.receiving.specs.Receive.{Taking, taking, behind, taken, rounds, all_taken, padded, received, Fills, Shows}
use Rattle.receiving.proofs.Level.{level_seen, level_shown, taken_length, taken_level}

-- stores of one stretch after another
sets_append : (p : List ℕ) (at : ℕ) (a b : List ℕ) → sets p at (a ++ b) ≡ sets (sets p at a) (at + length a) b
sets_append p at [] b = rw (add-zero at)
sets_append p at (x ∷ a) b =
    let e : at + suc (length a) ≡ suc at + length a = omega arith in
    sets_append _ (suc at) a b ∙ rw e

-- so many zeros less
drop_zeros : (n k : ℕ) → drop {A = ℕ} k (replicate n 0) ≡ replicate (n - k) 0
drop_zeros n zero = let e : n - 0 ≡ n = omega arith in rw e
drop_zeros zero (suc k) = let e : 0 - suc k ≡ 0 = omega arith in rw e
drop_zeros (suc n) (suc k) = let e : suc n - suc k ≡ n - k = omega arith in rw e (drop_zeros n k)

-- bytes stored in a packet of zeros
stored_padded : (bytes : List ℕ) → length bytes ≤ 64 → sets (replicate 64 0) 0 bytes ≡ padded bytes
stored_padded bytes le =
    let e : 64 - (0 + length bytes) ≡ 64 - length bytes = omega arith in
    sets-eq bytes (replicate 64 0) 0 (omega arith) ∙ rw (drop_zeros 64 (0 + length bytes), e)

-- bytes stored all over the part of a list that is lent out, from place at on
module _ (p : List ℕ) (at n k : ℕ) (room : at + n ≤ length p) (e : k ≡ n) where
  part_length : length (mid_of at k p) ≡ n
  part_length = length-take-le k (drop at p) (omega (arith, length-drop at p)) ∙ e

  part_stored : (bytes : List ℕ) → length bytes ≡ n → put_mid at k p (sets (mid_of at k p) 0 bytes) ≡ sets p at bytes
  part_stored bytes b =
      let none : drop (0 + length bytes) (mid_of at k p) ≡ [] = drop_all _ (mid_of at k p) (omega (arith, part_length)) in
      let all : sets (mid_of at k p) 0 bytes ≡ bytes =
      sets-eq bytes (mid_of at k p) 0 (omega (arith, part_length)) ∙ rw none (append-nil bytes) in
      let q : at + k ≡ at + length bytes = omega arith in
      rw (all, drop-drop k at p, q) (sym (append_assoc (take at p) bytes (drop (at + length bytes) p)) ∙ sym (sets-eq bytes p at (omega arith)))

  -- What is taken into that part is taken into the list.
  pub part_fills : (m : Model) {memory places : List ℕ} {c : Chip} → Fills (taken (length (mid_of at k p)) m) 0 memory (mid_of at k p) c places
      → Fills (taken n m) at memory p c (put_mid at k p places)
  part_fills m f =
      let g : _ = rw part_length at f in
      record { left = g.left; packet = ap (put_mid at k p) g.packet ∙ part_stored (taken n m).bytes (taken_length n m) }

-- no round where none is shown; one round and the others
rounds_none : (most : ℕ) (m : Model) → rounds most 0 m ≡ taking [] m
unfolding rounds pick
rounds_none zero m = refl
rounds_none (suc most) m = refl

rounds_one : (most count : ℕ) (m : Model) → 0 < count
    → rounds (suc most) count m
    ≡ behind (taken count m).bytes (rounds most (value 0x2E (taken count m).model % 16) (seen 0x2E (taken count m).model))
unfolding rounds pick
rounds_one most count m some = rw (ne_eqb count 0 (omega arith))

-- what is left to take from a state, behind the bytes that the packet has, gives the whole
pub record Rest (all : Taking) (m : Model) (packet : List ℕ) (got shown : ℕ) : Type 0 where
  pub most : ℕ
  pub enough : received m.chip < most
  pub shows : shown ≡ min (received m.chip) 15
  pub room : got + received m.chip ≤ 64
  pub counted : got + length (rounds most shown m).bytes ≡ length all.bytes
  pub stored : sets packet got (rounds most shown m).bytes ≡ sets (replicate 64 0) 0 all.bytes
  pub model : (rounds most shown m).model ≡ all.model

-- At first that is all.
pub all_left : (m : Model) (count : ℕ) → Shows count m.chip → Rest (all_taken count m) m (replicate 64 0) 0 count
all_left m count s =
    record {
      most = 65;
      enough = omega arith;
      shows = s.shown;
      room = omega arith;
      counted = omega arith;
      stored = refl;
      model = refl;
    }

module _ {all : Taking} {m : Model} {packet : List ℕ} {got shown : ℕ} (s : Rest all m packet got shown) (some : 0 < shown) where
  -- the bytes of a round, and what they leave
  abbrev bytes : List ℕ
  bytes = (taken shown m).bytes

  abbrev after : Model
  after = (taken shown m).model

  abbrev rest : Taking
  rest = rounds (s.most - 1) (value 0x2E after % 16) (seen 0x2E after)

  one : rounds s.most shown m ≡ behind bytes rest
  one =
      let e : s.most ≡ suc (s.most - 1) = omega arith in
      ap (λ (k : ℕ). rounds k shown m) e ∙ rounds_one (s.most - 1) shown m some

  next : Rest all (seen 0x2E after) (sets packet got bytes) (got + shown) (value 0x2E after % 16)
  next =
      let l : received (seen 0x2E after).chip ≡ received m.chip - shown = level_seen after ∙ taken_level shown m in
      let n : length bytes ≡ shown = taken_length shown m in
      let k : length (rounds s.most shown m).bytes ≡ length bytes + length rest.bytes =
      ap (λ (t : Taking). length t.bytes) one ∙ length-append bytes rest.bytes in
      record {
        most = s.most - 1;
        enough = omega (arith, s.enough, s.shows);
        shows = omega (arith, level_shown after, level_seen after);
        room = omega (arith, s.room, s.shows);
        counted = omega (arith, s.counted);
        stored =
            ap (λ (i : ℕ). sets (sets packet got bytes) (got + i) rest.bytes) (sym n)
            ∙ sym (sets_append packet got bytes rest.bytes)
            ∙ ap (λ (t : Taking). sets packet got t.bytes) (sym one)
            ∙ s.stored;
        model = ap (λ (t : Taking). t.model) (sym one) ∙ s.model;
      }

  -- A round leaves the rest.
  pub round_left : {c : Chip} {packet' : List ℕ} {r : ReadOut} → Fills (taken shown m) got m.memory packet c packet'
      → r ≡ read_of 0x2E c m.memory → Rest all (whole r.chip m.memory) packet' (got + shown) (r.value % 16)
  round_left {c} {packet'} {r} f e =
      let u : whole c m.memory ≡ after = joined f.left in
      let v : r.value ≡ value 0x2E after = read_value 0x2E (whole c m.memory) e ∙ ap (value 0x2E) u in
      let w : whole r.chip m.memory ≡ seen 0x2E after = read_left 0x2E (whole c m.memory) e ∙ ap (seen 0x2E) u in
      rw (v, f.packet) (subst (λ (x : Model). Rest all x (sets packet got bytes) (got + shown) (value 0x2E after % 16)) (sym w) next)

  -- A round leaves fewer bytes.
  pub round_less : {c : Chip} {packet' : List ℕ} {r : ReadOut} → Fills (taken shown m) got m.memory packet c packet'
      → r ≡ read_of 0x2E c m.memory → received r.chip < received m.chip
  round_less {c} {packet'} {r} f e =
      let u : whole c m.memory ≡ after = joined f.left in
      let w : whole r.chip m.memory ≡ seen 0x2E after = read_left 0x2E (whole c m.memory) e ∙ ap (seen 0x2E) u in
      omega (arith, ap (λ (x : Model). received x.chip) w, level_seen after, taken_level shown m, s.shows)

-- Where RXS shows none, nothing is left.
pub none_left : {all : Taking} {m : Model} {packet : List ℕ} {got : ℕ} → Rest all m packet got 0
    → (m ≡ all.model) × (got ≡ length all.bytes) × (packet ≡ padded all.bytes)
none_left {all} {m} {packet} {got} s =
    let e : rounds s.most 0 m ≡ taking [] m = rounds_none s.most m in
    let n : got ≡ length all.bytes = omega (arith, ap (λ (t : Taking). length t.bytes) e, s.counted) in (
      ap (λ (t : Taking). t.model) (sym e) ∙ s.model,
      n,
      ap (λ (t : Taking). sets packet got t.bytes) (sym e) ∙ s.stored ∙ stored_padded all.bytes (omega (arith, s.room)),
    )

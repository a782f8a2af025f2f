-- What one call of the run leaves: a sound state, numbers that are numbers, a place no earlier, and the buffer past what it wrote as it was.
-- Assumes nothing.
use Prim.Native.Nat.{ℕ, zero, suc, ◌+◌, ◌-◌, ◌≤◌, ◌<◌}
use native.Mathlib.Omega.{arith}
use mathlib.Core.Path.{◌≡◌, refl, ◌∙◌}
use mathlib.Core.Bool.{true}
use mathlib.Core.List.{List, []}
use lib.ListN.{length, drop}
use lib.Seq.{drop-drop}
use borrow.Author.Tests.{lt-leb}
use Rattle.choice.specs.Choice.{pick}
use Rattle.choice.proofs.ByTest.{by_test}
use Rattle.event.specs.declared.Event.{Event}
use Rattle.trace.specs.Record.{Reading, event, end, refuse, read_at, stretch}
use Rattle.reading.proofs.Reader.{next_past, place_is_start}
use Rattle.printed.proofs.Overlay.{overlay_length, overlay_rest}
use Rattle.lines.specs.Line.{refusal_text}
use Rattle.laws.specs.Typed.{Bytes}
use Rattle.running.specs.Output.{did, line_of}
use Rattle.running.specs.Run.{Reason, ended, refused, full, Running, Stopped, stopping, roomy, ending, onward, printing, run_for}
use Rattle.running.proofs.Turns.{room_says}
use Rattle.running.proofs.Within.{Numbers}
use Rattle.parts.specs.Loop.{told}
use Rattle.parts.proofs.Sound.{Sound, did_sound}

-- from a run under way to where it stops
pub record Leaves (trace : List ℕ) (r : Running) (s : Stopped) : Type 0 where
  pub sound : Sound s.at.spot
  pub numbers : Numbers s.at
  pub further : r.spot.place ≤ s.at.spot.place
  pub counted : s.at.spot.number + r.spot.place ≤ r.spot.number + s.at.spot.place
  pub inside : r.spot.place ≤ length trace → s.at.spot.place ≤ length trace
  pub more : r.written ≤ s.at.written
  pub sized : length s.at.out ≡ length r.out
  pub past : drop s.at.written s.at.out ≡ drop s.at.written r.out
  pub silent : told s.why ≡ []

-- what is past a text is past everything after it
further_past : (m n : ℕ) (a b : List ℕ) → m ≤ n → drop m a ≡ drop m b → drop n a ≡ drop n b
further_past m n a b le e =
    let q : m + (n - m) ≡ n = omega arith in
    rw (← q, ← drop-drop (n - m) m a, ← drop-drop (n - m) m b, e)

module _ (trace : List ℕ) (long : length trace < 18446744073709551616) (bytes : Bytes trace) where
  -- a run that stops where it is
  stays : (why : Reason) (r : Running) → told why ≡ [] → Sound r.spot → Numbers r → Leaves trace r (stopping why r)
  stays why r e s n =
      record {
        sound = s;
        numbers = n;
        further = omega arith;
        counted = omega arith;
        inside = λ le. le;
        more = omega arith;
        sized = refl;
        past = refl;
        silent = e;
      }

  -- a refusal's line is written, and its number is one of the reader's four
  refuses : (k at : ℕ) (text : List ℕ) (r : Running) → k ≤ 4 → Sound r.spot → Numbers r
      → Leaves trace r (stopping (refused k at) (printing text r.spot r))
  unfolding printing told pick
  refuses k at text r le s n =
      record {
        sound = s;
        numbers = record { place = n.place; number = n.number };
        further = omega arith;
        counted = omega arith;
        inside = λ h. h;
        more = omega arith;
        sized = overlay_length r.written text r.out;
        past = overlay_rest r.written text r.out;
        silent = rw (lt-leb 5 k (omega arith));
      }

  ends : (r : Running) (x : Reading) → Sound r.spot → Numbers r → read_at trace r.spot.place ≡ x → Leaves trace r (ending x r)
  unfolding ending told
  ends r end s n h = stays ended r refl s n
  ends r (event e from next) s n h = stays ended r refl s n
  ends r (refuse k at) s n h =
      let start : _ = place_is_start trace r.spot.place k at h in
      by_test (Leaves trace r) (roomy r) (λ _. refuses k at (refusal_text r.spot.number k at) r start.2 s n) (λ _. stays full r refl s n)

  module _ (r : Running) (e : Event) (from next : ℕ) (h : read_at trace r.spot.place ≡ event e from next) where
    -- an event done and its line written
    abbrev after : Running
    after = printing (line_of e (stretch trace from next) r.spot) (did e (stretch trace from next) next r.spot) r

    after_sound : Sound r.spot → Sound after.spot
    unfolding printing
    after_sound s = did_sound trace r.spot e from next bytes h s

    after_numbers : r.spot.number < 18446744073709551615 → Numbers after
    unfolding printing did
    after_numbers more =
        let past : _ = next_past trace r.spot.place e from next h in
        record { place = omega (arith, past.2, long); number = omega arith }

    after_place : r.spot.place < after.spot.place
    unfolding printing did
    after_place = let past : _ = next_past trace r.spot.place e from next h in omega arith

    -- and what comes after it
    after_leaves : (s : Stopped) → Leaves trace after s → Leaves trace r s
    unfolding printing did
    after_leaves s l =
        let past : _ = next_past trace r.spot.place e from next h in
        let text : List ℕ = line_of e (stretch trace from next) r.spot in
        let more : r.written + length text ≤ s.at.written = l.more in
        record {
          sound = l.sound;
          numbers = l.numbers;
          further = omega (arith, past.0, past.1, l.further);
          counted = omega (arith, past.0, past.1, l.counted);
          inside = λ _. l.inside past.2;
          more = omega arith;
          sized = l.sized ∙ overlay_length r.written text r.out;
          past = l.past ∙ further_past _ _ _ _ more (overlay_rest r.written text r.out);
          silent = l.silent;
        }

  onward_leaves : (r : Running) (x : Reading) (others : Running → Stopped)
      → ((q : Running) → Sound q.spot → Numbers q → Leaves trace q (others q))
      → Sound r.spot → Numbers r → read_at trace r.spot.place ≡ x → Leaves trace r (onward trace r x others)
  unfolding onward told
  onward_leaves r end others later s n h = ends r end s n h
  onward_leaves r (refuse k at) others later s n h = ends r (refuse k at) s n h
  onward_leaves r (event e from next) others later s n h =
      by_test (Leaves trace r) (roomy r) (λ room.
      let says : _ = room_says r.out r.written r.spot.number room in
      after_leaves r e from next h _ (later _ (after_sound r e from next h s) (after_numbers r e from next h says.1))) (λ _. stays full r refl s n)

  pub run_leaves : (turns : ℕ) (r : Running) → Sound r.spot → Numbers r → Leaves trace r (run_for turns trace r)
  unfolding run_for told
  run_leaves zero r s n = stays ended r refl s n
  run_leaves (suc turns) r s n = onward_leaves r (read_at trace r.spot.place) (run_for turns trace) (run_leaves turns) s n refl

  -- With room for a line, a run that stops as full has done an event.
  abbrev Further : Running → Stopped → Type 0
  Further r s = s.why ≡ full → r.spot.place < s.at.spot.place

  onward_further : (r : Running) (x : Reading) (turns : ℕ) → roomy r ≡ true → Sound r.spot → Numbers r → read_at trace r.spot.place ≡ x
      → Further r (onward trace r x (run_for turns trace))
  unfolding onward ending pick
  onward_further r end turns room s n h = λ e. let z : ◌≡◌ {A = ℕ} 0 1 = cc in absurd {0} (omega arith)
  onward_further r (refuse k at) turns room s n h = rw room (λ e. let z : ◌≡◌ {A = ℕ} 0 1 = cc in absurd {0} (omega arith))
  onward_further r (event e from next) turns room s n h =
      let says : _ = room_says r.out r.written r.spot.number room in
      let left : _ = run_leaves turns (after r e from next h) (after_sound r e from next h s) (after_numbers r e from next h says.1) in
      rw room (λ _. omega (arith, left.further, after_place r e from next h))

  pub run_further : (turns : ℕ) (r : Running) → roomy r ≡ true → Sound r.spot → Numbers r → Further r (run_for turns trace r)
  unfolding run_for
  run_further zero r room s n = λ e. let z : ◌≡◌ {A = ℕ} 0 1 = cc in absurd {0} (omega arith)
  run_further (suc turns) r room s n = onward_further r (read_at trace r.spot.place) turns room s n refl

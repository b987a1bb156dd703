-- The whole answer from its parts, and the end of answering. Assumes nothing.
use Prim.Native.Nat.{◌+◌, ◌<◌, ◌^◌, ◌≤◌, ℕ}
use borrow.Author.Tests.{le-ltb, lt-ltb}
use lib.ListN.{length, length-append, length-take, take}
use mathlib.Core.Bool.{Bool, false, true}
use mathlib.Core.List.{List, ◌++◌, ◌∷◌}
use mathlib.Core.Path.{◌∙◌, ◌≡◌, ap, subst, sym}
use native.Mathlib.Omega.{arith}
use Rattle.answer.specs.Answer.{Answer, counted, end_line}
use Rattle.answering.proofs.LineLaws.{lines_short}
use Rattle.answering.specs.Answering.{Writes, buffer_after, measured_of}
use Rattle.answering.specs.Lines.{answer_marked, lines_marked, row_shown}
use Rattle.judging.specs.declared.marking.Marking.{Marking}
use Rattle.judging.specs.declared.tally.Tally.{Tally}
use Rattle.text.specs.Bytes.{ascii}
use Rattle.text.specs.Numbers.{decimal}
use Rattle.writing.proofs.Digits.{decimal_short}
use Rattle.writing.proofs.Writing.{both, filled}
use Rattle.writing.specs.Write.{Stored, Wrote}

-- how long an end line is at most
pub end_short : (p w u : ℕ) → length (end_line p w u) ≤ 69
unfolding end_line
end_short p w u =
    let a : List ℕ = ascii "(end " ++ decimal p in
    let b : List ℕ = a ++ 32 ∷ decimal w in
    let c : List ℕ = b ++ 32 ∷ decimal u in
    omega (arith, decimal_short p, decimal_short w, decimal_short u, length-append a (32 ∷ decimal w), length-append b (32 ∷ decimal u), length-append c (ascii ")\n"))

module _ (os : List Bool) (m : Marking) (text ws : List ℕ) (gaps : Bool) (cs : List ℕ) (marks : List Bool) (chosen k : ℕ) (x : Tally) (small : length text ≤ 60000) (few : chosen ≤ 16) (rows : k ≤ 1024) where
  -- the answer
  abbrev marked : Bool → Answer
  marked asked = answer_marked (row_shown os m text ws gaps) (take chosen cs) marks k asked x

  abbrev lines : List ℕ
  lines = lines_marked (row_shown os m text ws gaps) (take chosen cs) marks k

  abbrev last : List ℕ
  last = end_line x.passed x.withheld x.unmatched

  -- it is far shorter than a machine's longest array
  short : (asked : Bool) → 0 + length (marked asked).bytes < 2 ^ 63
  unfolding answer_marked counted
  short true =
      let l : length (take chosen cs) ≤ 16 = omega (arith, few, length-take chosen cs) in
      omega (arith, rows, length-append lines last, lines_short os m text ws gaps (take chosen cs) marks small l k, end_short x.passed x.withheld x.unmatched)
  short false = omega (arith, end_short x.passed x.withheld x.unmatched)

  -- the lines, where they are asked for, then the end line
  pub lines_written : {asked : Bool} {b e f : List ℕ} {m n : ℕ} → asked ≡ true → Wrote b 0 lines e m → Wrote e m last f n → Stored b 0 (marked asked).bytes f n
  unfolding answer_marked counted
  lines_written {b} {f} {n} is v z = subst (λ (asked : Bool). Stored b 0 (marked asked).bytes f n) (sym is) ((both v z).room (short true))

  -- a count: the end line alone
  pub count_written : {asked : Bool} {b f : List ℕ} {n : ℕ} → asked ≡ false → Wrote b 0 last f n → Stored b 0 (marked asked).bytes f n
  unfolding answer_marked counted
  count_written {b} {f} {n} is z = subst (λ (asked : Bool). Stored b 0 (marked asked).bytes f n) (sym is) (z.room (short false))

-- what is behind a text written from the start is its length
pub size_written : {d bytes f : List ℕ} {n : ℕ} → Stored d 0 bytes f n → n ≡ length bytes
size_written w = omega (arith, w.behind)

-- the answer was measured
module _ (d : List ℕ) (a : Answer) {n : ℕ} (size : n ≡ length a.bytes) where
  figures : record { len = n; tally = record { passed = a.passed; withheld = a.withheld; unmatched = a.unmatched } } ≡ measured_of a
  unfolding measured_of
  figures = ap (λ k. record { len = k; tally = record { passed = a.passed; withheld = a.withheld; unmatched = a.unmatched } }) size

  -- the buffer has no room for it, and stays
  pub no_room : length d < n → Writes a d d (record { len = n; tally = record { passed = a.passed; withheld = a.withheld; unmatched = a.unmatched } })
  unfolding buffer_after
  no_room h = record { is = figures; buffer = rw (lt-ltb (length d) (length a.bytes) (omega (arith, h, size))) }

  -- the buffer has room, and it was written
  pub written : n ≤ length d → {f : List ℕ} {m : ℕ} → Stored d 0 a.bytes f m → Writes a d f (record { len = n; tally = record { passed = a.passed; withheld = a.withheld; unmatched = a.unmatched } })
  unfolding buffer_after
  written h v =
      let l : length a.bytes ≤ length d = omega (arith, h, size) in
      record { is = figures; buffer = rw (le-ltb (length d) (length a.bytes) l) (v.stored ∙ filled d a.bytes l) }

-- The lines that programs print fit into the lent array, and so stand at its start. Assumes nothing.
use Prim.Native.Nat.{◌≤◌, ℕ}
use lib.ListN.{drop, length, length-append, take}
use lib.Seq.{length-take-le, take-append_seam}
use mathlib.Core.List.{List, ◌++◌, ◌∷◌}
use mathlib.Core.Path.{◌∙◌, ◌≡◌, ap, sym}
use native.Mathlib.Omega.{arith}
use Rattle.answer.specs.Session.{refusal_line, source_name}
use Rattle.programs.specs.Counts.{IsPrefixLen}
use Rattle.programs.specs.Lines.{accepted_line}
use Rattle.text.specs.Bytes.{ascii}
use Rattle.text.specs.Numbers.{decimal}
use Rattle.text.specs.Refusal.{Refusal, Source, document, file, query}
use Rattle.writing.proofs.Digits.{decimal_short}
use Rattle.writing.proofs.Writing.{filled}
use Rattle.writing.specs.Write.{Wrote}

source_short : (s : Source) → length (source_name s) ≤ 8
unfolding source_name
source_short document = omega arith
source_short query = omega arith
source_short file = omega arith

-- a refusal's line has at most 82 bytes
pub refusal_short : (x : Refusal) → length (refusal_line x) ≤ 128
unfolding refusal_line
refusal_short x =
    let n : List ℕ = 32 ∷ source_name x.source in
    let p : List ℕ = 32 ∷ decimal x.start in
    let q : List ℕ = 32 ∷ decimal x.len in
    let a : List ℕ = ascii "(refused " ++ decimal x.number in
    omega (arith, decimal_short x.number, decimal_short x.start, decimal_short x.len, source_short x.source, length-append a n, length-append (a ++ n) p, length-append (a ++ n ++ p) q, length-append (a ++ n ++ p ++ q) (ascii ")\n"))

-- that of an acceptance has at most 53
pub accepted_short : (lines reserve : ℕ) → length (accepted_line lines reserve) ≤ 128
unfolding accepted_line
accepted_short lines reserve =
    let p : List ℕ = 32 ∷ decimal lines in
    let q : List ℕ = 32 ∷ decimal reserve in
    let a : List ℕ = ascii "(accepted" ++ p in
    omega (arith, decimal_short lines, decimal_short reserve, length-append a q, length-append (a ++ q) (ascii ")\n"))

-- a line that fits stands at the start of the array
pub line_put : {d e s : List ℕ} {r : ℕ} → 128 ≤ length d → length s ≤ 128 → Wrote d 0 s e r → IsPrefixLen r e × (take r e ≡ s)
line_put {d} {e} {s} {r} room short w =
    let v = w.room (omega (arith, short)) in
    let l : r ≤ length e = omega (arith, v.behind, w.kept, short, room) in
    let n : r ≡ length s = omega (arith, v.behind) in
    ((l, sym (length-take-le r e l)), ap (λ k. take k e) n ∙ ap (take (length s)) (v.stored ∙ filled d s (omega (arith, short, room))) ∙ take-append_seam s (drop (length s) d))

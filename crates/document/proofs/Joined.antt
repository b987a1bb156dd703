-- The check of two texts joined, of which the first is accepted, goes on behind the first. Assumes nothing.
use Prim.Native.Nat.{◌+◌, ◌≤◌, ℕ}
use borrow.Author.Tests.{le-ltb}
use lib.ListN.{length}
use mathlib.Core.List.{List, [], ◌++◌, ◌∷◌}
use mathlib.Core.Path.{◌∙◌, ◌≡◌, ap}
use native.Mathlib.Omega.{arith}
use Rattle.document.proofs.Accepting.{check_accepted, last_empty, more_accepted}
use Rattle.document.specs.Check.{Accepted, check, check_from, check_line}
use Rattle.document.specs.Policy.{Doc, empty_doc}
use Rattle.text.proofs.LineLaws.{cut_joined, joined}
use Rattle.text.proofs.RefusalLaws.{accepted_same, then_accepted}
use Rattle.text.specs.Lines.{Pieces, cut}
use Rattle.text.specs.Refusal.{◌>>=◌, ◌>>◌, accepted, moved_by, refuse_if}

-- a line that is accepted, and those behind it
pub line_first : (d e : Doc) (n at : ℕ) (piece q : List ℕ) (qs : List (List ℕ)) → check_line d piece ≡ accepted e
    → check_from d n at piece (q ∷ qs) ≡ check_from e (n + 1) (at + length piece + 1) q qs
unfolding check_from moved_by ◌>>=◌
line_first d e n at piece q qs h = rw h

-- behind the last line feed there is nothing more
last_is : (d : Doc) (n at : ℕ) (piece : List ℕ) (a : Accepted) → check_from d n at piece [] ≡ accepted a → record { lines = n; doc = d } ≡ a
unfolding check_from
last_is d n at piece a h = accepted_same (then_accepted _ _ _ h).2

-- the check of pieces that are accepted, with others behind them, is the check of the others from there on
check_behind : (qs : List (List ℕ)) (d : Doc) (n at : ℕ) (piece : List ℕ) (a : Accepted) (ps : Pieces) → check_from d n at piece qs ≡ accepted a
    → (at' : ℕ) × (check_from d n at (joined piece qs ps).head (joined piece qs ps).others ≡ check_from a.doc a.lines at' ps.head ps.others)
unfolding joined
check_behind [] d n at [] a ps h = (at, ap (λ (x : Accepted). check_from x.doc x.lines at ps.head ps.others) (last_is d n at [] a h))
check_behind [] d n at (b ∷ piece) a ps h = absurd (omega (arith, last_empty d n at (b ∷ piece) a h))
check_behind (q ∷ qs) d n at piece a ps h =
    let m = more_accepted d n at piece q qs a h in
    let r = check_behind qs m.0 (n + 1) (at + length piece + 1) q a ps m.2 in
    (r.0, line_first d m.0 n at piece (joined q qs ps).head (joined q qs ps).others m.1 ∙ r.1)

-- the check of a text behind an accepted document, all within the bound
pub check_joined : (doc lines : List ℕ) (a : Accepted) → check doc ≡ accepted a → length (doc ++ lines) ≤ 60000
    → (at : ℕ) × (check (doc ++ lines) ≡ check_from a.doc a.lines at (cut lines).head (cut lines).others)
unfolding check refuse_if ◌>>◌
check_joined doc lines a h short =
    let x = check_behind (cut doc).others empty_doc 0 0 (cut doc).head a (cut lines) (check_accepted doc a h).1 in
    (x.0, rw (le-ltb 60000 (length (doc ++ lines)) short) (ap (λ (p : Pieces). check_from empty_doc 0 0 p.head p.others) (cut_joined doc lines) ∙ x.1))

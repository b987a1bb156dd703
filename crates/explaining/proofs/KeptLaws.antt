-- What is kept of a line, and its length, decide what the line gives: one that is not kept whole is 11 at the whole. Assumes nothing.
use Prim.Native.Nat.{◌<◌, ◌≤◌, ℕ}
use borrow.Author.Tests.{eqb-true, le-ltb, leb-false, leb-true, lt-ltb}
use lib.Dec.{eqb, leb, ltb}
use lib.ListN.{length, take}
use lib.Seq.{length-take-le, take_all}
use mathlib.Core.Bool.{Bool, cond, false, true}
use mathlib.Core.List.{List}
use mathlib.Core.Option.{Option, none, some}
use mathlib.Core.Path.{◌∙◌, ◌≡◌, ap, refl, sym}
use native.Mathlib.Omega.{arith}
use Rattle.answer.specs.Why.{Reason, explain}
use Rattle.document.specs.Policy.{Doc}
use Rattle.explaining.proofs.WhyLength.{why_length}
use Rattle.explaining.specs.Kept.{line_bytes}
use Rattle.programs.specs.Kept.{part_length}
use Rattle.query.specs.WhyForm.{WhyForm, why_of}
use Rattle.reasons.specs.Explaining.{explain_line}
use Rattle.text.proofs.RefusalLaws.{not_refused}
use Rattle.text.specs.Refusal.{Refusal, Result, ◌>>=◌, accepted, need, pointing_all, query, refused}

-- a line that is longer than a right one is 11
long_line : (d : Doc) (line : List ℕ) → 101 < length line → explain_line d line ≡ refused (pointing_all 11 query line)
unfolding explain_line need ◌>>=◌
long_line d line long = ap (λ (o : Option WhyForm). need o (pointing_all 11 query line) >>= explain d) (go (why_of line) refl)
  where
    go : (o : Option WhyForm) → why_of line ≡ o → why_of line ≡ none
    go none e = e
    go (some w) e = absurd (omega (arith, why_length line w e, long))

-- the part of a line that was kept whole stays; that of one that was not is the line
part_kept : (part n : ℕ) → part_length part n n ≡ part
unfolding part_length
part_kept part n = go (eqb part 0) refl
  where
    go : (b : Bool) → eqb part 0 ≡ b → cond b 0 (cond (ltb n n) n part) ≡ part
    go true e = sym (eqb-true part 0 e)
    go false e = rw (le-ltb n n (omega arith))

part_cut : (len : ℕ) → 102 < len → part_length 102 102 len ≡ len
unfolding part_length
part_cut len h = rw (lt-ltb 102 len h)

-- the same refusal with another length
abbrev pub lengthened : Refusal → ℕ → Refusal
lengthened r n = record { number = r.number; source = r.source; start = r.start; len = n }

abbrev refusal_or : Refusal → Result Reason → Refusal
refusal_or r (refused x) = x
refusal_or r (accepted e) = r

module _ (d : Doc) (line : List ℕ) where
  kept_whole : length line ≤ 102 → take line_bytes line ≡ line
  unfolding line_bytes
  kept_whole h = take_all 102 line h

  kept_cut : 102 < length line → length (take line_bytes line) ≡ 102
  unfolding line_bytes
  kept_cut h = length-take-le 102 line (omega (arith, h))

  -- a reason for what is kept is the line's
  pub reason_kept : (e : Reason) → accepted e ≡ explain_line d (take line_bytes line) → accepted e ≡ explain_line d line
  reason_kept e h = go (leb (length line) 102) refl
    where
      go : (b : Bool) → leb (length line) 102 ≡ b → accepted e ≡ explain_line d line
      go true t = h ∙ ap (explain_line d) (kept_whole (leb-true (length line) 102 t))
      go false t =
          let cut = kept_cut (leb-false (length line) 102 t) in
          not_refused (sym (h ∙ long_line d (take line_bytes line) (omega (arith, cut))))

  -- a refusal of what is kept is the line's, with the length of its part
  pub refusal_kept : (r : Refusal) (n : ℕ) → n ≡ part_length r.len (length (take line_bytes line)) (length line) → refused r ≡ explain_line d (take line_bytes line) → refused (lengthened r n) ≡ explain_line d line
  unfolding pointing_all
  refusal_kept r n is h = go (leb (length line) 102) refl
    where
      go : (b : Bool) → leb (length line) 102 ≡ b → refused (lengthened r n) ≡ explain_line d line
      go true t =
          let whole = kept_whole (leb-true (length line) 102 t) in
          let same : n ≡ r.len = is ∙ ap (λ k. part_length r.len (length k) (length line)) whole ∙ part_kept r.len (length line) in
          ap (λ k. refused (lengthened r k)) same ∙ h ∙ ap (explain_line d) whole
      go false t =
          let long = leb-false (length line) 102 t in
          let cut = kept_cut long in
          let all : r ≡ pointing_all 11 query (take line_bytes line) = ap (refusal_or r) (h ∙ long_line d (take line_bytes line) (omega (arith, cut))) in
          let part : r.len ≡ 102 = ap (λ (x : Refusal). x.len) all ∙ cut in
          let full : n ≡ length line = is ∙ ap (λ k. part_length k (length (take line_bytes line)) (length line)) part ∙ ap (λ k. part_length 102 k (length line)) cut ∙ part_cut (length line) long in
          ap (λ k. refused (lengthened r k)) full ∙ ap (λ (x : Refusal). refused (lengthened x (length line))) all ∙ sym (long_line d line (omega (arith, long)))

-- The part of a text that a refusal hands back. Assumes nothing.
use Prim.Native.Nat.{◌+◌, ◌-◌, ◌<◌, ◌≤◌, ℕ}
use lib.ListN.{drop, length, length-drop, length-take, take}
use lib.Seq.{take_all}
use mathlib.Core.List.{List, [], ◌∷◌}
use mathlib.Core.Path.{◌∙◌, ◌≡◌, ap, refl, sym}
use native.Mathlib.Omega.{arith}
use Rattle.answer.specs.Ask.{part_of, pointed_text}
use Rattle.text.specs.Reasons.{refusal_of, source_of}
use Rattle.text.specs.declared.refusals.Refusal.{Refusal}
use Rattle.text.specs.declared.refusals.Source.TheVariants as source

nothing_in : (l : List ℕ) → length l ≡ 0 → [] ≡ l
nothing_in [] h = refl
nothing_in (b ∷ bs) h = absurd (omega (arith, h))

module _ (s : List ℕ) (start len : ℕ) where
  pub piece_behind : length s < start → [] ≡ take len (drop start s)
  piece_behind h = nothing_in (take len (drop start s)) (omega (arith, length-take len (drop start s), length-drop start s))

  pub piece_inside : take (start + len - start) (drop start s) ≡ take len (drop start s)
  piece_inside =
      let e : start + len - start ≡ len = omega arith in
      ap (λ k. take k (drop start s)) e

  pub piece_end : length s - start ≤ len → take (length s - start) (drop start s) ≡ take len (drop start s)
  piece_end h = take_all (length s - start) (drop start s) (omega (arith, length-drop start s)) ∙ sym (take_all len (drop start s) (omega (arith, length-drop start s)))

module _ (doc text : List ℕ) (r : Refusal) where
  pub part_document : r.source ≡ source.Document → take r.len (drop r.start doc) ≡ part_of doc text (refusal_of r)
  unfolding part_of pointed_text
  part_document e = ap (λ v. take r.len (drop r.start (pointed_text doc text (source_of v)))) (sym e)

  pub part_query : r.source ≡ source.Query → take r.len (drop r.start text) ≡ part_of doc text (refusal_of r)
  unfolding part_of pointed_text
  part_query e = ap (λ v. take r.len (drop r.start (pointed_text doc text (source_of v)))) (sym e)

  pub part_file : r.source ≡ source.File → [] ≡ part_of doc text (refusal_of r)
  unfolding part_of pointed_text
  part_file e =
      let none : List ℕ = [] in
      nothing_in (take r.len (drop r.start none)) (omega (arith, length-take r.len (drop r.start none), length-drop r.start none)) ∙ ap (λ v. take r.len (drop r.start (pointed_text doc text (source_of v)))) (sym e)

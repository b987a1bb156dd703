-- The ends of the value at a position, as code reads them. Assumes nothing.
use Prim.Native.Nat.{◌+◌, ℕ}
use lib.ListN.{drop, get_or}
use mathlib.Core.List.{List, ◌∷◌}
use mathlib.Core.Option
use mathlib.Core.Option.{Option, map, bind, none, some}
use mathlib.Core.Path.{◌∙◌, ◌≡◌, ap, refl, sym}
use native.Mathlib.Omega.{arith}
use Rattle.condition.specs.Ranges.{ends_of, point}
use Rattle.lists.proofs.PairLaws.{triple_same}
use Rattle.lists.specs.Lists.{or_zero, there}
use Rattle.text.proofs.Closings.{closing_more, written_bracket, written_word}
use Rattle.text.proofs.Lefts.{before_end}
use Rattle.text.proofs.RangeLaws.{range_unopened, written_range}
use Rattle.text.specs.Amounts.{Range, is_range, range}
use Rattle.text.specs.Bytes.{is_digit}
use Rattle.text.specs.CodeEnds.{end_of_range}
use Rattle.text.specs.Numbers.{digits_from, magnitude, no_leading_zero, rank}
use Rattle.text.specs.Reader.{Left, from}
use Rattle.text.specs.Words.{to_closing, word_at, written_at}
use Rattle.std.specs.Prelude.{None, Some, is_some}

-- what the code's answer tells of the reader of a range
span_some : (o : Option (Range × Left)) (e l h : ℕ) → end_of_range o ≡ Some (e, l, h) → map (λ x. x.0) o ≡ some (record { low = l; high = h })
span_some none e l h k = let z : ◌≡◌ {A = ℕ} 0 1 = cc in absurd (omega arith)
span_some (some r) e l h k = let q = triple_same k in λ i. some (record { low = q.1 i; high = q.2 i })

span_none : (o : Option (Range × Left)) → end_of_range o ≡ None → map (λ x. x.0) o ≡ none
span_none none k = refl
span_none (some r) k = let z : ◌≡◌ {A = ℕ} 0 1 = cc in absurd (omega arith)

module _ (s : List ℕ) (at : ℕ) where
  -- what begins with a bracket has no rank
  opened_rank : get_or s at 0 ≡ 40 → rank (written_at s at) ≡ none
  unfolding rank magnitude no_leading_zero digits_from is_digit bind
  opened_rank b =
      let here : written_at s at ≡ get_or s at 0 ∷ to_closing (drop (at + 1) s) =
      written_bracket s at b ∙ closing_more s at (before_end s at (λ z. absurd (omega (arith, b, z)))) (λ z. absurd (omega (arith, b, z))) (λ z. absurd (omega (arith, b, z))) in
      ap rank here ∙ ap (λ (c : ℕ). rank (c ∷ to_closing (drop (at + 1) s))) b

  -- a range that was read has its own ends
  pub span_ends : (e l h : ℕ) → end_of_range (range (from s at)) ≡ Some (e, l, h) → record { low = l; high = h } ≡ ends_of (written_at s at)
  unfolding ends_of
  span_ends e l h k = sym (ap (λ (o : Option Range). Option.get_or o (point (or_zero (rank (written_at s at))))) (written_range s at ∙ span_some (range (from s at)) e l h k))

  -- where a bracket opens and no range is read, they are zeros
  pub no_ends : end_of_range (range (from s at)) ≡ None → get_or s at 0 ≡ 40 → record { low = 0; high = 0 } ≡ ends_of (written_at s at)
  unfolding ends_of point or_zero
  no_ends k b =
      sym (ap (λ (o : Option Range). Option.get_or o (point (or_zero (rank (written_at s at))))) (written_range s at ∙ span_none (range (from s at)) k)
      ∙ ap (λ (o : Option ℕ). point (or_zero o)) (opened_rank b))

  -- where none opens, those of a word
  pub word_ends : (n : ℕ) → (get_or s at 0 ≡ 40 → ⊥) → n ≡ or_zero (rank (word_at s at)) → record { low = n; high = n } ≡ ends_of (written_at s at)
  unfolding ends_of point
  word_ends n h e =
      ap point (e ∙ ap (λ (w : List ℕ). or_zero (rank w)) (sym (written_word s at h)))
      ∙ sym (ap (λ (o : Option Range). Option.get_or o (point (or_zero (rank (written_at s at))))) (written_range s at ∙ ap (map (λ x. x.0)) (range_unopened s at h)))

  -- whether there is a range
  pub range_found : is_some (end_of_range (range (from s at))) ≡ is_range (written_at s at)
  unfolding is_range there
  range_found = go (range (from s at)) ∙ sym (ap there (written_range s at))
    where
      go : (o : Option (Range × Left)) → is_some (end_of_range o) ≡ there (map (λ x. x.0) o)
      go none = refl
      go (some r) = refl

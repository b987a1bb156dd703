-- A query that names what it selects and what is in its condition names every selected column and every one in the condition.
-- Assumes nothing.
use Prim.Native.Nat.{ℕ}
use mathlib.Core.Bool.{Bool, ◌||◌, cond, false, true}
use mathlib.Core.List.{List, ◌++◌}
use mathlib.Core.Path.{◌∙◌, ◌≡◌, ap, sym}
use Rattle.condition.specs.Comparison.{Comparison}
use Rattle.condition.specs.Cond.{comparisons_in}
use Rattle.lists.proofs.KeptLaws.{all_of_members}
use Rattle.lists.proofs.ListLaws.{all_map, member_append}
use Rattle.lists.proofs.Tests.{or_left, or_right}
use Rattle.lists.specs.Lists.{all_of, member}
use Rattle.query.specs.Query.{NamesParts, Query, tested}
use Rattle.query.specs.QueryForm.{has_gaps, selected}

-- every column in the condition is a member, if every tested one is
of_tested : (q : Query) (ks : List ℕ) → ((k : ℕ) → member k (tested q) ≡ true → member k ks ≡ true) → all_of (λ t. member t.of ks) (comparisons_in q.condition) ≡ true
unfolding tested
of_tested q ks h = sym (all_map (λ k. member k ks) (λ (t : Comparison). t.of) (comparisons_in q.condition)) ∙ all_of_members _ (tested q) h

module _ (q : Query) (parts : NamesParts q) where
  -- a column is named exactly when it is selected or stands in the condition
  pub named_are : (k : ℕ) → member k q.source.named ≡ (member k (selected q.wanted) || member k (tested q))
  named_are k = ap (member k) parts.named ∙ member_append k _ _

  -- every selected column is named
  pub selected_named : all_of (λ c. member c q.source.named) (selected q.wanted) ≡ true
  selected_named = all_of_members _ (selected q.wanted) (λ k m. named_are k ∙ or_left _ _ m)

  -- so is every column in the condition, evaluated or not
  pub condition_named : all_of (λ t. member t.of q.source.named) (comparisons_in q.condition) ≡ true
  condition_named = of_tested q q.source.named (λ k m. named_are k ∙ or_right (member k (selected q.wanted)) _ m)

  -- and each of them withholds
  pub condition_withholds : all_of (λ t. member t.of q.source.withholding) (comparisons_in q.condition) ≡ true
  condition_withholds = of_tested q q.source.withholding (λ k m. ap (member k) parts.withholding ∙ go (has_gaps q.wanted) k m)
    where
      go : (b : Bool) (k : ℕ) → member k (tested q) ≡ true → member k (cond b (tested q) (selected q.wanted ++ tested q)) ≡ true
      go true k m = m
      go false k m = member_append k _ _ ∙ or_right (member k (selected q.wanted)) _ m

  -- every column that withholds is named
  pub withholding_named : (k : ℕ) → member k q.source.withholding ≡ true → member k q.source.named ≡ true
  withholding_named k m = go (has_gaps q.wanted) (sym (ap (member k) parts.withholding) ∙ m)
    where
      go : (b : Bool) → member k (cond b (tested q) (selected q.wanted ++ tested q)) ≡ true → member k q.source.named ≡ true
      go true h = named_are k ∙ or_right (member k (selected q.wanted)) _ h
      go false h = ap (member k) parts.named ∙ h

  -- where no gaps are left, all that are named do
  pub all_withhold : has_gaps q.wanted ≡ false → q.source.withholding ≡ q.source.named
  all_withhold h = parts.withholding ∙ ap (λ b. cond b (tested q) (selected q.wanted ++ tested q)) h ∙ sym parts.named

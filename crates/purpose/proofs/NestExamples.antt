-- Nest tables over the tree of the sample session, and what 000 says of its own labels. Assumes nothing.
use Prim.Native.Nat.{◌+◌, ℕ}
use mathlib.Core.Bool.{Bool, beq, ◌&&◌, false, true}
use mathlib.Core.List.{List, [], ◌∷◌}
use mathlib.Core.Path.{◌≡◌, refl}
use Rattle.lists.specs.Lists.{all_of, member}
use Rattle.purpose.proofs.Examples.{session}
use Rattle.purpose.specs.Compliance.{Marks}
use Rattle.purpose.specs.Computing.{computing}
use Rattle.purpose.specs.Nest.{closed_both_ways, closed_down, nest_opens, unmarked, weak_sets, without}

abbrev marks : List ℕ → List ℕ → Marks
marks xs ys = record { allowed = xs; denied = ys }

-- the strong label, the weak ones of the table, the row and the cell, and for which of the first purposes the cell is open
pub record Case : Type 0 where
  pub strong : Marks
  pub table : Marks
  pub row : Marks
  pub cell : Marks
  pub open? : List Bool

unfoldable pub case : Marks → Marks → Marks → Marks → Bool → Bool → Bool → Bool → Case
case s t r c a b d e = record { strong = s; table = t; row = r; cell = c; open? = a ∷ b ∷ d ∷ e ∷ [] }

-- the four purposes: all, bill and ads below it, post below ads
unfoldable pub cases : List Case
cases =
    -- no label: closed
    case unmarked unmarked unmarked unmarked false false false false
    -- a label at the cell alone, or at the table alone, is a label as before
    ∷ case unmarked unmarked unmarked (marks (0 ∷ []) (3 ∷ [])) false true false false
    ∷ case unmarked (marks (0 ∷ []) (3 ∷ [])) unmarked unmarked false true false false
    -- a lower label allows again what a higher one denied, downwards only
    ∷ case unmarked (marks (0 ∷ []) (2 ∷ [])) (marks (3 ∷ []) []) unmarked false true false true
    ∷ case unmarked (marks (0 ∷ []) (2 ∷ [])) unmarked (marks (2 ∷ []) []) false true true true
    -- and a still lower one denies it again
    ∷ case unmarked (marks (0 ∷ []) (2 ∷ [])) (marks (2 ∷ []) []) (marks [] (3 ∷ [])) false true false false
    -- its own denied set is added last
    ∷ case unmarked unmarked (marks (0 ∷ []) (0 ∷ [])) unmarked false false false false
    -- a higher label does not take from a lower one
    ∷ case unmarked (marks (0 ∷ []) []) (marks [] (1 ∷ [])) unmarked false false true true
    -- strong labels go first, and denied goes before allowed
    ∷ case (marks (2 ∷ []) []) unmarked unmarked (marks (0 ∷ []) (0 ∷ [])) false false true true
    ∷ case (marks [] (2 ∷ [])) unmarked unmarked (marks (0 ∷ []) []) false true false false
    ∷ case (marks (2 ∷ []) (3 ∷ [])) unmarked unmarked (marks (0 ∷ []) []) false true false false
    ∷ []

unfoldable pub right : List ℕ → ℕ → Case → List Bool → Bool
right tree p c [] = true
right tree p c (b ∷ bs) = beq (nest_opens tree c.strong c.table c.row c.cell p) b && right tree (p + 1) c bs

unfoldable pub agree : List ℕ → List Case → Bool
agree tree [] = true
agree tree (c ∷ cs) = right tree 0 c c.open? && agree tree cs

pub sample : agree session cases ≡ true
unfolding computing session case cases agree right
sample = refl

-- why merged sets are not closed again: post, which the row allows and the table denied, would be denied by its ancestors, which
-- stay in the set
pub closed_again : member 3 (closed_both_ways session (without (closed_both_ways session (3 ∷ [])) (closed_down session (3 ∷ [])))) ≡ true
unfolding computing session
closed_again = refl

-- ---- 000's own labels, over the tree of its figure 1

-- General-Purpose 0; Admin 1 with Profiling 2 and Analysis 3; Purchase 4; Shipping 5; Marketing 6 with Direct 7 (D-Email 8 with
-- Special-Offers 10 and Service-Updates 11, D-Phone 9) and Third-Party 12 (T-Email 13, T-Postal 14)
unfoldable pub figure_1 : List ℕ
figure_1 = 0 ∷ 0 ∷ 1 ∷ 1 ∷ 0 ∷ 0 ∷ 0 ∷ 6 ∷ 7 ∷ 7 ∷ 8 ∷ 8 ∷ 6 ∷ 12 ∷ 12 ∷ []

-- the lists hold the same numbers
unfoldable pub same_sets : List ℕ → List ℕ → Bool
same_sets xs ys = all_of (λ x. member x ys) xs && all_of (λ y. member y xs) ys

-- Example 1: what the allowed Admin and Direct and the prohibited D-Email entail
pub example_1 : (same_sets (closed_down figure_1 (1 ∷ 7 ∷ [])) (1 ∷ 2 ∷ 3 ∷ 7 ∷ 8 ∷ 9 ∷ 10 ∷ 11 ∷ []) && same_sets (closed_both_ways figure_1 (8 ∷ [])) (8 ∷ 10 ∷ 11 ∷ 7 ∷ 6 ∷ 0 ∷ [])) ≡ true
unfolding computing figure_1 same_sets
example_1 = refl

-- Section 5.2: the label of an instance, which allows Admin and prohibits Marketing, merged over that of its type, which allows Marketing
-- and prohibits Admin. Where the type's is weak it is overridden, and where it is strong it is not. General-Purpose stays denied, and
-- of the rest nothing is allowed.
unfoldable pub conflict : List Case
conflict =
    record { strong = unmarked; table = marks (6 ∷ []) (1 ∷ []); row = marks (1 ∷ []) (6 ∷ []); cell = unmarked; open? = false ∷ true ∷ true ∷ true ∷ false ∷ false ∷ false ∷ false ∷ [] }
    ∷ record { strong = marks (6 ∷ []) (1 ∷ []); table = unmarked; row = marks (1 ∷ []) (6 ∷ []); cell = unmarked; open? = false ∷ false ∷ false ∷ false ∷ false ∷ false ∷ true ∷ true ∷ [] }
    ∷ []

pub section_5_2 : agree figure_1 conflict ≡ true
unfolding computing figure_1 conflict agree right
section_5_2 = refl

-- Figure 4, lines 9 and 10, on these labels: the sets of the instance merged over the type's
pub figure_4 :
    (same_sets (weak_sets figure_1 (marks (6 ∷ []) (1 ∷ [])) (marks (1 ∷ []) (6 ∷ [])) unmarked).allowed (1 ∷ 2 ∷ 3 ∷ 6 ∷ 7 ∷ 8 ∷ 9 ∷ 10 ∷ 11 ∷ 12 ∷ 13 ∷ 14 ∷ [])
    && same_sets (weak_sets figure_1 (marks (6 ∷ []) (1 ∷ [])) (marks (1 ∷ []) (6 ∷ [])) unmarked).denied (0 ∷ 6 ∷ 7 ∷ 8 ∷ 9 ∷ 10 ∷ 11 ∷ 12 ∷ 13 ∷ 14 ∷ []))
    ≡ true
unfolding computing figure_1 same_sets
figure_4 = refl

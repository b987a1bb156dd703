-- `tables::table_faults::first_repeat_by` meets its contract. The loop's invariant: none of the names that were passed stood before, and they
-- were met. Assumes nothing.
use Prim.Native.Nat.{◌+◌, ◌<◌}
use lib.ListN.{take}
use mathlib.Core.Bool.{false}
use mathlib.Core.List.{◌∷◌}
use mathlib.Core.Path.{◌∙◌, ◌≡◌, ap, refl, subst, sym}
use native.Mathlib.Omega.{arith}
use Rattle.tables.proofs.TableLineLaws.{Passing, bracket_after, column_names, first_within, names_by_more, names_by_stop, passing_end, passing_found, passing_more, passing_start, passing_tests}
use Rattle.tables.specs.TableLine.{bracket_end_by, columns_by}
use Rattle.form.specs.Walks.{first_in}
use Rattle.workspace.proofs.MetLaws.{met_none}
use Rattle.lists.specs.Lists.{any_of}
use Rattle.text.proofs.Spaces.{space_here}
use Rattle.text.specs.Words.{is_called, word_of}
use Rattle.tables.proofs.table_faults.first_repeat_by.Goals.{After-bracket_end-j, After-first_in-p, Joined-not-is_new, then-not-is_new+else-stands_among, else-not-is_new}
use Rattle.tables.proofs.table_faults.first_repeat_by.Goals as goal

pub loop-p-init : goal.loop-p-init
loop-p-init c = (passing_start _, omega arith, met_none _, refl)

pub overflow_add-j : goal.overflow_add-j
overflow_add-j c = omega (arith, (space_here c.args.s.now c.loop-p.j _ c.byte_at.ensures c.loop-p-test.true).1)

-- the name at the place is the next one
next : (c : After-first_in-p) → Passing (column_names (columns_by c.args.triple
    c.args.s.now c.args.at))
    c.loop-p.n (word_of c.args.s.now c.first_in-p.result ∷ column_names
    (columns_by c.args.triple c.args.s.now
    (bracket_end_by c.args.triple c.args.s.now (c.loop-p.j + 1))))
unfolding first_in
next c =
    let s = c.args.s.now in
    let ws = column_names (columns_by c.args.triple s c.args.at) in
    let rest = column_names (columns_by c.args.triple s (bracket_end_by c.args.triple s (c.loop-p.j + 1))) in
    subst (λ l. Passing ws c.loop-p.n l)
    (names_by_more s c.loop-p.j c.args.triple
    (space_here s c.loop-p.j _ c.byte_at.ensures c.loop-p-test.true).0 ∙ ap
    (λ q. word_of s q ∷ rest) (sym c.first_in-p.ensures))
    c.loop-p.invariant.0

pub shape_of-met-then-stands_among : goal.shape_of-met-then-stands_among
shape_of-met-then-stands_among c = omega (arith, c.loop-p.invariant.3)

pub returns-then-stands_among : goal.returns-then-stands_among
unfolding first_in
returns-then-stands_among c = let s = c.args.s.now in (
  sym (passing_found (word_of s c.first_in-p.result) _ (next (goal.at.returns-then-stands_among c).After-first_in-p) (sym c.stands_among.ensures ∙ c.if-stands_among.true)),
  omega (
    arith,
    c.first_in-p.ensures,
    first_within s
        c.loop-p.j
        (space_here s c.loop-p.j _ c.byte_at.ensures c.loop-p-test.true).1,
  ),
)

pub overflow_add-j-in-loop-p : goal.overflow_add-j-in-loop-p
overflow_add-j-in-loop-p c = omega (
  arith,
  (space_here c.args.s.now
      c.loop-p.j _
      c.byte_at.ensures c.loop-p-test.true).1,
)

-- the name is none of those before: it is surely new, or it was compared with them
absent : (c : Joined-not-is_new) → any_of (λ v. is_called (word_of
    c.args.s.now
    c.first_in-p.result) v.bytes) (take
    c.loop-p.n (column_names (columns_by
    c.args.triple
    c.args.s.now
    c.args.at))) ≡ false
absent c = elim c.if-not-is_new.branch [
  | then-not-is_new+else-stands_among v ↦ sym v.stands_among.ensures ∙ v.if-stands_among.false
  | else-not-is_new v ↦ c.is_new.ensures.none _ c.loop-p.invariant.2 v.if-not-is_new.false
]

pub overflow_add-n : goal.overflow_add-n
overflow_add-n c = omega (
  arith,
  c.loop-p.invariant.1,
  (space_here
      c.args.s.now
      c.loop-p.j _
      c.byte_at.ensures
      c.loop-p-test.true).1,
)

-- the next turn begins later
later : (c : After-bracket_end-j) → c.loop-p.j < c.bracket_end-j.result
later c = let entry = c.args in omega (arith, c.bracket_end-j.ensures, bracket_after entry.s.now c.loop-p.j entry.triple)

pub loop-p-smaller : goal.loop-p-smaller
loop-p-smaller c = omega (
  arith,
  later c,
  (space_here
      c.args.s.now
      c.loop-p.j _
      c.byte_at.ensures
      c.loop-p-test.true).1,
)

pub loop-p-preserved : goal.loop-p-preserved
loop-p-preserved c = let s = c.args.s.now in
    let ws = column_names (columns_by c.args.triple s c.args.at) in (
      subst (λ e. Passing ws (c.loop-p.n + 1) (column_names (columns_by c.args.triple s e))) (sym c.bracket_end-j.ensures)
          (passing_more (word_of s c.first_in-p.result) _ (next (goal.at.loop-p-preserved c).After-first_in-p) (absent (goal.at.loop-p-preserved c).Joined-not-is_new)),
      omega (arith, later c, c.loop-p.invariant.1),
      c.is_new.ensures.more _ _
          c.loop-p.invariant.2
          (passing_tests (word_of s c.first_in-p.result) _ (next (goal.at.loop-p-preserved c).After-first_in-p)),
      omega (arith, c.loop-p.invariant.3),
    )

pub shape_of-met : goal.shape_of-met
shape_of-met c = c.loop-p.invariant.3

pub returns : goal.returns
returns c = let s = c.args.s.now in
    let ws = column_names (columns_by c.args.triple s c.args.at) in (
      sym (passing_end (subst (λ l. Passing ws c.loop-p.n l) (names_by_stop s c.loop-p.j c.args.triple (λ z. c.loop-p-test.false (c.byte_at.ensures ∙ z))) c.loop-p.invariant.0)),
      tt,
    )

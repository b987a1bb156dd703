-- `tables::table_faults::stands_among` meets its contract. The loop's invariant: whether the name is one of those that were to be looked at is
-- whether it is one of those that are left. Assumes nothing.
use Prim.Native.Nat.{◌+◌, ◌-◌, ◌<◌}
use lib.ListN.{take}
use mathlib.Core.Bool.{Bool}
use mathlib.Core.Path.{◌∙◌, ◌≡◌, ap, refl, sym}
use native.Mathlib.Omega.{arith}
use Rattle.tables.proofs.TableLineLaws.{another, bracket_after, column_names, none_looked, none_there, this_one}
use Rattle.tables.specs.TableLine.{columns_by}
use Rattle.form.specs.Walks.{first_in}
use Rattle.lists.specs.Lists.{any_of}
use Rattle.text.proofs.Spaces.{space_here}
use Rattle.text.specs.Names.{same_name}
use Rattle.text.specs.Words.{Word, is_called, word_at, word_of}
use Rattle.tables.proofs.table_faults.stands_among.Goals.{After-bracket_end-j, After-same_name}
use Rattle.tables.proofs.table_faults.stands_among.Goals as goal

pub loop-at-init : goal.loop-at-init
loop-at-init c = refl

pub returns-then-left-eq0 : goal.returns-then-left-eq0
returns-then-left-eq0 c = let entry = c.args in sym
    (c.loop-at.invariant ∙ none_looked entry.s.now c.loop-at.j entry.triple (λ (v : Word). is_called (word_of entry.s.now entry.p) v.bytes) c.loop-at.left c.if-left-eq0.true)

pub overflow_add-j : goal.overflow_add-j
overflow_add-j c = omega (arith, (space_here c.args.s.now c.loop-at.j _ c.byte_at.ensures c.loop-at-test.true).1)

-- what the code compared is the name of the column
compared : (c : After-same_name) → c.same_name.result ≡ is_called
    (word_of c.args.s.now c.args.p)
    (word_at c.args.s.now (first_in c.args.s.now (c.loop-at.j + 1)))
unfolding is_called first_in
compared c = let entry = c.args in c.same_name.ensures ∙ ap (λ q. same_name (word_at entry.s.now entry.p) (word_at entry.s.now q)) c.first_in.ensures

pub returns-then-same_name : goal.returns-then-same_name
returns-then-same_name c = let entry = c.args in sym
    (c.loop-at.invariant ∙ this_one entry.s.now
    c.loop-at.j entry.triple
    (λ (v : Word). is_called (word_of entry.s.now entry.p) v.bytes) c.loop-at.left
    (space_here entry.s.now c.loop-at.j _ c.byte_at.ensures c.loop-at-test.true).0
    c.if-left-eq0.false (sym (compared (goal.at.returns-then-same_name c).After-same_name) ∙ c.if-same_name.true))

pub overflow_add-j-in-loop-at : goal.overflow_add-j-in-loop-at
overflow_add-j-in-loop-at c = omega
    (arith, (space_here c.args.s.now c.loop-at.j _ c.byte_at.ensures c.loop-at-test.true).1)

pub overflow_sub-left : goal.overflow_sub-left
overflow_sub-left c = omega (arith, c.if-left-eq0.false)

-- the next turn begins later
later : (c : After-bracket_end-j) → c.loop-at.j < c.bracket_end-j.result
later c = let entry = c.args in omega (arith, c.bracket_end-j.ensures, bracket_after entry.s.now c.loop-at.j entry.triple)

pub loop-at-smaller : goal.loop-at-smaller
loop-at-smaller c = omega (
  arith,
  later c,
  (space_here c.args.s.now
      c.loop-at.j _ c.byte_at.ensures
      c.loop-at-test.true).1,
)

pub loop-at-preserved : goal.loop-at-preserved
loop-at-preserved c = let s = c.args.s.now in
    let f : Word → Bool = λ (v : Word). is_called (word_of s c.args.p) v.bytes in
    c.loop-at.invariant
    ∙ another s c.loop-at.j
    c.args.triple f
    c.loop-at.left
    (space_here s c.loop-at.j _ c.byte_at.ensures c.loop-at-test.true).0
    c.if-left-eq0.false (sym (compared (goal.at.loop-at-preserved c).After-same_name) ∙ c.if-same_name.false)
    ∙ ap (λ e. any_of f (take (c.loop-at.left - 1) (column_names (columns_by c.args.triple s e)))) (sym c.bracket_end-j.ensures)

pub returns : goal.returns
returns c = let entry = c.args in sym
    (c.loop-at.invariant ∙ none_there entry.s.now c.loop-at.j entry.triple (λ (v : Word). is_called (word_of entry.s.now entry.p) v.bytes) c.loop-at.left (λ z. c.loop-at-test.false (c.byte_at.ensures ∙ z)))

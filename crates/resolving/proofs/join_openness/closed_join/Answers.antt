-- `resolving::join_openness::closed_join` meets its contract: closed tables come before closed columns. Assumes nothing.
use Rattle.query.specs.JoinForm.{join_refs}
use Rattle.resolving.proofs.ClosedRefs.{first_closed, refs_closed, second_closed}
use borrow.Author.Tests.{not-false}
use mathlib.Core.Path.{◌∙◌, sym}
use native.Mathlib.Omega.{arith}
use Rattle.resolving.proofs.join_openness.closed_join.Goals as goal

pub returns-then-not-table_open : goal.returns-then-not-table_open
returns-then-not-table_open c = λ d text s k j h m o l g. first_closed h (sym (c.table_open.ensures d text k _ h.tables m h.first_inside o) ∙ c.if-not-table_open.true)

pub returns-then-not-table_open-2 : goal.returns-then-not-table_open-2
returns-then-not-table_open-2 c = λ d text s k j h m o l g.
    second_closed h (sym (c.table_open.ensures d text k _ h.tables m h.first_inside o) ∙ c.if-not-table_open.false)
    (sym (c.table_open-2.ensures d text k _ h.tables m h.second_inside o) ∙ c.if-not-table_open-2.true)

pub returns-then-n-gt-JOINED : goal.returns-then-n-gt-JOINED
returns-then-n-gt-JOINED c = λ d text s k j h m o l g. absurd (omega (arith, l, c.if-n-gt-JOINED.true))

pub first_closed_ref-requires : goal.first_closed_ref-requires
first_closed_ref-requires c = omega (arith, c.if-n-gt-JOINED.false)

pub returns : goal.returns
returns c = λ d text s k j h m o l g.
    c.first_closed_ref.ensures d text s k j (join_refs j) h o g
    ∙ refs_closed h (sym (c.table_open.ensures d text k _ h.tables m h.first_inside o) ∙ not-false _
    c.if-not-table_open.false-raw) (sym (c.table_open-2.ensures d text k _ h.tables m h.second_inside o) ∙ c.if-not-table_open-2.false)

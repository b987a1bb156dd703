-- `walks::lines::take_row` meets its contract, by the two marks of its table's scheme. Assumes nothing.
use Prim.Native.Nat.{◌<◌, ℕ}
use mathlib.Core.Bool.{Bool}
use mathlib.Core.List.{List}
use mathlib.Core.Path.{◌∙◌, ◌≡◌, ap, refl, sym}
use Rattle.document.specs.Lookup.{table_of}
use Rattle.document.specs.Policy.{Doc}
use Rattle.form.specs.Form.{has_brackets, leads_label}
use Rattle.relations.specs.Tables.{Tables}
use Rattle.form.specs.declared.lines.Scheme as coded
use Rattle.lists.proofs.Tests.{true_not_false}
use Rattle.walks.proofs.RowLines.{line_taken, name_ends}
use Rattle.walks.proofs.RowsTaken.{TableTold, table_told}
use Rattle.walks.specs.Taken.{TakesItems, TakesRow, table_end}
use Rattle.text.specs.Walking.{word_end_at}
use Rattle.text.specs.Words.{word_of}
use Rattle.std.specs.Prelude.{Some}
use Rattle.walks.proofs.lines.take_row.Goals.{After-table_scheme-scheme}
use Rattle.walks.proofs.lines.take_row.Goals as goal

-- what is known before the scheme decides
room : (c : After-table_scheme-scheme) → c.args.k < 1024
room c = c.if-k-ge-ROWS.false

ends : (c : After-table_scheme-scheme) → table_end c.args.line.now ≡ Some c.in-Some.is'
ends c = sym c.table_end.ensures ∙ c.in-Some.is

found : (c : After-table_scheme-scheme) (d : Doc) {s : coded.Scheme} → Tables
    c.args.text.now
    c.args.tables.now
    c.args.tables_count
    d.policy.tables → c.table_scheme-scheme.result ≡ s
    → TableTold c.args.tables.now
    c.args.tables_count
    c.in-Some-find_table_to.x s
    (word_of c.args.line.now 5) d.policy
unfolding table_of word_end_at
found c d T told = let entry = c.args in table_told
    (word_of entry.line.now 5) d.policy T
    c.in-Some-find_table_to.is
    (c.find_table_to.ensures.0 _ (name_ends entry.line.now c.in-Some.is' (ends c)) T)
    c.find_table_to.ensures.1 told c.table_scheme-scheme.ensures

as_line : (c : After-table_scheme-scheme) (after : List ℕ) (d : Doc) (r : Bool) → TakesItems
    c.args.text.now
    c.args.line.now after
    c.args.k
    c.in-Some.is' d r → TakesRow
    c.args.text.now
    c.args.line.now after
    c.args.k d r
as_line c after d r = let entry = c.args in line_taken entry.line.now
    c.in-Some.is' (ends c)
    entry.text.now after
    entry.k d r

pub returns-then-k-ge-ROWS : goal.returns-then-k-ge-ROWS
returns-then-k-ge-ROWS c = (λ d sets l L T N. N, λ e. true_not_false e refl)

pub returns-then-bracketed : goal.returns-then-bracketed
returns-then-bracketed c = (
  λ d sets l L T N. let g = found ((goal.at.returns-then-bracketed c).After-table_scheme-scheme) d T refl in as_line
      ((goal.at.returns-then-bracketed c).After-table_scheme-scheme) _ d c.take_nested.result (c.take_nested.ensures d sets _ l L T g.table g.inside
      (ap leads_label g.scheme ∙ sym (c.leads_label.ensures _ _) ∙ c.if-leads_label.true)
      (ap has_brackets g.scheme ∙ sym (c.has_brackets-bracketed.ensures _ _) ∙ c.if-bracketed.true)
      (room ((goal.at.returns-then-bracketed c).After-table_scheme-scheme)) N),
  λ e. room ((goal.at.returns-then-bracketed c).After-table_scheme-scheme),
)

pub returns-then-leads_label : goal.returns-then-leads_label
returns-then-leads_label c = (
  λ d sets l L T N. let g = found ((goal.at.returns-then-leads_label c).After-table_scheme-scheme) d T refl in as_line
      ((goal.at.returns-then-leads_label c).After-table_scheme-scheme) _ d c.take_led.result (c.take_led.ensures d sets _ l L T g.table g.inside
      (ap leads_label g.scheme ∙ sym (c.leads_label.ensures _ _) ∙ c.if-leads_label.true)
      (ap has_brackets g.scheme ∙ sym (c.has_brackets-bracketed.ensures _ _) ∙ c.if-bracketed.false)
      (room ((goal.at.returns-then-leads_label c).After-table_scheme-scheme)) N),
  λ e. room ((goal.at.returns-then-leads_label c).After-table_scheme-scheme),
)

pub returns-then-bracketed-2 : goal.returns-then-bracketed-2
returns-then-bracketed-2 c = (
  λ d sets l L T N. let g = found ((goal.at.returns-then-bracketed-2 c).After-table_scheme-scheme) d T refl in as_line
      ((goal.at.returns-then-bracketed-2 c).After-table_scheme-scheme) _ d c.take_labelled.result (c.take_labelled.ensures d sets _ l L T g.table
      g.inside (ap leads_label g.scheme ∙ sym (c.leads_label.ensures _ _) ∙ c.if-leads_label.false)
      (ap has_brackets g.scheme ∙ sym (c.has_brackets-bracketed.ensures _ _) ∙ c.if-bracketed-2.true)
      (room ((goal.at.returns-then-bracketed-2 c).After-table_scheme-scheme)) N),
  λ e. room ((goal.at.returns-then-bracketed-2 c).After-table_scheme-scheme),
)

pub returns : goal.returns
returns c = (
  λ d sets l L T N. let g = found ((goal.at.returns c).After-table_scheme-scheme) d T refl in as_line
      ((goal.at.returns c).After-table_scheme-scheme) _ d c.take_plain.result (c.take_plain.ensures d _ l T g.table g.inside
      (ap leads_label g.scheme ∙ sym (c.leads_label.ensures _ _) ∙ c.if-leads_label.false)
      (ap has_brackets g.scheme ∙ sym (c.has_brackets-bracketed.ensures _ _) ∙ c.if-bracketed-2.false)
      (room ((goal.at.returns c).After-table_scheme-scheme)) N),
  λ e. room ((goal.at.returns c).After-table_scheme-scheme),
)

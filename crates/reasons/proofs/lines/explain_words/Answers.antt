-- `reasons::lines::explain_words` meets its contract: 23 at the leftmost word that is unknown, and then the row's reason. Assumes nothing.
use Prim.Native.Nat.{◌<◌, ℕ}
use Rattle.document.specs.Lookup.{column_of, columns_at, purpose_of, table_of}
use Rattle.document.specs.Policy.{Column}
use Rattle.query.specs.WhyPlaces.{why_at}
use Rattle.reasons.proofs.ExplainLaws.{column_unknown, purpose_unknown, table_unknown}
use Rattle.relations.proofs.TableLaws.{columns_at_lem}
use Rattle.text.specs.Words.{word_of}
use Rattle.workspace.specs.Found.{FoundBelow, found_as}
use Rattle.std.specs.Prelude.{Option}
use mathlib.Core.List.{List}
use mathlib.Core.Option.{none, some}
use mathlib.Core.Path.{◌∙◌, ◌≡◌, ap, subst, sym}
use Rattle.reasons.proofs.lines.explain_words.Goals as goal

pub returns-in_default : goal.returns-in_default
unfolding why_at purpose_of
returns-in_default c d K = let a = c.args in
    c.refused_at.ensures a.text.now ∙ sym (purpose_unknown d (why_at a.line.now a.w) (sym (c.find_purpose-purpose.ensures.0 d.policy.purposes K.purposes) ∙ ap found_as c.in_default.is))

pub returns-in_default-table : goal.returns-in_default-table
unfolding why_at purpose_of table_of
returns-in_default-table c d K = let a = c.args in
    let ip : purpose_of d.policy (word_of a.line.now a.w.purpose) ≡ some c.in-Some.p = sym (c.find_purpose-purpose.ensures.0 d.policy.purposes K.purposes) ∙ ap found_as c.in-Some.is in
    c.refused_at-in_default-table.ensures a.text.now ∙ sym (table_unknown d (why_at a.line.now a.w) ip (sym (c.find_table-table.ensures.0 d.policy.tables K.tables) ∙ ap found_as c.in_default-table.is))

pub returns-in_default-column : goal.returns-in_default-column
unfolding why_at purpose_of table_of
returns-in_default-column c d K = let a = c.args in
    let t = c.in-Some-table.t in
    let ip : purpose_of d.policy (word_of a.line.now a.w.purpose) ≡ some c.in-Some.p = sym (c.find_purpose-purpose.ensures.0 d.policy.purposes K.purposes) ∙ ap found_as c.in-Some.is in
    let it : table_of d.policy (word_of a.line.now a.w.table) ≡ some t = sym (c.find_table-table.ensures.0 d.policy.tables K.tables) ∙ ap found_as c.in-Some-table.is in
    let tl : t < a.c.tables = subst (λ (f : Option ℕ). FoundBelow f a.c.tables) c.in-Some-table.is c.find_table-table.ensures.1 in
    let ic : column_of (columns_at d.policy t) (word_of a.line.now a.w.column) ≡ none
    = ap (λ (cs : List Column). column_of cs (word_of a.line.now a.w.column)) (columns_at_lem a.text.now a.tables.now a.c.tables t d.policy K.tables tl) ∙ sym (c.find_column-column.ensures.0 a.c.tables d.policy.tables K.tables tl) ∙ ap found_as c.in_default-column.is in
    c.refused_at-in_default-column.ensures a.text.now ∙ sym (column_unknown d (why_at a.line.now a.w) ip it ic)

pub returns : goal.returns
unfolding purpose_of table_of
returns c d K = let a = c.args in
    let t = c.in-Some-table.t in
    let ip : purpose_of d.policy (word_of a.line.now a.w.purpose) ≡ some c.in-Some.p = sym (c.find_purpose-purpose.ensures.0 d.policy.purposes K.purposes) ∙ ap found_as c.in-Some.is in
    let it : table_of d.policy (word_of a.line.now a.w.table) ≡ some t = sym (c.find_table-table.ensures.0 d.policy.tables K.tables) ∙ ap found_as c.in-Some-table.is in
    let pl : c.in-Some.p < a.c.purposes = subst (λ (f : Option ℕ). FoundBelow f a.c.purposes) c.in-Some.is c.find_purpose-purpose.ensures.1 in
    let tl : t < a.c.tables = subst (λ (f : Option ℕ). FoundBelow f a.c.tables) c.in-Some-table.is c.find_table-table.ensures.1 in
    let ic : column_of (columns_at d.policy t) (word_of a.line.now a.w.column) ≡ some c.in-Some-column.col
    = ap (λ (cs : List Column). column_of cs (word_of a.line.now a.w.column)) (columns_at_lem a.text.now a.tables.now a.c.tables t d.policy K.tables tl) ∙ sym (c.find_column-column.ensures.0 a.c.tables d.policy.tables K.tables tl) ∙ ap found_as c.in-Some-column.is in
    c.explain_row.ensures d K pl tl ip it ic

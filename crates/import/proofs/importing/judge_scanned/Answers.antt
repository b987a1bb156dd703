-- `import::importing::judge_scanned` meets its contract. Assumes nothing.
use Rattle.import.proofs.ImportLaws.{and_first, and_second, judged_fit, judged_nameless, judged_short, judged_unfit, name_short}
use Rattle.lists.proofs.Tests.{and_both}
use Rattle.text.specs.Names.{is_name}
use mathlib.Core.Path.{◌∙◌, sym}
use native.Mathlib.Omega.{arith}
use Rattle.import.proofs.importing.judge_scanned.Goals as goal

pub returns-then-not-is_name : goal.returns-then-not-is_name
returns-then-not-is_name c = let entry = c.args in
    λ es s. judged_nameless entry.table.now entry.label.now entry.room es s c.refusal_at.result (and_first (is_name entry.table.now) (is_name entry.label.now) (sym c.is_name.ensures ∙ c.if-not-is_name.true)) c.refusal_at.ensures

pub returns-then-not-is_name-2 : goal.returns-then-not-is_name-2
returns-then-not-is_name-2 c = let entry = c.args in
    λ es s. judged_nameless entry.table.now entry.label.now entry.room es s c.refusal_at-then-not-is_name-2.result (and_second (is_name entry.table.now) (is_name entry.label.now) (sym c.is_name-2.ensures ∙ c.if-not-is_name-2.true)) c.refusal_at-then-not-is_name-2.ensures

pub returns-in-Some : goal.returns-in-Some
returns-in-Some c = let entry = c.args in
    λ es s. judged_unfit entry.table.now entry.label.now entry.room es s (and_both (is_name entry.table.now) (is_name entry.label.now) (sym c.is_name.ensures ∙ c.if-not-is_name.false) (sym c.is_name-2.ensures ∙ c.if-not-is_name-2.false)) c.refusal_at-in-Some.result c.in-Some.is c.refusal_at-in-Some.ensures

pub overflow_add-table-2 : goal.overflow_add-table-2
overflow_add-table-2 c = let entry = c.args in
    omega (arith, name_short entry.table.now (sym c.is_name.ensures ∙ c.if-not-is_name.false), name_short entry.label.now (sym c.is_name-2.ensures ∙ c.if-not-is_name-2.false))

pub returns-in_default-length_within : goal.returns-in_default-length_within
returns-in_default-length_within c = let entry = c.args in
    λ es s. judged_short entry.table.now entry.label.now entry.room es s (and_both (is_name entry.table.now) (is_name entry.label.now) (sym c.is_name.ensures ∙ c.if-not-is_name.false) (sym c.is_name-2.ensures ∙ c.if-not-is_name-2.false)) c.in_default.is c.refusal_at-in_default-length_within.result (sym c.length_within.ensures ∙ c.in_default-length_within.is) c.refusal_at-in_default-length_within.ensures

pub returns : goal.returns
returns c = let entry = c.args in
    λ es s. judged_fit entry.table.now entry.label.now entry.room es s (and_both (is_name entry.table.now) (is_name entry.label.now) (sym c.is_name.ensures ∙ c.if-not-is_name.false) (sym c.is_name-2.ensures ∙ c.if-not-is_name-2.false)) c.in_default.is (sym c.length_within.ensures ∙ c.in-Some-length_within.is)

-- `tables::label_faults::label_fault` meets its contract: each answer by its law. Assumes nothing.
use native.Mathlib.Omega.{arith}
use Rattle.stepping.proofs.FoundLaws.{is_some_false, is_some_true}
use Rattle.tables.proofs.LabelFaults.{allowed_twice, allowed_unknown, denied_twice, denied_unknown, label_fine, label_full, label_taken}
use Rattle.tables.proofs.label_faults.label_fault.Goals as goal

pub returns-then-k-ge-LABELS : goal.returns-then-k-ge-LABELS
returns-then-k-ge-LABELS c = let a = c.args in
    label_full a.text.now a.purposes.now a.purposes_count a.labels.now a.k a.line.now a.l a.allowed a.denied (omega arith)

pub returns-then-is_some : goal.returns-then-is_some
returns-then-is_some c = let a = c.args in
    let there = is_some_true c.is_some.ensures c.if-is_some.true in
    label_taken a.text.now a.purposes.now a.purposes_count a.labels.now a.k a.line.now a.l a.allowed a.denied (omega arith) c.find_label.result c.find_label.ensures.0 there.0 there.1

pub returns-in-Some : goal.returns-in-Some
returns-in-Some c = let a = c.args in
    allowed_twice a.text.now a.purposes.now a.purposes_count a.labels.now a.k a.line.now a.l a.allowed a.denied
    (omega arith) c.find_label.result
    c.find_label.ensures.0 (is_some_false c.is_some.ensures c.if-is_some.false)
    c.first_repeat.result c.first_repeat.ensures c.in-Some.v
    c.in-Some.is

pub returns-in-Some-first_repeat : goal.returns-in-Some-first_repeat
returns-in-Some-first_repeat c = let a = c.args in
    denied_twice a.text.now a.purposes.now a.purposes_count a.labels.now a.k a.line.now a.l a.allowed a.denied
    (omega arith) c.find_label.result
    c.find_label.ensures.0
    (is_some_false c.is_some.ensures c.if-is_some.false)
    c.first_repeat.result
    c.first_repeat.ensures c.in_default.is
    c.first_repeat-2.result c.first_repeat-2.ensures c.in-Some-first_repeat.v
    c.in-Some-first_repeat.is

pub returns-in-Some-first_unknown_purpose : goal.returns-in-Some-first_unknown_purpose
returns-in-Some-first_unknown_purpose c = let a = c.args in
    allowed_unknown a.text.now a.purposes.now a.purposes_count a.labels.now a.k a.line.now a.l a.allowed a.denied
    (omega arith) c.find_label.result
    c.find_label.ensures.0
    (is_some_false c.is_some.ensures c.if-is_some.false)
    c.first_repeat.result
    c.first_repeat.ensures
    c.in_default.is
    c.first_repeat-2.result
    c.first_repeat-2.ensures c.in_default-first_repeat.is
    c.first_unknown_purpose.result c.first_unknown_purpose.ensures
    c.in-Some-first_unknown_purpose.v c.in-Some-first_unknown_purpose.is

pub returns-in-Some-first_unknown_purpose-2 : goal.returns-in-Some-first_unknown_purpose-2
returns-in-Some-first_unknown_purpose-2 c = let a = c.args in
    denied_unknown a.text.now a.purposes.now a.purposes_count a.labels.now a.k a.line.now a.l a.allowed a.denied
    (omega arith)
    c.find_label.result
    c.find_label.ensures.0
    (is_some_false c.is_some.ensures c.if-is_some.false)
    c.first_repeat.result
    c.first_repeat.ensures
    c.in_default.is
    c.first_repeat-2.result
    c.first_repeat-2.ensures
    c.in_default-first_repeat.is
    c.first_unknown_purpose.result
    c.first_unknown_purpose.ensures c.in_default-first_unknown_purpose.is
    c.first_unknown_purpose-2.result c.first_unknown_purpose-2.ensures
    c.in-Some-first_unknown_purpose-2.v c.in-Some-first_unknown_purpose-2.is

pub returns : goal.returns
returns c = let a = c.args in
    label_fine a.text.now a.purposes.now a.purposes_count a.labels.now a.k a.line.now a.l a.allowed a.denied
    (omega arith)
    c.find_label.result
    c.find_label.ensures.0
    (is_some_false c.is_some.ensures c.if-is_some.false)
    c.first_repeat.result
    c.first_repeat.ensures
    c.in_default.is
    c.first_repeat-2.result
    c.first_repeat-2.ensures
    c.in_default-first_repeat.is
    c.first_unknown_purpose.result
    c.first_unknown_purpose.ensures c.in_default-first_unknown_purpose.is
    c.first_unknown_purpose-2.result c.first_unknown_purpose-2.ensures c.in_default-first_unknown_purpose-2.is

-- `attributes::attr_faults::attr_fault` meets its contract: each answer by its law. Assumes nothing.
use native.Mathlib.Omega.{arith}
use Rattle.stepping.proofs.FoundLaws.{is_none_false, is_none_true, is_some_false, is_some_true}
use Rattle.attributes.proofs.AttrFaults.{attr_fine, attr_full, attr_late, attr_taken, attr_unknown}
use Rattle.condition.specs.Answers.{kind_of}
use Rattle.attributes.proofs.attr_faults.attr_fault.Goals as goal

pub returns-then-k-ge-ATTRIBUTES : goal.returns-then-k-ge-ATTRIBUTES
returns-then-k-ge-ATTRIBUTES c = let a = c.args in
    attr_full a.text.now a.roles.now a.roles_count a.attributes.now a.k a.users_count a.line.now a.r a.a (kind_of a.kind) (omega arith)

pub returns-then-is_some : goal.returns-then-is_some
returns-then-is_some c = let a = c.args in
    let there = is_some_true c.is_some.ensures c.if-is_some.true in
    attr_taken a.text.now a.roles.now a.roles_count a.attributes.now a.k a.users_count a.line.now a.r a.a
    (kind_of a.kind) (omega arith) c.find_attribute.result c.find_attribute.ensures.0
    there.0 there.1

pub returns-then-is_none : goal.returns-then-is_none
returns-then-is_none c = let a = c.args in
    attr_unknown a.text.now a.roles.now a.roles_count a.attributes.now a.k a.users_count a.line.now a.r a.a
    (kind_of a.kind) (omega arith) c.find_attribute.result
    c.find_attribute.ensures.0 (is_some_false c.is_some.ensures c.if-is_some.false)
    c.find_role.result c.find_role.ensures.0 (is_none_true c.is_none.ensures c.if-is_none.true)

pub returns-then-users_count-gt0 : goal.returns-then-users_count-gt0
returns-then-users_count-gt0 c = let a = c.args in
    let there = is_none_false c.is_none.ensures c.if-is_none.false in
    attr_late a.text.now a.roles.now a.roles_count a.attributes.now a.k a.users_count a.line.now a.r a.a
    (kind_of a.kind) (omega arith) c.find_attribute.result
    c.find_attribute.ensures.0 (is_some_false c.is_some.ensures c.if-is_some.false)
    c.find_role.result c.find_role.ensures.0 there.0
    there.1 (omega arith)

pub returns : goal.returns
returns c = let a = c.args in
    let there = is_none_false c.is_none.ensures c.if-is_none.false in
    attr_fine a.text.now a.roles.now a.roles_count a.attributes.now a.k a.users_count a.line.now a.r a.a
    (kind_of a.kind) (omega arith) c.find_attribute.result
    c.find_attribute.ensures.0 (is_some_false c.is_some.ensures c.if-is_some.false)
    c.find_role.result c.find_role.ensures.0 there.0
    there.1 (omega arith)

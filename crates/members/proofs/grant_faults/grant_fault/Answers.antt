-- `members::grant_faults::grant_fault` meets its contract: each answer by its law. Assumes nothing.
use native.Mathlib.Omega.{arith}
use Rattle.stepping.proofs.FoundLaws.{is_none_false, is_none_true}
use Rattle.members.proofs.GrantFaults.{grant_cond, grant_fine, grant_full, grant_purpose}
use Rattle.members.proofs.grant_faults.grant_fault.Goals as goal

pub returns-then-k-ge-GRANTS : goal.returns-then-k-ge-GRANTS
returns-then-k-ge-GRANTS c = let a = c.args in
    grant_full a.text.now a.purposes.now a.purposes_count a.conds.now a.conds_count a.k a.line.now a.p a.c (omega arith)

pub returns-then-is_none : goal.returns-then-is_none
returns-then-is_none c = let a = c.args in
    grant_purpose a.text.now a.purposes.now a.purposes_count a.conds.now a.conds_count a.k a.line.now a.p a.c (omega arith) c.find_purpose.result c.find_purpose.ensures.0 (is_none_true c.is_none.ensures c.if-is_none.true)

pub returns-then-is_none-2 : goal.returns-then-is_none-2
returns-then-is_none-2 c = let a = c.args in
    let purpose = is_none_false c.is_none.ensures c.if-is_none.false in
    grant_cond a.text.now a.purposes.now a.purposes_count a.conds.now a.conds_count a.k a.line.now a.p a.c
    (omega arith) c.find_purpose.result
    c.find_purpose.ensures.0 purpose.0
    purpose.1 c.find_cond_role.result c.find_cond_role.ensures.0
    (is_none_true c.is_none-2.ensures c.if-is_none-2.true)

pub returns : goal.returns
returns c = let a = c.args in
    let purpose = is_none_false c.is_none.ensures c.if-is_none.false in
    let role = is_none_false c.is_none-2.ensures c.if-is_none-2.false in
    grant_fine a.text.now a.purposes.now a.purposes_count a.conds.now a.conds_count a.k a.line.now a.p a.c
    (omega arith) c.find_purpose.result
    c.find_purpose.ensures.0 purpose.0
    purpose.1 c.find_cond_role.result c.find_cond_role.ensures.0
    role.0 role.1

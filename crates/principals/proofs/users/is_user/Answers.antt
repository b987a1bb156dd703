-- `principals::users::is_user` meets its contract: another print is another name's. Assumes nothing.
use mathlib.Core.Path.{◌∙◌, sym}
use Rattle.principals.proofs.UserLaws.{other_role, printed_other, same_role}
use Rattle.text.specs.Words.{is_called, word_of}
use Rattle.principals.proofs.users.is_user.Goals as goal

pub returns-then-ws-i : goal.returns-then-ws-i
returns-then-ws-i c p sized is = let a = c.args in
    sym (printed_other (word_of a.line.now a.u) a.text.now a.ws.now a.role a.i p a.h is c.if-ws-i.true)

pub returns-then-ws-i-2 : goal.returns-then-ws-i-2
unfolding is_called
returns-then-ws-i-2 c p sized is = let a = c.args in
    c.same_length_name.ensures sized ∙ sym (same_role (word_of a.line.now a.u) a.text.now a.ws.now a.role a.i c.if-ws-i-2.true)

pub returns : goal.returns
returns c p sized is = let a = c.args in
    sym (other_role (word_of a.line.now a.u) a.text.now a.ws.now a.role a.i c.if-ws-i-2.false)

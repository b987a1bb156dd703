-- `telling::lines::put_reason` meets its contract: each reason has its line. Assumes nothing.
use Rattle.answer.specs.Why.{reason_text}
use Rattle.reasons.specs.Explaining.{reason_of}
use Rattle.reasons.specs.declared.explained.Cause.{Cause}
use Rattle.telling.proofs.TellLaws.{wrote_as}
use mathlib.Core.Path.{ap, sym}
use Rattle.telling.proofs.lines.put_reason.Goals as goal

pub returns-in-Opened : goal.returns-in-Opened
unfolding reason_text reason_of
returns-in-Opened c = let a = c.args in
    wrote_as (ap (λ (y : Cause). reason_text (reason_of a.text.now y)) (sym c.in-Opened.is)) c.put_bytes.ensures

pub returns-in-Denied : goal.returns-in-Denied
unfolding reason_text reason_of
returns-in-Denied c = let a = c.args in
    wrote_as (ap (λ (y : Cause). reason_text (reason_of a.text.now y)) (sym c.in-Denied.is)) c.put_denied.ensures

pub returns-in-NoneAllowed : goal.returns-in-NoneAllowed
unfolding reason_text reason_of
returns-in-NoneAllowed c = let a = c.args in
    wrote_as (ap (λ (y : Cause). reason_text (reason_of a.text.now y)) (sym c.in-NoneAllowed.is)) c.put_bytes-in-NoneAllowed.ensures

pub returns-in-Unlabelled : goal.returns-in-Unlabelled
unfolding reason_text reason_of
returns-in-Unlabelled c = let a = c.args in
    wrote_as (ap (λ (y : Cause). reason_text (reason_of a.text.now y)) (sym c.in-Unlabelled.is)) c.put_bytes-in-Unlabelled.ensures

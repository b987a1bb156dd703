-- `telling::lines::put_denied` meets its contract: three parts, one behind the other. Assumes nothing.
use Rattle.answer.specs.Why.{reason_text}
use Rattle.reasons.specs.Explaining.{reason_of}
use Rattle.writing.proofs.Writing.{both}
use Rattle.telling.proofs.lines.put_denied.Goals as goal

pub returns : goal.returns
unfolding reason_text reason_of
returns c = both (both c.put_bytes-open.ensures c.put_word-name.ensures) c.put_bytes.ensures

-- `checker::loading::load` meets its contract. Assumes nothing.
use mathlib.Core.Path.{refl}
use Rattle.checker.proofs.Turns.{loads_refused, text_long}
use Rattle.text.specs.Refusal.{pointing_nowhere}
use Rattle.checker.proofs.loading.load.Goals as goal

pub returns-then-doc-gt-TEXT_BYTES : goal.returns-then-doc-gt-TEXT_BYTES
unfolding pointing_nowhere
returns-then-doc-gt-TEXT_BYTES c = loads_refused _ (text_long c.args.doc.now c.if-doc-gt-TEXT_BYTES.true) refl

pub load_lines-requires : goal.load_lines-requires
load_lines-requires c = tt

pub returns : goal.returns
returns c = c.load_lines.ensures c.if-doc-gt-TEXT_BYTES.false

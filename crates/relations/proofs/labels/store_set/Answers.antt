-- `relations::labels::store_set` meets its contract: the words of a set change no other set. Assumes nothing.
use borrow.Author.Rules.{rules}
use lib.ListN.{length}
use mathlib.Core.Path.{◌≡◌}
use Rattle.relations.proofs.LabelLaws.{set_beyond, set_stored}
use Rattle.purpose.specs.Members.{words}
use Rattle.relations.proofs.labels.store_set.Goals as goal

pub returns-then-i : goal.returns-then-i
returns-then-i c = let n : length c.args.s ≡ words = search rules in
    set_stored c.args.sets.now _ c.args.i c.args.s c.told-sets n c.if-i.true c.store_words.ensures

pub returns-else-i : goal.returns-else-i
returns-else-i c = set_beyond c.args.sets.now c.args.i c.args.s c.if-i.false

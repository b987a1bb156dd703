-- `purpose::add_child` meets its contract. Assumes nothing.
use mathlib.Core.Path.{◌≡◌, refl}
use lib.ListN.{length}
use Rattle.purpose.specs.Members.{limit}
use Rattle.purpose.proofs.Growing.{grew, refused, stored, has_room, no_parent, no_room}
use borrow.Author.Rules.{rules}
use Rattle.purpose.proofs.add_child.Goals as goal

pub returns-then-parent-n : goal.returns-then-parent-n
returns-then-parent-n c = let t = c.args.t in
    let l : length c.args.t.parents ≡ limit = search rules in
    grew _ _ _ _
    (has_room limit t.parents t.count l c.args.parent c.if-n-lt-LIMIT.true c.if-parent-n.true)
    refl
    (stored limit t.parents t.count l c.args.parent c.if-n-lt-LIMIT.true)

pub returns-else-parent-n : goal.returns-else-parent-n
returns-else-parent-n c = let t = c.args.t in
    let l : length c.args.t.parents ≡ limit = search rules in
    refused _ _ _ _
    (no_parent limit t.parents t.count l c.args.parent c.if-n-lt-LIMIT.true c.if-parent-n.false)
    refl
    refl

pub returns-else-n-lt-LIMIT : goal.returns-else-n-lt-LIMIT
returns-else-n-lt-LIMIT c = let t = c.args.t in
    let l : length c.args.t.parents ≡ limit = search rules in
    refused _ _ _ _
    (no_room limit t.parents t.count l c.args.parent c.if-n-lt-LIMIT.false)
    refl
    refl

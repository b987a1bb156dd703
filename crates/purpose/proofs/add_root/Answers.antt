-- `purpose::add_root` meets its contract. Assumes nothing.
use mathlib.Core.Path.{◌≡◌, refl}
use lib.ListN.{length}
use native.Mathlib.Omega.{arith}
use Rattle.purpose.specs.Members.{limit}
use Rattle.purpose.proofs.Growing.{grew, refused, stored, not_empty}
use borrow.Author.Rules.{rules}
use Rattle.purpose.proofs.add_root.Goals as goal

pub returns-then-n-eq0 : goal.returns-then-n-eq0
returns-then-n-eq0 c = let t = c.args.t in
    let l : length c.args.t.parents ≡ limit = search rules in
    let e : c.args.t.count ≡ 0 = c.if-n-eq0.true in
    grew _ _ _ _ (rw e) refl (rw e (stored limit t.parents 0 l 0 (omega arith)))

pub returns : goal.returns
returns c = let t = c.args.t in
    let l : length c.args.t.parents ≡ limit = search rules in
    refused _ _ _ _ (not_empty limit t.parents t.count l (omega arith) c.if-n-eq0.false) refl refl

-- `walks::purposes::take_below` meets its contract: the laws of the fault finder and of storing, by what the names are found to be.
-- Assumes nothing.
use Prim.Native.Nat.{◌<◌}
use mathlib.Core.Option.{some}
use mathlib.Core.Path.{◌∙◌, ap, refl}
use native.Mathlib.Omega.{arith}
use Rattle.document.specs.Lookup.{purpose_of}
use Rattle.nodes.proofs.NodeFaults.{below_fine, purpose_kind}
use Rattle.form.specs.Form.{purpose}
use Rattle.std.specs.Prelude.{None, Some}
use Rattle.lists.proofs.Tests.{true_not_false}
use Rattle.lists.specs.Lists.{or_zero}
use Rattle.purpose.specs.Members.{limit}
use Rattle.stepping.proofs.NamedLaws.{hash_placed, purpose_parent, purpose_stored}
use Rattle.text.specs.Words.{word_of}
use Rattle.walks.proofs.purposes.take_below.Goals as goal

pub returns-then-k-ge-PURPOSES : goal.returns-then-k-ge-PURPOSES
returns-then-k-ge-PURPOSES c = (λ d l B N. N, λ held. true_not_false held refl)

pub returns : goal.returns
unfolding purpose_of or_zero
returns c = let entry = c.args in
    let a = entry in
    let small : entry.k < limit = omega arith in (
      λ d l B N.
          let ok = (below_fine (λ d. d.purposes) purpose limit purpose_kind a.text.now a.purposes.now a.k a.line.now 9 a.v Unit small None B.fresh refl (Some a.parent) B.known a.parent refl).is d N in
          record {
            place = a.v;
            form = B.form;
            passes = ok;
            purposes = purpose_stored l d 9 _ B.within c.place-pos.ensures a.parent (some (word_of a.line.now a.v)) N ok
                (ap or_zero (B.known d.policy.purposes N) ∙ purpose_parent d a.line.now (word_of a.line.now 9) (word_of a.line.now a.v) ok)
                (c.add_purpose.ensures a.text.now _ N (hash_placed l d 9 _ B.within c.place-pos.ensures _ B.hash));
          },
      λ held. small,
    )

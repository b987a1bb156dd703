-- `purpose::tree_of` meets its contract. The loop's invariant: growing the tree so far by the entries left gives the whole. Assumes nothing.
use Prim.Native.Nat.{◌+◌, ◌<◌, ◌≤◌}
use lib.ListN.{drop, get_or, length, length-set, length-take, take}
use lib.Seq.{get_or-take}
use mathlib.Core.Path.{◌∙◌, ◌≡◌, ap, refl, sym}
use native.Mathlib.Omega.{arith}
use Rattle.purpose.proofs.Growing.{grown_full, grown_orphan, grown_stored, growing_done, growing_first, growing_next, growing_none}
use Rattle.purpose.specs.Meaning.{grown_by, growing}
use Rattle.purpose.specs.Members.{limit}
use Rattle.purpose.proofs.tree_of.Goals.{Joined-n-lt-LIMIT, then-n-lt-LIMIT+then-q-n, then-n-lt-LIMIT+else-q-n, else-n-lt-LIMIT}
use Rattle.purpose.proofs.tree_of.Goals as goal

pub returns-then-m-eq0 : goal.returns-then-m-eq0
returns-then-m-eq0 c = let a = c.args in
    c.no_purposes.ensures ∙ growing_none (take a.count a.parents.now) (length-take a.count a.parents.now ∙ omega (arith, c.min-m.ensures, c.if-m-eq0.true))

pub loop-i-init : goal.loop-i-init
loop-i-init c = let a = c.args in
    (omega arith, omega arith, refl, growing_first (take a.count a.parents.now) (omega (arith, length-take a.count a.parents.now, c.min-m.ensures, c.if-m-eq0.false)))

-- where the arms meet, the tree has grown by the entry, or was left
joined : (c : Joined-n-lt-LIMIT) → (c.if-n-lt-LIMIT.n ≤ limit) × (length c.if-n-lt-LIMIT.ps ≡ limit)
    × (take c.if-n-lt-LIMIT.n c.if-n-lt-LIMIT.ps ≡ grown_by (take c.loop-i.n c.loop-i.ps) (get_or c.args.parents.now c.loop-i.i 0))
joined c =
    let ps = c.loop-i.ps in
    let n = c.loop-i.n in
    let full = c.loop-i.invariant.2 in
    let q = get_or c.args.parents.now c.loop-i.i 0 in
    elim c.if-n-lt-LIMIT.branch [
      | then-n-lt-LIMIT+then-q-n w ↦ (omega (arith, w.if-n-lt-LIMIT.true, w.n-is), ap length w.ps-is ∙ simp length-set full, (λ j. take (w.n-is j) (w.ps-is j)) ∙ grown_stored ps n full q w.if-n-lt-LIMIT.true w.if-q-n.true)
      | then-n-lt-LIMIT+else-q-n w ↦ (omega (arith, w.if-n-lt-LIMIT.true, w.n-is), ap length w.ps-is ∙ full, (λ j. take (w.n-is j) (w.ps-is j)) ∙ grown_orphan ps n full q w.if-n-lt-LIMIT.true w.if-q-n.false)
      | else-n-lt-LIMIT w ↦ (omega (arith, w.n-is), ap length w.ps-is ∙ full, (λ j. take (w.n-is j) (w.ps-is j)) ∙ grown_full ps n full q w.if-n-lt-LIMIT.false)
    ]

pub loop-i-preserved : goal.loop-i-preserved
loop-i-preserved c = let a = c.args in
    let l = c.loop-i in
    let inside : l.i < length (take a.count a.parents.now) = omega (arith, length-take a.count a.parents.now, c.min-m.ensures) in (
      (joined c).0,
      omega arith,
      (joined c).1,
      ap (λ t. growing t (drop (l.i + 1) (take a.count a.parents.now))) (joined c).2
          ∙ growing_next (take l.n l.ps) (take a.count a.parents.now) l.i (get_or a.parents.now l.i 0) inside (sym (get_or-take a.count a.parents.now l.i 0 (omega arith)))
          ∙ l.invariant.3,
    )

pub returns : goal.returns
returns c = let a = c.args in
    let l = c.loop-i in
    sym (growing_done (take l.n l.ps) (take a.count a.parents.now) l.i (omega (arith, length-take a.count a.parents.now, c.min-m.ensures)))
    ∙ l.invariant.3

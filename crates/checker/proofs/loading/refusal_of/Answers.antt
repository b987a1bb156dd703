-- `checker::loading::refusal_of` meets its contract. Assumes nothing.
use Prim.Native.Nat.{◌+◌, ◌-◌, ◌≤◌}
use lib.ListN.{length}
use mathlib.Core.Path.{◌∙◌, ◌≡◌, ap, subst, sym}
use native.Mathlib.Omega.{arith}
use Rattle.checker.proofs.Turns.{whole_moved}
use Rattle.stepping.specs.Judged.{Reaches, refusal_in}
use Rattle.text.specs.Reasons.{reason_number}
use Rattle.text.specs.Refusal.{Refusal, document, moved, pointing}
use Rattle.text.specs.Words.{word_at, written_at}
use Rattle.stepping.specs.declared.fault.Fault.{Fault}
use Rattle.checker.proofs.loading.refusal_of.Goals.{After-word_end-e, After-written_end-e}
use Rattle.checker.proofs.loading.refusal_of.Goals as goal

pub word_end-e-requires : goal.word_end-e-requires
word_end-e-requires c = tt

-- the item stands in the line
reached : (c : After-word_end-e) → c.in-Item.w ≤ length c.args.line.now
reached c = subst (Reaches c.args.line.now) c.in-Item.is c.requires.1

pub overflow_add-result : goal.overflow_add-result
overflow_add-result c = omega (arith, reached c, c.requires.0)

pub written_end-e-requires : goal.written_end-e-requires
written_end-e-requires c = tt

-- and so does the value
value_reached : (c : After-written_end-e) → c.in-Value.v ≤ length c.args.line.now
value_reached c = subst (Reaches c.args.line.now) c.in-Value.is c.requires.1

pub overflow_add-result-in-Value : goal.overflow_add-result-in-Value
overflow_add-result-in-Value c = omega (arith, value_reached c, c.requires.0)

pub returns-in-Whole : goal.returns-in-Whole
returns-in-Whole c = let entry = c.args in sym (ap
    (λ (f : Fault). moved entry.at (refusal_in entry.line.now f))
    c.in-Whole.is ∙ whole_moved entry.at (reason_number c.in-Whole.x)
    entry.line.now)

pub returns-in-Item : goal.returns-in-Item
unfolding moved pointing
returns-in-Item c = let a = c.args in
    let w = c.in-Item.w in
    let q : c.word_end-e.result - w ≡ length (word_at a.line.now w) = omega (arith, c.word_end-e.ensures) in
    ap {B = Refusal} (λ k. record { number = reason_number c.in-Item.x; source = document; start = a.at + w; len = k }) q
    ∙ sym (ap (λ (f : Fault). moved a.at (refusal_in a.line.now f)) c.in-Item.is)

pub returns-in-Value : goal.returns-in-Value
unfolding moved pointing
returns-in-Value c = let a = c.args in
    let v = c.in-Value.v in
    let q : c.written_end-e.result - v ≡ length (written_at a.line.now v) = omega (arith, c.written_end-e.ensures) in
    ap {B = Refusal} (λ k. record { number = reason_number c.in-Value.x; source = document; start = a.at + v; len = k }) q
    ∙ sym (ap (λ (f : Fault). moved a.at (refusal_in a.line.now f)) c.in-Value.is)

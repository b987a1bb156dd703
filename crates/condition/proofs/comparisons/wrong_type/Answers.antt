use Prim.Native.Nat.{ℕ}
use mathlib.Core.Bool.{false, true}
use mathlib.Core.Option.{some}
use Rattle.text.specs.Walking.{next_word}
use mathlib.Core.Path.{◌∙◌, ◌≡◌, ap, sym}
use Rattle.condition.specs.Answers.{compared_at, kind_of, operator_of}
use Rattle.condition.specs.CondForm.{mistyped}
use Rattle.condition.specs.Kinds.{has_kind, takes}
use Rattle.text.specs.Offending.{leftmost, unless}
use Rattle.text.specs.Words.{word_at, written_at, written_of}
use Rattle.condition.proofs.comparisons.wrong_type.Goals as goal

pub returns-then-not-takes_op : goal.returns-then-not-takes_op
unfolding mistyped compared_at leftmost unless
returns-then-not-takes_op c = let h : takes (kind_of c.args.kind) (operator_of (word_at c.args.s.now c.args.at)) ≡ false = ap (takes (kind_of c.args.kind)) (sym c.op_at-op.ensures) ∙ sym c.takes_op.ensures ∙ c.if-not-takes_op.true in
    rw h

pub returns-then-written_has_kind : goal.returns-then-written_has_kind
unfolding mistyped compared_at leftmost unless
returns-then-written_has_kind c = let s = c.args.s.now in
    let at = c.args.at in
    let h : takes (kind_of c.args.kind) (operator_of (word_at s at)) ≡ true = ap (takes (kind_of c.args.kind)) (sym c.op_at-op.ensures) ∙ sym c.takes_op.ensures ∙ c.if-not-takes_op.false in
    let e : c.next_word-value.result ≡ next_word s (next_word s at) = c.next_word-value.ensures ∙ ap (next_word s) c.next_word-name.ensures in
    let k : has_kind (kind_of c.args.kind) (written_at s (next_word s (next_word s at))) ≡ true = ap (λ (i : ℕ). has_kind (kind_of c.args.kind) (written_at s i)) (sym e) ∙ sym c.written_has_kind.ensures ∙ c.if-written_has_kind.true in
    rw (h, k)

pub returns : goal.returns
unfolding mistyped compared_at leftmost unless
returns c = let s = c.args.s.now in
    let at = c.args.at in
    let h : takes (kind_of c.args.kind) (operator_of (word_at s at)) ≡ true = ap (takes (kind_of c.args.kind)) (sym c.op_at-op.ensures) ∙ sym c.takes_op.ensures ∙ c.if-not-takes_op.false in
    let e : c.next_word-value.result ≡ next_word s (next_word s at) = c.next_word-value.ensures ∙ ap (next_word s) c.next_word-name.ensures in
    let k : has_kind (kind_of c.args.kind) (written_at s (next_word s (next_word s at))) ≡ false = ap (λ (i : ℕ). has_kind (kind_of c.args.kind) (written_at s i)) (sym e) ∙ sym c.written_has_kind.ensures ∙ c.if-written_has_kind.false in
    rw (h, k) (ap (λ (i : ℕ). some (written_of s i)) e)

-- `notes::note_faults::has_label` meets its contract. Assumes nothing.
use Rattle.document.specs.Lookup.{given_by, notes_of}
use Rattle.lists.specs.Lists.{there}
use Rattle.notes.specs.Promises.{given_in}
use Rattle.stepping.proofs.FoundLaws.{is_some_there}
use mathlib.Core.Bool.{Bool}
use mathlib.Core.Path.{◌∙◌, ap, sym}
use native.Mathlib.Omega.{arith}
use Rattle.notes.proofs.note_faults.has_label.Goals as goal

pub returns-then-strong : goal.returns-then-strong
returns-then-strong c k ns l few h = c.is_some.ensures ∙ is_some_there c.strong_label.result
    ∙ ap there (c.strong_label.ensures (omega arith) ∙ (h.said c.args.t l).strong)
    ∙ sym (ap (λ (s : Bool). there (given_by (given_in s) (notes_of ns c.args.t))) c.if-strong.true)

pub returns : goal.returns
returns c k ns l few h = c.is_some-2.ensures ∙ is_some_there c.weak_label.result
    ∙ ap there (c.weak_label.ensures (omega arith) ∙ (h.said c.args.t l).weak)
    ∙ sym (ap (λ (s : Bool). there (given_by (given_in s) (notes_of ns c.args.t))) c.if-strong.false)

-- `tables::words::among_first` meets its contract. The loop's invariant: the name is among the first k from the start on exactly when it is
-- among the first `left` from the loop's place on. Assumes nothing.
use lib.ListN.{take}
use mathlib.Core.Path.{◌≡◌}
use Rattle.form.specs.Walks.{names_at}
use Rattle.lists.specs.Lists.{any_of}
use Rattle.text.specs.Words.{is_called, word_of}
use Rattle.tables.proofs.words.among_first.Given as goal

abbrev pub invariant-loop-left : goal.invariant-loop-left
invariant-loop-left l = any_of (λ v. is_called (word_of l.line l.w) v.bytes) (take l.left (names_at l.line l.j)) ≡ any_of (λ v. is_called (word_of l.line l.w) v.bytes) (take l.k (names_at l.line l.at))

abbrev pub decreases-loop-left : goal.decreases-loop-left
decreases-loop-left l = l.left

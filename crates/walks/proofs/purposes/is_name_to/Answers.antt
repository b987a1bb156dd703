-- `walks::purposes::is_name_to` meets its contract: a letter stands first, and the word is short enough. Assumes nothing.
use Prim.Native.Nat.{◌-◌}
use borrow.Author.Tests.{leb-true}
use mathlib.Core.Path.{refl}
use native.Mathlib.Omega.{arith}
use Rattle.lists.proofs.Tests.{true_not_false}
use Rattle.text.proofs.Lefts.{test_of}
use Rattle.text.proofs.WordLaws.{is_name_lem}
use Rattle.text.specs.Bytes.{is_letter}
use Rattle.walks.proofs.purposes.is_name_to.Goals as goal

pub returns-then-not-is_letter : goal.returns-then-not-is_letter
returns-then-not-is_letter c held ended = true_not_false held refl

pub returns-then-e-at : goal.returns-then-e-at
returns-then-e-at c held ended = true_not_false held refl

pub returns : goal.returns
returns c held ended = let a = c.args in
    is_name_lem a.line.now a.at (test_of is_letter c.byte_at.ensures c.is_letter.ensures c.if-not-is_letter.false) (omega (arith, ended, leb-true (a.e - a.at) 24 held))

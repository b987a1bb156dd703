-- `text::words::name_end` meets its contract: a word is a name if a letter stands first and it is short enough.
-- Assumes nothing.
use lib.ListN.{get_or}
use mathlib.Core.Bool.{false, true}
use mathlib.Core.Path.{◌≡◌, ap}
use native.Mathlib.Omega.{arith}
use Rattle.text.proofs.Lefts.{test_of}
use Rattle.text.proofs.WordLaws.{is_name_lem, not_name_letter, not_name_long, word_read, word_refused}
use Rattle.text.specs.Bytes.{is_letter}
use Rattle.text.specs.Names.{is_name}
use Rattle.std.specs.Prelude.{Some}
use Rattle.text.proofs.words.name_end.Goals as goal

pub returns-then-end-at-le24 : goal.returns-then-end-at-le24
returns-then-end-at-le24 c = let s = c.args.s.now in
    let at = c.args.at in
    let h : is_letter (get_or s at 0) ≡ true = test_of is_letter c.byte_at.ensures c.is_letter.ensures c.if-is_letter.true in
    let e = c.word_end-end.ensures in
    rw (word_read s at is_name (is_name_lem s at h (omega arith))) (ap Some e)

pub returns-else-end-at-le24 : goal.returns-else-end-at-le24
returns-else-end-at-le24 c = let s = c.args.s.now in
    let at = c.args.at in
    let h : is_letter (get_or s at 0) ≡ true = test_of is_letter c.byte_at.ensures c.is_letter.ensures c.if-is_letter.true in
    let e = c.word_end-end.ensures in
    rw (word_refused s at is_name (not_name_long s at h (omega arith)))

pub returns-else-is_letter : goal.returns-else-is_letter
returns-else-is_letter c = let s = c.args.s.now in
    let at = c.args.at in
    let h : is_letter (get_or s at 0) ≡ false = test_of is_letter c.byte_at.ensures c.is_letter.ensures c.if-is_letter.false in
    rw (word_refused s at is_name (not_name_letter s at h))

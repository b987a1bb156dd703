-- `text::bytes::is_name_byte` meets its contract: at each way out the byte lies in a range over which `is_name_byte` is constant.
-- Assumes nothing.
use mathlib.Core.Bool.{false, true}
use mathlib.Core.Logic.{⊎_elim}
use mathlib.Core.Path.{◌≡◌}
use native.Mathlib.Omega.{arith}
use Rattle.text.proofs.Ranges.{in_range_lem, in_range_but}
use Rattle.text.specs.Bytes.{is_digit, is_letter, is_name_byte}
use Rattle.text.proofs.bytes.is_name_byte.Goals as goal

pub returns-in_default : goal.returns-in_default
unfolding is_name_byte is_letter is_digit
returns-in_default c = in_range_but is_name_byte false 45 95 0 48 tt c.args.b c.in_default.in_default-own.rest.1 (omega arith) (omega arith)

pub returns-in_default-2 : goal.returns-in_default-2
unfolding is_name_byte is_letter is_digit
returns-in_default-2 c = in_range_but is_name_byte false 45 95 58 7 tt c.args.b c.in_default.in_default-own.rest.1 (omega arith) (omega arith)

pub returns-in_default-3 : goal.returns-in_default-3
unfolding is_name_byte is_letter is_digit
returns-in_default-3 c = in_range_but is_name_byte false 45 95 91 6 tt c.args.b c.in_default.in_default-own.rest.1 (omega arith) (omega arith)

pub returns-in_default-4 : goal.returns-in_default-4
unfolding is_name_byte is_letter is_digit
returns-in_default-4 c = in_range_but is_name_byte false 45 95 123 133 tt c.args.b c.in_default.in_default-own.rest.1 (omega arith) (omega arith)

pub returns-in-45 : goal.returns-in-45
unfolding is_name_byte is_letter is_digit
returns-in-45 c = ⊎_elim
    (λ (e : c.args.b ≡ 45). in_range_lem is_name_byte true 45 1 tt c.args.b (omega arith) (omega arith))
    (λ (e : c.args.b ≡ 95). in_range_lem is_name_byte true 95 1 tt c.args.b (omega arith) (omega arith))
    c.in-45.in-45-own.keys1

pub returns-in-45-2 : goal.returns-in-45-2
unfolding is_name_byte is_letter is_digit
returns-in-45-2 c = in_range_lem is_name_byte true 48 10 tt c.args.b (omega arith) (omega arith)

pub returns-in-45-3 : goal.returns-in-45-3
unfolding is_name_byte is_letter is_digit
returns-in-45-3 c = in_range_lem is_name_byte true 65 26 tt c.args.b (omega arith) (omega arith)

pub returns-in-45-4 : goal.returns-in-45-4
unfolding is_name_byte is_letter is_digit
returns-in-45-4 c = in_range_lem is_name_byte true 97 26 tt c.args.b (omega arith) (omega arith)

-- `writing::bytes::put_decimal` goes by recursion on the digits; the measure is the number.
use Rattle.writing.proofs.bytes.+put_decimal.Given as goal

abbrev pub decreases-put_decimal : goal.decreases-put_decimal
decreases-put_decimal l = l.n

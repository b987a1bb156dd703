use Rattle.writing.proofs.Writing.{both}
use Rattle.writing.proofs.Digits.{decimal_more, decimal_one}
use Rattle.writing.proofs.bytes.+put_decimal.Goals as goal

pub returns-then-n-lt10 : goal.returns-then-n-lt10
returns-then-n-lt10 t c = rw (decimal_one c.args.n c.if-n-lt10.true) c.put_byte.ensures

pub returns : goal.returns
returns t c = rw (decimal_more c.args.n c.if-n-lt10.false c.ranges.n.fits) (both c.put_decimal-to.ensures c.put_byte-2.ensures)

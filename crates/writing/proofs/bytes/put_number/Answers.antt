-- `writing::bytes::put_number` meets its contract. Assumes nothing.
use Rattle.writing.proofs.Writing.{both}
use Rattle.writing.proofs.bytes.put_number.Goals as goal

pub returns : goal.returns
returns c = both c.put_byte-next.ensures c.put_decimal.ensures

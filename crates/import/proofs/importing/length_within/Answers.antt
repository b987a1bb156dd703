-- `import::importing::length_within` meets its contract: a quotient tells whether the product is small enough. Assumes nothing.
use Rattle.import.proofs.RoomLaws.{product_small, within_fits, within_less, within_not}
use native.Mathlib.Omega.{arith}
use Rattle.import.proofs.importing.length_within.Goals as goal

pub returns-then-room-more : goal.returns-then-room-more
returns-then-room-more c = within_less c.args.room c.args.count c.args.each c.args.more c.if-room-more.true

pub overflow_mul-result : goal.overflow_mul-result
overflow_mul-result c = omega (arith, product_small c.args.room c.args.count c.args.each c.args.more c.requires c.if-room-more.false c.if-count-room.true)

pub overflow_add-result : goal.overflow_add-result
overflow_add-result c = omega (arith, product_small c.args.room c.args.count c.args.each c.args.more c.requires c.if-room-more.false c.if-count-room.true)

pub returns-then-count-room : goal.returns-then-count-room
returns-then-count-room c = within_fits c.args.room c.args.count c.args.each c.args.more c.requires c.if-room-more.false c.if-count-room.true

pub returns : goal.returns
returns c = within_not c.args.room c.args.count c.args.each c.args.more c.requires c.if-room-more.false c.if-count-room.false

-- `import::rows::put_opening` meets its contract. Assumes nothing.
use Rattle.writing.proofs.Writing.{both, wrote_byte}
use lib.ListN.{length-set}
use native.Mathlib.Omega.{arith}
use Rattle.import.proofs.rows.put_opening.Goals as goal

pub shape_of-out-then-not-has_room : goal.shape_of-out-then-not-has_room
shape_of-out-then-not-has_room c = c.put_bytes.ensures.kept

pub returns-then-not-has_room : goal.returns-then-not-has_room
returns-then-not-has_room c = c.put_bytes.ensures

pub overflow_add-second : goal.overflow_add-second
overflow_add-second c = omega (arith, c.has_room.ensures c.if-not-has_room.false)

pub overflow_add-third : goal.overflow_add-third
overflow_add-third c = omega (arith, c.has_room.ensures c.if-not-has_room.false)

pub overflow_add-fourth : goal.overflow_add-fourth
overflow_add-fourth c = omega (arith, c.has_room.ensures c.if-not-has_room.false)

pub overflow_add-fifth : goal.overflow_add-fifth
overflow_add-fifth c = omega (arith, c.has_room.ensures c.if-not-has_room.false)

pub bounds-out-to : goal.bounds-out-to
bounds-out-to c = omega (arith, c.has_room.ensures c.if-not-has_room.false)

pub bounds-out-second : goal.bounds-out-second
bounds-out-second c = rw length-set (omega (arith, c.has_room.ensures c.if-not-has_room.false))

pub bounds-out-third : goal.bounds-out-third
bounds-out-third c = rw (length-set, length-set) (omega (arith, c.has_room.ensures c.if-not-has_room.false))

pub bounds-out-fourth : goal.bounds-out-fourth
bounds-out-fourth c = rw (length-set, length-set, length-set) (omega (arith, c.has_room.ensures c.if-not-has_room.false))

pub bounds-out-fifth : goal.bounds-out-fifth
bounds-out-fifth c = rw (length-set, length-set, length-set, length-set) (omega (arith, c.has_room.ensures c.if-not-has_room.false))

pub overflow_add-result : goal.overflow_add-result
overflow_add-result c = omega (arith, c.has_room.ensures c.if-not-has_room.false)

pub shape_of-out : goal.shape_of-out
shape_of-out c = rw (length-set, length-set, length-set, length-set, length-set)

pub returns : goal.returns
returns c = both (both (both (both (wrote_byte _ _ _) (wrote_byte _ _ _)) (wrote_byte _ _ _)) (wrote_byte _ _ _)) (wrote_byte _ _ _)

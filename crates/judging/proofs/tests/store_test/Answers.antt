-- `judging::tests::store_test` meets its contract: eleven numbers are stored, one behind the other. Assumes nothing.
use Rattle.judging.proofs.TestLaws.{long_column, long_fits, long_hit, long_kind, long_miss, long_operator, long_place, long_rank, long_sign, long_size, test_stored}
use borrow.Author.Rules.{rules}
use lib.ListN.{length}
use mathlib.Core.Path.{◌≡◌}
use native.Mathlib.Omega.{arith}
use Rattle.judging.proofs.tests.store_test.Goals as goal

pub bounds-cells-at-2 : goal.bounds-cells-at-2
bounds-cells-at-2 c = let a = c.args in let l : length c.args.tests.now ≡ 704 = search rules in omega (arith, long_column a.tests.now a.j a.x (omega arith))

pub bounds-cells-at-3 : goal.bounds-cells-at-3
bounds-cells-at-3 c = let a = c.args in let l : length c.args.tests.now ≡ 704 = search rules in omega (arith, long_kind a.tests.now a.j a.x (omega arith))

pub bounds-cells-at-4 : goal.bounds-cells-at-4
bounds-cells-at-4 c = let a = c.args in let l : length c.args.tests.now ≡ 704 = search rules in omega (arith, long_operator a.tests.now a.j a.x (omega arith))

pub bounds-cells-at-5 : goal.bounds-cells-at-5
bounds-cells-at-5 c = let a = c.args in let l : length c.args.tests.now ≡ 704 = search rules in omega (arith, long_sign a.tests.now a.j a.x (omega arith))

pub bounds-cells-at-6 : goal.bounds-cells-at-6
bounds-cells-at-6 c = let a = c.args in let l : length c.args.tests.now ≡ 704 = search rules in omega (arith, long_place a.tests.now a.j a.x (omega arith))

pub bounds-cells-at-7 : goal.bounds-cells-at-7
bounds-cells-at-7 c = let a = c.args in let l : length c.args.tests.now ≡ 704 = search rules in omega (arith, long_size a.tests.now a.j a.x (omega arith))

pub bounds-cells-at-8 : goal.bounds-cells-at-8
bounds-cells-at-8 c = let a = c.args in let l : length c.args.tests.now ≡ 704 = search rules in omega (arith, long_fits a.tests.now a.j a.x (omega arith))

pub bounds-cells-at-9 : goal.bounds-cells-at-9
bounds-cells-at-9 c = let a = c.args in let l : length c.args.tests.now ≡ 704 = search rules in omega (arith, long_rank a.tests.now a.j a.x (omega arith))

pub bounds-cells-at-10 : goal.bounds-cells-at-10
bounds-cells-at-10 c = let a = c.args in let l : length c.args.tests.now ≡ 704 = search rules in omega (arith, long_hit a.tests.now a.j a.x (omega arith))

pub bounds-cells-at-11 : goal.bounds-cells-at-11
bounds-cells-at-11 c = let a = c.args in let l : length c.args.tests.now ≡ 704 = search rules in long_miss a.tests.now a.j a.x (omega arith)

pub returns : goal.returns
returns c = let a = c.args in let l : length c.args.tests.now ≡ 704 = search rules in test_stored a.tests.now a.j a.x (omega arith)

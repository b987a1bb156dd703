-- Contract: what functions of this crate promise, where it takes more than a line.
use Rattle.std.specs.Prelude.{◌<◌, ◌≤◌, ℕ, Bool, cond, List, ◌≡◌}
use Rattle.document.specs.Policy.{Doc}
use Rattle.form.specs.declared.lines.Scheme as coded
use Rattle.judging.specs.Judging.{JudgedTo, Judgeable}
use Rattle.judging.specs.Tests.{Sized, test_holds, test_in}
use Rattle.judging.specs.declared.sought.Sought.{Sought}
use Rattle.judging.specs.declared.tally.Tally.{Tally}
use Rattle.query.specs.Query.{Query}
use Rattle.relations.specs.Rows.{row_in, value_count_in}

-- comparing::next_test: the comparison to go on with behind number j of row r
abbrev pub NextTestPromise : (text ws : List ℕ) (r width : ℕ) (s read : List ℕ) (j x : ℕ) → Type 0
NextTestPromise text ws r width s read j x =
    Sized s (test_in read j) → r < 1024 → width ≤ 16 → width ≡ value_count_in ws r → x ≡ cond (test_holds (row_in text ws r).values s (test_in read j)) (test_in read j).hit (test_in read j).miss

-- fates::judge_each: each of the rows judged
abbrev pub JudgeEachPromise : (text ws : List ℕ) (count : ℕ) (os : List Bool) (s : List ℕ) (g : Sought) (first : ℕ) (scheme : coded.Scheme) (cs read : List ℕ) (marks : List Bool) (x : Tally) → Type 0
JudgeEachPromise text ws count os s g first scheme cs read marks x =
    (d : Doc) (q : Query) → Judgeable text ws count os s g first scheme cs read d q → JudgedTo d q (row_in text ws) count marks x

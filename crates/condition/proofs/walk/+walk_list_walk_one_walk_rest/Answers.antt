-- `condition::walk::walk_one`, `walk_rest` and `walk_list` meet their contracts: they call each other. Assumes nothing.
use Prim.Native.Nat.{◌+◌, ◌-◌, ◌≤◌, ℕ}
use lib.ListN.{get_or}
use mathlib.Core.Bool.{false, true}
use mathlib.Core.Path.{◌∙◌, ◌≡◌, ap, sym}
use native.Mathlib.Omega.{arith}
use Rattle.condition.proofs.CondEats.{eats_behind, eats_condition, size}
use Rattle.condition.proofs.OperatorLaws.{bracket_closed, bracket_open, bracket_refused, compared_read, compared_refused, negation_unspaced, no_bracket, operators_and, operators_compare, operators_none, operators_not, operators_or}
use Rattle.condition.proofs.WalkLaws.{list_end, list_more, list_none, list_start, list_of, negation_walked, walk_of, walks}
use Rattle.condition.specs.Answers.{is_comparator, naming_by, operator_of, walked}
use Rattle.condition.specs.Cond.{Cond, comparisons}
use Rattle.condition.specs.CondForm.{Compared, Naming, condition, operators}
use Rattle.text.proofs.AnswerLaws.{answer_of, read_at, read_refused}
use Rattle.text.proofs.Lefts.{before_end}
use Rattle.text.proofs.ManyLaws.{many_wrong}
use Rattle.text.specs.Brackets.{among, many}
use Rattle.text.specs.Bytes.{ascii}
use Rattle.text.specs.Names.{same_name}
use Rattle.text.specs.Reader.{Reader, from}
use Rattle.text.specs.Words.{word_at, word_of}
use Rattle.std.specs.Prelude.{Some}
use Rattle.condition.proofs.walk.+walk_list_walk_one_walk_rest.Goals as goal

-- ---- lists of conditions

pub walk_list-returns-then-byte_at-ne32 : goal.walk_list-returns-then-byte_at-ne32
walk_list-returns-then-byte_at-ne32 t c =
    let s = c.args.s.now in
    let at = c.args.at in
    let d = c.args.depth in
    let way : Naming = naming_by c.args.joined in
    λ one. sym (ap (walked c.args.k) (list_none one (condition way d) (λ x. 2 + size x) (eats_condition way d) s at (λ z. c.if-byte_at-ne32.true (c.byte_at.ensures ∙ z))))

pub walk_list-loop-i-init : goal.walk_list-loop-i-init
walk_list-loop-i-init t c =
    let s = c.args.s.now in
    let at = c.args.at in
    let d = c.args.depth in
    let way : Naming = naming_by c.args.joined in
    let sp : get_or s at 0 ≡ 32 = sym c.byte_at.ensures ∙ c.if-byte_at-ne32.false in
    record {
      walks = λ one. sym (list_start one (condition way d) (λ x. 2 + size x) (eats_condition way d) s c.args.k at sp);
      few = omega arith;
      past = omega arith;
    }

pub walk_list-returns-in_err-e : goal.walk_list-returns-in_err-e
walk_list-returns-in_err-e t c =
    let s = c.args.s.now in
    let d = c.args.depth in
    let way : Naming = naming_by c.args.joined in
    let i = c.loop-i.i in
    let n = c.loop-i.n in
    let sp : get_or s i 0 ≡ 32 = sym c.byte_at-in-loop-i.ensures ∙ c.loop-i-test.true in
    let told_of : c.walk_one.result ≡ walked n (condition way d (from s (i + 1))) = c.walk_one.ensures in
    let none_there = read_refused walks (condition way d) (walk_of n) (λ x. 2 + size x) (eats_condition way d) s (i + 1) (sym told_of ∙ c.in_err-e.was) in
    λ one. c.from_residual.ensures ∙ sym (ap (answer_of walks (list_of n)) (many_wrong (λ x. 2 + size x) (condition way d) (eats_condition way d) s i sp none_there)) ∙ c.loop-i.invariant.walks one

pub walk_list-loop-i-smaller : goal.walk_list-loop-i-smaller
walk_list-loop-i-smaller t c =
    let s = c.args.s.now in
    let d = c.args.depth in
    let way : Naming = naming_by c.args.joined in
    let i = c.loop-i.i in
    let n = c.loop-i.n in
    let sp : get_or s i 0 ≡ 32 = sym c.byte_at-in-loop-i.ensures ∙ c.loop-i-test.true in
    let e = c.in_ok-e.e in
    let told_of : c.walk_one.result ≡ walked n (condition way d (from s (i + 1))) = c.walk_one.ensures in
    let r = read_at walks (condition way d) (walk_of n) (λ x. 2 + size x) (eats_condition way d) s (i + 1) e c.in_ok-e.next (sym told_of ∙ c.in_ok-e.was) in
    let far : i + 1 + (2 + size r.what) ≤ e = r.past in
    omega (arith, far, before_end s i (λ z. absurd (omega (arith, sp, z))))

pub walk_list-loop-i-preserved : goal.walk_list-loop-i-preserved
walk_list-loop-i-preserved t c =
    let s = c.args.s.now in
    let d = c.args.depth in
    let way : Naming = naming_by c.args.joined in
    let i = c.loop-i.i in
    let n = c.loop-i.n in
    let sp : get_or s i 0 ≡ 32 = sym c.byte_at-in-loop-i.ensures ∙ c.loop-i-test.true in
    let e = c.in_ok-e.e in
    let m = c.in_ok-e.next in
    let told_of : c.walk_one.result ≡ walked n (condition way d (from s (i + 1))) = c.walk_one.ensures in
    let r = read_at walks (condition way d) (walk_of n) (λ x. 2 + size x) (eats_condition way d) s (i + 1) e m (sym told_of ∙ c.in_ok-e.was) in
    let far : i + 1 + (2 + size r.what) ≤ e = r.past in
    let made : n + size r.what ≡ m = r.made in
    record {
      walks = λ one. ap (λ (v : ℕ). answer_of walks (list_of v) (many (condition way d) (from s e))) (sym made) ∙ sym (list_more one (condition way d) (λ x. 2 + size x) (eats_condition way d) s n i r.what e sp r.is) ∙ c.loop-i.invariant.walks one;
      few = omega (arith, far, made, c.loop-i.invariant.few);
      past = omega (arith, far, c.loop-i.invariant.past);
    }

pub walk_list-returns : goal.walk_list-returns
walk_list-returns t c =
    let s = c.args.s.now in
    let d = c.args.depth in
    let way : Naming = naming_by c.args.joined in
    let i = c.loop-i.i in
    let n = c.loop-i.n in
    λ one. sym (list_end one (condition way d) (λ x. 2 + size x) (eats_condition way d) s n i (λ z. c.loop-i-test.false (c.byte_at-in-loop-i.ensures ∙ z))) ∙ c.loop-i.invariant.walks one

-- ---- one condition

pub walk_one-returns-then-depth-eq0 : goal.walk_one-returns-then-depth-eq0
unfolding condition
walk_one-returns-then-depth-eq0 t c =
    let h : c.args.depth ≡ 0 = c.if-depth-eq0.true in
    rw h

pub walk_one-returns-then-byte_at-ne40 : goal.walk_one-returns-then-byte_at-ne40
walk_one-returns-then-byte_at-ne40 t c =
    let s = c.args.s.now in
    let way : Naming = naming_by c.args.joined in
    sym (ap (walked c.args.k) (no_bracket way s c.args.at c.args.depth (λ z. c.if-byte_at-ne40.true (c.byte_at.ensures ∙ z))))

pub walk_one-returns-in_err-e : goal.walk_one-returns-in_err-e
walk_one-returns-in_err-e t c =
    let s = c.args.s.now in
    let at = c.args.at in
    let d = c.args.depth in
    let way : Naming = naming_by c.args.joined in
    let k = c.args.k in
    let open_here : get_or s at 0 ≡ 40 = sym c.byte_at.ensures ∙ c.if-byte_at-ne40.false in
    let e0 = c.word_end.result in
    let w = word_of s (at + 1) in
    let told_of : c.walk_rest.result ≡ walked k (among (operators way (d - 1) (condition way (d - 1)) w) w (from s e0)) = c.walk_rest.ensures in
    let none_there = read_refused walks (among (operators way (d - 1) (condition way (d - 1)) w) w) (walk_of k) size (eats_behind way (d - 1) w) s e0 (sym told_of ∙ c.in_err-e.was) in
    c.from_residual.ensures ∙ sym (ap (walked k) (bracket_refused way s at d e0 c.if-depth-eq0.false open_here c.word_end.ensures none_there))

pub walk_one-returns-then-byte_at-ne41 : goal.walk_one-returns-then-byte_at-ne41
walk_one-returns-then-byte_at-ne41 t c =
    let s = c.args.s.now in
    let at = c.args.at in
    let d = c.args.depth in
    let way : Naming = naming_by c.args.joined in
    let k = c.args.k in
    let open_here : get_or s at 0 ≡ 40 = sym c.byte_at.ensures ∙ c.if-byte_at-ne40.false in
    let e0 = c.word_end.result in
    let w = word_of s (at + 1) in
    let told_of : c.walk_rest.result ≡ walked k (among (operators way (d - 1) (condition way (d - 1)) w) w (from s e0)) = c.walk_rest.ensures in
    let e = c.in_ok-e.e in
    let r = read_at walks (among (operators way (d - 1) (condition way (d - 1)) w) w) (walk_of k) size (eats_behind way (d - 1) w) s e0 e c.in_ok-e.n (sym told_of ∙ c.in_ok-e.was) in
    sym (ap (walked k) (bracket_open way s at d e0 c.if-depth-eq0.false open_here c.word_end.ensures r.what e r.is (λ z. c.if-byte_at-ne41.true (c.byte_at-2.ensures ∙ z))))

pub walk_one-returns : goal.walk_one-returns
walk_one-returns t c =
    let s = c.args.s.now in
    let at = c.args.at in
    let d = c.args.depth in
    let way : Naming = naming_by c.args.joined in
    let k = c.args.k in
    let open_here : get_or s at 0 ≡ 40 = sym c.byte_at.ensures ∙ c.if-byte_at-ne40.false in
    let e0 = c.word_end.result in
    let w = word_of s (at + 1) in
    let told_of : c.walk_rest.result ≡ walked k (among (operators way (d - 1) (condition way (d - 1)) w) w (from s e0)) = c.walk_rest.ensures in
    let e = c.in_ok-e.e in
    let r = read_at walks (among (operators way (d - 1) (condition way (d - 1)) w) w) (walk_of k) size (eats_behind way (d - 1) w) s e0 e c.in_ok-e.n (sym told_of ∙ c.in_ok-e.was) in
    let closed : get_or s e 0 ≡ 41 = sym c.byte_at-2.ensures ∙ c.if-byte_at-ne41.false in
    sym (ap (walked k) (bracket_closed way s at d e0 c.if-depth-eq0.false open_here c.word_end.ensures r.what e r.is closed) ∙ ap (λ (n : ℕ). Some (e + 1, n)) r.made)

-- ---- what stands behind the operator

pub walk_rest-returns-in_err-e : goal.walk_rest-returns-in_err-e
walk_rest-returns-in_err-e t c =
    let s = c.args.s.now in
    let op = c.args.op in
    let at = c.args.at in
    let d = c.args.depth in
    let way : Naming = naming_by c.args.joined in
    let k = c.args.k in
    let w = word_of s op in
    let h : is_comparator (word_at s op) ≡ true = sym c.is_comparator.ensures ∙ c.if-is_comparator.true in
    let o = operator_of (word_at s op) in
    c.from_residual.ensures ∙ sym (ap (λ (R : Reader (Cond Compared)). walked k (R (from s at))) (operators_compare way d (condition way d) w h) ∙ ap (walked k) (compared_refused way d o w s at (sym (c.compared_end.ensures o w) ∙ c.in_err-e.was)))

pub walk_rest-overflow_add-result : goal.walk_rest-overflow_add-result
walk_rest-overflow_add-result t c =
    let s = c.args.s.now in
    let op = c.args.op in
    let at = c.args.at in
    let d = c.args.depth in
    let way : Naming = naming_by c.args.joined in
    let w = word_of s op in
    let o = operator_of (word_at s op) in
    let g = compared_read way d o w s at c.in_ok-e.e (sym (c.compared_end.ensures o w) ∙ c.in_ok-e.was) in
    omega (arith, g.2)

pub walk_rest-returns-then-is_comparator : goal.walk_rest-returns-then-is_comparator
unfolding comparisons
walk_rest-returns-then-is_comparator t c =
    let s = c.args.s.now in
    let op = c.args.op in
    let at = c.args.at in
    let d = c.args.depth in
    let way : Naming = naming_by c.args.joined in
    let k = c.args.k in
    let w = word_of s op in
    let h : is_comparator (word_at s op) ≡ true = sym c.is_comparator.ensures ∙ c.if-is_comparator.true in
    let o = operator_of (word_at s op) in
    let g = compared_read way d o w s at c.in_ok-e.e (sym (c.compared_end.ensures o w) ∙ c.in_ok-e.was) in
    sym (ap (λ (R : Reader (Cond Compared)). walked k (R (from s at))) (operators_compare way d (condition way d) w h) ∙ ap (walked k) g.1)

pub walk_rest-returns-then-byte_at-ne32 : goal.walk_rest-returns-then-byte_at-ne32
walk_rest-returns-then-byte_at-ne32 t c =
    let s = c.args.s.now in
    let op = c.args.op in
    let at = c.args.at in
    let d = c.args.depth in
    let way : Naming = naming_by c.args.joined in
    let k = c.args.k in
    let w = word_of s op in
    let h : is_comparator (word_at s op) ≡ false = sym c.is_comparator.ensures ∙ c.if-is_comparator.false in
    let a : same_name (word_at s op) (ascii "not") ≡ true = sym c.is_word.ensures ∙ c.if-is_word.true in
    sym (ap (λ (R : Reader (Cond Compared)). walked k (R (from s at))) (operators_not way d (condition way d) w h a) ∙ ap (walked k) (negation_unspaced (condition way d) s at (λ z. c.if-byte_at-ne32.true (c.byte_at.ensures ∙ z))))

pub walk_rest-returns-then-is_word : goal.walk_rest-returns-then-is_word
walk_rest-returns-then-is_word t c =
    let s = c.args.s.now in
    let op = c.args.op in
    let at = c.args.at in
    let d = c.args.depth in
    let way : Naming = naming_by c.args.joined in
    let k = c.args.k in
    let w = word_of s op in
    let h : is_comparator (word_at s op) ≡ false = sym c.is_comparator.ensures ∙ c.if-is_comparator.false in
    let a : same_name (word_at s op) (ascii "not") ≡ true = sym c.is_word.ensures ∙ c.if-is_word.true in
    let sp : get_or s at 0 ≡ 32 = sym c.byte_at.ensures ∙ c.if-byte_at-ne32.false in
    c.walk_one.ensures ∙ sym (ap (λ (R : Reader (Cond Compared)). walked k (R (from s at))) (operators_not way d (condition way d) w h a) ∙ negation_walked (condition way d) s at k sp)

pub walk_rest-returns-then-is_word-2 : goal.walk_rest-returns-then-is_word-2
walk_rest-returns-then-is_word-2 t c =
    let s = c.args.s.now in
    let op = c.args.op in
    let at = c.args.at in
    let d = c.args.depth in
    let way : Naming = naming_by c.args.joined in
    let k = c.args.k in
    let w = word_of s op in
    let h : is_comparator (word_at s op) ≡ false = sym c.is_comparator.ensures ∙ c.if-is_comparator.false in
    let a : same_name (word_at s op) (ascii "not") ≡ false = sym c.is_word.ensures ∙ c.if-is_word.false in
    let b : same_name (word_at s op) (ascii "and") ≡ true = sym c.is_word-2.ensures ∙ c.if-is_word-2.true in
    c.walk_list.ensures false ∙ sym (ap (λ (R : Reader (Cond Compared)). walked k (R (from s at))) (operators_and way d (condition way d) w h a b))

pub walk_rest-returns-then-is_word-3 : goal.walk_rest-returns-then-is_word-3
walk_rest-returns-then-is_word-3 t c =
    let s = c.args.s.now in
    let op = c.args.op in
    let at = c.args.at in
    let d = c.args.depth in
    let way : Naming = naming_by c.args.joined in
    let k = c.args.k in
    let w = word_of s op in
    let h : is_comparator (word_at s op) ≡ false = sym c.is_comparator.ensures ∙ c.if-is_comparator.false in
    let a : same_name (word_at s op) (ascii "not") ≡ false = sym c.is_word.ensures ∙ c.if-is_word.false in
    let b : same_name (word_at s op) (ascii "and") ≡ false = sym c.is_word-2.ensures ∙ c.if-is_word-2.false in
    let x : same_name (word_at s op) (ascii "or") ≡ true = sym c.is_word-3.ensures ∙ c.if-is_word-3.true in
    c.walk_list-then-is_word-3.ensures true ∙ sym (ap (λ (R : Reader (Cond Compared)). walked k (R (from s at))) (operators_or way d (condition way d) w h a b x))

pub walk_rest-returns : goal.walk_rest-returns
walk_rest-returns t c =
    let s = c.args.s.now in
    let op = c.args.op in
    let at = c.args.at in
    let d = c.args.depth in
    let way : Naming = naming_by c.args.joined in
    let k = c.args.k in
    let w = word_of s op in
    let h : is_comparator (word_at s op) ≡ false = sym c.is_comparator.ensures ∙ c.if-is_comparator.false in
    let a : same_name (word_at s op) (ascii "not") ≡ false = sym c.is_word.ensures ∙ c.if-is_word.false in
    let b : same_name (word_at s op) (ascii "and") ≡ false = sym c.is_word-2.ensures ∙ c.if-is_word-2.false in
    let x : same_name (word_at s op) (ascii "or") ≡ false = sym c.is_word-3.ensures ∙ c.if-is_word-3.false in
    sym (ap (λ (R : Reader (Cond Compared)). walked k (R (from s at))) (operators_none way d (condition way d) w h a b x))

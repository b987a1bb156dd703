-- `program::building::build_one` and `build_list` meet their contracts: they call each other. Assumes nothing.
use Prim.Native.Nat.{◌+◌, ◌-◌, ◌≤◌, ℕ}
use lib.Dec.{eqb}
use lib.ListN.{get_or, length}
use mathlib.Core.Bool.{cond, false, true}
use mathlib.Core.Option.{some}
use mathlib.Core.Path.{◌∙◌, ◌≡◌, ap, subst, sym}
use native.Mathlib.Omega.{arith}
use Rattle.condition.proofs.CondEats.{eats_condition, size}
use Rattle.condition.proofs.OperatorLaws.{negation_unspaced, no_bracket, operators_and, operators_none, operators_not, operators_or}
use Rattle.condition.proofs.ReadLaws.{reads}
use Rattle.condition.specs.Answers.{is_comparator, naming_by, read_to}
use Rattle.condition.specs.Cond.{both, either}
use Rattle.condition.specs.CondForm.{Naming, condition, conditions, negation}
use Rattle.text.proofs.AnswerLaws.{read_at, read_refused}
use Rattle.text.proofs.Lefts.{before_end}
use Rattle.text.proofs.ReaderLaws.{not_read}
use Rattle.text.specs.Bytes.{ascii}
use Rattle.text.specs.Names.{same_name}
use Rattle.text.specs.Reader.{from, refuse}
use Rattle.text.specs.Words.{word_at, word_of}
use Rattle.program.proofs.BuildLaws.{behind_is, compared_code, listing_end, listing_more, listing_start, listing_wrong, negation_got}
use Rattle.program.proofs.StepLaws.{written_same}
use Rattle.program.specs.Program.{code}
use Rattle.program.proofs.building.+build_list_build_one.Goals as goal

-- ---- lists of conditions

pub build_list-loop-e-init : goal.build_list-loop-e-init
build_list-loop-e-init t c =
    let a = c.args in
    let d = a.depth in
    let way : Naming = naming_by a.joined in
    record {
      lists = λ x l h. listing_start a.one (condition way d) (λ y. 2 + size y) (eats_condition way d) a.s.now a.k a.hit a.miss a.odd a.trues.now a.falses.now a.flips.now x l a.at h;
      few = omega arith;
      past = omega arith;
    }

pub build_list-returns-in_default : goal.build_list-returns-in_default
build_list-returns-in_default t c =
    let a = c.args in
    let s = a.s.now in
    let d = a.depth in
    let way : Naming = naming_by a.joined in
    let i = c.loop-e.i in
    let n = c.loop-e.n in
    let sp : get_or s i 0 ≡ 32 = sym c.byte_at.ensures ∙ c.loop-e-test.true in
    let told_of : c.count_condition.result ≡ read_to (condition way d (from s (i + 1))) = c.count_condition.ensures in
    let none_there = read_refused reads (condition way d) size (λ y. 2 + size y) (eats_condition way d) s (i + 1) (sym told_of ∙ c.in_default.is) in
    λ x l h. listing_wrong a.one (condition way d) (λ y. 2 + size y) (eats_condition way d) s a.k a.hit a.miss a.odd a.trues.now a.falses.now a.flips.now x l c.loop-e.trues c.loop-e.falses c.loop-e.flips i n (c.loop-e.invariant.lists x l h) sp none_there

pub build_list-overflow_add-next : goal.build_list-overflow_add-next
build_list-overflow_add-next t c =
    let a = c.args in
    let s = a.s.now in
    let d = a.depth in
    let way : Naming = naming_by a.joined in
    let i = c.loop-e.i in
    let e = c.in-Some.e in
    let m = c.in-Some.m in
    let told_of : c.count_condition.result ≡ read_to (condition way d (from s (i + 1))) = c.count_condition.ensures in
    let r = read_at reads (condition way d) size (λ y. 2 + size y) (eats_condition way d) s (i + 1) e m (sym told_of ∙ c.in-Some.is) in
    let far : i + 1 + (2 + size r.what) ≤ e = r.past in
    let within : e ≤ length s = r.within (omega arith) in
    let made : size r.what ≡ m = r.made in
    omega (arith, far, within, made, c.loop-e.invariant.few)

pub build_list-loop-e-smaller : goal.build_list-loop-e-smaller
build_list-loop-e-smaller t c =
    let a = c.args in
    let s = a.s.now in
    let d = a.depth in
    let way : Naming = naming_by a.joined in
    let i = c.loop-e.i in
    let sp : get_or s i 0 ≡ 32 = sym c.byte_at.ensures ∙ c.loop-e-test.true in
    let e = c.in-Some.e in
    let m = c.in-Some.m in
    let told_of : c.count_condition.result ≡ read_to (condition way d (from s (i + 1))) = c.count_condition.ensures in
    let r = read_at reads (condition way d) size (λ y. 2 + size y) (eats_condition way d) s (i + 1) e m (sym told_of ∙ c.in-Some.is) in
    let far : i + 1 + (2 + size r.what) ≤ e = r.past in
    let within : e ≤ length s = r.within (omega arith) in
    omega (arith, far, within, before_end s i (λ z. absurd (omega (arith, sp, z))))

pub build_list-loop-e-preserved : goal.build_list-loop-e-preserved
build_list-loop-e-preserved t c =
    let a = c.args in
    let s = a.s.now in
    let d = a.depth in
    let way : Naming = naming_by a.joined in
    let i = c.loop-e.i in
    let n = c.loop-e.n in
    let sp : get_or s i 0 ≡ 32 = sym c.byte_at.ensures ∙ c.loop-e-test.true in
    let e = c.in-Some.e in
    let m = c.in-Some.m in
    let told_of : c.count_condition.result ≡ read_to (condition way d (from s (i + 1))) = c.count_condition.ensures in
    let r = read_at reads (condition way d) size (λ y. 2 + size y) (eats_condition way d) s (i + 1) e m (sym told_of ∙ c.in-Some.is) in
    let far : i + 1 + (2 + size r.what) ≤ e = r.past in
    let within : e ≤ length s = r.within (omega arith) in
    let made : size r.what ≡ m = r.made in
    let hit_told = c.at_space-hit_here.ensures ∙ ap (λ (v : ℕ). cond (eqb (get_or s e 0) 32) v a.hit) c.picked.ensures in
    let miss_told = c.at_space-miss_here.ensures ∙ ap (λ (v : ℕ). cond (eqb (get_or s e 0) 32) v a.miss) c.picked-in-loop-e.ensures in
    record {
      lists = λ x l h. listing_more a.one (condition way d) (λ y. 2 + size y) (eats_condition way d) s a.k a.hit a.miss a.odd a.trues.now a.falses.now a.flips.now x l c.loop-e.trues c.loop-e.falses c.loop-e.flips i n (c.loop-e.invariant.lists x l h) r.what e c.at_space-hit_here.result c.at_space-miss_here.result (n + m) _ _ _ sp r.is (ap (λ (v : ℕ). n + v) (sym made)) hit_told miss_told (c.build_one.ensures r.what (from s e) r.is);
      few = omega (arith, far, made, c.loop-e.invariant.few);
      past = omega (arith, far, c.loop-e.invariant.past);
    }

pub build_list-returns : goal.build_list-returns
build_list-returns t c =
    let a = c.args in
    let s = a.s.now in
    let d = a.depth in
    let way : Naming = naming_by a.joined in
    let i = c.loop-e.i in
    let n = c.loop-e.n in
    λ x l h. listing_end a.one (condition way d) (λ y. 2 + size y) (eats_condition way d) s a.k a.hit a.miss a.odd a.trues.now a.falses.now a.flips.now x l c.loop-e.trues c.loop-e.falses c.loop-e.flips i n (c.loop-e.invariant.lists x l h) (λ z. c.loop-e-test.false (c.byte_at.ensures ∙ z))

-- ---- one condition

pub build_one-returns-then-depth-eq0 : goal.build_one-returns-then-depth-eq0
unfolding condition
build_one-returns-then-depth-eq0 t c =
    let s = c.args.s.now in
    let at = c.args.at in
    let way : Naming = naming_by c.args.joined in
    λ y l g. not_read (y, l) (subst (λ (v : ℕ). condition way v (from s at) ≡ some (y, l)) c.if-depth-eq0.true g)

pub build_one-returns-then-byte_at-ne40 : goal.build_one-returns-then-byte_at-ne40
build_one-returns-then-byte_at-ne40 t c =
    let s = c.args.s.now in
    let way : Naming = naming_by c.args.joined in
    λ y l g. not_read (y, l) (sym (no_bracket way s c.args.at c.args.depth (λ z. c.if-byte_at-ne40.true (c.byte_at.ensures ∙ z))) ∙ g)

pub build_one-returns-then-is_comparator : goal.build_one-returns-then-is_comparator
build_one-returns-then-is_comparator t c =
    let a = c.args in
    let s = a.s.now in
    let at = a.at in
    let way : Naming = naming_by a.joined in
    let open_here : get_or s at 0 ≡ 40 = sym c.byte_at.ensures ∙ c.if-byte_at-ne40.false in
    let h : is_comparator (word_at s (at + 1)) ≡ true = sym c.is_comparator.ensures ∙ c.if-is_comparator.true in
    λ y l g. written_same (compared_code way s at a.depth c.word_end-e.result y l g c.if-depth-eq0.false open_here c.word_end-e.ensures h a.k a.hit a.miss a.odd) c.store_step.ensures

pub build_one-returns-then-byte_at-ne32 : goal.build_one-returns-then-byte_at-ne32
build_one-returns-then-byte_at-ne32 t c =
    let s = c.args.s.now in
    let at = c.args.at in
    let d = c.args.depth in
    let way : Naming = naming_by c.args.joined in
    let open_here : get_or s at 0 ≡ 40 = sym c.byte_at.ensures ∙ c.if-byte_at-ne40.false in
    let e = c.word_end-e.result in
    let w = word_of s (at + 1) in
    let h : is_comparator (word_at s (at + 1)) ≡ false = sym c.is_comparator.ensures ∙ c.if-is_comparator.false in
    let a : same_name (word_at s (at + 1)) (ascii "not") ≡ true = sym c.is_word.ensures ∙ c.if-is_word.true in
    λ y l g.
    let q = behind_is way s at d e y l g c.if-depth-eq0.false open_here c.word_end-e.ensures (negation (condition way (d - 1))) (operators_not way (d - 1) (condition way (d - 1)) w h a) in
    not_read (y, q.0) (sym (negation_unspaced (condition way (d - 1)) s e (λ z. c.if-byte_at-ne32.true (c.byte_at-then-is_word.ensures ∙ z))) ∙ q.1)

pub build_one-returns-then-is_word : goal.build_one-returns-then-is_word
unfolding code
build_one-returns-then-is_word t c =
    let entry = c.args in
    let s = entry.s.now in
    let at = entry.at in
    let d = entry.depth in
    let way : Naming = naming_by entry.joined in
    let open_here : get_or s at 0 ≡ 40 = sym c.byte_at.ensures ∙ c.if-byte_at-ne40.false in
    let e = c.word_end-e.result in
    let w = word_of s (at + 1) in
    let h : is_comparator (word_at s (at + 1)) ≡ false = sym c.is_comparator.ensures ∙ c.if-is_comparator.false in
    let a : same_name (word_at s (at + 1)) (ascii "not") ≡ true = sym c.is_word.ensures ∙ c.if-is_word.true in
    let sp : get_or s e 0 ≡ 32 = sym c.byte_at-then-is_word.ensures ∙ c.if-byte_at-ne32.false in
    λ y l g.
    let q = behind_is way s at d e y l g c.if-depth-eq0.false open_here c.word_end-e.ensures (negation (condition way (d - 1))) (operators_not way (d - 1) (condition way (d - 1)) w h a) in
    let r = negation_got (condition way (d - 1)) s e y q.0 sp q.1 in
    written_same (ap (code entry.k entry.hit entry.miss entry.odd) r.2) (c.build_one.ensures r.0 q.0 r.1)

pub build_one-returns-then-is_word-2 : goal.build_one-returns-then-is_word-2
build_one-returns-then-is_word-2 t c =
    let s = c.args.s.now in
    let at = c.args.at in
    let d = c.args.depth in
    let way : Naming = naming_by c.args.joined in
    let open_here : get_or s at 0 ≡ 40 = sym c.byte_at.ensures ∙ c.if-byte_at-ne40.false in
    let w = word_of s (at + 1) in
    let h : is_comparator (word_at s (at + 1)) ≡ false = sym c.is_comparator.ensures ∙ c.if-is_comparator.false in
    let a : same_name (word_at s (at + 1)) (ascii "not") ≡ false = sym c.is_word.ensures ∙ c.if-is_word.false in
    let b : same_name (word_at s (at + 1)) (ascii "and") ≡ true = sym c.is_word-2.ensures ∙ c.if-is_word-2.true in
    λ y l g.
    let q = behind_is way s at d c.word_end-e.result y l g c.if-depth-eq0.false open_here c.word_end-e.ensures (conditions both (condition way (d - 1))) (operators_and way (d - 1) (condition way (d - 1)) w h a b) in
    c.build_list.ensures y q.0 q.1

pub build_one-returns-then-is_word-3 : goal.build_one-returns-then-is_word-3
build_one-returns-then-is_word-3 t c =
    let s = c.args.s.now in
    let at = c.args.at in
    let d = c.args.depth in
    let way : Naming = naming_by c.args.joined in
    let open_here : get_or s at 0 ≡ 40 = sym c.byte_at.ensures ∙ c.if-byte_at-ne40.false in
    let w = word_of s (at + 1) in
    let h : is_comparator (word_at s (at + 1)) ≡ false = sym c.is_comparator.ensures ∙ c.if-is_comparator.false in
    let a : same_name (word_at s (at + 1)) (ascii "not") ≡ false = sym c.is_word.ensures ∙ c.if-is_word.false in
    let b : same_name (word_at s (at + 1)) (ascii "and") ≡ false = sym c.is_word-2.ensures ∙ c.if-is_word-2.false in
    let x : same_name (word_at s (at + 1)) (ascii "or") ≡ true = sym c.is_word-3.ensures ∙ c.if-is_word-3.true in
    λ y l g.
    let q = behind_is way s at d c.word_end-e.result y l g c.if-depth-eq0.false open_here c.word_end-e.ensures (conditions either (condition way (d - 1))) (operators_or way (d - 1) (condition way (d - 1)) w h a b x) in
    c.build_list-then-is_word-3.ensures y q.0 q.1

pub build_one-returns : goal.build_one-returns
build_one-returns t c =
    let s = c.args.s.now in
    let at = c.args.at in
    let d = c.args.depth in
    let way : Naming = naming_by c.args.joined in
    let open_here : get_or s at 0 ≡ 40 = sym c.byte_at.ensures ∙ c.if-byte_at-ne40.false in
    let w = word_of s (at + 1) in
    let h : is_comparator (word_at s (at + 1)) ≡ false = sym c.is_comparator.ensures ∙ c.if-is_comparator.false in
    let a : same_name (word_at s (at + 1)) (ascii "not") ≡ false = sym c.is_word.ensures ∙ c.if-is_word.false in
    let b : same_name (word_at s (at + 1)) (ascii "and") ≡ false = sym c.is_word-2.ensures ∙ c.if-is_word-2.false in
    let x : same_name (word_at s (at + 1)) (ascii "or") ≡ false = sym c.is_word-3.ensures ∙ c.if-is_word-3.false in
    λ y l g.
    let q = behind_is way s at d c.word_end-e.result y l g c.if-depth-eq0.false open_here c.word_end-e.ensures refuse (operators_none way (d - 1) (condition way (d - 1)) w h a b x) in
    not_read (y, q.0) q.1

-- `form::lines::read_set` meets its contract: a fact for each step of the code, and at each return the steps before it.
-- Assumes nothing.
use Prim.Native.Nat.{◌+◌, ◌<◌}
use lib.ListN.{get_or, length}
use mathlib.Core.Bool.{true}
use mathlib.Core.List.{[], ◌∷◌}
use mathlib.Core.Path.{◌∙◌, ◌≡◌, refl, sym}
use native.Mathlib.Omega.{arith}
use Rattle.form.proofs.KeywordLaws.{keyword_at}
use Rattle.form.proofs.NoneLaws.{set_none}
use Rattle.form.proofs.PartLaws.{names_to, space_before, word_ends}
use Rattle.form.specs.BodyPlaces.{SetWithin, set_at}
use Rattle.form.specs.FormReader.{purpose_set}
use Rattle.text.proofs.EndLaws.{end_none}
use Rattle.text.proofs.Lefts.{before_end}
use Rattle.text.proofs.ReaderLaws.{byte_at_read, byte_at_refused}
use Rattle.text.proofs.Spaces.{next_here, next_not}
use Rattle.text.specs.Brackets.{among, bracketed, many}
use Rattle.text.specs.Names.{same_name}
use Rattle.text.specs.Words.{is_called, name, word_at}
use Rattle.form.proofs.lines.read_set.Goals.{Else-byte_at-ne32, Else-byte_at-ne40, Else-not-is_word}
use Rattle.form.proofs.lines.read_set.Goals as goal

space : (c : Else-byte_at-ne32) → get_or c.args.s.now c.args.at 0 ≡ 32
space c = sym c.byte_at.ensures ∙ c.if-byte_at-ne32.false

opens : (c : Else-byte_at-ne40) → get_or c.args.s.now (c.args.at + 1) 0 ≡ 40
opens c = sym c.byte_at-2.ensures ∙ c.if-byte_at-ne40.false

before : (c : Else-byte_at-ne40) → c.args.at + 1 < length c.args.s.now
before c = let h = opens c in before_end c.args.s.now (c.args.at + 1) (λ z. absurd (omega (arith, h, z)))

called : (c : Else-not-is_word) → same_name (word_at c.args.s.now (c.args.at + 1 + 1)) c.args.k.now ≡ true
called c = sym c.is_word.ensures ∙ c.if-not-is_word.false

pub returns-then-byte_at-ne32 : goal.returns-then-byte_at-ne32
unfolding set_at SetWithin
returns-then-byte_at-ne32 c = record { is = next_not (purpose_set c.args.k.now) c.args.s.now c.args.at (λ z. c.if-byte_at-ne32.true (c.byte_at.ensures ∙ z)); within = tt }

pub overflow_add-b : goal.overflow_add-b
overflow_add-b c = omega (arith, space_before c.args.s.now c.args.at (space c))

pub returns-then-byte_at-ne40 : goal.returns-then-byte_at-ne40
unfolding set_at SetWithin purpose_set bracketed
returns-then-byte_at-ne40 c = let s = c.args.s.now in
    let at = c.args.at in
    record { is = next_here (purpose_set c.args.k.now) s at (space (goal.at.returns-then-byte_at-ne40 c).Else-byte_at-ne32) ∙ rw (byte_at_refused s (at + 1) 40 (λ z. c.if-byte_at-ne40.true (c.byte_at-2.ensures ∙ z))); within = tt }

pub overflow_add-w : goal.overflow_add-w
overflow_add-w c = omega (arith, before c)

pub returns-then-not-is_word : goal.returns-then-not-is_word
unfolding set_at SetWithin purpose_set bracketed among is_called
returns-then-not-is_word c = let s = c.args.s.now in
    let at = c.args.at in
    let k = c.args.k.now in
    record {
      is = next_here (purpose_set k) s at (space (goal.at.returns-then-not-is_word c).Else-byte_at-ne32)
          ∙ rw (byte_at_read s (at + 1) 40 (opens (goal.at.returns-then-not-is_word c).Else-byte_at-ne40), keyword_at ((k, many name) ∷ []) s (at + 1 + 1) _ refl, sym c.is_word.ensures ∙ c.if-not-is_word.true);
      within = tt;
    }

pub returns-in_err-e : goal.returns-in_err-e
unfolding purpose_set bracketed among is_called
returns-in_err-e c = let s = c.args.s.now in
    let at = c.args.at in
    let k = c.args.k.now in
    let n = c.word_end-n.result in
    set_none s c.from_residual.ensures (next_here (purpose_set k) s at (space (goal.at.returns-in_err-e c).Else-byte_at-ne32)
    ∙ rw (byte_at_read s (at + 1) 40 (opens (goal.at.returns-in_err-e c).Else-byte_at-ne40), keyword_at ((k, many name) ∷ []) s (at + 1 + 1) n c.word_end-n.ensures, called (goal.at.returns-in_err-e c).Else-not-is_word, end_none (many name) s n (sym c.names_end.ensures ∙ c.in_err-e.was)))

pub returns-then-byte_at-ne41 : goal.returns-then-byte_at-ne41
unfolding set_at SetWithin purpose_set bracketed among is_called
returns-then-byte_at-ne41 c = let s = c.args.s.now in
    let at = c.args.at in
    let k = c.args.k.now in
    let n = c.word_end-n.result in
    let e = c.in_ok-e.e in
    record {
      is = next_here (purpose_set k) s at (space (goal.at.returns-then-byte_at-ne41 c).Else-byte_at-ne32)
          ∙ rw (byte_at_read s (at + 1) 40 (opens (goal.at.returns-then-byte_at-ne41 c).Else-byte_at-ne40), keyword_at ((k, many name) ∷ []) s (at + 1 + 1) n c.word_end-n.ensures, called (goal.at.returns-then-byte_at-ne41 c).Else-not-is_word, names_to s n e c.names_end.ensures c.in_ok-e.was, byte_at_refused s e 41 (λ z. c.if-byte_at-ne41.true (c.byte_at-3.ensures ∙ z)));
      within = tt;
    }

pub overflow_add-result : goal.overflow_add-result
overflow_add-result c = let h : get_or c.args.s.now c.in_ok-e.e 0 ≡ 41 = sym c.byte_at-3.ensures ∙ c.if-byte_at-ne41.false in
    omega (arith, before_end c.args.s.now c.in_ok-e.e (λ z. absurd (omega (arith, h, z))))

pub returns : goal.returns
unfolding set_at SetWithin purpose_set bracketed among is_called
returns c = let s = c.args.s.now in
    let at = c.args.at in
    let k = c.args.k.now in
    let n = c.word_end-n.result in
    let e = c.in_ok-e.e in
    record {
      is = next_here (purpose_set k) s at (space (goal.at.returns c).Else-byte_at-ne32)
          ∙ rw (byte_at_read s (at + 1) 40 (opens (goal.at.returns c).Else-byte_at-ne40), keyword_at ((k, many name) ∷ []) s (at + 1 + 1) n c.word_end-n.ensures, called (goal.at.returns c).Else-not-is_word, names_to s n e c.names_end.ensures c.in_ok-e.was, byte_at_read s e 41 (sym c.byte_at-3.ensures ∙ c.if-byte_at-ne41.false));
      within = word_ends s (at + 1 + 1) c.word_end-n.ensures (omega (arith, before (goal.at.returns c).Else-byte_at-ne40));
    }

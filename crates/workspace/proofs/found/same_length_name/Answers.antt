-- `workspace::found::same_length_name` meets its contract. The loop's invariant: the two words are the same from the loop's byte on, if the
-- length is the word's. Assumes nothing.
use Prim.Native.Nat.{◌+◌, ◌-◌, ℕ}
use borrow.Author.Tests.{ne_eqb}
use mathlib.Core.Bool.{true}
use mathlib.Core.Path.{◌∙◌, ◌≡◌, ap₂, sym}
use native.Mathlib.Omega.{arith}
use Rattle.workspace.proofs.SameLaws.{differ_at, differ_behind, same_before, same_behind, same_beyond, same_empty}
use Rattle.text.proofs.Lefts.{test_of}
use Rattle.text.specs.Bytes.{is_name_byte}
use Rattle.text.specs.Names.{same_name}
use Rattle.text.specs.Words.{word_at}
use Rattle.workspace.proofs.found.same_length_name.Goals as goal

pub returns-then-text-len : goal.returns-then-text-len
returns-then-text-len c = let s = c.args in
    λ sized. sym (same_beyond s.line.now s.i s.len s.text.now s.p sized (omega arith) ∙ ne_eqb s.len 0 (λ z. omega arith))

pub overflow_sub-text : goal.overflow_sub-text
overflow_sub-text c = omega arith

pub returns-then-text-len-2 : goal.returns-then-text-len-2
returns-then-text-len-2 c = let s = c.args in
    λ sized. sym (same_beyond s.line.now s.i s.len s.text.now s.p sized (omega arith))

pub overflow_add-p : goal.overflow_add-p
overflow_add-p c = omega arith

pub returns-then-is_name_byte : goal.returns-then-is_name_byte
returns-then-is_name_byte c = let s = c.args in
    λ sized. sym (differ_behind s.line.now s.i s.len s.text.now s.p sized (test_of is_name_byte c.byte_at.ensures c.is_name_byte.ensures c.if-is_name_byte.true))

pub returns-then-line-len : goal.returns-then-line-len
returns-then-line-len c = let s = c.args in
    λ sized. sym (same_empty s.line.now s.i s.len s.text.now s.p sized (omega arith) (test_of is_name_byte c.byte_at.ensures c.is_name_byte.ensures c.if-is_name_byte.false) ∙ ne_eqb s.len 0 (λ z. omega arith))

pub overflow_sub-line : goal.overflow_sub-line
overflow_sub-line c = omega arith

pub returns-then-line-len-2 : goal.returns-then-line-len-2
returns-then-line-len-2 c = let s = c.args in
    λ sized. sym (same_empty s.line.now s.i s.len s.text.now s.p sized (omega arith) (test_of is_name_byte c.byte_at.ensures c.is_name_byte.ensures c.if-is_name_byte.false))

pub loop-q-init : goal.loop-q-init
loop-q-init c = let s = c.args in
    (omega arith, λ sized. same_behind s.line.now s.i s.len s.text.now s.p sized (test_of is_name_byte c.byte_at.ensures c.is_name_byte.ensures c.if-is_name_byte.false))

pub overflow_sub-q : goal.overflow_sub-q
overflow_sub-q c = omega arith

pub overflow_add-i : goal.overflow_add-i
overflow_add-i c = omega arith

pub bounds-line-i : goal.bounds-line-i
bounds-line-i c = omega arith

pub overflow_add-p-in-loop-q : goal.overflow_add-p-in-loop-q
overflow_add-p-in-loop-q c = omega arith

pub bounds-text-p : goal.bounds-text-p
bounds-text-p c = omega arith

pub returns-then-not-same_byte : goal.returns-then-not-same_byte
returns-then-not-same_byte c = let s = c.args in
    λ sized. sym (differ_at s.line.now s.i s.len s.text.now s.p sized (c.loop-q.q - 1) (omega arith) (sym c.same_byte.ensures ∙ c.if-not-same_byte.true))

pub loop-q-smaller : goal.loop-q-smaller
loop-q-smaller c = omega arith

pub loop-q-preserved : goal.loop-q-preserved
loop-q-preserved c = let s = c.args in
    (omega arith, λ sized. same_before s.line.now s.i s.len s.text.now s.p sized (c.loop-q.q - 1) (omega arith) c.loop-q.q (omega arith) (sym c.same_byte.ensures ∙ c.if-not-same_byte.false) (c.loop-q.invariant.1 sized))

pub returns : goal.returns
returns c = let s = c.args in
    let q = c.loop-q.q in
    let first : s.i ≡ s.i + q = omega arith in
    let first_of_text : s.p ≡ s.p + q = omega arith in
    λ sized. sym (ap₂ (λ (k l : ℕ). same_name (word_at s.line.now k) (word_at s.text.now l)) first first_of_text ∙ c.loop-q.invariant.1 sized)

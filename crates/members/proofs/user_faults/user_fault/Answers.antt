-- `members::user_faults::user_fault` meets its contract: each answer is the first fault of the line. Assumes nothing.
use borrow.Author.Tests.{not-false, not-true}
use mathlib.Core.Path.{◌∙◌, ap, subst, sym}
use native.Mathlib.Omega.{arith}
use Rattle.document.specs.Lookup.{role_of}
use Rattle.members.proofs.UserFaults.{user_attribute, user_fine, user_no_role, user_over, user_twice, user_type, user_values, users_length}
use Rattle.stepping.proofs.FoundLaws.{is_some_there}
use Rattle.stepping.specs.Places.{Near}
use Rattle.form.specs.Walks.{givens_at}
use Rattle.workspace.specs.Found.{found_as}
use Rattle.lists.specs.Lists.{there}
use Rattle.text.specs.CodeEnds.{offending_of}
use Rattle.text.specs.Words.{word_of}
use Rattle.members.proofs.user_faults.user_fault.Goals as goal

pub returns-then-k-ge-USERS : goal.returns-then-k-ge-USERS
unfolding role_of there
returns-then-k-ge-USERS c = record {
  is = λ d h. user_over d c.args.line.now
      (word_of c.args.line.now c.args.u)
      (word_of c.args.line.now c.args.r)
      (givens_at c.args.line.now c.args.gs) (omega (arith, users_length h.2));
  roomy = tt;
  reaches = λ p. tt;
}

pub returns-in_default : goal.returns-in_default
unfolding role_of there
returns-in_default c = record {
  is = λ d h. user_no_role d c.args.line.now
      (word_of c.args.line.now c.args.u)
      (word_of c.args.line.now c.args.r)
      (givens_at c.args.line.now c.args.gs)
      (omega (arith, users_length h.2))
      (sym (c.find_role.ensures.0 d.policy.roles h.0) ∙ ap found_as c.in_default.is);
  roomy = tt;
  reaches = λ p. p.1;
}

pub returns-then-is_some : goal.returns-then-is_some
unfolding role_of there
returns-then-is_some c = record {
  is = λ d h. user_twice d c.args.line.now
      (word_of c.args.line.now c.args.u)
      (word_of c.args.line.now c.args.r)
      (givens_at c.args.line.now c.args.gs)
      (omega (arith, users_length h.2)) c.in-Some.n
      (sym (c.find_role.ensures.0 d.policy.roles h.0) ∙ ap found_as c.in-Some.is)
      (sym (ap there (c.find_user.ensures.0 d.policy d.policy.users h.2)) ∙ sym (is_some_there c.find_user.result) ∙ sym c.is_some.ensures ∙ c.if-is_some.true);
  roomy = tt;
  reaches = λ p. p.1;
}

pub returns-in-Some-first_unknown_given : goal.returns-in-Some-first_unknown_given
unfolding role_of there
returns-in-Some-first_unknown_given c = record {
  is = λ d h. user_attribute d
      c.args.line.now
      (word_of c.args.line.now c.args.u)
      (word_of c.args.line.now c.args.r)
      (givens_at c.args.line.now c.args.gs)
      (omega (arith, users_length h.2)) c.in-Some.n
      (sym (c.find_role.ensures.0 d.policy.roles h.0) ∙ ap found_as c.in-Some.is)
      (sym (ap there (c.find_user.ensures.0 d.policy d.policy.users h.2)) ∙ sym (is_some_there c.find_user.result) ∙ sym c.is_some.ensures ∙ c.if-is_some.false)
      (word_of c.args.line.now c.in-Some-first_unknown_given.v)
      (sym (c.first_unknown_given.ensures.0 d.policy h.1) ∙ ap (offending_of c.args.line.now) c.in-Some-first_unknown_given.is);
  roomy = tt;
  reaches = λ p. subst (Near c.args.line.now) c.in-Some-first_unknown_given.is c.first_unknown_given.ensures.1;
}

pub returns-then-not-gives_all : goal.returns-then-not-gives_all
unfolding role_of there
returns-then-not-gives_all c = record {
  is = λ d h. user_values d
      c.args.line.now
      (word_of
      c.args.line.now
      c.args.u) (word_of
      c.args.line.now
      c.args.r) (givens_at
      c.args.line.now
      c.args.gs) (omega
      (arith, users_length h.2)) c.in-Some.n (sym
      (c.find_role.ensures.0 d.policy.roles h.0) ∙ ap found_as
      c.in-Some.is) (sym
      (ap there (c.find_user.ensures.0 d.policy d.policy.users h.2)) ∙ sym (is_some_there c.find_user.result) ∙ sym c.is_some.ensures ∙ c.if-is_some.false) (sym
      (c.first_unknown_given.ensures.0 d.policy h.1) ∙ ap
      (offending_of c.args.line.now)
      c.in_default-first_unknown_given.is) (sym (c.gives_all.ensures d.policy h.0 h.1 h.3.attributes) ∙ not-true _
      c.if-not-gives_all.true-raw);
  roomy = tt;
  reaches = λ p. tt;
}

pub returns-in-Some-first_mistyped_given : goal.returns-in-Some-first_mistyped_given
unfolding role_of there
returns-in-Some-first_mistyped_given c = record {
  is = λ d h. user_type d
      c.args.line.now
      (word_of
      c.args.line.now
      c.args.u)
      (word_of
      c.args.line.now
      c.args.r)
      (givens_at
      c.args.line.now
      c.args.gs)
      (omega (arith, users_length h.2))
      c.in-Some.n (sym
      (c.find_role.ensures.0 d.policy.roles h.0) ∙ ap found_as
      c.in-Some.is) (sym
      (ap there (c.find_user.ensures.0 d.policy d.policy.users h.2)) ∙ sym (is_some_there c.find_user.result) ∙ sym c.is_some.ensures ∙ c.if-is_some.false) (sym
      (c.first_unknown_given.ensures.0 d.policy h.1) ∙ ap
      (offending_of c.args.line.now)
      c.in_default-first_unknown_given.is) (sym
      (c.gives_all.ensures d.policy h.0 h.1 h.3.attributes) ∙ not-false _
      c.if-not-gives_all.false-raw) (word_of
      c.args.line.now
      c.in-Some-first_mistyped_given.v) (sym (c.first_mistyped_given.ensures.0 d.policy h.1) ∙ ap
      (offending_of c.args.line.now)
      c.in-Some-first_mistyped_given.is);
  roomy = tt;
  reaches = λ p. subst (Near c.args.line.now) c.in-Some-first_mistyped_given.is c.first_mistyped_given.ensures.1;
}

pub returns-in-None : goal.returns-in-None
unfolding role_of there
returns-in-None c = record {
  is = λ d h. user_fine d
      c.args.line.now
      (word_of
      c.args.line.now
      c.args.u)
      (word_of
      c.args.line.now
      c.args.r)
      (givens_at
      c.args.line.now
      c.args.gs)
      (omega (arith, users_length h.2))
      c.in-Some.n (sym
      (c.find_role.ensures.0 d.policy.roles h.0) ∙ ap found_as
      c.in-Some.is) (sym
      (ap there (c.find_user.ensures.0 d.policy d.policy.users h.2)) ∙ sym (is_some_there c.find_user.result) ∙ sym c.is_some.ensures ∙ c.if-is_some.false) (sym
      (c.first_unknown_given.ensures.0 d.policy h.1) ∙ ap
      (offending_of c.args.line.now)
      c.in_default-first_unknown_given.is) (sym
      (c.gives_all.ensures d.policy h.0 h.1 h.3.attributes) ∙ not-false _
      c.if-not-gives_all.false-raw) (sym (c.first_mistyped_given.ensures.0 d.policy h.1) ∙ ap
      (offending_of c.args.line.now)
      c.in-None.is);
  roomy = omega arith;
  reaches = λ p. tt;
}

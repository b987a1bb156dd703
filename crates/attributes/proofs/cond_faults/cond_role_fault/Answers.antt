-- `attributes::cond_faults::cond_role_fault` meets its contract: each return is the first fault of the check. Assumes nothing.
use mathlib.Core.Bool.{false}
use mathlib.Core.Option.{none, some}
use mathlib.Core.Path.{◌∙◌, ◌≡◌, ap, refl, subst, sym}
use native.Mathlib.Omega.{arith}
use Rattle.condition.proofs.ReadLaws.{condition_none}
use Rattle.condition.specs.Cond.{Cond}
use Rattle.condition.specs.CondForm.{Compared, condition_in_form}
use Rattle.document.specs.Bounds.{over_bound}
use Rattle.document.specs.Lookup.{cond_role_of, role_of}
use Rattle.document.specs.NameFaults.{taken, unknown}
use Rattle.document.specs.Policy.{Doc}
use Rattle.document.specs.TypeFaults.{wrong_type}
use Rattle.attributes.proofs.CondLineLaws.{cond_form_lem, cond_late, cond_placed, cond_order, cond_dated, cond_many, cond_new, cond_room, cond_root, cond_taken, cond_values, cond_wide, not_both, read_there, role_unknown, stored_count, stored_many, stored_near, stored_over, types_stored, unknown_stored}
use Rattle.stepping.proofs.FoundLaws.{is_some_false, is_some_true}
use Rattle.stepping.proofs.Judging.{judge_bound, judge_fine, judge_taken, judge_type, judge_unknown}
use Rattle.stepping.specs.Places.{Near}
use Rattle.principals.proofs.IndexLaws.{conds_length}
use Rattle.principals.specs.Attributes.{Attributes}
use Rattle.principals.specs.CondRoles.{CondRoles}
use Rattle.workspace.specs.Found.{found_as}
use Rattle.principals.specs.Nodes.{Nodes}
use Rattle.text.specs.CodeEnds.{offending_of, offending_value}
use Rattle.text.specs.Reader.{Left, from}
use Rattle.text.specs.Words.{word_of, written_of}
use Rattle.attributes.proofs.cond_faults.cond_role_fault.Goals.{After-first_mistyped, After-first_unusable, Else-count-gt-COMPARISONS, Else-is_some}
use Rattle.attributes.proofs.cond_faults.cond_role_fault.Goals as goal

pub returns-in_default : goal.returns-in_default
returns-in_default c = let entry = c.args in record {
  judges = λ x l k. not_both (x, l) k (condition_none entry.line.now entry.t (sym c.read_places.ensures.reads ∙ c.in_default.is));
  refuses = λ z. refl;
}

pub returns-then-k-ge-COND_ROLES : goal.returns-then-k-ge-COND_ROLES
returns-then-k-ge-COND_ROLES c = let entry = c.args in record {
  judges = λ x l k. record {
    is = λ d h. judge_bound d entry.line.now (cond_form_lem entry.line.now entry.c entry.r x) (cond_many d entry.line.now entry.c entry.r x (omega (arith, c.if-k-ge-COND_ROLES.true, conds_length h.2)));
    roomy = tt;
    reaches = λ p. tt;
  };
  refuses = read_there entry.line.now entry.t _ _ c.read_places.result c.read_places.ensures.reads c.in-Some.is;
}

pub returns-then-count-gt-COMPARISONS : goal.returns-then-count-gt-COMPARISONS
returns-then-count-gt-COMPARISONS c = let entry = c.args in record {
  judges = λ x l k. record {
    is = λ d h. judge_bound d entry.line.now (cond_form_lem entry.line.now entry.c entry.r x) (cond_wide d entry.line.now entry.c
        entry.r x
        (stored_over entry.line.now entry.t c.read_places.result _ c.read_places.ensures _ _ c.in-Some.is c.if-count-gt-COMPARISONS.true x l k));
    roomy = tt;
    reaches = λ p. tt;
  };
  refuses = read_there entry.line.now entry.t _ _ c.read_places.result c.read_places.ensures.reads c.in-Some.is;
}

-- no bound is exceeded
room : (c : Else-count-gt-COMPARISONS) (d : Doc) (x : Cond Compared) (l : Left) → condition_in_form
    (from c.args.line.now c.args.t) ≡ some
    (x, l) → CondRoles d.policy c.args.text.now
    c.args.conds.now
    c.args.k d.policy.cond_roles → over_bound d
    (cond_form_lem c.args.line.now c.args.c c.args.r x) ≡ false
room c d x l k h = let entry = c.args in cond_room d entry.line.now
    entry.c entry.r x (omega (arith, c.if-k-ge-COND_ROLES.false, conds_length h))
    (stored_count entry.line.now entry.t c.read_places.result _ c.read_places.ensures _ _ c.in-Some.is c.if-count-gt-COMPARISONS.false x l k)

-- where a condition was read, the line is not refused for its form
given : (c : Else-count-gt-COMPARISONS) {A : Type 0} → condition_in_form (from c.args.line.now c.args.t) ≡ none → A
given c {A} z = let entry = c.args in read_there entry.line.now
    entry.t _ _ c.read_places.result
    c.read_places.ensures.reads c.in-Some.is z

pub returns-then-is_some : goal.returns-then-is_some
unfolding cond_role_of
returns-then-is_some c = let entry = c.args in record {
  judges = λ x l k. record {
    is = λ d h. judge_taken d entry.line.now (cond_form_lem entry.line.now entry.c entry.r x) (room (goal.at.returns-then-is_some c).Else-count-gt-COMPARISONS d x l k h.2) (word_of entry.line.now entry.c)
        (cond_taken d entry.line.now entry.c entry.r x (found_as c.find_cond_role.result) _ (c.find_cond_role.ensures.0 d.policy d.policy.cond_roles h.2) (ap found_as (is_some_true c.is_some.ensures c.if-is_some.true).1));
    roomy = tt;
    reaches = λ p. p.0;
  };
  refuses = λ z. given (goal.at.returns-then-is_some c).Else-count-gt-COMPARISONS z;
}

-- the name is new
fresh : (c : Else-is_some) (d : Doc) (x : Cond Compared) → CondRoles d.policy
    c.args.text.now
    c.args.conds.now
    c.args.k d.policy.cond_roles → taken
    d.policy (cond_form_lem c.args.line.now
    c.args.c
    c.args.r x) ≡ none
unfolding cond_role_of
fresh c d x h = let entry = c.args in cond_new d
    entry.line.now entry.c entry.r x
    (sym (ap found_as (is_some_false c.is_some.ensures c.if-is_some.false)) ∙ c.find_cond_role.ensures.0 d.policy d.policy.cond_roles h)

pub returns-in_default-find_role : goal.returns-in_default-find_role
unfolding role_of
returns-in_default-find_role c = let entry = c.args in record {
  judges = λ x l k. record {
    is = λ d h. judge_unknown d entry.line.now (cond_form_lem entry.line.now entry.c entry.r x) (room (goal.at.returns-in_default-find_role c).Else-count-gt-COMPARISONS d x l k h.2) (fresh (goal.at.returns-in_default-find_role c).Else-is_some d x h.2) (word_of entry.line.now entry.r)
        (role_unknown d entry.line.now entry.c entry.r x (sym (ap found_as c.in_default-find_role.is) ∙ c.find_role.ensures.0 d.policy.roles h.0));
    roomy = tt;
    reaches = λ p. p.1;
  };
  refuses = λ z. given (goal.at.returns-in_default-find_role c).Else-count-gt-COMPARISONS z;
}

pub first_unusable-requires : goal.first_unusable-requires
first_unusable-requires c = let entry = c.args in (
  c.if-count-gt-COMPARISONS.false,
  stored_many entry.line.now entry.t
      c.read_places.result _
      c.read_places.ensures _ _
      c.in-Some.is
      c.if-count-gt-COMPARISONS.false,
)

-- what is unknown is the attribute that was found
unknowns : (c : After-first_unusable) (d : Doc) (x : Cond Compared) (l : Left) → condition_in_form (from
    c.args.line.now
    c.args.t) ≡ some
    (x, l) → Nodes 64
    c.args.text.now
    c.args.roles.now
    c.args.m
    d.policy.roles → Attributes
    c.args.text.now
    c.args.attributes.now
    c.args.n
    d.policy.attributes
    → unknown d.policy (cond_form_lem
    c.args.line.now
    c.args.c
    c.args.r x) ≡ offending_of
    c.args.line.now
    c.first_unusable.result
unfolding role_of
unknowns c d x l k g h =
    unknown_stored d
    c.args.line.now
    c.args.c
    c.args.r x l
    c.args.t k
    c.read_places.result _
    c.read_places.ensures _ _
    c.in-Some.is
    c.if-count-gt-COMPARISONS.false c.in-Some-find_role.role
    (sym (ap found_as c.in-Some-find_role.is) ∙ c.find_role.ensures.0 d.policy.roles g)
    ∙ sym (c.first_unusable.ensures.0 d.policy g h)

pub returns-in-Some-first_unusable : goal.returns-in-Some-first_unusable
returns-in-Some-first_unusable c = let entry = c.args in record {
  judges = λ x l k. record {
    is = λ d h. judge_unknown d entry.line.now (cond_form_lem entry.line.now entry.c entry.r x)
        (room (goal.at.returns-in-Some-first_unusable c).Else-count-gt-COMPARISONS d x l k h.2)
        (fresh (goal.at.returns-in-Some-first_unusable c).Else-is_some d x h.2)
        (word_of entry.line.now c.in-Some-first_unusable.p)
        (unknowns (goal.at.returns-in-Some-first_unusable c).After-first_unusable d x l k h.0 h.1 ∙ ap (offending_of entry.line.now) c.in-Some-first_unusable.is);
    roomy = tt;
    reaches = λ p. subst (Near entry.line.now) c.in-Some-first_unusable.is
        (c.first_unusable.ensures.1 (stored_near entry.line.now entry.t
        c.read_places.result _
        c.read_places.ensures _ _
        c.in-Some.is
        c.if-count-gt-COMPARISONS.false));
  };
  refuses = λ z. given (goal.at.returns-in-Some-first_unusable c).Else-count-gt-COMPARISONS z;
}

pub first_mistyped-requires : goal.first_mistyped-requires
first_mistyped-requires c = let entry = c.args in (
  c.if-count-gt-COMPARISONS.false,
  stored_many entry.line.now
      entry.t
      c.read_places.result _
      c.read_places.ensures _ _
      c.in-Some.is
      c.if-count-gt-COMPARISONS.false,
)

-- what is of the wrong type is what was found
types : (c : After-first_mistyped) (d : Doc) (x : Cond Compared) (l : Left) → condition_in_form (from
    c.args.line.now
    c.args.t) ≡ some
    (x, l) → Attributes
    c.args.text.now
    c.args.attributes.now
    c.args.n
    d.policy.attributes
    → wrong_type d.policy (cond_form_lem
    c.args.line.now
    c.args.c
    c.args.r x) ≡ offending_value
    c.args.line.now
    c.first_mistyped.result
types c d x l k h =
    types_stored d
    c.args.line.now
    c.args.c
    c.args.r x l
    c.args.t k
    c.read_places.result _
    c.read_places.ensures _ _
    c.in-Some.is
    c.if-count-gt-COMPARISONS.false
    ∙ sym (c.first_mistyped.ensures.0 d.policy h)

pub returns-in-Some-first_mistyped : goal.returns-in-Some-first_mistyped
returns-in-Some-first_mistyped c = let entry = c.args in record {
  judges = λ x l k. record {
    is = λ d h. judge_type d entry.line.now (cond_form_lem entry.line.now entry.c entry.r x)
        (room (goal.at.returns-in-Some-first_mistyped c).Else-count-gt-COMPARISONS d x l k h.2)
        (fresh (goal.at.returns-in-Some-first_mistyped c).Else-is_some d x h.2)
        (unknowns (goal.at.returns-in-Some-first_mistyped c).After-first_unusable d x l k h.0 h.1 ∙ ap (offending_of entry.line.now) c.in_default-first_unusable.is)
        (cond_root d entry.line.now entry.c entry.r x) (cond_values d entry.line.now entry.c entry.r x)
        (written_of entry.line.now c.in-Some-first_mistyped.p)
        (types (goal.at.returns-in-Some-first_mistyped c).After-first_mistyped d x l k h.1 ∙ ap (offending_value entry.line.now) c.in-Some-first_mistyped.is);
    roomy = tt;
    reaches = λ p. subst (Near entry.line.now) c.in-Some-first_mistyped.is
        (c.first_mistyped.ensures.1 (stored_near entry.line.now entry.t
        c.read_places.result _
        c.read_places.ensures _ _
        c.in-Some.is
        c.if-count-gt-COMPARISONS.false));
  };
  refuses = λ z. given (goal.at.returns-in-Some-first_mistyped c).Else-count-gt-COMPARISONS z;
}

pub returns : goal.returns
returns c = let entry = c.args in record {
  judges = λ x l k. record {
    is = λ d h. judge_fine d entry.line.now (cond_form_lem entry.line.now entry.c entry.r x)
        (room (goal.at.returns c).Else-count-gt-COMPARISONS d x l k h.2)
        (fresh (goal.at.returns c).Else-is_some d x h.2)
        (unknowns (goal.at.returns c).After-first_unusable d x l k h.0 h.1 ∙ ap (offending_of entry.line.now) c.in_default-first_unusable.is)
        (cond_root d entry.line.now entry.c entry.r x) (cond_values d entry.line.now entry.c entry.r x)
        (types (goal.at.returns c).After-first_mistyped d x l k h.1 ∙ ap (offending_value entry.line.now) c.in_default-first_mistyped.is)
        (cond_order d entry.line.now entry.c entry.r x) (cond_dated d entry.line.now entry.c entry.r x)
        (cond_late d entry.line.now entry.c entry.r x) (cond_placed d entry.line.now entry.c entry.r x);
    roomy = c.if-k-ge-COND_ROLES.false;
    reaches = λ p. tt;
  };
  refuses = λ z. given (goal.at.returns c).Else-count-gt-COMPARISONS z;
}

-- `checker::steps::step_form` meets its contract: the line is read, and each form is answered by its own function. Assumes nothing.
use Prim.Native.Nat.{ℕ}
use mathlib.Core.List.{List}
use mathlib.Core.Path.{◌∙◌, ◌≡◌, ap, subst, sym}
use Rattle.stepping.proofs.Judgements.{follows_as, follows_fails, line_form, line_none}
use Rattle.form.specs.FormReader.{form_of}
use Rattle.form.specs.Places.{FoundWithin, Reads, Within, line_at, line_found}
use Rattle.form.specs.declared.lines.Line.{Line}
use Rattle.std.specs.Prelude.{Option, Some}
use Rattle.checker.proofs.steps.step_form.Goals as goal

-- what was read of the line, by the variant that it is
line_read : {s : List ℕ} {r : Option Line} {l m : Line} → Reads s r → r ≡ Some l → l ≡ m → (form_of s ≡ line_at s m) × Within s m
unfolding line_found FoundWithin
line_read {s} R e q = (R.is ∙ ap (line_found s) (e ∙ ap Some q), subst (FoundWithin s) (e ∙ ap Some q) R.within)

pub returns-in_default : goal.returns-in_default
unfolding line_found
returns-in_default c = let line = c.args.line.now in
    λ d a I U. follows_fails (record { is = line_none d line (c.read_line.ensures.is ∙ ap (line_found line) c.in_default.is); reaches = tt })

pub returns-in-Purpose : goal.returns-in-Purpose
unfolding line_at Within
returns-in-Purpose c = let t = line_read c.read_line.ensures c.in-Some.is c.in-Purpose.is in
    λ d a I U. follows_as (sym (line_form d c.args.line.now _ t.0)) (c.step_purpose_root.ensures d _ _ _ _ _ _ _ _ _ a t.1 I)

pub returns-in-PurposeBelow : goal.returns-in-PurposeBelow
unfolding line_at Within
returns-in-PurposeBelow c = let t = line_read c.read_line.ensures c.in-Some.is c.in-PurposeBelow.is in
    λ d a I U. follows_as (sym (line_form d c.args.line.now _ t.0)) (c.step_purpose_below.ensures d _ _ _ _ _ _ _ _ _ a t.1 I)

pub returns-in-Role : goal.returns-in-Role
unfolding line_at Within
returns-in-Role c = let t = line_read c.read_line.ensures c.in-Some.is c.in-Role.is in
    λ d a I U. follows_as (sym (line_form d c.args.line.now _ t.0)) (c.step_role_root.ensures d _ _ _ _ _ _ _ _ _ a t.1 I)

pub returns-in-RoleBelow : goal.returns-in-RoleBelow
unfolding line_at Within
returns-in-RoleBelow c = let t = line_read c.read_line.ensures c.in-Some.is c.in-RoleBelow.is in
    λ d a I U. follows_as (sym (line_form d c.args.line.now _ t.0)) (c.step_role_below.ensures d _ _ _ _ _ _ _ _ _ a t.1 I)

pub returns-in-Attr : goal.returns-in-Attr
unfolding line_at Within
returns-in-Attr c = let t = line_read c.read_line.ensures c.in-Some.is c.in-Attr.is in
    λ d a I U. follows_as (sym (line_form d c.args.line.now _ t.0)) (c.step_attr.ensures d _ _ _ _ _ _ _ _ a t.1 I)

pub returns-in-User : goal.returns-in-User
unfolding line_at Within
returns-in-User c = let t = line_read c.read_line.ensures c.in-Some.is c.in-User.is in
    λ d a I U. follows_as (sym (line_form d c.args.line.now _ t.0)) (c.step_user.ensures d _ _ _ _ _ _ _ a t.1 I U)

pub returns-in-CondRole : goal.returns-in-CondRole
unfolding line_at Within
returns-in-CondRole c = let t = line_read c.read_line.ensures c.in-Some.is c.in-CondRole.is in
    λ d a I U. c.step_cond.ensures d _ _ _ _ _ _ _ t.0 a t.1 I

pub returns-in-Grant : goal.returns-in-Grant
unfolding line_at Within
returns-in-Grant c = let t = line_read c.read_line.ensures c.in-Some.is c.in-Grant.is in
    λ d a I U. follows_as (sym (line_form d c.args.line.now _ t.0)) (c.step_grant.ensures d _ _ _ _ _ _ _ a t.1 I)

pub returns-in-Label : goal.returns-in-Label
unfolding line_at Within
returns-in-Label c = let t = line_read c.read_line.ensures c.in-Some.is c.in-Label.is in
    λ d a I U. follows_as (sym (line_form d c.args.line.now _ t.0)) (c.step_label.ensures d _ _ _ _ _ _ _ a t.1.0 t.1.3 I)

pub returns-in-Table : goal.returns-in-Table
unfolding line_at Within
returns-in-Table c = let t = line_read c.read_line.ensures c.in-Some.is c.in-Table.is in
    λ d a I U. follows_as (sym (line_form d c.args.line.now _ t.0)) (c.step_table.ensures d _ _ _ _ _ _ _ _ a t.1 I)

pub returns-in-Row : goal.returns-in-Row
unfolding line_at Within
returns-in-Row c = let t = line_read c.read_line.ensures c.in-Some.is c.in-Row.is in
    λ d a I U. follows_as (sym (line_form d c.args.line.now _ t.0)) (c.step_row.ensures d _ _ _ _ _ _ _ a t.1 I)

pub returns-in-Public : goal.returns-in-Public
unfolding line_at Within
returns-in-Public c = let t = line_read c.read_line.ensures c.in-Some.is c.in-Public.is in
    λ d a I U. follows_as (sym (line_form d c.args.line.now _ t.0)) (c.step_public.ensures d _ _ _ _ _ _ _ _ _ t.1 I)

pub returns-in-Weak : goal.returns-in-Weak
unfolding line_at Within
returns-in-Weak c = let t = line_read c.read_line.ensures c.in-Some.is c.in-Weak.is in
    λ d a I U. follows_as (sym (line_form d c.args.line.now _ t.0)) (c.step_label_note.ensures d _ _ _ _ _ _ _ t.1 I)

pub returns-in-Strong : goal.returns-in-Strong
unfolding line_at Within
returns-in-Strong c = let t = line_read c.read_line.ensures c.in-Some.is c.in-Strong.is in
    λ d a I U. follows_as (sym (line_form d c.args.line.now _ t.0)) (c.step_label_note-in-Strong.ensures d _ _ _ _ _ _ _ t.1 I)

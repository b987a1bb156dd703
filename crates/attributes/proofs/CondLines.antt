-- A line of a conditional role: its form is told by the condition that is read in it. Assumes nothing.
use Prim.Native.Nat.{ℕ}
use mathlib.Core.Bool.{true}
use mathlib.Core.List.{List}
use mathlib.Core.Option.{Option, map, none, some}
use mathlib.Core.Path.{◌∙◌, ◌≡◌, ap, refl, subst, sym}
use native.Mathlib.Omega.{arith}
use Rattle.stepping.proofs.Judgements.{judges_as, line_form, line_none, refuses}
use Rattle.stepping.specs.Follows.{Refuses}
use Rattle.condition.specs.Cond.{Cond}
use Rattle.condition.specs.CondForm.{Compared, condition_in_form}
use Rattle.document.specs.Check.{check_form, check_line}
use Rattle.document.specs.Policy.{Doc}
use Rattle.attributes.specs.CondLine.{JudgesCond}
use Rattle.stepping.specs.Judged.{Judges}
use Rattle.form.specs.Form.{Form, cond_role}
use Rattle.form.specs.FormReader.{form_of}
use Rattle.principals.specs.CondRoles.{condition_read}
use Rattle.lists.specs.Lists.{there}
use Rattle.text.specs.Reader.{Left, from}
use Rattle.text.specs.Words.{word_of}
use Rattle.stepping.specs.declared.fault.Fault.{Fault}
use Rattle.stepping.specs.declared.fault.Fault.TheVariants.{Whole}
use Rattle.std.specs.Prelude.{Err, Ok, Result}
use Rattle.text.specs.declared.refusals.Reason.TheVariants.{WrongForm}

-- the form that is told by the condition at t
abbrev pub cond_form : List ℕ → ℕ → ℕ → ℕ → Form
cond_form line n r t = cond_role (word_of line n) (word_of line r) (condition_read (condition_in_form (from line t)))

module _ {Held : Doc → Type 0} {Inside : Type 0} {line : List ℕ} {n r t k : ℕ} {f : Result (Unit {0}) Fault} (j : JudgesCond Held Inside line n r t k f) where
  wrong_form : f ≡ Ok tt → f ≡ Err (Whole WrongForm) → ⊥
  wrong_form h e =
      let q : (Ok tt) ≡ Err (Whole WrongForm) = sym h ∙ e in
      let z : ◌≡◌ {A = ℕ} 0 1 = cc in
      absurd (omega arith)

  told : (x : Cond Compared × Left) → condition_in_form (from line t) ≡ some x → Judges Held Inside line (cond_form line n r t) k 64 f
  unfolding condition_read
  told x e = judges_as (ap (λ (o : Option (Cond Compared × Left)). cond_role (word_of line n) (word_of line r) (condition_read o)) (sym e)) (j.judges x.0 x.1 e)

  -- nothing is wrong: a condition was read
  pub cond_read : f ≡ Ok tt → there (condition_in_form (from line t)) ≡ true
  cond_read h = go (condition_in_form (from line t)) refl
    where
      go : (o : Option (Cond Compared × Left)) → condition_in_form (from line t) ≡ o → there (condition_in_form (from line t)) ≡ true
      go none e = absurd (wrong_form h (j.refuses e))
      go (some x) e = unfold there in ap there e

  pub cond_judges : f ≡ Ok tt → Judges Held Inside line (cond_form line n r t) k 64 f
  cond_judges h = go (condition_in_form (from line t)) refl
    where
      go : (o : Option (Cond Compared × Left)) → condition_in_form (from line t) ≡ o → Judges Held Inside line (cond_form line n r t) k 64 f
      go none e = absurd (wrong_form h (j.refuses e))
      go (some x) e = told x e

  module _ (is : form_of line ≡ map (λ x. cond_role (word_of line n) (word_of line r) x.0) (condition_in_form (from line t))) where
    -- the line is that form
    cond_is : (x : Cond Compared × Left) → condition_in_form (from line t) ≡ some x → form_of line ≡ some (cond_form line n r t)
    unfolding condition_read
    cond_is x e =
        is ∙ ap (map (λ x. cond_role (word_of line n) (word_of line r) x.0)) e
        ∙ ap (λ (o : Option (Cond Compared × Left)). some (cond_role (word_of line n) (word_of line r) (condition_read o))) (sym e)

    pub cond_line : f ≡ Ok tt → (d : Doc) → check_form d line (cond_form line n r t) ≡ check_line d line
    cond_line h d = go (condition_in_form (from line t)) refl
      where
        go : (o : Option (Cond Compared × Left)) → condition_in_form (from line t) ≡ o → check_form d line (cond_form line n r t) ≡ check_line d line
        go none e = absurd (wrong_form h (j.refuses e))
        go (some x) e = sym (line_form d line (cond_form line n r t) (cond_is x e))

    -- something is wrong, perhaps the condition
    pub cond_refuses : {w : Fault} → f ≡ Err w → (d : Doc) → Held d → Inside → Refuses line (check_line d line) w
    cond_refuses {w} h d held p = go (condition_in_form (from line t)) refl
      where
        none_read : Refuses line (check_line d line) (Whole WrongForm) → f ≡ Err (Whole WrongForm) → Refuses line (check_line d line) w
        none_read x e =
            let q : Err w ≡ Err (Whole WrongForm) = sym h ∙ e in
            let s : w ≡ Whole WrongForm = cc in
            subst (Refuses line (check_line d line)) (sym s) x

        go : (o : Option (Cond Compared × Left)) → condition_in_form (from line t) ≡ o → Refuses line (check_line d line) w
        go none e =
            none_read (record {
              is = line_none d line (is ∙ ap (map (λ x. cond_role (word_of line n) (word_of line r) x.0)) e);
              reaches = tt;
            }) (j.refuses e)
        go (some x) e = subst (λ o. Refuses line o w) (sym (line_form d line (cond_form line n r t) (cond_is x e))) (refuses (told x e) h d held p)

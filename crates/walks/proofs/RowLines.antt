-- A line that begins with `(row T` and whose items run up to the bracket that ends it is a row form. Assumes nothing.
use Prim.Native.Nat.{◌+◌, ℕ}
use Rattle.document.specs.Meaning.{add}
use Rattle.document.specs.Policy.{Doc}
use Rattle.form.proofs.FormForward.{forward_item}
use Rattle.form.proofs.KeywordLaws.{keyword_at}
use Rattle.form.proofs.LineLaws.{line_read}
use Rattle.form.proofs.PartLaws.{items_to}
use Rattle.form.specs.Form.{Form}
use Rattle.form.specs.FormReader.{form_of, item, line_forms, row_form}
use Rattle.lists.proofs.Tests.{and_left, and_right}
use Rattle.relations.specs.Rows.{Rows}
use Rattle.stepping.specs.Stored.{Passes}
use Rattle.text.proofs.CodeLaws.{word_at_lem, word_to}
use Rattle.text.proofs.EndLaws.{list_stop}
use Rattle.text.proofs.NameLaws.{same_other, same_name_length}
use Rattle.text.proofs.Spaces.{next_here}
use Rattle.text.specs.Brackets.{among, keyword, many}
use Rattle.text.specs.Bytes.{ascii}
use Rattle.text.specs.CodeEnds.{word_end}
use Rattle.text.specs.Names.{Name, is_name, lower, same_byte, same_name}
use Rattle.text.specs.Reader.{from}
use Rattle.text.specs.Walking.{word_end_at}
use Rattle.text.specs.Words.{is_called, name, word_at}
use Rattle.std.specs.Prelude.{None, Option, Some}
use Rattle.walks.specs.Taken.{ItemsClose, TakesItems, TakesRow, closes_at, row_at, table_end}
use borrow.Author.Tests.{eqb-true}
use lib.Dec.{eqb}
use lib.ListN.{get_or, length}
use mathlib.Core.Bool.{Bool, ◌&&◌, cond, false, true}
use mathlib.Core.List.{List}
use mathlib.Core.Option.{map, some}
use mathlib.Core.Path.{◌∙◌, ◌≡◌, ap, refl, subst, sym}
use native.Mathlib.Omega.{arith}

-- ---- the bracket that ends the line

module _ (line : List ℕ) (e : ℕ) (h : closes_at line e ≡ true) where
  pub closes_here : get_or line e 0 ≡ 41
  unfolding closes_at
  closes_here = eqb-true _ _ (and_left (eqb (get_or line e 0) 41) (eqb (e + 1) (length line)) h)

  pub closes_last : e + 1 ≡ length line
  unfolding closes_at
  closes_last = eqb-true _ _ (and_right (eqb (get_or line e 0) 41) (eqb (e + 1) (length line)) h)

  -- no item stands there
  pub no_space : get_or line e 0 ≡ 32 → ⊥
  no_space z = omega (arith, closes_here, z)

  pub no_items : word_end (many item (from line e)) ≡ Some e
  no_items = sym (list_stop item forward_item line e refl no_space refl)

-- ---- the keyword

row_keyword : (line : List ℕ) → same_name (word_at line 1) (ascii "row") ≡ true → keyword line_forms (from line 1) ≡ row_form (from line 4)
unfolding line_forms among is_called same_name same_byte lower
row_keyword line h =
    rw (keyword_at line_forms line 1 4 (ap (λ n. 1 + n) (sym (same_name_length (word_at line 1) (ascii "row") h))), other (ascii "purpose") refl, other (ascii "role") refl, other (ascii "attr") refl, other (ascii "user") refl, other (ascii "cond-role") refl, other (ascii "grant") refl, other (ascii "label") refl, other (ascii "table") refl, other (ascii "public") refl, other (ascii "weak") refl, other (ascii "strong") refl, h)
  where
    other : (n : Name) → same_name (ascii "row") n ≡ false → same_name (word_at line 1) n ≡ false
    other n k = same_other (word_at line 1) (ascii "row") n h k

-- ---- the line

-- an answer that there is says that the test holds
told : (t : Bool) (x : Option ℕ) (e : ℕ) → cond t x None ≡ Some e → (t ≡ true) × (x ≡ Some e)
told true x e h = (refl, h)
told false x e h = let z : ◌≡◌ {A = ℕ} 0 1 = cc in absurd (omega arith)

module _ (line : List ℕ) (is : ℕ) (h : table_end line ≡ Some is) where
  tests : ((eqb (get_or line 0 0) 40 && same_name (word_at line 1) (ascii "row") && eqb (get_or line 4 0) 32) ≡ true) × (word_end (name (from line 5)) ≡ Some is)
  unfolding table_end
  tests = told (eqb (get_or line 0 0) 40 && same_name (word_at line 1) (ascii "row") && eqb (get_or line 4 0) 32) (word_end (name (from line 5))) is h

  begins : (eqb (get_or line 0 0) 40 && same_name (word_at line 1) (ascii "row")) ≡ true
  begins = and_left (eqb (get_or line 0 0) 40 && same_name (word_at line 1) (ascii "row")) (eqb (get_or line 4 0) 32) tests.0

  opens : get_or line 0 0 ≡ 40
  opens = eqb-true _ _ (and_left (eqb (get_or line 0 0) 40) (same_name (word_at line 1) (ascii "row")) begins)

  space : get_or line 4 0 ≡ 32
  space = eqb-true _ _ (and_right (eqb (get_or line 0 0) 40 && same_name (word_at line 1) (ascii "row")) (eqb (get_or line 4 0) 32) tests.0)

  -- the table's name and the items, up to their end
  body : (e : ℕ) → word_end (many item (from line is)) ≡ Some e → keyword line_forms (from line 1) ≡ map (λ (f : Form). (f, from line e)) (some (row_at line is))
  unfolding row_form
  body e k =
      row_keyword line (and_right (eqb (get_or line 0 0) 40) (same_name (word_at line 1) (ascii "row")) begins)
      ∙ (rw (next_here name line 4 space, word_to line 5 is_name is tests.1, items_to line is e refl k))

  pub row_form_lem : ItemsClose line is → form_of line ≡ some (row_at line is)
  row_form_lem c = line_read line opens c.end (some (row_at line is)) (body c.end c.read) (closes_here line c.end c.closed) (closes_last line c.end c.closed)

  -- where the table's name ends
  pub name_ends : is ≡ word_end_at line 5
  unfolding word_end_at
  name_ends = (word_at_lem line 5 is_name is tests.1).1

  -- a row that is taken by its items is taken as a line
  pub line_taken : (text after : List ℕ) (k : ℕ) (d : Doc) (r : Bool) → TakesItems text line after k is d r → TakesRow text line after k d r
  line_taken text after k d true t = record {
    form = row_form_lem t.items ∙ ap (λ n. some (row_at line n)) name_ends;
    passes = subst (λ n. Passes d line (row_at line n)) name_ends t.passes;
    rows = subst (λ n. Rows text after (k + 1) (add d (row_at line n)).rows) name_ends t.rows;
  }
  line_taken text after k d false t = t

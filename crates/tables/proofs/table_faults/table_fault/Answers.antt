-- `tables::table_faults::table_fault` meets its contract: each return is the first fault of the check. Assumes nothing.
use lib.ListN.{length}
use mathlib.Core.Bool.{false}
use mathlib.Core.Option.{none}
use mathlib.Core.Path.{◌∙◌, ◌≡◌, ap, subst, sym}
use native.Mathlib.Omega.{arith}
use Rattle.document.specs.Bounds.{over_bound}
use Rattle.document.specs.Lookup.{table_of}
use Rattle.document.specs.NameFaults.{taken}
use Rattle.document.specs.Policy.{Doc}
use Rattle.stepping.proofs.FoundLaws.{is_some_false, is_some_true}
use Rattle.stepping.proofs.Judging.{judge_bound, judge_fine, judge_taken, judge_unknown}
use Rattle.tables.proofs.TableLineLaws.{column_names, columns_words, fine_apart, table_again, table_late, table_placed, table_order, table_dated, table_many, table_room, table_root, table_taken, table_type, table_unknown, table_values, table_wide}
use Rattle.stepping.specs.Places.{Near}
use Rattle.tables.specs.TableLine.{columns_by}
use Rattle.relations.proofs.TableLaws.{tables_counted}
use Rattle.workspace.specs.Found.{found_as}
use Rattle.relations.specs.Tables.{Tables}
use Rattle.form.specs.TableWords.{column_words, table_line}
use Rattle.text.specs.CodeEnds.{offending_of}
use Rattle.text.specs.Offending.{repeated}
use Rattle.text.specs.Words.{word_of}
use Rattle.tables.proofs.table_faults.table_fault.Goals.{After-count_columns, After-first_repeat, Else-count_columns-gt-COLUMNS, In_default}
use Rattle.tables.proofs.table_faults.table_fault.Goals as goal

pub returns-then-k-ge-TABLES : goal.returns-then-k-ge-TABLES
returns-then-k-ge-TABLES c = let entry = c.args in record {
  judges = record {
    is = λ d h. judge_bound d entry.line.now (table_line entry.line.now entry.t entry.scheme entry.l entry.cs) (table_many d entry.line.now entry.t entry.scheme entry.l entry.cs (omega (arith, c.if-k-ge-TABLES.true, tables_counted _ _ _ _ h.1)));
    roomy = tt;
    reaches = λ p. tt;
  };
  narrow = fine_apart _;
}

-- the columns that were counted
counted : (c : After-count_columns) → c.count_columns.result ≡ length (column_words c.args.line.now c.args.scheme c.args.cs)
counted c =
    c.count_columns.ensures ∙ ap (λ b. length (columns_by b c.args.line.now c.args.cs)) c.labels_columns-triple.ensures
    ∙ ap length (sym (columns_words c.args.line.now c.args.scheme c.args.cs))

pub returns-then-count_columns-gt-COLUMNS : goal.returns-then-count_columns-gt-COLUMNS
returns-then-count_columns-gt-COLUMNS c = let entry = c.args in record {
  judges = record {
    is = λ d h. judge_bound d entry.line.now (table_line entry.line.now entry.t entry.scheme entry.l entry.cs) (table_wide d entry.line.now entry.t entry.scheme entry.l entry.cs (omega (arith, c.if-count_columns-gt-COLUMNS.true, counted (goal.at.returns-then-count_columns-gt-COLUMNS c).After-count_columns)));
    roomy = tt;
    reaches = λ p. tt;
  };
  narrow = fine_apart _;
}

-- no bound is exceeded
room : (c : Else-count_columns-gt-COLUMNS) (d : Doc) → Tables c.args.text.now
    c.args.tables.now c.args.k
    d.policy.tables → over_bound d (table_line c.args.line.now
    c.args.t c.args.scheme
    c.args.l c.args.cs) ≡ false
room c d h = let entry = c.args in table_room d entry.line.now entry.t entry.scheme entry.l entry.cs (omega (arith, c.if-k-ge-TABLES.false, tables_counted _ _ _ _ h)) (omega (arith, c.if-count_columns-gt-COLUMNS.false, c.count_columns.ensures ∙ ap (λ b. length (columns_by b c.args.line.now c.args.cs)) c.labels_columns-triple.ensures ∙ ap length (sym (columns_words c.args.line.now c.args.scheme c.args.cs))))

pub returns-then-is_some : goal.returns-then-is_some
unfolding table_of
returns-then-is_some c = let entry = c.args in record {
  judges = record {
    is = λ d h. judge_taken d entry.line.now (table_line entry.line.now entry.t entry.scheme entry.l entry.cs) (room (goal.at.returns-then-is_some c).Else-count_columns-gt-COLUMNS d h.1) (word_of entry.line.now entry.t)
        (table_taken d entry.line.now entry.t entry.scheme entry.l entry.cs (found_as c.find_table.result) _ (c.find_table.ensures.0 d.policy.tables h.1) (ap found_as (is_some_true c.is_some.ensures c.if-is_some.true).1));
    roomy = tt;
    reaches = λ p. p.0;
  };
  narrow = fine_apart _;
}

-- what is taken is the name of a column that stood before
repeats : (c : After-first_repeat) (d : Doc) → Tables
    c.args.text.now
    c.args.tables.now
    c.args.k d.policy.tables → taken d.policy (table_line
    c.args.line.now
    c.args.t
    c.args.scheme
    c.args.l
    c.args.cs) ≡ offending_of
    c.args.line.now c.first_repeat.result
unfolding table_of
repeats c d h =
    table_again d c.args.line.now
    c.args.t
    c.args.scheme
    c.args.l
    c.args.cs
    (sym (ap found_as (is_some_false c.is_some.ensures c.if-is_some.false)) ∙ c.find_table.ensures.0 d.policy.tables h)
    ∙ ap (λ cs. repeated (column_names cs)) (columns_words
    c.args.line.now
    c.args.scheme
    c.args.cs)
    ∙ ap
    (λ b. repeated (column_names (columns_by b c.args.line.now c.args.cs)))
    (sym c.labels_columns-triple.ensures)
    ∙ sym c.first_repeat.ensures.0

pub returns-in-Some : goal.returns-in-Some
returns-in-Some c = let entry = c.args in record {
  judges = record {
    is = λ d h. judge_taken d entry.line.now (table_line entry.line.now entry.t entry.scheme entry.l entry.cs) (room (goal.at.returns-in-Some c).Else-count_columns-gt-COLUMNS d h.1) (word_of entry.line.now c.in-Some.p)
        (repeats (goal.at.returns-in-Some c).After-first_repeat d h.1 ∙ ap (offending_of entry.line.now) c.in-Some.is);
    roomy = tt;
    reaches = λ p. subst (Near entry.line.now) c.in-Some.is c.first_repeat.ensures.1;
  };
  narrow = fine_apart _;
}

-- no name is taken
fresh : (c : In_default) (d : Doc) → Tables
    c.args.text.now
    c.args.tables.now
    c.args.k d.policy.tables → taken
    d.policy (table_line c.args.line.now
    c.args.t
    c.args.scheme
    c.args.l
    c.args.cs) ≡ none
unfolding table_of
fresh c d h =
    table_again d c.args.line.now
    c.args.t
    c.args.scheme
    c.args.l
    c.args.cs
    (sym (ap found_as (is_some_false c.is_some.ensures c.if-is_some.false)) ∙ c.find_table.ensures.0 d.policy.tables h)
    ∙ ap (λ cs. repeated (column_names cs)) (columns_words
    c.args.line.now
    c.args.scheme
    c.args.cs)
    ∙ ap
    (λ b. repeated (column_names (columns_by b c.args.line.now c.args.cs)))
    (sym c.labels_columns-triple.ensures)
    ∙ sym c.first_repeat.ensures.0 ∙ ap (offending_of c.args.line.now) c.in_default.is

pub returns-in-Some-unknown_label : goal.returns-in-Some-unknown_label
returns-in-Some-unknown_label c = let entry = c.args in record {
  judges = record {
    is = λ d h. judge_unknown d entry.line.now (table_line entry.line.now entry.t entry.scheme entry.l entry.cs)
        (room (goal.at.returns-in-Some-unknown_label c).Else-count_columns-gt-COLUMNS d h.1)
        (fresh (goal.at.returns-in-Some-unknown_label c).In_default d h.1) (word_of entry.line.now c.in-Some-unknown_label.p)
        (table_unknown d entry.line.now entry.t entry.scheme entry.l entry.cs ∙ sym (c.unknown_label.ensures.0 h.0.0 d.policy.labels h.0.1) ∙ ap (offending_of entry.line.now) c.in-Some-unknown_label.is);
    roomy = tt;
    reaches = λ p. subst (Near entry.line.now) c.in-Some-unknown_label.is (c.unknown_label.ensures.1 p.1);
  };
  narrow = fine_apart _;
}

pub returns : goal.returns
returns c = let entry = c.args in record {
  judges = record {
    is = λ d h. judge_fine d entry.line.now (table_line entry.line.now entry.t entry.scheme entry.l entry.cs) (room (goal.at.returns c).Else-count_columns-gt-COLUMNS d h.1) (fresh (goal.at.returns c).In_default d h.1)
        (table_unknown d entry.line.now entry.t entry.scheme entry.l entry.cs ∙ sym (c.unknown_label.ensures.0 h.0.0 d.policy.labels h.0.1) ∙ ap (offending_of entry.line.now) c.in_default-unknown_label.is)
        (table_root d entry.line.now entry.t entry.scheme entry.l entry.cs)
        (table_values d entry.line.now entry.t entry.scheme entry.l entry.cs)
        (table_type d entry.line.now entry.t entry.scheme entry.l entry.cs)
        (table_order d entry.line.now entry.t entry.scheme entry.l entry.cs)
        (table_dated d entry.line.now entry.t entry.scheme entry.l entry.cs)
        (table_late d entry.line.now entry.t entry.scheme entry.l entry.cs)
        (table_placed d entry.line.now entry.t entry.scheme entry.l entry.cs);
    roomy = c.if-k-ge-TABLES.false;
    reaches = λ p. tt;
  };
  narrow = λ e. omega (arith, c.if-count_columns-gt-COLUMNS.false, counted (goal.at.returns c).After-count_columns);
}

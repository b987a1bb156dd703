-- `rows::faults::row_fault` meets its contract: each answer is a law of RowJudging. In the answers, f is the place where the table and
-- the labels were looked up, w the one where the values were counted, m the search for one of the wrong type, and o the
-- search for a range that is not in order; the dates are judged last. Assumes nothing.
use mathlib.Core.Path.{◌∙◌, ap, sym}
use Rattle.document.specs.Lookup.{table_of}
use Rattle.form.specs.Walks.{items_at}
use Rattle.workspace.specs.Found.{found_as}
use Rattle.stepping.proofs.NearLaws.{place_near}
use Rattle.text.specs.Words.{word_of}
use Rattle.rows.proofs.RowJudging.{dated_reaches, dated_roomy, found_broken, found_dated, found_misfit, found_mistyped, found_unknown, row_no_table, row_over}
use Rattle.rows.proofs.faults.row_fault.Goals as goal

pub returns-then-k-ge-ROWS : goal.returns-then-k-ge-ROWS
returns-then-k-ge-ROWS c = let a = c.args in
    let s = a.line.now in
    record { is = λ d h. row_over d s (word_of s a.t) (items_at s a.is) a.k h.2 c.if-k-ge-ROWS.true; roomy = tt; reaches = λ p. tt }

pub returns-in_default : goal.returns-in_default
unfolding table_of
returns-in_default c = let a = c.args in
    let s = a.line.now in
    record {
      is = λ d h.
          row_no_table d s (word_of s a.t) (items_at s a.is) a.k h.2 c.if-k-ge-ROWS.false
          (sym (c.find_table.ensures.0 d.policy.tables h.1) ∙ ap found_as c.in_default.is);
      roomy = tt;
      reaches = λ p. p.0;
    }

pub returns-in-Some-unknown_label : goal.returns-in-Some-unknown_label
unfolding table_of
returns-in-Some-unknown_label c = let a = c.args in
    let s = a.line.now in
    let q = c.find_table in
    record {
      is = λ d h.
          found_unknown a.text.now a.tables.now s a.tables_count a.k a.t (items_at s a.is) d h.1 h.2 c.if-k-ge-ROWS.false
          q.result (q.ensures.0 d.policy.tables h.1) q.ensures.1 c.in-Some.x c.in-Some.is
          c.table_scheme-scheme.result c.table_scheme-scheme.ensures
          c.unknown_label.result (λ l ls. c.unknown_label.ensures.0 h.0.0 d.policy l ls h.0.1)
          c.in-Some-unknown_label.p c.in-Some-unknown_label.is;
      roomy = tt;
      reaches = λ p. place_near s c.unknown_label.result c.unknown_label.ensures.1 c.in-Some-unknown_label.p c.in-Some-unknown_label.is;
    }

pub returns-then-not-row_fits : goal.returns-then-not-row_fits
unfolding table_of
returns-then-not-row_fits c = let a = c.args in
    let s = a.line.now in
    let q = c.find_table in
    record {
      is = λ d h.
          found_misfit a.text.now a.tables.now s a.tables_count a.k a.t (items_at s a.is) d h.1 h.2 c.if-k-ge-ROWS.false
          q.result (q.ensures.0 d.policy.tables h.1) q.ensures.1 c.in-Some.x c.in-Some.is
          c.table_scheme-scheme.result c.table_scheme-scheme.ensures
          c.unknown_label.result (λ l ls. c.unknown_label.ensures.0 h.0.0 d.policy l ls h.0.1)
          c.in_default-unknown_label.is c.table_width.result c.table_width.ensures c.row_fits.result c.row_fits.ensures
          c.if-not-row_fits.true;
      roomy = tt;
      reaches = λ p. tt;
    }

pub returns-in-Some-first_mistyped : goal.returns-in-Some-first_mistyped
unfolding table_of
returns-in-Some-first_mistyped c = let a = c.args in
    let s = a.line.now in
    let q = c.find_table in
    let m = c.first_mistyped in
    record {
      is = λ d h.
          found_mistyped
          a.text.now a.tables.now s a.tables_count a.k a.t (items_at s a.is) d h.1 h.2 c.if-k-ge-ROWS.false
          q.result (q.ensures.0 d.policy.tables h.1) q.ensures.1
          c.in-Some.x
          c.in-Some.is
          c.table_scheme-scheme.result c.table_scheme-scheme.ensures
          c.unknown_label.result (λ l ls. c.unknown_label.ensures.0 h.0.0 d.policy l ls h.0.1)
          c.in_default-unknown_label.is
          c.table_width.result
          c.table_width.ensures
          c.row_fits.result
          c.row_fits.ensures
          c.if-not-row_fits.false
          c.values_start-start.result c.values_start-start.ensures
          m.result (λ l. m.ensures.0 a.text.now a.tables_count d.policy h.1 l)
          c.in-Some-first_mistyped.p c.in-Some-first_mistyped.is;
      roomy = tt;
      reaches = λ p. place_near s m.result m.ensures.1 c.in-Some-first_mistyped.p c.in-Some-first_mistyped.is;
    }

pub returns-in-Some-first_broken : goal.returns-in-Some-first_broken
unfolding table_of
returns-in-Some-first_broken c = let a = c.args in
    let s = a.line.now in
    let q = c.find_table in
    let m = c.first_mistyped in
    let o = c.first_broken in
    record {
      is = λ d h.
          found_broken
          a.text.now a.tables.now s a.tables_count a.k a.t (items_at s a.is) d h.1 h.2 c.if-k-ge-ROWS.false
          q.result (q.ensures.0 d.policy.tables h.1) q.ensures.1
          c.in-Some.x
          c.in-Some.is
          c.table_scheme-scheme.result c.table_scheme-scheme.ensures
          c.unknown_label.result
          (λ l ls. c.unknown_label.ensures.0 h.0.0 d.policy l ls h.0.1)
          c.in_default-unknown_label.is
          c.table_width.result
          c.table_width.ensures
          c.row_fits.result
          c.row_fits.ensures
          c.if-not-row_fits.false
          c.values_start-start.result c.values_start-start.ensures
          m.result (λ l. m.ensures.0 a.text.now a.tables_count d.policy h.1 l)
          c.in_default-first_mistyped.is o.result o.ensures.0
          c.in-Some-first_broken.p c.in-Some-first_broken.is;
      roomy = tt;
      reaches = λ p. place_near s o.result o.ensures.1 c.in-Some-first_broken.p c.in-Some-first_broken.is;
    }

pub returns : goal.returns
unfolding table_of
returns c = let a = c.args in
    let s = a.line.now in
    let q = c.find_table in
    let m = c.first_mistyped in
    let o = c.first_broken in
    record {
      is = λ d h.
          found_dated
          a.text.now a.tables.now s a.tables_count a.k a.t (items_at s a.is) d h.1 h.2 c.if-k-ge-ROWS.false
          q.result (q.ensures.0 d.policy.tables h.1) q.ensures.1
          c.in-Some.x
          c.in-Some.is
          c.table_scheme-scheme.result c.table_scheme-scheme.ensures
          c.unknown_label.result
          (λ l ls. c.unknown_label.ensures.0 h.0.0 d.policy l ls h.0.1)
          c.in_default-unknown_label.is
          c.table_width.result
          c.table_width.ensures
          c.row_fits.result
          c.row_fits.ensures
          c.if-not-row_fits.false
          c.values_start-start.result c.values_start-start.ensures
          m.result (λ l. m.ensures.0 a.text.now a.tables_count d.policy h.1 l)
          c.in_default-first_mistyped.is o.result o.ensures.0
          c.in_default-first_broken.is c.date_fault.result c.date_fault.ensures;
      roomy = dated_roomy s c.values_start-start.result c.date_fault.result a.k 1024
          c.date_fault.ensures
          c.if-k-ge-ROWS.false;
      reaches = λ p. dated_reaches s c.values_start-start.result c.date_fault.result c.date_fault.ensures;
    }

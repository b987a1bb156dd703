-- Contract: what the code's answers stand for that explain a cell (02, Q-7), and what the arrays hold of the document then.
use Rattle.std.specs.Prelude.{suc, zero, ℕ, Bool, ◌&&◌, false, true, List}
use Rattle.std.proofs.Math.Option.{Option, none, some}
use Rattle.answer.specs.Why.{Reason, allows_none, denies, explain, opened, unlabelled_table}
use Rattle.document.specs.Invariants.{Denials}
use Rattle.document.specs.Lookup.{purpose_of}
use Rattle.document.specs.Policy.{Doc, Policy, tree_of}
use Rattle.form.specs.Form.{Scheme, by_cell, by_column, by_row, by_table, nested, unlabelled}
use Rattle.lists.specs.Lists.{holds_of}
use Rattle.principals.specs.Nodes.{Nodes}
use Rattle.purpose.specs.Compliance.{Grown, in_tree, related}
use Rattle.purpose.specs.Members.{limit}
use Rattle.query.specs.WhyForm.{why_of}
use Rattle.relations.specs.Labels.{Labels}
use Rattle.relations.specs.Notes.{Notes}
use Rattle.relations.specs.Rows.{Rows}
use Rattle.relations.specs.Tables.{Tables}
use Rattle.text.specs.Reasons.{refusal_of}
use Rattle.text.specs.Refusal.{Result, ◌>>=◌, accepted, need, pointing_all, query, refused}
use Rattle.text.specs.Words.{Word, word_at}
use Rattle.index.specs.declared.counts.Counts.{Counts}
use Rattle.reasons.specs.declared.explained.Cause.{Cause}
use Rattle.reasons.specs.declared.explained.Cause.TheVariants as cause
use Rattle.std.specs.Prelude.{Err, Ok}
use Rattle.text.specs.declared.refusals.Refusal.{Refusal}
use Rattle.std.specs.Prelude as prelude

-- the reason that the code's answer stands for: the name of a denied purpose stands at a position of the document
unfoldable pub reason_of : List ℕ → Cause → Reason
reason_of text cause.Opened = opened
reason_of text (cause.Denied at) = denies (word_at text at)
reason_of text cause.NoneAllowed = allows_none
reason_of text cause.Unlabelled = unlabelled_table

-- the same, or a refusal
unfoldable pub explained_as : List ℕ → prelude.Result Cause Refusal → Result Reason
explained_as text (Ok x) = accepted (reason_of text x)
explained_as text (Err r) = refused (refusal_of r)

-- the arrays hold the document d, as far as explaining goes: purposes ps, labels ls with their sets ms, tables ts, rows ws
pub record Known (text ps ls ms ts ws : List ℕ) (c : Counts) (d : Doc) : Type 0 where
  pub purposes : Nodes limit text ps c.purposes d.policy.purposes
  pub labels : Labels text ls ms c.labels d.policy.labels
  pub tables : Tables text ts c.tables d.policy.tables
  pub notes : Notes ts c.tables d.policy.notes
  pub rows : Rows text ws c.rows d.rows
  pub grown : Grown (tree_of d.policy.purposes)
  pub denials : Denials d.policy

-- what is found for a line over an accepted document: 11, or what its words give; `why` is the check and then this
unfoldable pub explain_line : Doc → List ℕ → Result Reason
explain_line d line = need (why_of line) (pointing_all 11 query line) >>= explain d

-- the purpose that the word names is ancestor or descendant of p, which the document knows
unfoldable pub is_near : Policy → ℕ → Word → Bool
is_near d p w = holds_of (λ n. in_tree (tree_of d.purposes) p && related (tree_of d.purposes) p n) (purpose_of d w)

-- how many rows are left to pass behind one that counts or not, of so many before it; none where it is the one that is sought
unfoldable pub left_behind : Bool → ℕ → Option ℕ
left_behind false n = some n
left_behind true zero = none
left_behind true (suc n) = some n

-- the table has no labels
unfoldable pub is_unlabelled : Scheme ℕ → Bool
is_unlabelled (unlabelled b) = true
is_unlabelled (by_table l) = false
is_unlabelled (by_column ls) = false
is_unlabelled by_row = false
is_unlabelled by_cell = false
is_unlabelled (nested w s) = false

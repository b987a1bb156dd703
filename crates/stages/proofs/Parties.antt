-- Who asks for what: the parts of a document that the functions hand on, and the purpose of a query. Assumes nothing.
use Prim.Native.Nat.{◌<◌, ℕ}
use borrow.Author.Tests.{lt-ltb}
use lib.ListN.{length, length-map}
use mathlib.Core.Bool.{Bool, true}
use mathlib.Core.List.{List}
use mathlib.Core.Option.{Option, none, some}
use mathlib.Core.Path.{◌∙◌, ◌≡◌, ap, refl, subst, sym}
use Rattle.authority.specs.Authorities.{Authorities}
use Rattle.document.specs.Lookup.{purpose_of}
use Rattle.document.specs.Policy.{Doc, Node, Policy, tree_of}
use Rattle.workspace.proofs.TabulatedLaws.{length_tabulated}
use Rattle.relations.specs.Labels.{Said}
use Rattle.principals.specs.Nodes.{Nodes, node_in}
use Rattle.lists.specs.Lists.{or_zero}
use Rattle.purpose.specs.Compliance.{in_tree}
use Rattle.purpose.specs.Members.{limit}
use Rattle.query.specs.QueryForm.{query_of}
use Rattle.query.specs.QueryPlaces.{IsQuery, ReadsQuery, form_at}
use Rattle.resolving.specs.Acting.{PartiesAre, PartiesKnown, RoleMissing}
use Rattle.query.specs.Query.{unknown_party}
use Rattle.query.specs.QueryForm.{QueryForm}
use Rattle.text.specs.Words.{word_of}
use Rattle.stages.specs.Stages.{Granted, Standing}
use Rattle.index.specs.declared.counts.Counts.{Counts}
use Rattle.std.specs.Prelude as prelude
use Rattle.std.specs.Prelude.{Err, None, Ok, Result, Some}
use Rattle.query.specs.declared.reading.Question.{Question}
use Rattle.resolving.specs.declared.parties.PartyFault.{PartyFault}
use Rattle.resolving.specs.declared.parties.PartyFault.TheVariants as fault

module _ {text ps rs bs us cs gs ms ts ws : List ℕ} {c : Counts} {d : Doc} (h : Standing text ps rs bs us cs gs ms ts ws c d) where
  -- so much of a document as authority needs
  pub authorities : Authorities text rs bs us cs gs c d.policy
  authorities = record { formed = h.formed; roles = h.indexed.roles; attributes = h.indexed.attributes; users = h.indexed.users; conds = h.indexed.conds; grants = h.indexed.grants }

  -- so much as the answer needs
  pub granted : {os : List Bool} {s : List ℕ} {q : Question} {p : ℕ} → IsQuery s q → purpose_of d.policy (form_at s q).purpose ≡ some p → Said d.policy p os → Granted text ts ws c os s q d
  unfolding or_zero
  granted {os} i e o = record { small = h.small; tables = h.indexed.tables; notes = h.indexed.notes; rows = h.indexed.rows; said = subst (λ n. Said d.policy n os) (sym (ap or_zero e)) o; query = i }

-- the number of a purpose that was found lies in the tree
pub in_tree_lem : {text ws : List ℕ} {k p : ℕ} {ns : List Node} → Nodes limit text ws k ns → p < k → in_tree (tree_of ns) p ≡ true
unfolding tree_of
in_tree_lem {text} {ws} {k} {p} {ns} h b = lt-ltb p _ (subst (λ n. p < n) (sym (length-map ns (λ (x : Node). x.parent) ∙ ap length (sym h.are) ∙ length_tabulated (node_in limit text ws) k)) b)

-- the number of the purpose is the one that its word names
pub purpose_number : {o : Option ℕ} {p : ℕ} → o ≡ some p → p ≡ or_zero o
unfolding or_zero
purpose_number e = sym (ap or_zero e)

-- ---- what reading and looking up answered

module _ (s : List ℕ) {a : prelude.Option Question} (r : ReadsQuery s a) where
  pub wrong_read : a ≡ None → query_of s ≡ none
  unfolding ReadsQuery
  wrong_read e = subst (ReadsQuery s) e r

  pub query_read : {q : Question} → a ≡ Some q → IsQuery s q
  unfolding ReadsQuery
  query_read e = subst (ReadsQuery s) e r

module _ (d : Policy) (s : List ℕ) (q : QueryForm) (c : Counts) {x : Result (ℕ × ℕ) PartyFault} (h : PartiesAre d s q c x) where
  pub party_unknown : {at : ℕ} → x ≡ Err (fault.Unknown at) → unknown_party d q ≡ some (word_of s at)
  unfolding PartiesAre
  party_unknown e = subst (PartiesAre d s q c) e h

  pub role_missing : x ≡ Err fault.NotGiven → RoleMissing d q
  unfolding PartiesAre
  role_missing e = subst (PartiesAre d s q c) e h

  pub parties_known : {p u : ℕ} → x ≡ Ok (p, u) → PartiesKnown d q c p u
  unfolding PartiesAre
  parties_known e = subst (PartiesAre d s q c) e h

-- who is neither known nor unknown has no such role
pub not_given : (x : Result (ℕ × ℕ) PartyFault) → ((at : ℕ) → x ≡ Err (fault.Unknown at) → ⊥) → ((p u : ℕ) → x ≡ Ok (p, u) → ⊥) → x ≡ Err fault.NotGiven
not_given (Err fault.NotGiven) g h = refl
not_given (Ok (p, u)) g h = absurd (h p u refl)
not_given (Err (fault.Unknown at)) g h = absurd (g at refl)

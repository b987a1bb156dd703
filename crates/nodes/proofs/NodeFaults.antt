-- The faults of purpose and role lines, by what the code learnt: one law for each answer, for both kinds. Assumes nothing.
use Prim.Native.Nat.{◌<◌, ◌≤◌, ℕ}
use borrow.Author.Tests.{le-leb, le-ltb, lt-leb, lt-ltb}
use lib.Dec.{leb}
use lib.ListN.{length}
use mathlib.Core.Bool.{Bool, false, true}
use mathlib.Core.List.{List, []}
use mathlib.Core.Option.{Option, none, some}
use mathlib.Core.Path.{◌∙◌, ◌≡◌, ap, refl}
use native.Mathlib.Omega.{arith}
use Rattle.document.specs.AmountFaults.{broken_range, no_such_date}
use Rattle.document.specs.Bounds.{late_attr, over_bound, second_root}
use Rattle.document.specs.Lookup.{purpose_of, role_of}
use Rattle.document.specs.NameFaults.{taken, unknown}
use Rattle.document.specs.NoteFaults.{misplaced}
use Rattle.document.specs.Policy.{Doc, Node, Policy}
use Rattle.document.specs.TypeFaults.{wrong_type}
use Rattle.document.specs.ValueFaults.{misfit}
use Rattle.stepping.proofs.FoundLaws.{found_absent, found_there}
use Rattle.stepping.proofs.Outcomes.{says_bound, says_fine, says_root, says_taken, says_unknown}
use Rattle.stepping.specs.Judged.{Judges}
use Rattle.form.specs.Form.{Form, purpose, role}
use Rattle.principals.proofs.IndexLaws.{nodes_length}
use Rattle.workspace.specs.Found.{found_as}
use Rattle.principals.specs.Nodes.{Nodes}
use Rattle.lists.specs.Lists.{find_index, listed, there}
use Rattle.purpose.specs.Members.{limit}
use Rattle.text.proofs.OffendingLaws.{missing_here, missing_next, missing_nil}
use Rattle.text.specs.Offending.{missing, offending_if}
use Rattle.text.specs.Words.{Word, is_called, word_of}
use Rattle.stepping.specs.declared.fault.Fault.TheVariants.{Item, Whole}
use Rattle.std.specs.Prelude as prelude
use Rattle.std.specs.Prelude.{None, Some, Err, Ok, Result}
use Rattle.text.specs.declared.refusals.Reason.TheVariants.{NameTaken, NameUnknown, OverBound, SecondRoot}
use Rattle.stepping.specs.declared.fault.Fault.{Fault}

-- the node of this name is there
abbrev pub is_node : List Node → Word → Bool
is_node ns w = there (find_index (λ x. is_called w x.name) ns)

-- purposes, or roles: what the faults of such a line are
pub record Kind (nodes : Policy → List Node) (form : Word → Option Word → Form) (room : ℕ) : Type 0 where
  pub bound : (d : Doc) (w : Word) (p : Option Word) → over_bound d (form w p) ≡ leb room (length (nodes d.policy))
  pub taken : (d : Policy) (w : Word) (p : Option Word) → taken d (form w p) ≡ offending_if (is_node (nodes d) w) w
  pub unknown : (d : Policy) (w : Word) (p : Option Word) → unknown d (form w p) ≡ missing (is_node (nodes d)) (listed p)
  pub below : (d : Policy) (w v : Word) → second_root d (form w (some v)) ≡ false
  pub fits : (d : Policy) (w : Word) (p : Option Word) → misfit d (form w p) ≡ false
  pub typed : (d : Policy) (w : Word) (p : Option Word) → wrong_type d (form w p) ≡ none
  pub ordered : (d : Policy) (w : Word) (p : Option Word) → broken_range d (form w p) ≡ none
  pub dated : (d : Policy) (w : Word) (p : Option Word) → no_such_date d (form w p) ≡ none
  pub early : (d : Policy) (w : Word) (p : Option Word) → late_attr d (form w p) ≡ false
  pub placed : (d : Doc) (w : Word) (p : Option Word) → misplaced d (form w p) ≡ false

pub purpose_kind : Kind (λ d. d.purposes) purpose limit
unfolding over_bound taken unknown second_root misfit wrong_type broken_range no_such_date late_attr misplaced purpose_of there
purpose_kind = record {
  bound = λ d w p. refl;
  taken = λ d w p. refl;
  unknown = λ d w p. refl;
  below = λ d w v. refl;
  fits = λ d w p. refl;
  typed = λ d w p. refl;
  ordered = λ d w p. refl;
  dated = λ d w p. refl;
  early = λ d w p. refl;
  placed = λ d w p. refl;
}

pub role_kind : Kind (λ d. d.roles) role 64
unfolding over_bound taken unknown second_root misfit wrong_type broken_range no_such_date late_attr misplaced role_of
role_kind = record {
  bound = λ d w p. refl;
  taken = λ d w p. refl;
  unknown = λ d w p. refl;
  below = λ d w v. refl;
  fits = λ d w p. refl;
  typed = λ d w p. refl;
  ordered = λ d w p. refl;
  dated = λ d w p. refl;
  early = λ d w p. refl;
  placed = λ d w p. refl;
}

one_known : (ns : List Node) (w : Word) → is_node ns w ≡ true → missing (is_node ns) (listed (some w)) ≡ none
unfolding listed
one_known ns w h = missing_next (is_node ns) w [] h ∙ missing_nil (is_node ns)

one_unknown : (ns : List Node) (w : Word) → is_node ns w ≡ false → missing (is_node ns) (listed (some w)) ≡ some w
unfolding listed
one_unknown ns w h = missing_here (is_node ns) w [] h

pub no_name : (ns : List Node) → missing (is_node ns) (listed none) ≡ none
unfolding listed
no_name ns = missing_nil (is_node ns)

module _ (nodes : Policy → List Node) (form : Word → Option Word → Form) (room : ℕ) (kind : Kind nodes form room)
    (text ws : List ℕ) (k : ℕ) (line : List ℕ) (n : ℕ) where
  abbrev Held : Doc → Type 0
  Held d = Nodes room text ws k (nodes d.policy)

  module _ (p : Option Word) (Placed : Type 0) where
    abbrev Says : Result (Unit {0}) Fault → Type 0
    Says r = Judges Held Placed line (form (word_of line n) p) k room r

    pub node_full : room ≤ k → Says (Err (Whole OverBound))
    node_full l =
        says_bound Held Placed line (form (word_of line n) p) k room
        (λ d h. kind.bound d (word_of line n) p ∙ le-leb room (length (nodes d.policy)) (omega (arith, nodes_length h, l)))

    module _ (l : k < room) (r : prelude.Option ℕ) (is : (ns : List Node) → Nodes room text ws k ns → found_as r ≡ find_index (λ x. is_called (word_of line n) x.name) ns) where
      roomy : (d : Doc) → Held d → over_bound d (form (word_of line n) p) ≡ false
      roomy d h = kind.bound d (word_of line n) p ∙ lt-leb room (length (nodes d.policy)) (omega (arith, nodes_length h, l))

      pub node_taken : (x : ℕ) → r ≡ Some x → (Placed → n ≤ length line) → Says (Err (Item NameTaken n))
      unfolding offending_if
      node_taken x e q =
          says_taken Held Placed line (form (word_of line n) p) k room roomy n q
          (λ d h. kind.taken d.policy (word_of line n) p ∙ ap (λ b. offending_if b (word_of line n)) (found_there r _ (is (nodes d.policy) h) x e))

      module _ (e : r ≡ None) where
        fresh : (d : Doc) → Held d → taken d.policy (form (word_of line n) p) ≡ none
        unfolding offending_if
        fresh d h = kind.taken d.policy (word_of line n) p ∙ ap (λ b. offending_if b (word_of line n)) (found_absent r _ (is (nodes d.policy) h) e)

        pub node_second : p ≡ none → ((d : Doc) → Held d → second_root d.policy (form (word_of line n) p) ≡ true) → Says (Err (Whole SecondRoot))
        node_second q s =
            says_root Held Placed line (form (word_of line n) p) k room roomy fresh
            (λ d h. kind.unknown d.policy (word_of line n) p ∙ ap (λ o. missing (is_node (nodes d.policy)) (listed o)) q ∙ no_name (nodes d.policy)) s

        pub node_fine : ((d : Doc) → Held d → missing (is_node (nodes d.policy)) (listed p) ≡ none)
            → ((d : Doc) → Held d → second_root d.policy (form (word_of line n) p) ≡ false) → Says (Ok tt)
        node_fine u s =
            says_fine Held Placed line (form (word_of line n) p) k room roomy fresh
            (λ d h. kind.unknown d.policy (word_of line n) p ∙ u d h) s
            (λ d h. kind.fits d.policy (word_of line n) p)
            (λ d h. kind.typed d.policy (word_of line n) p)
            (λ d h. kind.ordered d.policy (word_of line n) p)
            (λ d h. kind.dated d.policy (word_of line n) p)
            l
            (λ d h. kind.early d.policy (word_of line n) p)
            (λ d h. kind.placed d (word_of line n) p)

        pub node_unknown : (v : ℕ) → (Placed → v ≤ length line) → ((d : Doc) → Held d → missing (is_node (nodes d.policy)) (listed p) ≡ some (word_of line v)) → Says (Err (Item NameUnknown v))
        node_unknown v q u =
            says_unknown Held Placed line (form (word_of line n) p) k room roomy fresh v q
            (λ d h. kind.unknown d.policy (word_of line n) p ∙ u d h)

  -- below another, whose name stands at v
  module _ (v : ℕ) (Placed : Type 0) (l : k < room)
      (r : prelude.Option ℕ) (is : (ns : List Node) → Nodes room text ws k ns → found_as r ≡ find_index (λ x. is_called (word_of line n) x.name) ns) (e : r ≡ None)
      (r' : prelude.Option ℕ) (is' : (ns : List Node) → Nodes room text ws k ns → found_as r' ≡ find_index (λ x. is_called (word_of line v) x.name) ns) where
    pub below_unknown : r' ≡ None → (Placed → v ≤ length line) → Says (some (word_of line v)) Placed (Err (Item NameUnknown v))
    below_unknown e' q =
        node_unknown (some (word_of line v)) Placed l r is e v q
        (λ d h. one_unknown (nodes d.policy) (word_of line v) (found_absent r' _ (is' (nodes d.policy) h) e'))

    pub below_fine : (x : ℕ) → r' ≡ Some x → Says (some (word_of line v)) Placed (Ok tt)
    below_fine x e' =
        node_fine (some (word_of line v)) Placed l r is e
        (λ d h. one_known (nodes d.policy) (word_of line v) (found_there r' _ (is' (nodes d.policy) h) x e'))
        (λ d h. kind.below d.policy (word_of line n) (word_of line v))

-- a root purpose, where there are purposes already, or none
pub second_root_lem : {text ws : List ℕ} {k : ℕ} (d : Doc) (w : Word) → Nodes limit text ws k d.policy.purposes → 0 < k → second_root d.policy (purpose w none) ≡ true
unfolding second_root there
second_root_lem d w h l = lt-ltb 0 (length d.policy.purposes) (omega (arith, nodes_length h, l))

pub first_root : {text ws : List ℕ} {k : ℕ} (d : Doc) (w : Word) → Nodes limit text ws k d.policy.purposes → k ≤ 0 → second_root d.policy (purpose w none) ≡ false
unfolding second_root there
first_root d w h l = le-ltb 0 (length d.policy.purposes) (omega (arith, nodes_length h, l))

-- a root role: any number of them
pub root_role : (d : Doc) (w : Word) → second_root d.policy (role w none) ≡ false
unfolding second_root
root_role d w = refl

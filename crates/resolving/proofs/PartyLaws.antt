-- User, role and purpose of a query, by what the lookups found. Assumes nothing.
use Prim.Native.Nat.{◌<◌, ℕ}
use mathlib.Core.Bool.{false, true}
use mathlib.Core.List.{List}
use mathlib.Core.Option.{none, some}
use mathlib.Core.Path.{◌∙◌, ◌≡◌, ap}
use Rattle.document.specs.Lookup.{purpose_of, role_of, user_of}
use Rattle.document.specs.Policy.{Policy}
use Rattle.lists.specs.Lists.{any_of, there}
use Rattle.query.specs.Query.{unknown_party}
use Rattle.query.specs.QueryPlaces.{form_at}
use Rattle.resolving.specs.Acting.{PartiesAre}
use Rattle.text.proofs.OffendingLaws.{leftmost_fail, leftmost_on, leftmost_pass, unless_false, unless_true}
use Rattle.text.specs.Words.{is_called, word_of}
use Rattle.std.specs.Prelude.{Err, Ok}
use Rattle.index.specs.declared.counts.Counts.{Counts}
use Rattle.query.specs.declared.reading.Question.{Question}
use Rattle.resolving.specs.declared.parties.PartyFault.TheVariants as fault

module _ (d : Policy) (s : List ℕ) (q : Question) (c : Counts) where
  pub user_unknown : any_of (λ x. is_called (word_of s q.head.user) x.name) d.users ≡ false → PartiesAre d s (form_at s q) c (Err (fault.Unknown q.head.user))
  unfolding PartiesAre unknown_party form_at
  user_unknown u = leftmost_fail _ (word_of s q.head.user) _ u

  module _ (u : any_of (λ x. is_called (word_of s q.head.user) x.name) d.users ≡ true) where
    pub role_unknown : role_of d (word_of s q.head.role) ≡ none → PartiesAre d s (form_at s q) c (Err (fault.Unknown q.head.role))
    unfolding PartiesAre unknown_party form_at there
    role_unknown r = leftmost_pass _ (word_of s q.head.user) _ u ∙ leftmost_fail _ (word_of s q.head.role) _ (ap there r)

    module _ (n : ℕ) (r : role_of d (word_of s q.head.role) ≡ some n) where
      pub purpose_unknown : purpose_of d (word_of s q.head.purpose) ≡ none → PartiesAre d s (form_at s q) c (Err (fault.Unknown q.head.purpose))
      unfolding PartiesAre unknown_party form_at there
      purpose_unknown p = leftmost_pass _ (word_of s q.head.user) _ u ∙ leftmost_on _ (word_of s q.head.role) _ (ap there r) ∙ unless_false _ (word_of s q.head.purpose) (ap there p)

      module _ (m : ℕ) (p : purpose_of d (word_of s q.head.purpose) ≡ some m) where
        all_known_lem : unknown_party d (form_at s q) ≡ none
        unfolding unknown_party form_at there
        all_known_lem = leftmost_pass _ (word_of s q.head.user) _ u ∙ leftmost_on _ (word_of s q.head.role) _ (ap there r) ∙ unless_true _ (word_of s q.head.purpose) (ap there p)

        pub role_missing : user_of d (word_of s q.head.user) (word_of s q.head.role) ≡ none → PartiesAre d s (form_at s q) c (Err fault.NotGiven)
        unfolding PartiesAre form_at
        role_missing a = record { all_known = all_known_lem; user = a }

        pub parties_known : (k : ℕ) → user_of d (word_of s q.head.user) (word_of s q.head.role) ≡ some k → m < c.purposes → k < c.users → PartiesAre d s (form_at s q) c (Ok (m, k))
        unfolding PartiesAre form_at
        parties_known k a b e = record { all_known = all_known_lem; purpose = p; user = a; purpose_below = b; user_below = e }

-- Where the purposes stand that a label denies: a walk from the label's name on finds those that were read. Assumes nothing.
use Prim.Native.Nat.{◌+◌, ℕ}
use mathlib.Core.Bool.{Bool, cond, false, true}
use mathlib.Core.List.{List, [], ◌∷◌}
use mathlib.Core.Option.{some}
use mathlib.Core.Path.{◌∙◌, ◌≡◌, ap, sym}
use Rattle.form.proofs.WalkLaws.{finds_name, walk_many}
use Rattle.form.specs.FormReader.{purpose_set}
use Rattle.form.specs.Walks.{allow_place, deny_place, first_in, list_end_at, names_at}
use Rattle.text.proofs.ReaderLaws.{not_read}
use Rattle.text.proofs.WalkingLaws.{Finds, finds_bind, finds_bracketed, finds_next, finds_run, word_forward}
use Rattle.text.specs.Brackets.{among, keyword, many, next}
use Rattle.text.specs.Names.{Name}
use Rattle.text.specs.Reader.{Left, from, refuse}
use Rattle.text.specs.Walking.{next_word, past, word_end_at}
use Rattle.text.specs.Words.{Word, is_called, name, word_of}

-- a set of purposes: its names stand behind the keyword
finds_set : (s : List ℕ) (k : Name) → Finds s (purpose_set k) (λ at. names_at s (word_end_at s (first_in s at))) (λ at. past 41 s (list_end_at word_end_at s (word_end_at s (first_in s at))))
unfolding purpose_set keyword among first_in names_at
finds_set s k = finds_bracketed (finds_bind (finds_run s) (among ((k, many name) ∷ [])) (λ w. record { found = λ at x l h. go (is_called w k) at x l h }))
  where
    go : (t : Bool) (at : ℕ) (x : List Word) (l : Left) → cond t (many name) refuse (from s at) ≡ some (x, l) → (x ≡ names_at s at) × (l ≡ from s (list_end_at word_end_at s at))
    go true at x l h = unfold names_at in walk_many word_of word_end_at s name (finds_name s) (word_forward s) at x l h
    go false at x l h = not_read (x, l) h

-- the purposes of the second of two sets behind a name are those that the walk from the name finds
pub deny_stands : (s : List ℕ) (at e f g : ℕ) (k j : Name) (ps qs : List Word) → next name (from s at) ≡ some (word_of s (at + 1), from s e) → next (purpose_set k) (from s e) ≡ some (ps, from s f)
    → next (purpose_set j) (from s f) ≡ some (qs, from s g) → qs ≡ names_at s (deny_place s (at + 1))
unfolding deny_place allow_place next_word
deny_stands s at e f g k j ps qs named allows denies =
    let n = (finds_next (finds_name s)).found at (word_of s (at + 1)) (from s e) named in
    let a = (finds_next (finds_set s k)).found e ps (from s f) allows in
    let d = (finds_next (finds_set s j)).found f qs (from s g) denies in
    let ends : e ≡ word_end_at s (at + 1) = ap (λ (l : Left). l.at) n.1 ∙ ap (λ (w : Word). word_end_at s w.at) (sym n.0) in
    d.0
    ∙ ap (λ (l : Left). names_at s (word_end_at s (first_in s (past 32 s l.at)))) a.1
    ∙ ap (λ (x : ℕ). names_at s (word_end_at s (first_in s (past 32 s (past 41 s (list_end_at word_end_at s (word_end_at s (first_in s (past 32 s x))))))))) ends

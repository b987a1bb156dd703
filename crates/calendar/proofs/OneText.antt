-- A date has one text: what the reader of dates reads is what is written for the date that it gives. Assumes nothing.
use Prim.Native.Nat.{◌+◌, ◌-◌, ◌^◌, ◌≤◌, ℕ}
use mathlib.Core.Bool.{true}
use mathlib.Core.List.{List, [], ◌++◌, ◌∷◌, append_assoc, append-nil}
use mathlib.Core.Option.{Option, none, some}
use mathlib.Core.Path.{◌∙◌, ◌≡◌, ap, refl}
use native.Mathlib.Omega.{arith}
use Rattle.calendar.proofs.Conversions.{Real, held_years, real}
use Rattle.calendar.proofs.DayLaws.{on}
use Rattle.calendar.proofs.OneDecimal.{rank_text}
use Rattle.calendar.specs.Calendar.{Date, exists}
use Rattle.calendar.specs.DateText.{date_parts, date_text, date_written, natural}
use Rattle.text.proofs.Written.{Spells, prints_bind, spells_bind, spells_bracketed, spells_give, spells_more, spells_next, spells_refuse, spells_word}
use Rattle.text.specs.Brackets.{next}
use Rattle.text.specs.Numbers.{decimal, rank}
use Rattle.text.specs.Reader.{Left, give, given}
use Rattle.text.specs.Words.{read_number, word}

-- the bytes that a number's reader read, where the number is above 0
abbrev Natural : ℕ → List ℕ → Type 0
Natural n bs = 1 ≤ n → bs ≡ decimal n

spells_natural : Spells Natural natural
unfolding natural read_number
spells_natural =
    spells_bind (λ k bs. rank bs ≡ some k) Natural read_number (λ k. give (k - 2 ^ 63))
    (prints_bind (λ w. w.bytes) (λ w. true) (λ k bs. rank bs ≡ some k) word _ spells_word (λ w u. held w.bytes (rank w.bytes) refl))
    (λ k bs e. spells_give (λ n cs. Natural n (bs ++ cs)) (k - 2 ^ 63) (λ above. text k bs e above))
  where
    held : (bs : List ℕ) (o : Option ℕ) → rank bs ≡ o → Spells (λ k cs. rank (bs ++ cs) ≡ some k) (given o)
    held bs none e = spells_refuse (λ k cs. rank (bs ++ cs) ≡ some k)
    held bs (some k) e = spells_give (λ k cs. rank (bs ++ cs) ≡ some k) k (ap rank (append-nil bs) ∙ e)

    text : (k : ℕ) (bs : List ℕ) → rank bs ≡ some k → 1 ≤ k - 2 ^ 63 → bs ++ [] ≡ decimal (k - 2 ^ 63)
    text k bs e above =
        let split : k ≡ 2 ^ 63 + (k - 2 ^ 63) = omega arith in
        append-nil bs ∙ rank_text bs (k - 2 ^ 63) (e ∙ ap some split)

-- what stands in the bracket of a date
abbrev inside_text : Date → List ℕ
inside_text d = decimal d.year ++ (32 ∷ decimal d.month ++ (32 ∷ decimal d.day))

abbrev Spaced : ℕ → List ℕ → Type 0
Spaced n bs = 1 ≤ n → bs ≡ 32 ∷ decimal n

spells_spaced : Spells Spaced (next natural)
spells_spaced =
    spells_next Spaced natural
    (spells_more (λ n bs. Spaced n (32 ∷ bs)) Natural natural (λ n bs x h. ap (λ (cs : List ℕ). 32 ∷ cs) (x h)) spells_natural)

abbrev Inside : Date → List ℕ → Type 0
Inside d bs = Real d → bs ≡ inside_text d

spells_parts : Spells Inside date_parts
unfolding date_parts
spells_parts =
    spells_bind Natural Inside natural _ spells_natural (λ y bs first.
    spells_bind Spaced (λ d cs. Inside d (bs ++ cs)) (next natural) _ spells_spaced (λ m cs second.
    spells_bind Spaced (λ d ds. Inside d (bs ++ (cs ++ ds))) (next natural) _ spells_spaced (λ n ds third.
    spells_give (λ d es. Inside d (bs ++ (cs ++ (ds ++ es)))) (on y m n) (λ r.
    rw (append-nil ds, first (held_years y r.held).0, second r.month_low, third r.day_low)))))

abbrev Written : Date → List ℕ → Type 0
Written d bs = Real d → bs ≡ date_written d

spells_date : Spells Written date_text
unfolding date_text date_written
spells_date =
    spells_bracketed Written date_parts
    (spells_more (λ d bs. Written d (40 ∷ (bs ++ (41 ∷ [])))) Inside date_parts
    (λ d bs x r. ap (λ (cs : List ℕ). 40 ∷ (cs ++ (41 ∷ []))) (x r) ∙ simp append_assoc) spells_parts)

-- where the reader of dates gives a date that there is, the date's text stood, and what is left stood behind it
pub date_stood : (l : Left) (d : Date) (l' : Left) → date_text l ≡ some (d, l') → exists d ≡ true → l.bytes ≡ date_written d ++ l'.bytes
date_stood l d l' h e =
    let x = spells_date l d l' h in
    x.stood ∙ ap (λ (bs : List ℕ). bs ++ l'.bytes) (x.spells (real d e))

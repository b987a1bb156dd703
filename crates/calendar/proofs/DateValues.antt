-- Dates as values: what is read as a date was written so, what is written so is read, and where code finds one. Whether there is such
-- a date does not matter here. Assumes nothing.
use Prim.Native.Nat.{◌+◌, ◌-◌, ◌^◌, ℕ}
use lib.ListN.{drop, get_or}
use mathlib.Core.Bool.{false}
use mathlib.Core.List.{List, [], ◌++◌, ◌∷◌, append_assoc, append-nil}
use mathlib.Core.Option.{Option, map, bind, none, some}
use mathlib.Core.Path.{◌∙◌, ◌≡◌, ap, refl, subst, sym}
use native.Mathlib.Omega.{arith}
use Rattle.calendar.proofs.DayLaws.{on}
use Rattle.calendar.proofs.ReadingLaws.{forward_natural, rank_read}
use Rattle.calendar.specs.Calendar.{Date, date_rank}
use Rattle.calendar.specs.DateText.{date_of, date_parts, date_text, day_rank_of, is_date, natural}
use Rattle.lists.specs.Lists.{or_zero, there}
use Rattle.text.proofs.ByteLaws.{run_stops}
use Rattle.text.proofs.Closings.{closing_over}
use Rattle.text.proofs.Enclosed.{Enclosed, enclosed_at, enclosed_written, finds_enclosed, word_unopened}
use Rattle.text.proofs.Forward.{Forward, forward_bind, forward_bracketed, forward_give, forward_next}
use Rattle.text.proofs.Lefts.{before_end, drop_here}
use Rattle.text.proofs.Places.{Agree, bind_agree, bracketed_agree, give_agree, next_agree, number_agree}
use Rattle.text.proofs.RangeLaws.{number_bytes, number_spelled}
use Rattle.text.proofs.ReadBack.{Reads, bind_reads, bracketed_reads, give_reads, next_reads, number_reads}
use Rattle.text.proofs.WalkingLaws.{Finds}
use Rattle.text.proofs.Written.{Spells, spells_bind, spells_bracketed, spells_give, spells_more, spells_next, spells_whole}
use Rattle.text.specs.Brackets.{next}
use Rattle.text.specs.Bytes.{first_byte, is_digit, is_letter, is_name_byte}
use Rattle.text.specs.Numbers.{rank}
use Rattle.text.specs.Reader.{Left, from, give}
use Rattle.text.specs.Walking.{written_end_at}
use Rattle.text.specs.Words.{name_bytes, read_number, to_closing, word_at, written, written_at, written_of}

-- the bytes spell a number that stands for n in a date
pub record Part (n : ℕ) (bs : List ℕ) : Type 0 where
  pub k : ℕ
  pub ranked : rank bs ≡ some k
  pub part : k - 2 ^ 63 ≡ n

-- the bytes are a date as it is written: `(`, three numbers with spaces between them, and `)`
pub record DateShape (d : Date) (v : List ℕ) : Type 0 where
  pub first : List ℕ
  pub second : List ℕ
  pub third : List ℕ
  pub is_year : Part d.year first
  pub is_month : Part d.month second
  pub is_day_of : Part d.day third
  pub is : v ≡ 40 ∷ (first ++ 32 ∷ (second ++ 32 ∷ (third ++ 41 ∷ [])))

-- ---- what was read was written so

part_spelled : Spells Part natural
unfolding natural
part_spelled =
    spells_bind (λ k bs. rank bs ≡ some k) Part read_number (λ k. give (k - 2 ^ 63)) number_spelled (λ k bs e.
    spells_give (λ n cs. Part n (bs ++ cs)) (k - 2 ^ 63) (record { k = k; ranked = ap rank (append-nil bs) ∙ e; part = refl }))

-- a part behind a space
data Spaced : ℕ → List ℕ → Type 0 where
  behind : (c : List ℕ) (n : ℕ) → Part n c → Spaced n (32 ∷ c)

spaced_spelled : Spells Spaced (next natural)
spaced_spelled = spells_next Spaced natural (spells_more _ Part natural (λ n bs x. behind bs n x) part_spelled)

shape : (a : List ℕ) (y : ℕ) → Part y a → {m n : ℕ} {bs cs : List ℕ} → Spaced m bs → Spaced n cs → DateShape (on y m n) (40 ∷ ((a ++ (bs ++ (cs ++ []))) ++ 41 ∷ []))
shape a y p (behind b m q) (behind c n r) = record {
  first = a;
  second = b;
  third = c;
  is_year = p;
  is_month = q;
  is_day_of = r;
  is = ap (λ (cs : List ℕ). 40 ∷ cs) (append_assoc a (32 ∷ (b ++ 32 ∷ (c ++ []))) (41 ∷ []) ∙ ap (λ (cs : List ℕ). a ++ 32 ∷ cs) (append_assoc b (32 ∷ (c ++ [])) (41 ∷ []) ∙ ap (λ (cs : List ℕ). b ++ 32 ∷ (cs ++ 41 ∷ [])) (append-nil c)));
}

date_spelled : Spells DateShape date_text
unfolding date_text date_parts
date_spelled = spells_bracketed DateShape _
    (spells_bind Part _ natural _ part_spelled (λ y a p.
    spells_bind Spaced _ (next natural) _ spaced_spelled (λ m bs q.
    spells_bind Spaced _ (next natural) _ spaced_spelled (λ n cs r.
    spells_give _ (on y m n) (shape a y p q r)))))

pub forward_date : Forward date_text
unfolding date_text date_parts
forward_date =
    forward_bracketed _ (forward_bind natural _ forward_natural (λ y.
    forward_bind (next natural) _ (forward_next natural forward_natural) (λ m.
    forward_bind (next natural) _ (forward_next natural forward_natural) (λ n. forward_give (on y m n)))))

-- ---- what is written so is read

pub part_reads : (n : ℕ) (bs rest : List ℕ) → Part n bs → is_name_byte (first_byte rest) ≡ false → Reads (λ (x : ℕ). x) natural (bs ++ rest) n rest
unfolding natural
part_reads n bs rest p h = bind_reads (number_reads bs rest p.k p.ranked h) (λ y q. give_reads (y - 2 ^ 63) rest (ap (λ (x : ℕ). x - 2 ^ 63) q ∙ p.part))

-- with more behind it
behind_shape : (a b c rest : List ℕ) → (40 ∷ (a ++ 32 ∷ (b ++ 32 ∷ (c ++ 41 ∷ [])))) ++ rest ≡ 40 ∷ (a ++ 32 ∷ (b ++ 32 ∷ (c ++ 41 ∷ rest)))
behind_shape a b c rest =
    ap (λ (cs : List ℕ). 40 ∷ cs) (append_assoc a (32 ∷ (b ++ 32 ∷ (c ++ 41 ∷ []))) rest
    ∙ ap (λ (cs : List ℕ). a ++ 32 ∷ cs) (append_assoc b (32 ∷ (c ++ 41 ∷ [])) rest ∙ ap (λ (cs : List ℕ). b ++ 32 ∷ cs) (append_assoc c (41 ∷ []) rest)))

module _ (d : Date) (v rest : List ℕ) (t : DateShape d v) where
  pub stands : v ++ rest ≡ 40 ∷ (t.first ++ 32 ∷ (t.second ++ 32 ∷ (t.third ++ 41 ∷ rest)))
  stands = ap (λ (w : List ℕ). w ++ rest) t.is ∙ behind_shape t.first t.second t.third rest

  shape_reads : Reads (λ (x : Date). x) date_text (v ++ rest) d rest
  unfolding date_text date_parts is_name_byte is_letter is_digit
  shape_reads = subst (λ (bs : List ℕ). Reads (λ (x : Date). x) date_text bs d rest) (sym stands)
      (bracketed_reads
      (bind_reads (part_reads d.year t.first (32 ∷ (t.second ++ 32 ∷ (t.third ++ 41 ∷ rest))) t.is_year refl) (λ y p.
      bind_reads (next_reads (part_reads d.month t.second (32 ∷ (t.third ++ 41 ∷ rest)) t.is_month refl)) (λ m q.
      bind_reads (next_reads (part_reads d.day t.third (41 ∷ rest) t.is_day_of refl)) (λ n r.
      give_reads (on y m n) (41 ∷ rest) (λ i. on (p i) (q i) (r i)))))))

  -- it ends with its first closing bracket
  shape_closes : to_closing (v ++ rest) ≡ v
  unfolding to_closing
  shape_closes =
      ap to_closing stands
      ∙ ap (λ (cs : List ℕ). 40 ∷ cs) (closing_over t.first (32 ∷ (t.second ++ 32 ∷ (t.third ++ 41 ∷ rest))) (number_bytes t.first t.is_year.k t.is_year.ranked)
      ∙ ap (λ (cs : List ℕ). t.first ++ 32 ∷ cs) (closing_over t.second (32 ∷ (t.third ++ 41 ∷ rest)) (number_bytes t.second t.is_month.k t.is_month.ranked)
      ∙ ap (λ (cs : List ℕ). t.second ++ 32 ∷ cs) (closing_over t.third (41 ∷ rest) (number_bytes t.third t.is_day_of.k t.is_day_of.ranked))))
      ∙ sym t.is

pub enclosed_date : Enclosed DateShape date_text
enclosed_date = record {
  spelled = date_spelled;
  goes = forward_date;
  reads = shape_reads;
  opens = λ d v rest t. ap first_byte (stands d v rest t);
  closes = shape_closes;
}

-- ---- dates by position

-- the date that is read at a position is what is written there, and ends where that ends
pub finds_date : (s : List ℕ) → Finds s (written date_text) (written_of s) (written_end_at s)
finds_date s = finds_enclosed DateShape date_text enclosed_date s

module _ (s : List ℕ) (at : ℕ) where
  -- what is written there is a date if one is read there, and the same
  pub written_date : date_of (written_at s at) ≡ map (λ x. x.0) (date_text (from s at))
  unfolding date_of
  written_date = enclosed_written DateShape date_text enclosed_date s at

  pub is_date_lem : is_date (written_at s at) ≡ there (date_text (from s at))
  unfolding is_date there
  is_date_lem = ap there written_date ∙ go (date_text (from s at))
    where
      go : (o : Option (Date × Left)) → there (map (λ x. x.0) o) ≡ there o
      go none = refl
      go (some x) = refl

  pub date_rank_lem : day_rank_of (written_at s at) ≡ rank_read (date_text (from s at))
  unfolding day_rank_of bind
  date_rank_lem = ap (λ (o : Option Date). or_zero (bind o date_rank)) written_date ∙ go (date_text (from s at))
    where
      go : (o : Option (Date × Left)) → or_zero (bind (map (λ x. x.0) o) date_rank) ≡ rank_read o
      go none = refl
      go (some x) = refl

  -- a word is no date
  pub word_no_date : date_of (word_at s at) ≡ none
  unfolding date_of
  word_no_date = go (date_of (word_at s at)) refl
    where
      go : (o : Option Date) → date_of (word_at s at) ≡ o → o ≡ none
      go none e = refl
      go (some d) e = absurd (word_unopened s at (ap first_byte (sym (append-nil (word_at s at))) ∙ enclosed_date.opens d (word_at s at) [] (spells_whole DateShape date_text date_spelled (word_at s at) d (unfold date_of in e))))

  pub word_not_date : is_date (word_at s at) ≡ false
  unfolding is_date there
  word_not_date = ap there word_no_date

  pub word_rank : day_rank_of (word_at s at) ≡ 0
  unfolding day_rank_of bind or_zero
  word_rank = ap (λ (o : Option Date). or_zero (bind o date_rank)) word_no_date

  -- where a date is read, a number stands behind its bracket
  pub date_begins : (d : Date) (l : Left) → date_text (from s at) ≡ some (d, l) → (k : ℕ) × (rank (word_at s (at + 1)) ≡ some k) × (get_or s at 0 ≡ 40)
  date_begins d l h =
      let x = enclosed_at DateShape date_text enclosed_date s at d l h in
      let t = x.text in
      let rest = drop (written_end_at s at) s in
      let r : drop (at + 1) s ≡ t.first ++ 32 ∷ (t.second ++ 32 ∷ (t.third ++ 41 ∷ rest)) = ap (drop 1) (sym (drop_here s at (before_end s at (λ z. absurd (omega (arith, x.opened, z))))) ∙ x.stood ∙ stands d (written_at s at) rest t) in
      let w : word_at s (at + 1) ≡ t.first = ap name_bytes r ∙ run_stops t.first _ (number_bytes t.first t.is_year.k t.is_year.ranked) (unfold is_name_byte is_letter is_digit in refl) in
      (t.is_year.k, ap rank w ∙ t.is_year.ranked, x.opened)

-- where a date stands does not matter
pub date_agree : Agree (λ (d : Date). d) date_text date_text
unfolding date_text date_parts
date_agree = bracketed_agree
    (bind_agree part_agree (λ y y' p.
    bind_agree (next_agree part_agree) (λ m m' q.
    bind_agree (next_agree part_agree) (λ n n' r.
    give_agree _ _ (λ i. on (p i) (q i) (r i))))))
  where
    part_agree : Agree (λ (k : ℕ). k) natural natural
    part_agree = unfold natural in bind_agree number_agree (λ x y p. give_agree _ _ (ap (λ (k : ℕ). k - 2 ^ 63) p))

-- Constants as they are read. Assumes nothing.
use Prim.Native.Nat.{ℕ}
use mathlib.Core.Bool.{false, true}
use mathlib.Core.List.{List}
use mathlib.Core.Option.{none, some}
use mathlib.Core.Path.{◌∙◌, ◌≡◌, ap, refl, subst, sym}
use native.Mathlib.Omega.{arith}
use Rattle.calendar.specs.DateText.{day_rank_of, is_date}
use Rattle.condition.specs.Answers.{kind_of}
use Rattle.condition.specs.Kinds.{Kind, dates, has_kind, names, numbers}
use Rattle.condition.specs.declared.kinds.Kind as kinds
use Rattle.condition.specs.declared.kinds.Kind.TheVariants as kind
use Rattle.judging.specs.Constants.{ConstantOf}
use Rattle.lists.proofs.Tests.{true_not_false}
use Rattle.lists.specs.Lists.{or_zero, there}
use Rattle.text.proofs.Closings.{written_word}
use Rattle.text.proofs.Enclosed.{bracket_word, written_is_name}
use Rattle.text.specs.Bytes.{is_letter}
use Rattle.text.specs.Names.{is_name}
use Rattle.text.specs.Numbers.{Value, is_number, rank}
use Rattle.text.specs.Words.{word_at, written_at}

-- the types are three
abbrev kind_code : Kind → ℕ
kind_code numbers = 0
kind_code names = 1
kind_code dates = 2

numbers_no_dates : {A : Type 0} → numbers ≡ dates → A
numbers_no_dates e = let z : ◌≡◌ {A = ℕ} 0 2 = ap kind_code e in absurd (omega (arith, z))

names_no_numbers : {A : Type 0} → names ≡ numbers → A
names_no_numbers e = let z : ◌≡◌ {A = ℕ} 1 0 = ap kind_code e in absurd (omega (arith, z))

names_no_dates : {A : Type 0} → names ≡ dates → A
names_no_dates e = let z : ◌≡◌ {A = ℕ} 1 2 = ap kind_code e in absurd (omega (arith, z))

dates_no_numbers : {A : Type 0} → dates ≡ numbers → A
dates_no_numbers e = let z : ◌≡◌ {A = ℕ} 2 0 = ap kind_code e in absurd (omega (arith, z))

module _ (k : kinds.Kind) (v : Value) where
  -- where a number should stand
  module _ (is : k ≡ kind.Num) where
    pub number_read : (m n : ℕ) → rank v ≡ some m → n ≡ m → ConstantOf (kind_of k) v (record { fits = 1; rank = n })
    unfolding has_kind is_number there or_zero
    number_read m n h e = subst (λ (y : kinds.Kind). ConstantOf (kind_of y) v (record { fits = 1; rank = n })) (sym is) (record { fits = sym (ap there h); ranked = λ z. e ∙ sym (ap or_zero h); dated = λ z. numbers_no_dates z })

    pub number_missed : rank v ≡ none → ConstantOf (kind_of k) v (record { fits = 0; rank = 0 })
    unfolding has_kind is_number there or_zero
    number_missed h = subst (λ (y : kinds.Kind). ConstantOf (kind_of y) v (record { fits = 0; rank = 0 })) (sym is) (record { fits = sym (ap there h); ranked = λ z. sym (ap or_zero h); dated = λ z. numbers_no_dates z })

  -- where a name should stand
  module _ (is : k ≡ kind.Name) where
    pub name_read : is_name v ≡ true → ConstantOf (kind_of k) v (record { fits = 1; rank = 0 })
    unfolding has_kind
    name_read h = subst (λ (y : kinds.Kind). ConstantOf (kind_of y) v (record { fits = 1; rank = 0 })) (sym is) (record { fits = sym h; ranked = λ z. names_no_numbers z; dated = λ z. names_no_dates z })

    pub name_missed : is_name v ≡ false → ConstantOf (kind_of k) v (record { fits = 0; rank = 0 })
    unfolding has_kind
    name_missed h = subst (λ (y : kinds.Kind). ConstantOf (kind_of y) v (record { fits = 0; rank = 0 })) (sym is) (record { fits = sym h; ranked = λ z. names_no_numbers z; dated = λ z. names_no_dates z })

  -- where a date should stand
  module _ (is : k ≡ kind.Date) where
    pub date_read : (n : ℕ) → is_date v ≡ true → n ≡ day_rank_of v → ConstantOf (kind_of k) v (record { fits = 1; rank = n })
    unfolding has_kind
    date_read n h e = subst (λ (y : kinds.Kind). ConstantOf (kind_of y) v (record { fits = 1; rank = n })) (sym is) (record { fits = sym h; ranked = λ z. dates_no_numbers z; dated = λ z. e })

    pub date_missed : is_date v ≡ false → 0 ≡ day_rank_of v → ConstantOf (kind_of k) v (record { fits = 0; rank = 0 })
    unfolding has_kind
    date_missed h e = subst (λ (y : kinds.Kind). ConstantOf (kind_of y) v (record { fits = 0; rank = 0 })) (sym is) (record { fits = sym h; ranked = λ z. dates_no_numbers z; dated = λ z. e })

-- a name is a word
pub name_written : (s : List ℕ) (at : ℕ) → is_name (written_at s at) ≡ true → written_at s at ≡ word_at s at
name_written s at h = written_word s at (λ z. true_not_false (sym (written_is_name s at) ∙ h) (ap is_name (bracket_word s at z) ∙ unfold is_name is_letter in refl))

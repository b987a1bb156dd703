-- Contract: what the code's answers stand for, each as a function of what the reader or the definition gives. A contract says
-- `r ≡ word_end (name (from s at))`: the code's answer r is what the reader of names gives at the position `at` of the text s.
use Rattle.std.specs.Prelude.{◌^◌, ℕ, eqb, leb, cond, List}
use Rattle.std.proofs.Math.Option.{Option, none, some}
use Rattle.text.specs.Amounts.{Range}
use Rattle.text.specs.Ends.{end_of}
use Rattle.text.specs.Reader.{Left, byte}
use Rattle.text.specs.Words.{Word, word_of, written_of}
use Rattle.std.specs.Prelude as prelude
use Rattle.std.specs.Prelude.{None, Some}
use Rattle.text.specs.declared.brackets.Optional.{Optional}
use Rattle.text.specs.declared.brackets.Optional.TheVariants as optional_name

-- where a reader ends, or that it refuses
abbrev pub word_end : {A : Type 0} → Option (A × Left) → prelude.Option ℕ
word_end o = end_of Some None o

-- where the byte b ends, or that it does not stand there. Byte 0 stands in no form, and is not found anywhere
abbrev pub byte_end : ℕ → Left → prelude.Option ℕ
byte_end b l = cond (eqb b 0) None (word_end (byte b l))

-- what stands where a name may stand, if the reader ends at e: a name, by its place and its end; or none
abbrev pub optional_end : Option Word → ℕ → Optional
optional_end none e = optional_name.Absent e
optional_end (some w) e = optional_name.Name w.at e

-- the same for what the reader of an optional name gives, which may be a refusal
abbrev pub optional_of : Option (Option Word × Left) → prelude.Option Optional
optional_of none = None
optional_of (some r) = Some (optional_end r.0 r.1.at)

-- a number that there is, or none
abbrev pub amount_of : Option ℕ → prelude.Option ℕ
amount_of none = None
amount_of (some n) = Some n

-- a number that there is and that is at most 2^63, or none: a greater one is no number of a text, whatever its sign
abbrev pub limited : Option ℕ → prelude.Option ℕ
limited none = None
limited (some n) = cond (leb n (2 ^ 63)) (Some n) None

-- the same with the end e of its digits
abbrev pub ended_at : ℕ → prelude.Option ℕ → prelude.Option (ℕ × ℕ)
ended_at e None = None
ended_at e (Some n) = Some (e, n)

-- where the reader of a number ends, and the number's rank; or that it refuses
abbrev pub end_of_number : Option (ℕ × Left) → prelude.Option (ℕ × ℕ)
end_of_number none = None
end_of_number (some r) = Some (r.1.at, r.0)

-- where the reader of a range ends, and the ranks of LOW and HIGH; or that it refuses
abbrev pub end_of_range : Option (Range × Left) → prelude.Option (ℕ × ℕ × ℕ)
end_of_range none = None
end_of_range (some r) = Some (r.1.at, r.0.low, r.0.high)

-- the word of a text at the place that the code's answer names, if it names one
abbrev pub offending_of : List ℕ → prelude.Option ℕ → Option Word
offending_of s None = none
offending_of s (Some at) = some (word_of s at)

-- the value of a text, as it is written, at the place that the code's answer names, if it names one
abbrev pub offending_value : List ℕ → prelude.Option ℕ → Option Word
offending_value s None = none
offending_value s (Some at) = some (written_of s at)

-- Contract: refusals of a query that hand back what stands at a place of it.
use Rattle.std.specs.Prelude.{ℕ, List}
use Rattle.text.specs.Refusal.{Refusal, pointing, query}
use Rattle.text.specs.Words.{word_of, written_of}

-- the refusal that hands back the word at a place of the query
unfoldable pub refused_at : ℕ → List ℕ → ℕ → Refusal
refused_at n s at = pointing n query (word_of s at)

-- the refusal that hands back the value at a place of the query, as it is written
unfoldable pub refused_written : ℕ → List ℕ → ℕ → Refusal
refused_written n s at = pointing n query (written_of s at)

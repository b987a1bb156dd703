-- Contract: going on through a text from a position: the steps by which code walks through lists that were read before. Each is total:
-- where the byte that it steps over is not there, it stays.
use Rattle.std.specs.Prelude.{◌+◌, ℕ, eqb, ltb, get_or, length, ◌&&◌, cond, List}
use Rattle.text.specs.Words.{word_at, written_at}

-- the position behind the byte b at a position, or that position where another byte stands or none
unfoldable pub past : ℕ → List ℕ → ℕ → ℕ
past b s at = cond (ltb at (length s) && eqb (get_or s at 0) b) (at + 1) at

-- where the word at a position ends
unfoldable pub word_end_at : List ℕ → ℕ → ℕ
word_end_at s at = at + length (word_at s at)

-- where the value of a cell ends that stands at a position
unfoldable pub written_end_at : List ℕ → ℕ → ℕ
written_end_at s at = at + length (written_at s at)

-- where the next word begins: behind the word at a position and a space
unfoldable pub next_word : List ℕ → ℕ → ℕ
next_word s at = past 32 s (word_end_at s at)

-- Contract: the line that programs print beside a refusal's (answer/specs/Session).
use Rattle.std.specs.Prelude.{ℕ, List, ◌++◌, ◌∷◌}
use Rattle.text.specs.Bytes.{ascii}
use Rattle.text.specs.Numbers.{decimal}

-- `(accepted LINES RESERVE)` and a line feed (01, "Checking a document": acceptance gives the number of lines and a reserve)
unfoldable pub accepted_line : ℕ → ℕ → List ℕ
accepted_line lines reserve = ascii "(accepted" ++ 32 ∷ decimal lines ++ 32 ∷ decimal reserve ++ ascii ")\n"

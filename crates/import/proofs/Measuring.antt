-- Measuring says what importing into a buffer gives: a refusal for every buffer, or the length from which on one is long enough. Assumes nothing.
use Prim.Native.Nat.{◌<◌, ◌≤◌, ℕ}
use lib.ListN.{length}
use mathlib.Core.List.{List}
use mathlib.Core.Path.{◌∙◌, ◌≡◌, ap}
use native.Mathlib.Omega.{arith}
use Rattle.import.proofs.ImportLaws.{Taken, admits_all, admits_room, was_taken}
use Rattle.import.specs.Importing.{if_writable, importable, importing, length_only, longest_buffer, measure_import, record_lines, refusal_at, well_formed}
use Rattle.csv_text.specs.Records.{Entry, Split, records, split}
use Rattle.text.proofs.RefusalLaws.{accepted_same, bind_accepted}
use Rattle.text.specs.Names.{Name}
use Rattle.text.specs.Refusal.{Result, ◌>>=◌, accepted, refused}

-- a file whose lines have the measured length
pub record Measured (bytes : List ℕ) (t l : Name) (n : ℕ) : Type 0 where
  pub entries : List Entry
  pub taken : Taken bytes t l longest_buffer entries
  pub long : length (record_lines t l entries) ≡ n

pub was_measured : (bytes : List ℕ) (t l : Name) (n : ℕ) → measure_import bytes t l ≡ accepted n → Measured bytes t l n
unfolding measure_import length_only importing
was_measured bytes t l n h =
    let a = bind_accepted (importing bytes t l longest_buffer) (λ ls. accepted (length ls)) n h in
    let b = bind_accepted (importable bytes t l longest_buffer) (λ es. accepted (record_lines t l es)) a.0 a.1 in
    record { entries = b.0; taken = was_taken bytes t l longest_buffer b.0 b.1; long = ap length (accepted_same b.2) ∙ accepted_same a.2 }

module _ (bytes : List ℕ) (t l : Name) (room n : ℕ) (h : measure_import bytes t l ≡ accepted n) where
  judged : {o : Result (List Entry)} → if_writable t l room (was_measured bytes t l n h).entries ≡ o → importing bytes t l room ≡ o >>= λ es. accepted (record_lines t l es)
  unfolding importing importable well_formed ◌>>=◌
  judged e =
      let m = was_measured bytes t l n h in
      ap (λ (x : Split). (well_formed x >>= if_writable t l room) >>= λ es. accepted (record_lines t l es)) m.taken.are ∙ ap (λ (o : Result (List Entry)). o >>= λ es. accepted (record_lines t l es)) e

  -- a buffer as long as that is taken, and the lines have that length
  pub measured_fits : n ≤ room → (ls : List ℕ) × (importing bytes t l room ≡ accepted ls) × (length ls ≡ n)
  unfolding ◌>>=◌
  measured_fits k =
      let m = was_measured bytes t l n h in
      (record_lines t l m.entries, judged (admits_all t l room m.entries m.taken.names m.taken.fit (omega (arith, m.long, k))), m.long)

  -- a shorter one is 21
  pub measured_short : room < n → importing bytes t l room ≡ refused (refusal_at 21 0)
  unfolding ◌>>=◌
  measured_short k =
      let m = was_measured bytes t l n h in
      judged (admits_room t l room m.entries m.taken.names m.taken.fit (omega (arith, m.long, k)))

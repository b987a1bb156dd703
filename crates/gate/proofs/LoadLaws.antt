-- Loading a document: the arrays hold what the check accepts; asking and measuring what it refuses. Assumes nothing.
use Prim.Native.Nat.{ℕ}
use lib.ListN.{get_or, length}
use mathlib.Core.List.{List, []}
use mathlib.Core.Path.{◌∙◌, ◌≡◌, ap, refl, subst, sym}
use native.Mathlib.Omega.{arith}
use Rattle.checker.specs.Loading.{HoldsDocument}
use Rattle.document.proofs.Formed.{formed}
use Rattle.document.specs.Check.{check}
use Rattle.document.specs.Invariants.{Formed}
use Rattle.gate.proofs.DocumentLaws.{checked_accepted, checked_refused, checks_document, code_checked, refused_checked}
use Rattle.gate.specs.Arrays.{ExportsLoad}
use Rattle.gate.specs.Exports.{ExportsCheck, code_of}
use Rattle.gate.specs.Loads.{Held, HeldOrNone, HoldsArrays, LoadsDocument}
use Rattle.gate.specs.Outcome.{checked_as}
use Rattle.gate.specs.Reserved.{ChecksDocument}
use Rattle.loaded.proofs.CellLaws.{counts_stored, none_stored, version_stored}
use Rattle.loaded.proofs.Chain.{ask_refused, gives_asks, measures_refused, room_refused}
use Rattle.loaded.specs.Cells.{cells_of, counts_in, no_cells}
use Rattle.loaded.specs.Holds.{Holds}
use Rattle.loaded.specs.Outside.{Asks, Measures}
use Rattle.query.specs.Authority.{Clock}
use Rattle.stages.proofs.Chain.{gives_refused}
use Rattle.stages.specs.Figures.{answered_as}
use Rattle.stages.specs.Stages.{Standing}
use Rattle.stages.specs.Tails.{Gives}
use Rattle.reserve.specs.Sums.{HoldsRows}
use Rattle.telling.proofs.HeldLaws.{holds_labels}
use Rattle.workspace.proofs.TabulatedLaws.{length_tabulated}
use Rattle.answer.specs.Ask.{ask_unbounded}
use Rattle.answer.specs.Reserve.{reserve_of}
use Rattle.text.proofs.RefusalLaws.{not_refused}
use Rattle.text.specs.Reasons.{refusal_of}
use Rattle.text.specs.Refusal.{accepted, refused}
use Rattle.std.specs.Prelude.{Err, Ok, Result}
use Rattle.index.specs.declared.counts.Counts.{Counts}
use Rattle.text.specs.declared.refusals.Refusal.{Refusal}

-- no answer accepts and refuses
apart : (n m : ℕ) (x : Refusal) → ◌≡◌ {A = Result (ℕ × ℕ) Refusal} (Ok (n, m)) (Err x) → ⊥
apart n m x z = let y : ◌≡◌ {A = ℕ} 0 1 = cc in omega arith

module _ {doc ps rs bs us cs gs ls ms ts ws : List ℕ} where
  -- the arrays of an accepted document, which is well formed
  standing : {c : Counts} {n : ℕ} (h : HoldsDocument doc ps rs bs us cs gs ls ms ts ws c n) → Formed h.what.policy → Standing doc ps rs bs us cs gs ms ts ws c h.what
  standing h f = record { names = ls; indexed = h.held; formed = f; small = h.small }

  -- and beside them how many of each kind there are
  holds : {cells : List ℕ} {c : Counts} {n : ℕ} → HoldsDocument doc ps rs bs us cs gs ls ms ts ws c n → cells ≡ cells_of c → Holds doc ps rs bs us cs gs ms ts ws cells
  holds {c} {n} h e = record {
    what = record { lines = n; doc = h.what };
    is = h.is;
    filled = ap (λ l. get_or l 0 0) e ∙ version_stored c;
    standing = subst (λ k. Standing doc ps rs bs us cs gs ms ts ws k h.what) (sym (ap counts_in e ∙ counts_stored c)) (standing h (formed _ _ h.is));
  }

  -- the rows, by which the reserve is found
  holds_rows : {c : Counts} {n : ℕ} (h : HoldsDocument doc ps rs bs us cs gs ls ms ts ws c n) → HoldsRows doc ws c.tables c.rows h.what
  holds_rows h = record {
    small = h.small;
    few = h.held.tables.few;
    tables = ap length (sym h.held.tables.are) ∙ length_tabulated _ _;
    rows = h.held.rows;
  }

  pub held_accepted : {cells : List ℕ} {c : Counts} {n : ℕ} → HoldsDocument doc ps rs bs us cs gs ls ms ts ws c n → cells ≡ cells_of c → HoldsArrays doc ps rs bs us cs gs ls ms ts ws cells (Ok (c, n))
  unfolding HeldOrNone
  held_accepted h e = record { is = record { what = h.what; is = h.is; rows = holds_rows h; holds = holds h e; labelled = holds_labels h e } }

module _ {doc ps rs bs us cs gs ls ms ts ws cells : List ℕ} where
  pub held_refused : {x : Refusal} → check doc ≡ refused (refusal_of x) → cells ≡ no_cells → HoldsArrays doc ps rs bs us cs gs ls ms ts ws cells (Err x)
  unfolding HeldOrNone
  held_refused h e = record { is = (h, ap (λ l. get_or l 0 0) e ∙ none_stored) }

  -- what the arrays are said to hold, by the answer
  pub told_accepted : {r : Result (Counts × ℕ) Refusal} {c : Counts} {n : ℕ} → HoldsArrays doc ps rs bs us cs gs ls ms ts ws cells r → r ≡ Ok (c, n) → Held doc ps rs bs us cs gs ls ms ts ws cells c n
  unfolding HeldOrNone
  told_accepted h told = subst (HeldOrNone doc ps rs bs us cs gs ls ms ts ws cells) told h.is

  pub told_refused : {r : Result (Counts × ℕ) Refusal} {x : Refusal} → HoldsArrays doc ps rs bs us cs gs ls ms ts ws cells r → r ≡ Err x → (check doc ≡ refused (refusal_of x)) × (get_or cells 0 0 ≡ 0)
  unfolding HeldOrNone
  told_refused h told = subst (HeldOrNone doc ps rs bs us cs gs ls ms ts ws cells) told h.is

  pub loads_accepted : {c : Counts} {n m : ℕ} (h : Held doc ps rs bs us cs gs ls ms ts ws cells c n) → m ≡ reserve_of h.what → LoadsDocument doc ps rs bs us cs gs ls ms ts ws cells (Ok (n, m))
  unfolding checked_as
  loads_accepted {n} {m} h e = record {
    checks = checks_document _ _ (record { is = ap (λ k. accepted (record { lines = n; reserve = k })) e ∙ checked_accepted doc (record { lines = n; doc = h.what }) h.is });
    accepts = λ _ _ _. h.holds;
    explains = λ _ _ _. h.labelled;
    refuses = λ x z. absurd (apart n m x z);
  }

  pub loads_refused : {x : Refusal} → (check doc ≡ refused (refusal_of x)) × (get_or cells 0 0 ≡ 0) → LoadsDocument doc ps rs bs us cs gs ls ms ts ws cells (Err x)
  unfolding checked_as
  loads_refused {x} h = record {
    checks = checks_document _ _ (record { is = checked_refused doc (refusal_of x) h.0 });
    accepts = λ n m z. absurd (apart n m x (sym z));
    explains = λ n m z. absurd (apart n m x (sym z));
    refuses = λ _ _. h.1;
  }

-- ---- a refused document

check_refused : {doc : List ℕ} {r : Result (ℕ × ℕ) Refusal} (x : Refusal) → ChecksDocument doc r → r ≡ Err x → check doc ≡ refused (refusal_of x)
unfolding checked_as
check_refused {doc} x h e = refused_checked doc (refusal_of x) (sym (ap checked_as e) ∙ h.is.is)

module _ (doc text : List ℕ) (c : Clock) (x : Refusal) (h : check doc ≡ refused (refusal_of x)) where
  gives : (buffer : List ℕ) → Gives (ask_unbounded doc text c) buffer buffer (Err x)
  unfolding answered_as
  gives buffer = gives_refused (ask_refused doc text c h) refl

  pub asks_refused : (buffer : List ℕ) → Asks doc text c buffer buffer (Err x)
  asks_refused buffer = gives_asks (gives buffer) (room_refused (length buffer) refl)

  pub measured_refused : Measures doc text c (Err x)
  measured_refused = measures_refused doc text c (gives []) refl

-- ---- the export

module _ {doc ps rs bs us cs gs ls ms ts ws cells figures : List ℕ} {n : ℕ} where
  pub exports_load : (x : Result (ℕ × ℕ) Refusal) → LoadsDocument doc ps rs bs us cs gs ls ms ts ws cells x → ExportsCheck doc figures n → ExportsLoad doc ps rs bs us cs gs ls ms ts ws cells figures n
  unfolding checked_as code_of
  exports_load (Ok (k, m)) h e = record {
    checks = e;
    accepts = λ _. h.accepts k m refl;
    explains = λ _. h.explains k m refl;
    refuses = λ z. absurd (z (e.code ∙ sym (code_checked doc) ∙ sym (ap code_of h.checks.is.is)));
  }
  exports_load (Err x) h e = record {
    checks = e;
    accepts = λ z. not_refused (sym (check_refused x h.checks refl) ∙ (e.accepts z).1);
    explains = λ z. not_refused (sym (check_refused x h.checks refl) ∙ (e.accepts z).1);
    refuses = λ _. h.refuses x refl;
  }

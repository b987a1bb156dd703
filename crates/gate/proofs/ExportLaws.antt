-- The code and the figures of a result. Assumes nothing.
use Prim.Native.Nat.{ℕ}
use Rattle.answer.specs.Ask as meant
use Rattle.answer.specs.Ask.{Outcome, ask, measure}
use Rattle.answer.specs.Reserve as reserve
use Rattle.answer.specs.Reserve.{IsReserve, Taken}
use Rattle.gate.proofs.DocumentLaws.{accepted_checked, code_checked}
use Rattle.gate.specs.Exports.{ExportsAsk, ExportsCheck, ExportsImport, ExportsMeasure, ExportsMeasureImport, ExportsRefusal, StoresAnswer, StoresLength, ask_figures, check_figures, code_of, measure_figures}
use Rattle.gate.specs.Outcome.{checked_as}
use Rattle.gate.specs.Reserved.{ChecksDocument, HasReserve}
use Rattle.std.specs.Prelude.{Err, Ok}
use Rattle.import.specs.Importing.{measure_import}
use Rattle.import.specs.Outside.{Imports, imported_as}
use Rattle.loaded.specs.Outside.{Asks, Measures, measured_as}
use Rattle.query.specs.Authority.{Clock}
use Rattle.stages.specs.Figures.{Figures, answered_as, figures_of, in_figures}
use Rattle.stages.specs.declared.answered.Figures as code
use Rattle.text.proofs.RefusalLaws.{not_refused}
use Rattle.text.specs.Names.{Name}
use Rattle.text.specs.Reasons.{reason_number, refusal_of}
use Rattle.text.specs.Refusal.{Result, accepted, refused}
use Rattle.text.specs.declared.refusals.Reason.TheVariants.{BufferTooShort, ClockOutOfRange, Closed, ImportTooShort, LateAttribute, MalformedRecord, MistypedQuery, NameTaken, NameUnknown, NestExplained, NoSuchDate, NoSuchRow, NotAQuery, NotAuthorised, NoteMisplaced, OverBound, RangeNotTaken, RangeReversed, RoleNotGiven, SecondRoot, SelfJoined, TooLong, UnfitField, UnknownColumn, UnknownParty, UnknownWhy, WrongForm, WrongType, WrongValues}
use Rattle.text.specs.declared.refusals.Reason.{Reason}
use Rattle.text.specs.declared.refusals.Refusal.{Refusal}
use lib.ListN.{get_or, length}
use mathlib.Core.List.{List, [], ◌∷◌}
use mathlib.Core.Path.{◌∙◌, ◌≡◌, ap, refl, subst, sym}
use native.Mathlib.Omega.{arith}
use Rattle.std.specs.Prelude as prelude

-- no refusal has the code 0
numbered : (r : Reason) → reason_number r ≡ 0 → ⊥
numbered TooLong e = omega (arith, e)
numbered WrongForm e = omega (arith, e)
numbered OverBound e = omega (arith, e)
numbered NameTaken e = omega (arith, e)
numbered NameUnknown e = omega (arith, e)
numbered SecondRoot e = omega (arith, e)
numbered WrongValues e = omega (arith, e)
numbered WrongType e = omega (arith, e)
numbered LateAttribute e = omega (arith, e)
numbered ClockOutOfRange e = omega (arith, e)
numbered NotAQuery e = omega (arith, e)
numbered UnknownParty e = omega (arith, e)
numbered RoleNotGiven e = omega (arith, e)
numbered NotAuthorised e = omega (arith, e)
numbered UnknownColumn e = omega (arith, e)
numbered MistypedQuery e = omega (arith, e)
numbered Closed e = omega (arith, e)
numbered BufferTooShort e = omega (arith, e)
numbered MalformedRecord e = omega (arith, e)
numbered UnfitField e = omega (arith, e)
numbered ImportTooShort e = omega (arith, e)
numbered SelfJoined e = omega (arith, e)
numbered UnknownWhy e = omega (arith, e)
numbered NoSuchRow e = omega (arith, e)
numbered NoteMisplaced e = omega (arith, e)
numbered NestExplained e = omega (arith, e)
numbered RangeNotTaken e = omega (arith, e)
numbered RangeReversed e = omega (arith, e)
numbered NoSuchDate e = omega (arith, e)

-- the outcome of asking and its figures have one code, and the one is accepted where the other is
code_figures : (o : Outcome) → code_of (in_figures o) ≡ code_of o
unfolding code_of in_figures
code_figures (refused r) = refl
code_figures (accepted a) = refl

pub figures_accepted : (o : Outcome) (x : Figures) → in_figures o ≡ accepted x → (a : meant.Answered) × (o ≡ accepted a)
unfolding in_figures
figures_accepted (refused r) x e = not_refused e
figures_accepted (accepted a) x e = (a, refl)

-- a document that is refused
pub refused_check : (doc figures : List ℕ) (n : ℕ) (x : prelude.Result (ℕ × ℕ) Refusal) (r : Refusal) → ChecksDocument doc x → x ≡ Err r → ExportsRefusal (refusal_of r) figures n → ExportsCheck doc figures n
unfolding checked_as code_of check_figures
refused_check doc figures n x r h told f =
    let e : refused (refusal_of r) ≡ reserve.checked doc = sym (ap checked_as told) ∙ h.is.is in
    record {
      code = f.code ∙ ap code_of e ∙ code_checked doc;
      filled = f.filled ∙ ap check_figures e;
      accepts = λ z. absurd (numbered r.reason (sym f.code ∙ z));
      reserve = λ z. absurd (numbered r.reason (sym f.code ∙ z));
    }

-- a document that is accepted
pub accepted_check : (doc figures : List ℕ) (x : prelude.Result (ℕ × ℕ) Refusal) (n m : ℕ) → ChecksDocument doc x → x ≡ Ok (n, m) → figures ≡ n ∷ m ∷ 0 ∷ 0 ∷ 0 ∷ [] → ExportsCheck doc figures 0
unfolding checked_as code_of check_figures HasReserve
accepted_check doc figures x n m h told f =
    let t : Taken = record { lines = n; reserve = m } in
    let e : accepted t ≡ reserve.checked doc = sym (ap checked_as told) ∙ h.is.is in
    let a = accepted_checked doc t e in
    record {
      code = ap code_of e ∙ code_checked doc;
      filled = f ∙ ap check_figures e;
      accepts = λ z. (a.0, a.1);
      reserve = λ z. subst (λ l. IsReserve doc (get_or l 1 0)) (sym f) (subst (HasReserve doc) told h.reserve);
    }

module _ (figures : List ℕ) (x : prelude.Result code.Figures Refusal) where
  -- a query that is refused
  pub refused_answer : (n : ℕ) (r : Refusal) → x ≡ Err r → ExportsRefusal (refusal_of r) figures n → StoresAnswer (answered_as x) figures n
  unfolding answered_as code_of ask_figures
  refused_answer n r told f =
      let e : refused (refusal_of r) ≡ answered_as x = sym (ap answered_as told) in
      record { code = f.code ∙ ap code_of e; filled = f.filled ∙ ap ask_figures e; accepts = λ z. absurd (numbered r.reason (sym f.code ∙ z)) }

  -- a query that is answered
  pub given_answer : (g : code.Figures) → x ≡ Ok g → figures ≡ g.len ∷ g.grant ∷ g.passed ∷ g.withheld ∷ g.unmatched ∷ [] → StoresAnswer (answered_as x) figures 0
  unfolding answered_as code_of ask_figures figures_of
  given_answer g told f =
      let e : accepted (figures_of g) ≡ answered_as x = sym (ap answered_as told) in
      record { code = ap code_of e; filled = f ∙ ap ask_figures e; accepts = λ z. (figures_of g, sym e) }

-- the export of an answer
pub exports_ask : (doc text : List ℕ) (c : Clock) (before after' figures : List ℕ) (n : ℕ) (x : prelude.Result code.Figures Refusal) → Asks doc text c before after' x → StoresAnswer (answered_as x) figures n → ExportsAsk doc text c before after' figures n
exports_ask doc text c before after' figures n x h s = record {
  code = s.code ∙ ap code_of h.is ∙ code_figures (ask doc text c (length before));
  filled = s.filled ∙ ap ask_figures h.is;
  buffer = h.buffer;
  answers = λ z. figures_accepted (ask doc text c (length before)) (s.accepts z).0 (sym h.is ∙ (s.accepts z).1);
}

module _ (figures : List ℕ) (o : Result ℕ) where
  -- a refusal for a length
  pub refused_length : (n : ℕ) (r : Refusal) → o ≡ refused (refusal_of r) → ExportsRefusal (refusal_of r) figures n → StoresLength o figures n
  unfolding code_of measure_figures
  refused_length n r told f = record { code = f.code ∙ ap code_of (sym told); filled = f.filled ∙ ap measure_figures (sym told); accepts = λ z. absurd (numbered r.reason (sym f.code ∙ z)) }

  -- a length
  pub stored_length : (n : ℕ) → o ≡ accepted n → figures ≡ n ∷ 0 ∷ 0 ∷ 0 ∷ 0 ∷ [] → StoresLength o figures 0
  unfolding code_of measure_figures
  stored_length n told f = record { code = ap code_of (sym told); filled = f ∙ ap measure_figures (sym told); accepts = λ z. told ∙ sym (ap (λ l. accepted (get_or l 0 0)) f) }

-- the export of a measured answer
pub exports_measure : (doc text : List ℕ) (c : Clock) (figures : List ℕ) (n : ℕ) (x : prelude.Result ℕ Refusal) → Measures doc text c x → StoresLength (measured_as x) figures n → ExportsMeasure doc text c figures n
exports_measure doc text c figures n x h s = record {
  code = s.code ∙ ap code_of h.is;
  filled = s.filled ∙ ap measure_figures h.is;
  answers = λ z. sym h.is ∙ s.accepts z;
}

-- the export of an import
pub exports_import : (bytes : List ℕ) (t l : Name) (before after' figures : List ℕ) (n : ℕ) (x : prelude.Result ℕ Refusal) → Imports bytes t l before after' x → StoresLength (imported_as x) figures n → ExportsImport bytes t l before after' figures n
exports_import bytes t l before after' figures n x i s = record { stores = subst (λ o. StoresLength o figures n) i.is s; buffer = i.buffer }

-- that of measuring one
pub exports_measure_import : (bytes : List ℕ) (t l : Name) (figures : List ℕ) (n : ℕ) (x : prelude.Result ℕ Refusal) → imported_as x ≡ measure_import bytes t l → StoresLength (imported_as x) figures n → ExportsMeasureImport bytes t l figures n
exports_measure_import bytes t l figures n x e s = subst (λ o. StoresLength o figures n) e s

-- Rows given further down (02, Q-6) in the sample session: its select for `ads`, and the same for `post` below it, with and
-- without the condition; so the claim speaks of them. By computation.
use Prim.Native.Nat.{ℕ}
use mathlib.Core.List.{List, zip_with}
use mathlib.Core.Path.{refl}
use native.Mathlib.Omega.{arith}
use Rattle.answer.proofs.Samples.{cy, ida, policy, session}
use Rattle.answer.specs.Computing.{computing}
use Rattle.answer.specs.Further.{SelectsBelow, select_text}
use Rattle.document.specs.Check.{check}
use Rattle.document.specs.Policy.{empty_doc}
use Rattle.text.proofs.RefusalLaws.{Accepts, accepted_is, accepted_or}
use Rattle.text.specs.Bytes.{ascii}

session_accepted : Accepts (check session)
unfolding computing policy ida cy session
session_accepted = tt

-- the sample's select for a purpose
unfoldable pub selecting : List ℕ → List ℕ
selecting p = select_text (ascii "select") (ascii "ana") (ascii "desk") p (ascii "sub (who) (gt due 50))")

pub sample_below : SelectsBelow session (selecting (ascii "ads")) (selecting (ascii "post"))
unfolding computing policy ida cy session selecting zip_with
sample_below = record {
  checked = accepted_or (record { lines = 0; doc = empty_doc }) (check session);
  accepts = accepted_is (record { lines = 0; doc = empty_doc }) (check session) session_accepted;
  keyword = ascii "select";
  user = ascii "ana";
  role = ascii "desk";
  P = ascii "ads";
  Q = ascii "post";
  rest = ascii "sub (who) (gt due 50))";
  is_select = refl;
  is_user = refl;
  is_role = refl;
  is_p = refl;
  is_q = refl;
  is = refl;
  is_lower = refl;
  number_p = 2;
  number_q = 3;
  known_p = refl;
  known_q = refl;
  below = refl;
  short = omega arith;
}

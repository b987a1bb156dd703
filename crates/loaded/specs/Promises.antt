-- Contract: what functions of this crate promise: over arrays that hold this very text, what asking and measuring the text give.
use Rattle.std.specs.Prelude.{ℕ, List}
use Rattle.answer.specs.Ask.{ask_unbounded}
use Rattle.loaded.specs.Holds.{Holds}
use Rattle.loaded.specs.Outside.{Asks, Measures}
use Rattle.query.specs.Authority.{Clock}
use Rattle.stages.specs.Tails.{Gives}
use Rattle.std.specs.Prelude.{Result}
use Rattle.text.specs.declared.refusals.Refusal.{Refusal}
use Rattle.stages.specs.declared.answered.Figures.{Figures}

-- asks::ask_unbounded: the answer, 18 aside
abbrev pub AskUnboundedPromise : (text ps rs bs us cs gs ms ts ws cells : List ℕ) (c : Clock) (query out out' : List ℕ) (r : Result Figures Refusal) → Type 0
AskUnboundedPromise text ps rs bs us cs gs ms ts ws cells c query out out' r = Holds text ps rs bs us cs gs ms ts ws cells → Gives (ask_unbounded text query c) out out' r

-- asks::ask_loaded: the answer
abbrev pub AskLoadedPromise : (text ps rs bs us cs gs ms ts ws cells : List ℕ) (c : Clock) (query out out' : List ℕ) (r : Result Figures Refusal) → Type 0
AskLoadedPromise text ps rs bs us cs gs ms ts ws cells c query out out' r = Holds text ps rs bs us cs gs ms ts ws cells → Asks text query c out out' r

-- measures::measure_loaded: the length of the answer
abbrev pub MeasureLoadedPromise : (text ps rs bs us cs gs ms ts ws cells : List ℕ) (c : Clock) (query : List ℕ) (r : Result ℕ Refusal) → Type 0
MeasureLoadedPromise text ps rs bs us cs gs ms ts ws cells c query r = Holds text ps rs bs us cs gs ms ts ws cells → Measures text query c r

-- What the cases of the answers mean: document 01's reason, side and value (document 01, "What the operations say"). Definitions only.
use Rattle.std.specs.Prelude.{Bool, Float, Result, Ok, Err}
use Rattle.refusals.specs.declared.Reason.{Reason}
use Rattle.refusals.specs.declared.Side.{Side}
use Rattle.refusals.specs.declared.Refusal.{Refusal}
use Rattle.outcomes.specs.declared.Answer.{Answer}
use Rattle.outcomes.specs.declared.Answer.TheVariants as answer
use Rattle.outcomes.specs.declared.Written.{Written}
use Rattle.outcomes.specs.declared.Written.TheVariants as written

-- what is answered: a number, yes or no, a blob in the output, or none of these
pub data Value : Type 0 where
  number : Float → Value
  decided : Bool → Value
  blob : Value
  nothing : Value

-- a value, or a refusal: the table's reason and the side
pub data Report : Type 0 where
  answering : Value → Report
  refused : Reason → Side → Report

abbrev pub refusing : Refusal → Report
refusing r = refused r.reason r.side

-- a distance: a number (may be NaN) or none
abbrev pub answer_report : Answer → Report
answer_report (answer.Measured d) = answering (number d)
answer_report answer.Nothing = answering nothing
answer_report (answer.Refused r) = refusing r

-- a predicate: yes or no
abbrev pub decision_report : Result Bool Refusal → Report
decision_report (Ok d) = answering (decided d)
decision_report (Err r) = refusing r

-- a blob in the output, or none
abbrev pub written_value : Written → Value
written_value written.Blob = blob
written_value written.Nothing = nothing

abbrev pub written_report : Result Written Refusal → Report
written_report (Ok w) = answering (written_value w)
written_report (Err r) = refusing r

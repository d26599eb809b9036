-- Where only running out of memory keeps a call from being done.
use Rattle.std.specs.Prelude.{◌≡◌, ℕ, ◌^◌, ◌≤◌, List, length, Option, Some, None}
use Rattle.us_world.specs.declared.fault.WorldFault.{WorldFault}
use Rattle.unistore.specs.declared.form.Form.{Form}
use Rattle.unistore.specs.declared.schedule.Script.{Script}
use Rattle.unistore.specs.declared.schedule.Schedule.TheVariants.{Read}
use Rattle.unistore.specs.Report.{PassAt}
use Rattle.unistore.specs.Schedule.{schedule_of}

-- the words are a form, and what the source has left is a text in which nothing is refused and whose lines pass no limit
pub record IsAccepted (asked : Option Form) (left : Option (List ℕ)) : Type 0 where
  pub form : Form
  pub asks : asked ≡ Some form
  pub text : List ℕ
  pub told : left ≡ Some text
  pub within : length text ≤ 2 ^ 28
  pub script : Script
  pub accepted : schedule_of text ≡ Read script None
  pub unlimited : (line : ℕ) (which : WorldFault) → ¬ PassAt script line which

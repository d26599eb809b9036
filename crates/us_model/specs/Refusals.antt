-- The numbers by which clients are told why a request is refused.
use Rattle.std.specs.Prelude.{ℕ}
use Rattle.us_model.specs.declared.refusal.Refusal.{Refusal}
use Rattle.us_model.specs.declared.refusal.Refusal.TheVariants as refusal

abbrev pub number_of : Refusal → ℕ
number_of refusal.Malformed = 1
number_of refusal.NoTransaction = 2
number_of refusal.InTransaction = 3
number_of refusal.UnknownSpace = 4
number_of refusal.OtherKind = 5
number_of refusal.TooManyOperations = 6
number_of refusal.WritesTooLong = 7
number_of refusal.AnswerTooLong = 8
number_of refusal.TooManyRequests = 9
number_of refusal.TooManySessions = 11

-- Fault: why a command is not done, 01's status word of each, and what a rule says that may end a command.
--
--   word_of f             01's status word of a fault
--   status_of r           the status word of what a rule said: 9000, or the fault's
--   worded r              what a rule said, with the word in place of the fault
--   passes sw             what a status word says to a rule that goes on at 9000 and ends at any other word
--   Permit                what is said of a call: the host may make it, or why it is refused
--
-- Assumes nothing.
use Rattle.std.specs.Prelude.{Result, Ok, Err, ℕ, ◌+◌, eqb}
use Rattle.rules.specs.declared.Fault.{Fault}
use Rattle.rules.specs.declared.Fault.TheVariants.{NotEqual, WrongLength, SecureMessaging, NoChaining, NotAllowed, Blocked, NothingHeld, WrongData, NotSupported, NotFound, NoRoom, WrongParameters, NoReference, UnknownIns, UnknownCla, JobFailed}
use Rattle.rules.specs.declared.Refusal.{Refusal}
use Rattle.rules.specs.Bytes.{iff}

abbrev pub word_of : Fault → ℕ
word_of (NotEqual left) = 0x63C0 + left
word_of WrongLength = 0x6700
word_of SecureMessaging = 0x6882
word_of NoChaining = 0x6884
word_of NotAllowed = 0x6982
word_of Blocked = 0x6983
word_of NothingHeld = 0x6985
word_of WrongData = 0x6A80
word_of NotSupported = 0x6A81
word_of NotFound = 0x6A82
word_of NoRoom = 0x6A84
word_of WrongParameters = 0x6A86
word_of NoReference = 0x6A88
word_of UnknownIns = 0x6D00
word_of UnknownCla = 0x6E00
word_of JobFailed = 0x6F00

abbrev pub status_of : Result (Unit {0}) Fault → ℕ
status_of (Ok u) = 0x9000
status_of (Err f) = word_of f

abbrev pub worded : {A : Type 0} → Result A Fault → Result A ℕ
worded (Ok a) = Ok a
worded (Err f) = Err (word_of f)

abbrev pub passes : ℕ → Result (Unit {0}) ℕ
passes sw = iff (eqb sw 0x9000) (Ok tt) (Err sw)

abbrev pub Permit : Type 0
Permit = Result (Unit {0}) Refusal

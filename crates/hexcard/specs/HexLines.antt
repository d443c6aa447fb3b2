-- HexLines: the program of 01's "Checked examples", line by line.
--
--   is_command l          the line is a command in hex
--   turn st resp c        the command c on the card; a job that it opens is reported as failed at once
--   printed o             what is printed for a command: response data and status word
--   answered st resp l out    what a line comes to
--
-- Assumes nothing.
use Rattle.std.specs.Prelude.{Bool, true, ◌&&◌, List, [], ◌∷◌, ◌++◌, ℕ, ltb, length, take}
use Rattle.rules.specs.declared.Answer.{Answer}
use Rattle.rules.specs.declared.Answer.TheVariants.{PoweredOn, Response, JobOpened, Refused}
use Rattle.rules.specs.Bytes.{iff}
use Rattle.rules.specs.Session.{State, state}
use Rattle.rules.specs.Calls.{Outcome, sends, finishes, call}
use Rattle.lines.specs.Seen.{Seen, tells, bad_line}
use Rattle.text.specs.Text.{is_hex, bytes_of}
use Rattle.printing.specs.Printing.{hex_of}

-- a line that is empty, of odd length or not hex reaches no card
unfoldable pub is_command : List ℕ → Bool
is_command l = ltb 0 (length l) && is_hex l

-- ---- the card

unfoldable pub closed : Answer → Outcome → Outcome
closed PoweredOn o = o
closed (Response n) o = o
closed (JobOpened key alg n) o = (call (state o.store o.work o.reply.session) (finishes o.resp true [])).outcome
closed (Refused r) o = o

unfoldable pub turn : State → List ℕ → List ℕ → Outcome
turn st resp c = let o = (call st (sends resp c)).outcome in closed o.reply.answer o

-- ---- what is printed, with the end of its line

-- the program makes no call that is refused; it would print an empty line
abbrev pub shown : Answer → ℕ
shown PoweredOn = 0
shown (Response n) = n
shown (JobOpened key alg n) = 0
shown (Refused r) = 0

unfoldable pub printed : Outcome → List ℕ
printed o = hex_of (take (shown o.reply.answer) o.resp) ++ (10 ∷ [])

-- ---- all that is seen of a line

unfoldable pub told : Outcome → List ℕ → Seen
told o out = tells (state o.store o.work o.reply.session) o.resp (printed o) out

unfoldable pub answered : State → List ℕ → List ℕ → List ℕ → Seen
answered st resp l out = iff (is_command l) (told (turn st resp (bytes_of l)) out) (tells st resp bad_line out)

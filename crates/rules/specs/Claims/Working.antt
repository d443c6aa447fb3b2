-- Working: what the work area holds, over every run from an accepted power-on: from its start, either the data of an open command chain, joined,
-- or a whole response not yet fetched, and zeros behind it (01, "What the host lends").
--
--   whole_answer s h d    the whole answer of SELECT or GET DATA, of the command h with the data d
--   result_answer j r     the whole answer to the result r of the job j
--   held_by st ss h d f   what is held after the command h with the data d, made in st where f was held; ss is the session after it
--   held_after st k f     what is held after the call k, made in st where f was held
--   ledger st f ks        what is held after a row of calls, made from st where f was held
--   Holds                 the claim
--
-- The ledger never looks into the work area: it is written from the calls, and from whether the session says that a chain or a rest is held.
-- Assumes nothing.
use Rattle.std.specs.Prelude.{◌≡◌, Option, None, Some, Ok, Err, Bool, List, [], ◌∷◌, ◌++◌, ℕ, ◌-◌, eqb, length, take}
use Rattle.rules.specs.declared.Job.{Job}
use Rattle.rules.specs.declared.Header.{Header}
use Rattle.rules.specs.declared.Session.{Session}
use Rattle.rules.specs.Fault.{Permit}
use Rattle.rules.specs.Bytes.{iff, zeros}
use Rattle.rules.specs.Ber.{tlv}
use Rattle.rules.specs.Store.{work_size, object_of}
use Rattle.rules.specs.Session.{State, state, held_length, chain_open, rest_held}
use Rattle.rules.specs.Command.{Checked, field_of, check}
use Rattle.rules.specs.Held.{goes_on}
use Rattle.rules.specs.Objects.{template, asked_in, object_tag}
use Rattle.rules.specs.Calls.{Call, powers, sends, finishes, permit, call}
use Rattle.rules.specs.Runs.{leaves, end_of}
use Rattle.rules.specs.Claims.Invariants.{Plain, Each}

-- ---- whole answers

-- tag, length and value of the object asked for
abbrev pub object_answer : List ℕ → Option ℕ → List ℕ
object_answer s None = []
object_answer s (Some i) = tlv (object_tag i) (object_of s i)

-- no other command answers data of its own
unfoldable pub whole_answer : List ℕ → Header → List ℕ → List ℕ
whole_answer s h d = iff (eqb h.ins 0xA4) template (object_answer s (asked_in d))

-- 7C{81 challenge}, or 7C{82 result}
unfoldable pub result_answer : Option Job → List ℕ → List ℕ
result_answer None r = []
result_answer (Some j) r = iff (eqb j.key 0x9B) (tlv 0x7C (tlv 0x81 (take 8 r))) (tlv 0x7C (tlv 0x82 r))

-- ---- what is held after a call

-- a chain is open: the data of its pieces so far, if the command went on with it, and the command's own behind them
-- a rest is left: after GET RESPONSE of the same answer as before, after another command of its own
unfoldable pub held_by : State → Session → Header → List ℕ → List ℕ → List ℕ
held_by st ss h d f =
    iff (chain_open ss.chain) (iff (goes_on st.session.chain h) f [] ++ d)
    (iff (rest_held ss.rest) (iff (eqb h.ins 0xC0) f (whole_answer st.store h d))
    [])

-- a command that fails checks 1 to 5 leaves nothing held
abbrev pub held_checked : State → Session → List ℕ → List ℕ → Checked → List ℕ
held_checked st ss c f (Err sw) = []
held_checked st ss c f (Ok h) = held_by st ss h (field_of c h) f

abbrev pub held_granted : State → Session → List ℕ → Call → List ℕ
held_granted st ss f (powers air) = []
held_granted st ss f (sends resp c) = held_checked st ss c f (check st.session.contactless c)
held_granted st ss f (finishes resp failed r) = iff (rest_held ss.rest) (result_answer st.session.job r) []

-- a refused call leaves what was held
abbrev pub held_decided : State → Call → List ℕ → Permit → List ℕ
held_decided st k f (Ok u) = held_granted st (leaves (call st k)).session f k
held_decided st k f (Err r) = f

unfoldable pub held_after : State → Call → List ℕ → List ℕ
held_after st k f = held_decided st k f (permit st k)

unfoldable pub ledger : State → List ℕ → List Call → List ℕ
ledger st f [] = f
ledger st f (k ∷ ks) = ledger (leaves (call st k)) (held_after st k f) ks

-- ---- the claim

-- whatever session and work area there were before the power-on; calls that are refused, and further power-ons, are part of a run
-- work: the ledger, and zeros behind it
-- long: as much of it as the session says
pub record Holds : Type 0 where
  pub work : (s w : List ℕ) (ss : Session) (air : Bool) → permit (state s w ss) (powers air) ≡ Ok tt → (ks : List Call) → Each Plain ks
      → (l : List ℕ) → l ≡ ledger (state s w ss) [] (powers air ∷ ks)
      → (end_of (state s w ss) (powers air ∷ ks)).work ≡ l ++ zeros (work_size - length l)
  pub long : (s w : List ℕ) (ss : Session) (air : Bool) → permit (state s w ss) (powers air) ≡ Ok tt → (ks : List Call) → Each Plain ks
      → length (ledger (state s w ss) [] (powers air ∷ ks)) ≡ held_length (end_of (state s w ss) (powers air ∷ ks)).session

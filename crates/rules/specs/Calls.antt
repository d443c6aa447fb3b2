-- Calls: the three calls of the host, total over whatever is handed in (01, "Calls the host may not make").
--
--   ruled st ch h d       the command h with the data d, by its own rules
--   command st c          the command whose bytes are c: dropping, checks, rules
--   refusal_number r      01's number of a refusal
--   Call                  a call: power-on, a command, the result of a job; with the response buffer that is lent
--   permit st k           may the host make the call? The row of refusals
--   Outcome               all that is seen of a call: reply, store, work area, response buffer
--   Result                an outcome, and beside it the steps made and what was written
--   call st k             what a call comes to
--
-- Assumes nothing.
use Rattle.std.specs.Prelude.{Option, Ok, Err, Bool, false, not, ◌&&◌, List, [], ◌++◌, ℕ, ◌+◌, ltb, eqb, length}
use Rattle.rules.specs.declared.Header.{Header}
use Rattle.rules.specs.declared.Session.{Session}
use Rattle.rules.specs.declared.Refusal.{Refusal}
use Rattle.rules.specs.declared.Refusal.TheVariants.{IllStore, IllSession, ShortResponse, WrongWork, JobOpen, NoJob, WrongResult}
use Rattle.rules.specs.declared.Answer.{Answer}
use Rattle.rules.specs.declared.Answer.TheVariants.{PoweredOn, Response, JobOpened, Refused}
use Rattle.rules.specs.declared.Reply.{Reply}
use Rattle.rules.specs.Bytes.{iff, splice, zeros, word}
use Rattle.rules.specs.Fault.{Permit}
use Rattle.rules.specs.Store.{work_size, response_size, well_formed}
use Rattle.rules.specs.Session.{State, cleared, possible, job_open}
use Rattle.rules.specs.Command.{Checked, check, field_of, Told, responds, opens_job, Step, Wrote, nothing, Made, says}
use Rattle.rules.specs.Held.{calm, dropped}
use Rattle.rules.specs.Pin.{verify, change, reset, refs, on_refs}
use Rattle.rules.specs.Objects.{select, get_data, get_response, put_data}
use Rattle.rules.specs.Keys.{authenticate, result_fits, finished}

-- ---- a command

-- check 6: the command's own rules. Every command drops the rest of a response, except a GET RESPONSE that hands part of it out;
-- only 87 and DB go on with a chain
unfoldable pub ruled : State → Option ℕ → Header → List ℕ → Made
ruled st ch h d =
    iff (eqb h.ins 0xA4) (select (dropped st) h d)
    (iff (eqb h.ins 0xCB) (get_data (dropped st) h d)
    (iff (eqb h.ins 0xC0) (get_response st h d)
    (iff (eqb h.ins 0x20) (on_refs (dropped st) (verify (refs st) h d))
    (iff (eqb h.ins 0x24) (on_refs (dropped st) (change (refs st) h d))
    (iff (eqb h.ins 0x2C) (on_refs (dropped st) (reset (refs st) h d))
    (iff (eqb h.ins 0x87) (authenticate ch st h d)
    (put_data st h d)))))))

-- a command that fails checks 1 to 5 drops what is held
unfoldable pub obeyed : State → Option ℕ → List ℕ → Checked → Made
obeyed st ch c (Err sw) = says (dropped st) sw
obeyed st ch c (Ok h) = ruled st ch h (field_of c h)

-- every command drops a held challenge; 87 may compare it first
unfoldable pub command : State → List ℕ → Made
command st c = obeyed (calm st) st.session.challenge c (check st.session.contactless c)

-- ---- calls, and those the host may not make

pub data Call : Type 0 where
  powers : Bool → Call
  sends : List ℕ → List ℕ → Call
  finishes : List ℕ → Bool → List ℕ → Call

-- 01's numbers
abbrev pub refusal_number : Refusal → ℕ
refusal_number IllStore = 1
refusal_number IllSession = 2
refusal_number ShortResponse = 3
refusal_number WrongWork = 4
refusal_number JobOpen = 5
refusal_number NoJob = 6
refusal_number WrongResult = 7

-- power-on takes no session and is lent no response buffer
unfoldable pub ill_session : Call → Session → Bool
ill_session (powers air) ss = false
ill_session (sends resp c) ss = not (possible ss)
ill_session (finishes resp failed r) ss = not (possible ss)

unfoldable pub short_response : Call → Bool
short_response (powers air) = false
short_response (sends resp c) = ltb (length resp) response_size
short_response (finishes resp failed r) = ltb (length resp) response_size

unfoldable pub interrupts : Call → Session → Bool
interrupts (powers air) ss = false
interrupts (sends resp c) ss = job_open ss
interrupts (finishes resp failed r) ss = false

unfoldable pub unasked : Call → Session → Bool
unasked (powers air) ss = false
unasked (sends resp c) ss = false
unasked (finishes resp failed r) ss = not (job_open ss)

-- a job reported as failed has no result
unfoldable pub wrong_result : Call → Session → Bool
wrong_result (powers air) ss = false
wrong_result (sends resp c) ss = false
wrong_result (finishes resp failed r) ss = not failed && not (result_fits ss.job r)

unfoldable pub permit : State → Call → Permit
permit st k =
    iff (not (well_formed st.store)) (Err IllStore)
    (iff (ill_session k st.session) (Err IllSession)
    (iff (short_response k) (Err ShortResponse)
    (iff (not (eqb (length st.work) work_size)) (Err WrongWork)
    (iff (interrupts k st.session) (Err JobOpen)
    (iff (unasked k st.session) (Err NoJob)
    (iff (wrong_result k st.session) (Err WrongResult)
    (Ok tt)))))))

-- ---- all that is seen of a call

pub record Outcome : Type 0 where
  pub reply : Reply
  pub store : List ℕ
  pub work : List ℕ
  pub resp : List ℕ

pub record Result : Type 0 where
  pub outcome : Outcome
  pub steps : List Step
  pub wrote : Wrote

abbrev pub outcome : Reply → List ℕ → List ℕ → List ℕ → Outcome
outcome r s w resp = record { reply = r; store = s; work = w; resp = resp }

abbrev pub reply : Answer → Session → Reply
reply a ss = record { answer = a; session = ss }

-- power-on is lent no response buffer: it is seen as empty
unfoldable pub lent : Call → List ℕ
lent (powers air) = []
lent (sends resp c) = resp
lent (finishes resp failed r) = resp

-- data and status word become bytes here and nowhere else; a job's data are written without one
unfoldable pub told_bytes : Told → List ℕ
told_bytes (responds d sw) = d ++ word sw
told_bytes (opens_job key alg d) = d

unfoldable pub told_answer : Told → Answer
told_answer (responds d sw) = Response (length d + 2)
told_answer (opens_job key alg d) = JobOpened key alg (length d)

-- written from the start of the response buffer, the rest stays
unfoldable pub delivered : List ℕ → Made → Result
delivered resp m = record {
  outcome = outcome (reply (told_answer m.told) m.after.session) m.after.store m.after.work (splice resp 0 (told_bytes m.told));
  steps = m.steps;
  wrote = m.wrote;
}

-- power-on zeroes the work area, fixes the interface and clears all else
unfoldable pub powered_on : State → Bool → Result
powered_on st air = record {
  outcome = outcome (reply PoweredOn (cleared air)) st.store (zeros work_size) [];
  steps = [];
  wrote = nothing;
}

unfoldable pub granted : State → Call → Result
granted st (powers air) = powered_on st air
granted st (sends resp c) = delivered resp (command st c)
granted st (finishes resp failed r) = delivered resp (finished st st.session.job failed r)

-- a refused call returns the same session, a refused power-on a cleared one with the interface it was given
unfoldable pub kept_session : Call → Session → Session
kept_session (powers air) ss = cleared air
kept_session (sends resp c) ss = ss
kept_session (finishes resp failed r) ss = ss

-- and changes no lent byte
unfoldable pub denied : State → Call → Refusal → Result
denied st k r = record {
  outcome = outcome (reply (Refused r) (kept_session k st.session)) st.store st.work (lent k);
  steps = [];
  wrote = nothing;
}

unfoldable pub decided : State → Call → Permit → Result
decided st k (Ok u) = granted st k
decided st k (Err r) = denied st k r

unfoldable pub call : State → Call → Result
call st k = decided st k (permit st k)

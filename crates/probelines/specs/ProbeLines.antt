-- ProbeLines: the lines of the program probe that make calls, and those that change what is lent.
--
--   shows r s w p out     a call's outcome is printed
--   called o out          a command or a job result, with its outcome
--   asks st p w d out     the call w with the digits d
--   powered o p out       a power-on: the response buffer p is not lent
--   session_at l          the session that a line gives
--   answered st p l out   what a line comes to, on the card st with the response buffer p
--
-- A line that lends another buffer is the program's own: it places the bytes and lends as many (`place` of `crates/placing`, at 0).
-- Assumes nothing.
use Rattle.std.specs.Prelude.{Bool, true, false, Option, Some, None, List, [], ◌∷◌, ℕ, drop}
use Rattle.rules.specs.declared.Reply.{Reply}
use Rattle.rules.specs.declared.Session.{Session}
use Rattle.rules.specs.Bytes.{iff}
use Rattle.rules.specs.Session.{State, state}
use Rattle.rules.specs.Calls.{Outcome, powers, call}
use Rattle.text.specs.Text.{is_hex, bytes_of}
use Rattle.lines.specs.declared.What.{What}
use Rattle.lines.specs.Asked.{asked}
use Rattle.lines.specs.Seen.{Seen, tells, bad_line}
use Rattle.placing.specs.Placing.{place}
use Rattle.unpacked.specs.Unpacked.{session_in}
use Rattle.outcomes.specs.Outcomes.{outcome_line}
use Rattle.verbs.specs.declared.Buffer.{Buffer}
use Rattle.verbs.specs.declared.Buffer.TheVariants.{Store, Work, Resp}
use Rattle.verbs.specs.declared.Verb.{Verb}
use Rattle.verbs.specs.declared.Verb.TheVariants.{Lend, Put, Session as SessionLine, PowerOn, Ask, Other}
use Rattle.verbs.specs.Verbs.{verb_of}

-- "ok", and the end of the line
abbrev pub ok_line : List ℕ
ok_line = 111 ∷ 107 ∷ 10 ∷ []

unfoldable pub says : State → List ℕ → Bool → List ℕ → Seen
says st p ok out = tells st p (iff ok ok_line bad_line) out

-- ---- calls

unfoldable pub shows : Reply → List ℕ → List ℕ → List ℕ → List ℕ → Seen
shows r s w p out = tells (state s w r.session) p (outcome_line r s w p) out

unfoldable pub called : Outcome → List ℕ → Seen
called o out = shows o.reply o.store o.work o.resp out

unfoldable pub powered : Outcome → List ℕ → List ℕ → Seen
powered o p out = shows o.reply o.store o.work p out

-- a line with a call: its digits are hex; a job that failed has none
unfoldable pub asks : State → List ℕ → What → List ℕ → List ℕ → Seen
asks st p w d out = iff (is_hex d) (called (call st (asked w p (bytes_of d))).outcome out) (tells st p bad_line out)

-- ---- what is lent

unfoldable pub session_at : List ℕ → Option Session
session_at d = iff (is_hex d) (session_in (bytes_of d)) None

abbrev pub taken : State → List ℕ → Option Session → List ℕ → Seen
taken st p (Some ss) out = says (state st.store st.work ss) p true out
taken st p None out = says st p false out

abbrev pub put : State → List ℕ → List ℕ → Buffer → ℕ → ℕ → List ℕ → Seen
put st p l Store at from out =
    let q = place st.store l at from in says (state q.bytes st.work st.session) p q.ok out
put st p l Work at from out =
    let q = place st.work l at from in says (state st.store q.bytes st.session) p q.ok out
put st p l Resp at from out =
    let q = place p l at from in says st q.bytes q.ok out

-- ---- a line

unfoldable pub by_verb : State → List ℕ → List ℕ → List ℕ → Verb → Seen
by_verb st p l out (Lend b from) = tells st p bad_line out
by_verb st p l out (Put b at from) = put st p l b at from out
by_verb st p l out SessionLine = taken st p (session_at (drop 8 l)) out
by_verb st p l out (PowerOn air) = powered (call st (powers air)).outcome p out
by_verb st p l out (Ask w from) = asks st p w (drop from l) out
by_verb st p l out Other = tells st p bad_line out

unfoldable pub answered : State → List ℕ → List ℕ → List ℕ → Seen
answered st p l out = by_verb st p l out (verb_of l)

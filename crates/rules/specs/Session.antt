-- Session: what is passed by value from call to call, and which sessions are possible (01, "What the host lends", refusal 2).
--
--   cleared air           the session of a power-on on that interface
--   with_pin with_admin with_challenge with_job  a session with one thing changed
--   holding ss c r        the session with that chain and that rest
--   pin_given ss          the PIN status is TRUE
--   readable ss i         the object in slot i may be read now
--   rest_of whole fetched  the rest of a response of that length, of which so much is fetched
--   job_of key alg le     a job with that key, that algorithm and that expected length
--   chain_length c        the bytes of a chain
--   whole_length r        the length of a response of which a rest is held
--   held_length ss        the number of bytes that the work area holds
--   job_open ss           a job is open
--   possible ss           ss is a session that a call takes
--   State                 store, work area and session: what passes from one call to the next
--   state s w ss          these three as a state
--   storing st s · in_session st ss   a state with one of the three replaced
--
-- Assumes nothing.
use Rattle.std.specs.Prelude.{Option, Some, None, is_some, Bool, true, false, not, ◌&&◌, ◌||◌, List, [], ◌∷◌, ℕ, ◌+◌, ltb, leb, eqb, get_or}
use Rattle.rules.specs.declared.Chain.{Chain}
use Rattle.rules.specs.declared.Rest.{Rest}
use Rattle.rules.specs.declared.Job.{Job}
use Rattle.rules.specs.declared.Session.{Session}
use Rattle.rules.specs.Bytes.{iff, all_true}
use Rattle.rules.specs.declared.Access.{Access}
use Rattle.rules.specs.declared.Access.TheVariants.{Always, WithPin, Never}
use Rattle.rules.specs.Store.{work_size, contact_read, contactless_read}

-- ---- one setter for each group of fields

abbrev pub cleared : Bool → Session
cleared air = record {
  contactless = air;
  pin = false;
  admin = false;
  chain = None;
  rest = None;
  challenge = None;
  job = None;
}

abbrev pub with_pin : Session → Bool → Session
with_pin ss b = record {
  contactless = ss.contactless;
  pin = b;
  admin = ss.admin;
  chain = ss.chain;
  rest = ss.rest;
  challenge = ss.challenge;
  job = ss.job;
}

abbrev pub with_admin : Session → Bool → Session
with_admin ss b = record {
  contactless = ss.contactless;
  pin = ss.pin;
  admin = b;
  chain = ss.chain;
  rest = ss.rest;
  challenge = ss.challenge;
  job = ss.job;
}

abbrev pub holding : Session → Option Chain → Option Rest → Session
holding ss c r = record {
  contactless = ss.contactless;
  pin = ss.pin;
  admin = ss.admin;
  chain = c;
  rest = r;
  challenge = ss.challenge;
  job = ss.job;
}

abbrev pub with_challenge : Session → Option ℕ → Session
with_challenge ss c = record {
  contactless = ss.contactless;
  pin = ss.pin;
  admin = ss.admin;
  chain = ss.chain;
  rest = ss.rest;
  challenge = c;
  job = ss.job;
}

abbrev pub with_job : Session → Option Job → Session
with_job ss j = record {
  contactless = ss.contactless;
  pin = ss.pin;
  admin = ss.admin;
  chain = ss.chain;
  rest = ss.rest;
  challenge = ss.challenge;
  job = j;
}

-- ---- what a session allows

abbrev pub pin_given : Session → Bool
pin_given ss = ss.pin

abbrev pub allows : Session → Access → Bool
allows ss Always = true
allows ss WithPin = pin_given ss
allows ss Never = false

unfoldable pub readable : Session → ℕ → Bool
readable ss i = allows ss (iff ss.contactless (get_or contactless_read i Never) (get_or contact_read i Never))

-- ---- what it holds

abbrev pub rest_of : ℕ → ℕ → Rest
rest_of whole fetched = record { whole = whole; fetched = fetched }

abbrev pub job_of : ℕ → ℕ → ℕ → Job
job_of key alg le = record { key = key; alg = alg; le = le }

abbrev pub chain_length : Option Chain → ℕ
chain_length None = 0
chain_length (Some c) = c.len

abbrev pub whole_length : Option Rest → ℕ
whole_length None = 0
whole_length (Some r) = r.whole

-- never both in a possible session
abbrev pub held_length : Session → ℕ
held_length ss = chain_length ss.chain + whole_length ss.rest

abbrev pub chain_open : Option Chain → Bool
chain_open c = is_some c

abbrev pub rest_held : Option Rest → Bool
rest_held r = is_some r

abbrev pub challenge_held : Option ℕ → Bool
challenge_held c = is_some c

abbrev pub running : Option Job → Bool
running j = is_some j

abbrev pub job_open : Session → Bool
job_open ss = running ss.job

-- ---- which are possible: refusal 2, the other way round

-- the most bytes that a chain of GENERAL AUTHENTICATE and one of PUT DATA may have
abbrev pub auth_total : ℕ
auth_total = 266

abbrev pub put_total : ℕ
put_total = work_size

-- INS 87 or DB; at most 13,321 bytes, of an 87 chain at most 266
abbrev pub chain_ok : Option Chain → Bool
chain_ok None = true
chain_ok (Some c) = leb c.len work_size && iff (eqb c.ins 0x87) (leb c.len auth_total) (eqb c.ins 0xDB)

-- at most 13,321 bytes, and something left to fetch
abbrev pub rest_ok : Option Rest → Bool
rest_ok None = true
rest_ok (Some r) = leb r.whole work_size && ltb r.fetched r.whole

unfoldable pub user_key : ℕ → Bool
user_key key = eqb key 0x9A || eqb key 0x9C || eqb key 0x9D || eqb key 0x9E

unfoldable pub user_algorithm : ℕ → Bool
user_algorithm alg = eqb alg 0x07 || eqb alg 0x11

-- 9B with 00, or one of 9A, 9C, 9D, 9E with 07 or 11
unfoldable pub key_job_ok : ℕ → ℕ → Bool
key_job_ok key alg = iff (eqb key 0x9B) (eqb alg 0x00) (user_key key && user_algorithm alg)

-- an expected length of 1 to 256
abbrev pub job_ok : Option Job → Bool
job_ok None = true
job_ok (Some j) = key_job_ok j.key j.alg && leb 1 j.le && leb j.le 256

unfoldable pub session_tests : Session → List Bool
session_tests ss =
    chain_ok ss.chain
    ∷ rest_ok ss.rest
    ∷ not (chain_open ss.chain && rest_held ss.rest)
    ∷ not (job_open ss && (chain_open ss.chain || rest_held ss.rest || challenge_held ss.challenge))
    ∷ job_ok ss.job
    ∷ []

unfoldable pub possible : Session → Bool
possible ss = all_true (session_tests ss)

-- ---- what passes from one call to the next

pub record State : Type 0 where
  pub store : List ℕ
  pub work : List ℕ
  pub session : Session

abbrev pub state : List ℕ → List ℕ → Session → State
state s w ss = record { store = s; work = w; session = ss }

abbrev pub storing : State → List ℕ → State
storing st s = state s st.work st.session

abbrev pub in_session : State → Session → State
in_session st ss = state st.store st.work ss

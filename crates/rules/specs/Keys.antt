-- Keys: GENERAL AUTHENTICATE and its jobs (01, "GENERAL AUTHENTICATE").
--
--   key_fits s h          P1 is the algorithm of the key P2, and the key is there
--   auth_each st h n      what the rules for each piece say, n bytes in all
--   contents d            the contents of the template 7C that is all of d
--   admin_form t          what the contents t of an administrator's template say
--   key_form key alg t    where the data for a key stand in the contents t
--   replied st ch r       the administrator's reply r is judged; ch is the challenge held when the call began
--   auth_whole ch h st d  GENERAL AUTHENTICATE at the last piece
--   authenticate ch st h d    GENERAL AUTHENTICATE
--   result_fits j r       r can be the result of the job j
--   finished st j failed r    the job j is reported as failed, or as done with the result r
--
-- Assumes nothing.
use Rattle.std.specs.Prelude.{Option, Some, None, Bool, true, false, not, ◌&&◌, ◌||◌, List, [], ℕ, ◌+◌, ltb, leb, eqb, length, take, get_or}
use Rattle.rules.specs.declared.Job.{Job}
use Rattle.rules.specs.declared.Place.{Place}
use Rattle.rules.specs.declared.Admin.{Admin}
use Rattle.rules.specs.declared.Admin.TheVariants.{GiveChallenge, Reply}
use Rattle.rules.specs.declared.Header.{Header}
use Rattle.rules.specs.Bytes.{iff, part, be64}
use Rattle.rules.specs.Ber.{object_at, last_at, tlv}
use Rattle.rules.specs.Store.{algorithm_of}
use Rattle.rules.specs.Session.{State, in_session, with_admin, with_challenge, with_job, job_of, pin_given, chain_length, auth_total}
use Rattle.rules.specs.Command.{Made, opens_job, tells, says}
use Rattle.rules.specs.Held.{send, based, piece}

-- ---- the rules for each piece

unfoldable pub key_fits : List ℕ → Header → Bool
key_fits s h =
    iff (eqb h.p2 0x9B) (eqb h.p1 0x00)
    (not (eqb (algorithm_of s h.p2) 0x00) && eqb h.p1 (algorithm_of s h.p2))

unfoldable pub asks_pin : ℕ → Bool
asks_pin key = eqb key 0x9A || eqb key 0x9C || eqb key 0x9D

unfoldable pub auth_each : State → Header → ℕ → ℕ
auth_each st h n =
    iff (not (leb 0x9A h.p2 && leb h.p2 0x9E)) 0x6A86
    (iff (not (key_fits st.store h)) 0x6A86
    (iff (st.session.contactless && not (eqb h.p2 0x9E)) 0x6982
    (iff (asks_pin h.p2 && not (pin_given st.session)) 0x6982
    (iff (ltb auth_total n) 0x6A80
    0x9000))))

-- ---- forms

unfoldable pub contents : List ℕ → Option Place
contents d = last_at d 0 0x7C

-- 81 empty, and no more
unfoldable pub challenge_in : Option Place → Option Admin
challenge_in None = None
challenge_in (Some v) = iff (eqb v.len 0) (Some GiveChallenge) None

-- 82 and eight bytes, and no more
unfoldable pub reply_in : Option Place → Option Admin
reply_in None = None
reply_in (Some v) = iff (eqb v.len 8) (Some (Reply v.from)) None

unfoldable pub admin_form : List ℕ → Option Admin
admin_form t = iff (eqb (get_or t 0 0) 0x81) (challenge_in (last_at t 0 0x81)) (reply_in (last_at t 0 0x82))

-- 9D with 11 takes a point (85) instead of data (81)
unfoldable pub data_tag : ℕ → ℕ → ℕ
data_tag key alg = iff (eqb key 0x9D && eqb alg 0x11) 0x85 0x81

-- 256 data bytes for 07, 32 for 11; for 9D with 11 they are 04 and 64 bytes
unfoldable pub data_ok : ℕ → ℕ → List ℕ → ℕ → ℕ → Bool
data_ok key alg t from n =
    iff (eqb alg 0x07) (eqb n 256)
    (iff (eqb key 0x9D) (eqb n 65 && eqb (get_or t from 0) 0x04)
    (eqb n 32))

-- the data, which end the template
unfoldable pub data_in : ℕ → ℕ → List ℕ → Option Place → Option Place
data_in key alg t None = None
data_in key alg t (Some v) =
    iff (data_ok key alg t v.from v.len) (Some v) None

-- behind 82 empty
unfoldable pub data_after : ℕ → ℕ → List ℕ → Option Place → Option Place
data_after key alg t None = None
data_after key alg t (Some v) =
    iff (eqb v.len 0) (data_in key alg t (last_at t v.from (data_tag key alg))) None

unfoldable pub key_form : ℕ → ℕ → List ℕ → Option Place
key_form key alg t = data_after key alg t (object_at t 0 0x82)

-- ---- the last piece

-- no challenge held 6985; equal to the expected reply, administrator TRUE, 9000; else FALSE, 6982
unfoldable pub replied : State → Option ℕ → ℕ → Made
replied st None r = says st 0x6985
replied st (Some reply) r =
    iff (eqb reply r) (says (in_session st (with_admin st.session true)) 0x9000)
    (says (in_session st (with_admin st.session false)) 0x6982)

-- a job is opened: its key, its algorithm and the expected length are kept
unfoldable pub opened : State → ℕ → ℕ → ℕ → List ℕ → Made
opened st key alg le d = tells (in_session st (with_job st.session (Some (job_of key alg le)))) (opens_job key alg d)

unfoldable pub auth_admin : Option ℕ → State → ℕ → List ℕ → Option Admin → Made
auth_admin ch st le t (Some GiveChallenge) = opened st 0x9B 0x00 le []
auth_admin ch st le t (Some (Reply from)) = replied st ch (be64 t from)
auth_admin ch st le t None = says st 0x6A80

unfoldable pub auth_key : State → Header → List ℕ → Option Place → Made
auth_key st h t None = says st 0x6A80
auth_key st h t (Some v) = opened st h.p2 h.p1 h.le (part t v.from v.len)

unfoldable pub auth_in : Option ℕ → Header → State → List ℕ → Made
auth_in ch h st t =
    iff (eqb h.p2 0x9B) (auth_admin ch st h.le t (admin_form t))
    (auth_key st h t (key_form h.p2 h.p1 t))

unfoldable pub auth_form : Option ℕ → Header → State → List ℕ → Option Place → Made
auth_form ch h st d None = says st 0x6A80
auth_form ch h st d (Some v) = auth_in ch h st (part d v.from v.len)

unfoldable pub auth_whole : Option ℕ → Header → State → List ℕ → Made
auth_whole ch h st d = auth_form ch h st d (contents d)

unfoldable pub auth_piece : Option ℕ → State → Header → List ℕ → Made
auth_piece ch st h d = piece st h d (auth_each st h (chain_length st.session.chain + length d)) (auth_whole ch h)

unfoldable pub authenticate : Option ℕ → State → Header → List ℕ → Made
authenticate ch st h d = auth_piece ch (based st h) h d

-- ---- jobs

-- 16 bytes for a challenge; 256 bytes (07), 1 to 72 (11) or 32 (9D with 11)
unfoldable pub result_ok : ℕ → ℕ → List ℕ → Bool
result_ok key alg r =
    iff (eqb key 0x9B) (eqb (length r) 16)
    (iff (eqb alg 0x07) (eqb (length r) 256)
    (iff (eqb key 0x9D) (eqb (length r) 32)
    (leb 1 (length r) && leb (length r) 72)))

unfoldable pub result_fits : Option Job → List ℕ → Bool
result_fits None r = false
result_fits (Some j) r = result_ok j.key j.alg r

-- the 16 result bytes are the challenge and the expected reply, and the answer is 7C{81 challenge}
unfoldable pub challenged : State → ℕ → List ℕ → Made
challenged st le r =
    send (in_session st (with_challenge st.session (Some (be64 r 8)))) le (tlv 0x7C (tlv 0x81 (take 8 r)))

-- reported as failed: 6F00; else the result is answered as 7C{82 result}
unfoldable pub answered : State → ℕ → ℕ → Bool → List ℕ → Made
answered st key le failed r =
    iff failed (says st 0x6F00)
    (iff (eqb key 0x9B) (challenged st le r)
    (send st le (tlv 0x7C (tlv 0x82 r))))

-- with no job open the call is refused, so what stands in that row is never met
unfoldable pub finished : State → Option Job → Bool → List ℕ → Made
finished st None failed r = says st 0x6F00
finished st (Some j) failed r =
    answered (in_session st (with_job st.session None)) j.key j.le failed r

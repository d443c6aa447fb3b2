-- Unpacked: the session that 64 bytes are of.
--
--   unpacked b            the session that the bytes b would be of
--   session_in b          the session whose bytes are b, if there is one
--
-- Where each thing stands is said in `Packed`. Assumes nothing.
use Rattle.std.specs.Prelude.{Bool, Option, Some, None, not, ◌&&◌, List, ℕ, eqb, length, get_or}
use Rattle.rules.specs.declared.Chain.{Chain}
use Rattle.rules.specs.declared.Rest.{Rest}
use Rattle.rules.specs.declared.Job.{Job}
use Rattle.rules.specs.declared.Session.{Session}
use Rattle.rules.specs.Bytes.{iff, same_bytes, be16, be64}
use Rattle.rules.specs.Session.{rest_of, job_of}
use Rattle.packed.specs.Packed.{packed}

abbrev pub flag_at : List ℕ → ℕ → Bool
flag_at b at = not (eqb (get_or b at 0) 0)

unfoldable pub chain_in : List ℕ → Option Chain
chain_in b = iff (flag_at b 3) (Some (record { ins = get_or b 4 0; p1 = get_or b 5 0; p2 = get_or b 6 0; len = be16 b 7 })) None

unfoldable pub rest_in : List ℕ → Option Rest
rest_in b = iff (flag_at b 9) (Some (rest_of (be16 b 10) (be16 b 12))) None

unfoldable pub challenge_in : List ℕ → Option ℕ
challenge_in b = iff (flag_at b 14) (Some (be64 b 15)) None

unfoldable pub job_in : List ℕ → Option Job
job_in b = iff (flag_at b 23) (Some (job_of (get_or b 24 0) (get_or b 25 0) (be16 b 26))) None

unfoldable pub unpacked : List ℕ → Session
unpacked b = record {
  contactless = flag_at b 0;
  pin = flag_at b 1;
  admin = flag_at b 2;
  chain = chain_in b;
  rest = rest_in b;
  challenge = challenge_in b;
  job = job_in b;
}

-- each session has one form: bytes that are of no session do not come back the same
unfoldable pub session_in : List ℕ → Option Session
session_in b = iff (eqb (length b) 64 && same_bytes (packed (unpacked b)) b) (Some (unpacked b)) None

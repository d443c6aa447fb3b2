-- Packed: a session as 64 bytes.
--
--   packed ss             the bytes of a session: interface, PIN status, administrator status; chain, rest, challenge, job; zeros
--
-- Each thing that may be absent is a mark, 1 where it is there, and its fields; of a thing that is not there all bytes are 0.
-- Two-byte numbers have the high byte first. Assumes nothing.
use Rattle.std.specs.Prelude.{Option, None, Some, Bool, true, false, List, [], ◌∷◌, ◌++◌, ℕ, ◌/◌, ◌%◌}
use Rattle.rules.specs.declared.Chain.{Chain}
use Rattle.rules.specs.declared.Rest.{Rest}
use Rattle.rules.specs.declared.Job.{Job}
use Rattle.rules.specs.declared.Session.{Session}
use Rattle.rules.specs.Bytes.{zeros}

abbrev pub flag : Bool → ℕ
flag true = 1
flag false = 0

abbrev pub chain_bytes : Option Chain → List ℕ
chain_bytes None = 0 ∷ 0 ∷ 0 ∷ 0 ∷ 0 ∷ 0 ∷ []
chain_bytes (Some c) = 1 ∷ c.ins ∷ c.p1 ∷ c.p2 ∷ c.len / 256 % 256 ∷ c.len % 256 ∷ []

abbrev pub rest_bytes : Option Rest → List ℕ
rest_bytes None = 0 ∷ 0 ∷ 0 ∷ 0 ∷ 0 ∷ []
rest_bytes (Some r) = 1 ∷ r.whole / 256 % 256 ∷ r.whole % 256 ∷ r.fetched / 256 % 256 ∷ r.fetched % 256 ∷ []

-- the eight bytes of the expected reply
abbrev pub reply_bytes : ℕ → List ℕ
reply_bytes r =
    r / 72057594037927936 % 256 ∷ r / 281474976710656 % 256 ∷ r / 1099511627776 % 256 ∷ r / 4294967296 % 256
    ∷ r / 16777216 % 256 ∷ r / 65536 % 256 ∷ r / 256 % 256 ∷ r % 256 ∷ []

abbrev pub challenge_bytes : Option ℕ → List ℕ
challenge_bytes None = 0 ∷ 0 ∷ 0 ∷ 0 ∷ 0 ∷ 0 ∷ 0 ∷ 0 ∷ 0 ∷ []
challenge_bytes (Some r) = 1 ∷ reply_bytes r

abbrev pub job_bytes : Option Job → List ℕ
job_bytes None = 0 ∷ 0 ∷ 0 ∷ 0 ∷ 0 ∷ []
job_bytes (Some j) = 1 ∷ j.key ∷ j.alg ∷ j.le / 256 % 256 ∷ j.le % 256 ∷ []

abbrev pub flag_bytes : Session → List ℕ
flag_bytes ss = flag ss.contactless ∷ flag ss.pin ∷ flag ss.admin ∷ []

unfoldable pub packed : Session → List ℕ
packed ss =
    flag_bytes ss ++ chain_bytes ss.chain ++ rest_bytes ss.rest ++ challenge_bytes ss.challenge ++ job_bytes ss.job ++ zeros 36

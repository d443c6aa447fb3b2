-- Outcomes: the line that shows all of a call: what it answered, the session, and a sum of each buffer.
--
--   kind a resp           R, J, N or P, and what belongs to it
--   session_text ss       a space, and the session's 64 bytes in hex
--   sum_text s            a space, and the sum of a buffer in decimal
--   sums_text s w p       the sums of store, work area and response buffer
--   outcome_line r s w p  the whole line, with its end
--
-- Assumes nothing.
use Rattle.std.specs.Prelude.{List, [], ◌∷◌, ◌++◌, ℕ, ◌+◌, take}
use Rattle.rules.specs.declared.Answer.{Answer}
use Rattle.rules.specs.declared.Answer.TheVariants.{PoweredOn, Response, JobOpened, Refused}
use Rattle.rules.specs.declared.Reply.{Reply}
use Rattle.rules.specs.declared.Session.{Session}
use Rattle.rules.specs.Calls.{refusal_number}
use Rattle.printing.specs.Printing.{hex_of}
use Rattle.packed.specs.Packed.{packed}
use Rattle.outcomes.specs.Sums.{sum_of, decimal_of}

-- "R" and the response bytes; "J" and the job's key, algorithm and data; "N" and the refusal's number; "P -"
unfoldable pub kind : Answer → List ℕ → List ℕ
kind PoweredOn resp = 80 ∷ 32 ∷ 45 ∷ []
kind (Response n) resp = 82 ∷ (32 ∷ hex_of (take n resp))
kind (JobOpened key alg n) resp = 74 ∷ (32 ∷ hex_of (key ∷ alg ∷ [])) ++ (58 ∷ hex_of (take n resp))
kind (Refused r) resp = 78 ∷ 32 ∷ (48 + refusal_number r) ∷ []

unfoldable pub session_text : Session → List ℕ
session_text ss = 32 ∷ hex_of (packed ss)

unfoldable pub sum_text : List ℕ → List ℕ
sum_text s = 32 ∷ decimal_of 10 (sum_of s)

unfoldable pub sums_text : List ℕ → List ℕ → List ℕ → List ℕ
sums_text s w p = sum_text s ++ sum_text w ++ sum_text p

unfoldable pub outcome_line : Reply → List ℕ → List ℕ → List ℕ → List ℕ
outcome_line r s w p = kind r.answer p ++ session_text r.session ++ sums_text s w p ++ (10 ∷ [])

-- Seen: all that is seen of a line which a program answers on the card.
--
--   Seen                  session, store, work area and response buffer after it; how much is printed, and the buffer with it
--   tells st p t out      nothing but the text t is told: the card is st, its response buffer p
--   bad_line              what is printed for a line that says nothing
--
-- Assumes nothing.
use Rattle.std.specs.Prelude.{List, [], ◌∷◌, ℕ, length}
use Rattle.rules.specs.declared.Session.{Session}
use Rattle.rules.specs.Bytes.{splice}
use Rattle.rules.specs.Session.{State}

pub record Seen : Type 0 where
  pub session : Session
  pub store : List ℕ
  pub work : List ℕ
  pub resp : List ℕ
  pub len : ℕ
  pub out : List ℕ

abbrev pub seen : Session → List ℕ → List ℕ → List ℕ → ℕ → List ℕ → Seen
seen ss s w resp n out = record { session = ss; store = s; work = w; resp = resp; len = n; out = out }

abbrev pub tells : State → List ℕ → List ℕ → List ℕ → Seen
tells st p t out = seen st.session st.store st.work p (length t) (splice out 0 t)

-- ---- a line that nobody understands

-- "bad line", and the end of the line
abbrev pub bad_line : List ℕ
bad_line = 98 ∷ 97 ∷ 100 ∷ 32 ∷ 108 ∷ 105 ∷ 110 ∷ 101 ∷ 10 ∷ []

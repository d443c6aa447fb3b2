-- Command: from bytes to a command (01, "From bytes to a command"), and what a command comes to.
--
--   Checked               a command that passes a check, or the status word that ends it
--   le_of b               the expected length that a byte says
--   header c lc le        the command whose bytes are c, with that many data bytes and that expected length
--   field_of c h          its data
--   parse c               check 1
--   admit air h           checks 2 to 5, on that interface
--   check air c           checks 1 to 5
--   Told                  what a command tells: data and a status word, or a job for the host
--   Which Step            a reference, and a step made on it
--   Wrote                 the slot that took a value, and the value
--   Made                  what a command comes to: what it tells, the state after it, the steps made and what was written
--   tells st t · says st sw    a command that tells t, or a status word alone, and leaves the state st
--
-- Assumes nothing.
use Rattle.std.specs.Prelude.{Result, Ok, Err, Bool, not, ◌&&◌, ◌||◌, List, [], ℕ, ◌+◌, ltb, eqb, length, get_or}
use Rattle.rules.specs.declared.Header.{Header}
use Rattle.rules.specs.Bytes.{iff, part}
use Rattle.rules.specs.Session.{State}

-- a command that passes a check, or the status word that ends it
abbrev pub Checked : Type 0
Checked = Result Header ℕ

-- ---- check 1: the length

-- Le 00 or absent means 256
unfoldable pub le_of : ℕ → ℕ
le_of b = iff (eqb b 0) 256 b

unfoldable pub header : List ℕ → ℕ → ℕ → Header
header c lc le = record { cla = get_or c 0 0; ins = get_or c 1 0; p1 = get_or c 2 0; p2 = get_or c 3 0; lc = lc; le = le }

unfoldable pub field_of : List ℕ → Header → List ℕ
field_of c h = part c 5 h.lc

-- more than five bytes: Lc (1 to 255), data, perhaps Le
unfoldable pub parse_long : List ℕ → ℕ → Checked
parse_long c lc =
    iff (eqb lc 0) (Err 0x6700)
    (iff (eqb (length c) (5 + lc)) (Ok (header c lc 256))
    (iff (eqb (length c) (6 + lc)) (Ok (header c lc (le_of (get_or c (5 + lc) 0))))
    (Err 0x6700)))

-- length 4: header only; length 5: header and Le
unfoldable pub parse : List ℕ → Checked
parse c =
    iff (ltb (length c) 4 || ltb 261 (length c)) (Err 0x6700)
    (iff (eqb (length c) 4) (Ok (header c 0 256))
    (iff (eqb (length c) 5) (Ok (header c 0 (le_of (get_or c 4 0))))
    (parse_long c (get_or c 4 0))))

-- ---- checks 2 to 5

unfoldable pub known : ℕ → Bool
known ins =
    eqb ins 0xA4 || eqb ins 0xCB || eqb ins 0xC0 || eqb ins 0x20
    || eqb ins 0x24 || eqb ins 0x2C || eqb ins 0x87 || eqb ins 0xDB

unfoldable pub chains : ℕ → Bool
chains ins = eqb ins 0x87 || eqb ins 0xDB

unfoldable pub contact_only : ℕ → Bool
contact_only ins = eqb ins 0x20 || eqb ins 0x24 || eqb ins 0x2C || eqb ins 0xDB

unfoldable pub admit : Bool → Header → Checked
admit air h =
    iff (eqb h.cla 0x0C || eqb h.cla 0x1C) (Err 0x6882)
    (iff (not (eqb h.cla 0x00 || eqb h.cla 0x10)) (Err 0x6E00)
    (iff (not (known h.ins)) (Err 0x6D00)
    (iff (eqb h.cla 0x10 && not (chains h.ins)) (Err 0x6884)
    (iff (contact_only h.ins && air) (Err 0x6A81)
    (Ok h)))))

unfoldable pub admitted : Bool → Checked → Checked
admitted air (Err sw) = Err sw
admitted air (Ok h) = admit air h

unfoldable pub check : Bool → List ℕ → Checked
check air c = admitted air (parse c)

-- ---- what a command comes to

pub data Told : Type 0 where
  responds : List ℕ → ℕ → Told
  opens_job : ℕ → ℕ → List ℕ → Told

pub data Which : Type 0 where
  the_pin the_puk : Which

pub data Step : Type 0 where
  charge equal unequal restore : Which → Step
  new_value : Which → List ℕ → Step

pub data Wrote : Type 0 where
  nothing : Wrote
  in_slot : ℕ → List ℕ → Wrote

pub record Made : Type 0 where
  pub told : Told
  pub after : State
  pub steps : List Step
  pub wrote : Wrote

abbrev pub tells : State → Told → Made
tells st t = record { told = t; after = st; steps = []; wrote = nothing }

abbrev pub says : State → ℕ → Made
says st sw = tells st (responds [] sw)

-- Possible: the tests of a possible session, one by one, and what can be held beside what.
--
--   Tests ss               each test of the session ss passes
--   possible_tests possible_by    they are those of a possible session
--   chain_fits held_fits_by       a chain, and all that is held, fits the work area
--   no_chain no_rest none_open    what is not held beside a rest, a chain or an open job
--
-- Assumes nothing.
use Rattle.std.specs.Prelude.{Option, None, Some}
use mathlib.Core.Path.{◌≡◌, refl, ap, sym, ◌∙◌}
use mathlib.Core.Bool.{Bool, true, not, ◌&&◌, ◌||◌, false≢true}
use Prim.Native.Nat.{ℕ, ◌+◌, ◌≤◌}
use native.Mathlib.Omega.{arith}
use lib.Dec.{leb}
use lib.ListN.{get_or}
use borrow.Author.Tests.{leb-true}
use Rattle.rules.specs.declared.Chain.{Chain}
use Rattle.rules.specs.declared.Rest.{Rest}
use Rattle.rules.specs.declared.Session.{Session}
use Rattle.rules.specs.Store.{work_size}
use Rattle.rules.specs.Session.{chain_length, whole_length, chain_open, rest_held, challenge_held, job_open, chain_ok, rest_ok, job_ok, session_tests, possible}
use Rattle.rules.proofs.Tests.{and_left, and_both, each-true}

pub record Tests (ss : Session) : Type 0 where
  pub chain : chain_ok ss.chain ≡ true
  pub rest : rest_ok ss.rest ≡ true
  pub apart : not (chain_open ss.chain && rest_held ss.rest) ≡ true
  pub alone : not (job_open ss && (chain_open ss.chain || rest_held ss.rest || challenge_held ss.challenge)) ≡ true
  pub job : job_ok ss.job ≡ true

pub possible_tests : (ss : Session) → possible ss ≡ true → Tests ss
unfolding possible session_tests
possible_tests ss e =
    let h : (k : ℕ) → get_or (session_tests ss) k true ≡ true = each-true (session_tests ss) e in
    record { chain = h 0; rest = h 1; apart = h 2; alone = h 3; job = h 4 }

pub possible_by : (ss : Session) → Tests ss → possible ss ≡ true
unfolding possible session_tests
possible_by ss f =
    and_both (chain_ok ss.chain) _ f.chain (and_both (rest_ok ss.rest) _ f.rest (and_both _ _ f.apart (and_both _ _ f.alone (and_both (job_ok ss.job) true f.job refl))))

pub chain_fits : (c : Option Chain) → chain_ok c ≡ true → chain_length c ≤ work_size
chain_fits None e = omega arith
chain_fits (Some c) e = leb-true c.len work_size (and_left (leb c.len work_size) _ e)

pub held_fits_by : (c : Option Chain) (r : Option Rest) → chain_ok c ≡ true → rest_ok r ≡ true → not (chain_open c && rest_held r) ≡ true → chain_length c + whole_length r ≤ work_size
held_fits_by None None a b o = omega arith
held_fits_by None (Some r) a b o = omega (arith, leb-true r.whole work_size (and_left (leb r.whole work_size) _ b))
held_fits_by (Some c) None a b o = omega (arith, chain_fits (Some c) a)
held_fits_by (Some c) (Some r) a b o = absurd (false≢true o)

-- with a rest there is no chain, and with a chain no rest
pub no_chain : (c : Option Chain) (r : Option Rest) → not (chain_open c && rest_held r) ≡ true → rest_held r ≡ true → chain_length c ≡ 0
no_chain None r o e = refl
no_chain (Some c) r o e = absurd (false≢true (sym (ap not e) ∙ o))

pub no_rest : (c : Option Chain) (r : Option Rest) → not (chain_open c && rest_held r) ≡ true → chain_open c ≡ true → whole_length r ≡ 0
no_rest c None o e = refl
no_rest None (Some r) o e = absurd (false≢true e)
no_rest (Some c) (Some r) o e = absurd (false≢true o)

-- with a job open nothing is held
pub none_open : (c : Option Chain) (r : Option Rest) (h : Bool) → not (chain_open c || rest_held r || h) ≡ true → chain_length c + whole_length r ≡ 0
none_open None None h e = refl
none_open None (Some r) h e = absurd (false≢true e)
none_open (Some c) r h e = absurd (false≢true e)

-- Laws: the parts of a packed session, one behind the other.
--
--   packed-length          a packed session has 64 bytes
--   packed_parts           a row of 64 bytes in which each part was put at its place
--
-- Assumes nothing.
use Rattle.std.specs.Prelude.{Option, None, Some}
use mathlib.Core.Path.{◌≡◌, refl, ap₂, sym, ◌∙◌}
use mathlib.Core.List.{List, ◌++◌}
use Prim.Native.Nat.{ℕ, ◌+◌, ◌≤◌}
use native.Mathlib.Omega.{arith}
use lib.ListN.{length, length-append}
use Rattle.rules.specs.declared.Chain.{Chain}
use Rattle.rules.specs.declared.Rest.{Rest}
use Rattle.rules.specs.declared.Job.{Job}
use Rattle.rules.specs.declared.Session.{Session}
use Rattle.rules.specs.Bytes.{splice, zeros}
use Rattle.rules.proofs.Lists.{join-start, length-zeros}
use Rattle.octets.proofs.Laws.{whole}
use Rattle.packed.specs.Packed.{flag_bytes, chain_bytes, rest_bytes, challenge_bytes, job_bytes, packed}

-- ---- the length of each part

chain_six : (c : Option Chain) → length (chain_bytes c) ≡ 6
chain_six None = refl
chain_six (Some c) = refl

rest-five : (r : Option Rest) → length (rest_bytes r) ≡ 5
rest-five None = refl
rest-five (Some r) = refl

challenge_nine : (c : Option ℕ) → length (challenge_bytes c) ≡ 9
challenge_nine None = refl
challenge_nine (Some r) = refl

job-five : (j : Option Job) → length (job_bytes j) ≡ 5
job-five None = refl
job-five (Some j) = refl

pub packed-length : (ss : Session) → length (packed ss) ≡ 64
unfolding packed
packed-length ss = simp length-append (omega (arith, chain_six ss.chain, rest-five ss.rest, challenge_nine ss.challenge, job-five ss.job, length-zeros 36))

-- ---- one part more

-- what was put so far ends at the place k, and the next part goes there
record Put (d u : List ℕ) (k : ℕ) (x : List ℕ) : Type 0 where
  long : length u ≡ k
  put : x ≡ splice d 0 u

more : {d u x : List ℕ} {k : ℕ} (y v : List ℕ) (n : ℕ) → Put d u k x → length v ≡ n → y ≡ splice x k v → k + n ≤ length d → Put d (u ++ v) (k + n) y
more {d} {u} {x} {k} y v n p l e h = record {
  long = length-append u v ∙ ap₂ {C = ℕ} (λ a b. a + b) p.long l;
  put = e ∙ ap₂ {C = List ℕ} (λ (s : List ℕ) (i : ℕ). splice s i v) p.put (sym p.long) ∙ join-start d u v (omega (arith, p.long));
}

pub packed_parts : (ss : Session) (d x₁ x₂ x₃ x₄ x₅ x₆ : List ℕ) → length d ≡ 64
    → x₁ ≡ splice d 0 (flag_bytes ss) → x₂ ≡ splice x₁ 3 (chain_bytes ss.chain) → x₃ ≡ splice x₂ 9 (rest_bytes ss.rest)
    → x₄ ≡ splice x₃ 14 (challenge_bytes ss.challenge) → x₅ ≡ splice x₄ 23 (job_bytes ss.job) → x₆ ≡ splice x₅ 28 (zeros 36)
    → x₆ ≡ packed ss
unfolding packed
packed_parts ss d x₁ x₂ x₃ x₄ x₅ x₆ h e₁ e₂ e₃ e₄ e₅ e₆ =
    let p₁ : Put d (flag_bytes ss) 3 x₁ = record { long = refl; put = e₁ } in
    let p₂ = more x₂ (chain_bytes ss.chain) 6 p₁ (chain_six ss.chain) e₂ (omega arith) in
    let p₃ = more x₃ (rest_bytes ss.rest) 5 p₂ (rest-five ss.rest) e₃ (omega arith) in
    let p₄ = more x₄ (challenge_bytes ss.challenge) 9 p₃ (challenge_nine ss.challenge) e₄ (omega arith) in
    let p₅ = more x₅ (job_bytes ss.job) 5 p₄ (job-five ss.job) e₅ (omega arith) in
    let p₆ = more x₆ (zeros 36) 36 p₅ (length-zeros 36) e₆ (omega arith) in
    p₆.put ∙ whole d _ (omega (arith, h, p₆.long))

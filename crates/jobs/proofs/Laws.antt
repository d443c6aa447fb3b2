-- Laws: the template that goes out, and the results of a job.
--
--   two-heads              the two heads of 7C{tag value}, written one behind the other
--   le_small               the expected length of a job that is possible is at most 256
--   fits_sixteen fits_short    the result of a challenge is 16 bytes, any result at most 256
--
-- Assumes nothing.
use mathlib.Core.Path.{◌≡◌, ap, sym, ◌∙◌}
use mathlib.Core.Bool.{Bool, true, false, ◌&&◌}
use mathlib.Core.List.{List, ◌∷◌, ◌++◌, append_assoc}
use Prim.Native.Nat.{ℕ, ◌+◌, ◌≤◌}
use native.Mathlib.Omega.{arith}
use lib.Dec.{eqb, leb}
use lib.ListN.{length, take, length-append}
use lib.Seq.{take_at}
use borrow.Author.Tests.{eq-eqb, eqb-true, leb-true}
use Rattle.std.specs.Prelude.{Some}
use Rattle.rules.specs.declared.Job.{Job}
use Rattle.rules.specs.Bytes.{iff, splice}
use Rattle.rules.specs.Ber.{length_bytes, ber_length, tlv}
use Rattle.rules.specs.Session.{key_job_ok, job_ok}
use Rattle.rules.specs.Keys.{result_ok}
use Rattle.rules.proofs.Tests.{on, and_right}
use Rattle.rules.proofs.Lists.{splice-next}
use Rattle.heads.proofs.Laws.{one_to_three, length_ber, length-tlv}

-- ---- heads

written : (s w : List ℕ) (r : ℕ) → length w ≡ r → take r (splice s 0 w) ≡ w
unfolding splice
written s w r e = take_at w _ r e

module _ (s x y v : List ℕ) (at r tag k : ℕ) where
  pub two-heads : length v ≤ 256 → 8 ≤ length s
      → k ≡ 1 + length_bytes (length v) + length v → at ≡ 0 + 1 + length_bytes k → r ≡ at + 1 + length_bytes (length v)
      → x ≡ splice s 0 (0x7C ∷ ber_length k) → y ≡ splice x at (tag ∷ ber_length (length v)) → take r y ++ v ≡ tlv 0x7C (tlv tag v)
  unfolding tlv
  two-heads h hs ek ea er ex ey =
      let o : List ℕ = 0x7C ∷ ber_length k in
      let u : List ℕ = tag ∷ ber_length (length v) in
      let lv : length_bytes (length v) ≤ 3 = (one_to_three (length v)).1 in
      let lk : length_bytes k ≤ 3 = (one_to_three k).1 in
      let lo : 0 + length o ≡ at = omega (arith, length_ber k (omega arith)) in
      let lu : length (o ++ u) ≡ r = length-append o u ∙ omega (arith, length_ber (length v) (omega arith)) in
      let e : y ≡ splice s 0 (o ++ u) =
      ey ∙ ap (λ (z : List ℕ). splice z at u) ex ∙ ap (λ (n : ℕ). splice (splice s 0 o) n u) (sym lo) ∙ splice-next s o u 0 (omega arith) in
      ap (λ (z : List ℕ). take r z ++ v) e
      ∙ ap (λ (z : List ℕ). z ++ v) (written s (o ++ u) r lu)
      ∙ append_assoc o u v
      ∙ ap (λ (n : ℕ). (0x7C ∷ ber_length n) ++ tlv tag v) (ek ∙ sym (length-tlv tag v (omega arith)))

-- ---- what a possible job and its result are

module _ (j : Job) where
  pub le_small : job_ok (Some j) ≡ true → j.le ≤ 256
  le_small o = leb-true j.le 256 (and_right (key_job_ok j.key j.alg && leb 1 j.le) (leb j.le 256) o)

  module _ (r : List ℕ) (o : result_ok j.key j.alg r ≡ true) where
    pub fits_sixteen : j.key ≡ 0x9B → length r ≡ 16
    unfolding result_ok
    fits_sixteen p = eqb-true (length r) 16 (sym (on _ _ _ (eq-eqb j.key 0x9B p)) ∙ o)

    pub fits_short : length r ≤ 256
    unfolding result_ok iff
    fits_short = go (eqb j.key 0x9B) (eqb j.alg 0x07) (eqb j.key 0x9D) o
      where
        go : (a b c : Bool)
            → iff a (eqb (length r) 16) (iff b (eqb (length r) 256) (iff c (eqb (length r) 32) (leb 1 (length r) && leb (length r) 72))) ≡ true → length r ≤ 256
        go true b c q = omega (arith, eqb-true (length r) 16 q)
        go false true c q = omega (arith, eqb-true (length r) 256 q)
        go false false true q = omega (arith, eqb-true (length r) 32 q)
        go false false false q = omega (arith, leb-true (length r) 72 (and_right (leb 1 (length r)) (leb (length r) 72) q))

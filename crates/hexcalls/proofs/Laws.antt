-- Laws: of a command and of a result, no more than the first 262 bytes matter.
--
--   sends-long             two commands that are too long
--   asked-few              a call, and its first bytes
--   asked-read             a call, and the bytes of it that are read of a row of digits
--
-- Assumes nothing.
use Rattle.std.specs.Prelude.{Option, None, Some, Ok, Err}
use mathlib.Core.Path.{◌≡◌, refl, ap, sym, ◌∙◌}
use mathlib.Core.Bool.{Bool, false, not, true≢false}
use mathlib.Core.List.{List}
use Prim.Native.Nat.{ℕ, ◌/◌, ◌≤◌, ◌<◌, min}
use native.Mathlib.Omega.{arith}
use lib.ListN.{length, take, length-take}
use lib.Seq.{take_all, take-append-le}
use Rattle.rules.specs.declared.Job.{Job}
use Rattle.rules.specs.Fault.{Permit}
use Rattle.std.proofs.lemmas.Bool.Decides.{nat_tests}
use Rattle.rules.specs.Bytes.{iff, splice}
use Rattle.rules.specs.Session.{State}
use Rattle.rules.specs.Command.{parse, admitted, check}
use Rattle.rules.specs.Keys.{result_ok, result_fits}
use Rattle.rules.specs.Calls.{obeyed, command, ill_session, short_response, interrupts, unasked, wrong_result, permit, granted, denied, lent, kept_session, decided, call, delivered, sends, finishes}
use Rattle.rules.proofs.Tests.{by_order}
use Rattle.rules.proofs.Permits.{granted_lets}
use Rattle.lines.specs.declared.What.{What}
use Rattle.lines.specs.declared.What.TheVariants.{Command, Done, Failed as HasFailed}
use Rattle.lines.specs.Asked.{asked}
use Rattle.text.specs.Text.{bytes_of}
use Rattle.text.proofs.Laws.{length-bytes}

-- ---- the bytes that are read into the start of a buffer

module _ (l x z : List ℕ) (n : ℕ) (few : n ≡ min (length l / 2) 262) (put : x ≡ splice z 0 (take n (bytes_of l))) where
  taken : length (take n (bytes_of l)) ≡ n
  taken = simp length-take (omega (arith, length-bytes l))

  read_back : take n x ≡ take n (bytes_of l)
  unfolding splice
  read_back = rw put (take-append-le n (take n (bytes_of l)) _ (omega (arith, taken)) ∙ take_all n (take n (bytes_of l)) (omega (arith, taken)))

-- the first bytes of a row that are read
first : (c : List ℕ) (n : ℕ) → n ≡ min (length c) 262 → length c ≤ 262 → take n c ≡ c
first c n e h = take_all n c (omega arith)

-- ---- commands

check-long : (air : Bool) (c : List ℕ) → 261 < length c → check air c ≡ Err 0x6700
unfolding check parse admitted iff
check-long air c h = grind (arith, nat_tests)

command-long : (st : State) (c d : List ℕ) → 261 < length c → 261 < length d → command st c ≡ command st d
unfolding command obeyed
command-long st c d hc hd = rw (check-long st.session.contactless c hc, check-long st.session.contactless d hd)

sends-same : (st : State) (resp c d : List ℕ) → command st c ≡ command st d → (call st (sends resp c)).outcome ≡ (call st (sends resp d)).outcome
unfolding call permit ill_session short_response interrupts unasked wrong_result decided granted denied lent kept_session
sends-same st resp c d e = go (permit st (sends resp c))
  where
    go : (p : Permit) → (decided st (sends resp c) p).outcome ≡ (decided st (sends resp d) p).outcome
    go (Ok u) = ap (λ m. (delivered resp m).outcome) e
    go (Err r) = refl

pub sends-long : (st : State) (resp c d : List ℕ) → 261 < length c → 261 < length d → (call st (sends resp c)).outcome ≡ (call st (sends resp d)).outcome
sends-long st resp c d hc hd = sends-same st resp c d (command-long st c d hc hd)

sends-few : (st : State) (resp c : List ℕ) (n : ℕ) → n ≡ min (length c) 262
    → (call st (sends resp (take n c))).outcome ≡ (call st (sends resp c)).outcome
sends-few st resp c n e =
    by_order 262 (length c)
    (λ h. sends-long st resp (take n c) c (omega (arith, length-take n c)) (omega arith))
    (λ h. ap (λ (x : List ℕ). (call st (sends resp x)).outcome) (first c n e h))

-- ---- results

result-long : (j : Option Job) (r : List ℕ) → 261 < length r → result_fits j r ≡ false
unfolding result_fits result_ok iff
result-long None r h = refl
result-long (Some j) r h = grind (arith, nat_tests)

module _ (st : State) (resp r q : List ℕ) (hr : result_fits st.session.job r ≡ false) (hq : result_fits st.session.job q ≡ false) where
  never : permit st (finishes resp false r) ≡ Ok tt → ⊥
  unfolding wrong_result
  never e = true≢false (sym (ap not hr) ∙ (granted_lets st (finishes resp false r) e).result)

  same-permit : permit st (finishes resp false r) ≡ permit st (finishes resp false q)
  unfolding permit ill_session short_response interrupts unasked wrong_result
  same-permit = rw (hr, hq)

  finishes-same : (call st (finishes resp false r)).outcome ≡ (call st (finishes resp false q)).outcome
  unfolding call decided denied lent kept_session
  finishes-same = go (permit st (finishes resp false r)) refl ∙ ap (λ (p : Permit). (decided st (finishes resp false q) p).outcome) same-permit
    where
      go : (p : Permit) → permit st (finishes resp false r) ≡ p → (decided st (finishes resp false r) p).outcome ≡ (decided st (finishes resp false q) p).outcome
      go (Ok u) e = absurd (never e)
      go (Err x) e = refl

finishes-few : (st : State) (resp r : List ℕ) (n : ℕ) → n ≡ min (length r) 262
    → (call st (finishes resp false (take n r))).outcome ≡ (call st (finishes resp false r)).outcome
finishes-few st resp r n e =
    by_order 262 (length r)
    (λ h. finishes-same st resp (take n r) r (result-long _ (take n r) (omega (arith, length-take n r))) (result-long _ r (omega arith)))
    (λ h. ap (λ (x : List ℕ). (call st (finishes resp false x)).outcome) (first r n e h))

-- ---- calls

pub asked-few : (w : What) (st : State) (resp c : List ℕ) (n : ℕ) → n ≡ min (length c) 262
    → (call st (asked w resp (take n c))).outcome ≡ (call st (asked w resp c)).outcome
asked-few Command st resp c n e = sends-few st resp c n e
asked-few Done st resp c n e = finishes-few st resp c n e
asked-few HasFailed st resp c n e = refl

pub asked-read : (w : What) (st : State) (resp l x z : List ℕ) (n : ℕ) → n ≡ min (length l / 2) 262 → x ≡ splice z 0 (take n (bytes_of l))
    → (call st (asked w resp (take n x))).outcome ≡ (call st (asked w resp (bytes_of l))).outcome
asked-read w st resp l x z n few put =
    ap (λ (d : List ℕ). (call st (asked w resp d)).outcome) (read_back l x z n few put)
    ∙ asked-few w st resp (bytes_of l) n (omega (arith, length-bytes l))

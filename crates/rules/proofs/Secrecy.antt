-- A found card tells its finder nothing (specs/Claims/Secrecy).
-- Assumes nothing.
use Rattle.std.specs.Prelude.{Ok, Err}
use mathlib.Core.Path.{◌≡◌, refl, sym, subst}
use mathlib.Core.Bool.{Bool, true, false}
use mathlib.Core.List.{List, [], ◌∷◌}
use Prim.Native.Nat.{ℕ}
use Rattle.rules.specs.Fault.{Permit}
use Rattle.rules.specs.declared.Refusal.{Refusal}
use Rattle.rules.specs.declared.Answer.{Answer}
use Rattle.rules.specs.declared.Session.{Session}
use Rattle.rules.specs.Reference.{reference_at}
use Rattle.rules.specs.Session.{state}
use Rattle.rules.specs.Command.{the_pin, the_puk, Step, Wrote, Made}
use Rattle.rules.specs.Calls.{Call, powers, sends, finishes, permit, Result, outcome, reply, delivered, powered_on, granted, kept_session, denied, decided, call}
use Rattle.rules.specs.Runs.{leaves, run}
use Rattle.rules.specs.Claims.Secrecy.{no_equal, NoneEqual, Same, AllSame, Holds}
use Rattle.rules.proofs.Quiet.{Pair, Twin, twin, tries_same, command_quiet, finished_quiet}
use Rattle.rules.proofs.Permits.{granted_lets, call-granted}

-- two results that show the same, with stores that are a pair
data Shows : Result → Result → Type 0 where
  shows : (a : Answer) (ss : Session) (w resp : List ℕ) (ps : List Step) (o : Wrote) (s t : List ℕ) → ss.pin ≡ false → Pair s t
      → Shows (record { outcome = outcome (reply a ss) s w resp; steps = ps; wrote = o }) (record { outcome = outcome (reply a ss) t w resp; steps = ps; wrote = o })

delivered-shows : (resp : List ℕ) (x y : Made) → Twin x y → Shows (delivered resp x) (delivered resp y)
unfolding delivered
delivered-shows resp _ _ (twin x w ss ps o s t pn k) = shows _ ss w _ ps o s t pn k

module _ (s t w : List ℕ) (ss : Session) (pn : ss.pin ≡ false) (k : Pair s t) where
  -- both calls are granted, or refused by the same number
  permit-same : (c : Call) → permit (state s w ss) c ≡ permit (state t w ss) c
  unfolding permit
  permit-same c = rw (k.first, k.second)

  granted-shows : (c : Call) → no_equal (granted (state s w ss) c).steps ≡ true → no_equal (granted (state t w ss) c).steps ≡ true
      → Shows (granted (state s w ss) c) (granted (state t w ss) c)
  unfolding granted delivered powered_on
  granted-shows (powers air) m n = shows _ _ _ _ _ _ s t refl k
  granted-shows (sends resp c) m n = delivered-shows resp _ _ ((command_quiet s t w ss pn k c).twins m n)
  granted-shows (finishes resp failed r) m n = delivered-shows resp _ _ ((finished_quiet s t w ss pn k ss.job failed r).twins m n)

  denied-shows : (c : Call) (r : Refusal) → Shows (denied (state s w ss) c r) (denied (state t w ss) c r)
  unfolding denied kept_session
  denied-shows (powers air) r = shows _ _ _ _ _ _ s t refl k
  denied-shows (sends resp c) r = shows _ _ _ _ _ _ s t pn k
  denied-shows (finishes resp failed x) r = shows _ _ _ _ _ _ s t pn k

  decided-shows : (c : Call) (p : Permit) → no_equal (decided (state s w ss) c p).steps ≡ true → no_equal (decided (state t w ss) c p).steps ≡ true
      → Shows (decided (state s w ss) c p) (decided (state t w ss) c p)
  unfolding decided
  decided-shows c (Ok u) m n = granted-shows c m n
  decided-shows c (Err r) m n = denied-shows c r

  call-shows : (c : Call) → no_equal (call (state s w ss) c).steps ≡ true → no_equal (call (state t w ss) c).steps ≡ true
      → Shows (call (state s w ss) c) (call (state t w ss) c)
  unfolding call
  call-shows c m n =
      subst (λ (p : Permit). no_equal (decided (state t w ss) c p).steps ≡ true → Shows (decided (state s w ss) c (permit (state s w ss) c)) (decided (state t w ss) c p))
      (permit-same c) (λ q. decided-shows c (permit (state s w ss) c) m q) n

shows_same : (x y : Result) → Shows x y → Same x y
unfolding reference_at
shows_same _ _ (shows a ss w resp ps o s t pn k) = record {
  reply = refl;
  work = refl;
  resp = refl;
  pin_tries = tries_same s t k.alike the_pin;
  puk_tries = tries_same s t k.alike the_puk;
  stores = k.alike;
}

-- the rest of a run after two such results
abbrev From : List Call → Type 0
From ks =
    (s t w : List ℕ) (ss : Session) → ss.pin ≡ false → Pair s t
    → NoneEqual (run (state s w ss) ks) → NoneEqual (run (state t w ss) ks) → AllSame (run (state s w ss) ks) (run (state t w ss) ks)

one_more : (ks : List Call) → From ks → (x y : Result) → Shows x y → NoneEqual (run (leaves x) ks) → NoneEqual (run (leaves y) ks)
    → AllSame (x ∷ run (leaves x) ks) (y ∷ run (leaves y) ks)
unfolding leaves
one_more ks rest _ _ (shows a ss w resp ps o s t pn k) m n = (shows_same _ _ (shows a ss w resp ps o s t pn k), rest s t w ss pn k m n)

runs_same : (ks : List Call) → From ks
unfolding run
runs_same [] s t w ss pn k m n = tt
runs_same (c ∷ ks) s t w ss pn k m n =
    one_more ks (λ s t w ss pn k m n. runs_same ks s t w ss pn k m n) (call (state s w ss) c) (call (state t w ss) c) (call-shows s t w ss pn k c m.0 n.0) m.1 n.1

power_shows : (s t w : List ℕ) (ss : Session) (air : Bool) → Pair s t → Shows (powered_on (state s w ss) air) (powered_on (state t w ss) air)
unfolding powered_on
power_shows s t w ss air k = shows _ _ _ _ _ _ s t refl k

pub secrecy : Holds
unfolding run granted
secrecy s t w ss air e f al ks m n =
    let k : Pair s t = record { alike = al; first = (granted_lets (state s w ss) (powers air) e).store; second = (granted_lets (state t w ss) (powers air) f).store } in
    let p : call (state s w ss) (powers air) ≡ powered_on (state s w ss) air = call-granted (state s w ss) (powers air) e in
    let q : call (state t w ss) (powers air) ≡ powered_on (state t w ss) air = call-granted (state t w ss) (powers air) f in
    one_more ks (runs_same ks) (call (state s w ss) (powers air)) (call (state t w ss) (powers air))
    (subst (λ (x : Result). Shows x (call (state t w ss) (powers air))) (sym p) (subst (λ (y : Result). Shows (powered_on (state s w ss) air) y) (sym q) (power_shows s t w ss air k)))
    m.1 n.1

-- The line's end, the input's, and a byte more.
-- Assumes nothing.
use Rattle.std.proofs.Common.{Some, subst, ap, ◌∙◌, arith}
use Rattle.keeping.proofs.Laws.{keep_fits, keep_length}
use Rattle.feed.specs.Feeding.{TakesByte}
use Rattle.feed.proofs.Laws.{same_then, counted_then, same_on, counted_on, goes_lf, goes_end}
use Rattle.feed.proofs.Feed.next.Goals as goal

pub returns-in-Some-eq10-clause-line : goal.returns-in-Some-eq10-clause-line
returns-in-Some-eq10-clause-line g c =
    let i = c.in-Some-eq10 in
    goes_lf _ _ _ _ _ _ (same_then _ _ _ _ _ _ _ _ _ c.loop.invariant.2.0 c.keep_read-n.ensures.same)
    (subst (TakesByte _ _) (i.is ∙ ap Some i.field-0-test) c.in_ok-byte.ensures)

pub returns-then-n-gt0-clause-line : goal.returns-then-n-gt0-clause-line
returns-then-n-gt0-clause-line g c =
    goes_end _ _ _ _ _ _ (same_then _ _ _ _ _ _ _ _ _ c.loop.invariant.2.0 c.keep_read-n.ensures.same) (subst (TakesByte _ _) c.in-None.is c.in_ok-byte.ensures)

pub loop-preserved : goal.loop-preserved
loop-preserved g c =
    let l = c.loop in
    let r = c.keep_read-n in
    let i = c.in-Some in
    let k = c.keep-n in
    let b = subst (TakesByte _ _) i.is c.in_ok-byte.ensures in (
      keep_length r.new.line r.result i.b k.result k.new.line (omega arith) k.ensures ∙ r.ensures.size ∙ l.invariant.0,
      omega (arith, keep_fits r.new.line r.result i.b k.result k.new.line (omega arith) k.ensures),
      (
        same_on _ _ _ _ _ _ _ _ _ i.b (same_then _ _ _ _ _ _ _ _ _ l.invariant.2.0 r.ensures.same) b i.b-test.1 (omega arith) (omega arith) k.ensures,
        counted_on _ _ _ i.b _ (counted_then _ _ _ _ _ _ _ _ l.invariant.2.1 r.ensures.same) b,
      ),
    )

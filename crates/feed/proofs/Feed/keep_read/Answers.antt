-- One more byte of those that were read.
-- Assumes nothing.
use Rattle.std.proofs.Common.{ℕ, ◌+◌, Some, get_or, sym, subst, ◌∙◌, arith}
use Rattle.keeping.proofs.Laws.{keep_fits, keep_length}
use Rattle.feed.specs.Feeding.{TakesByte}
use Rattle.feed.proofs.Laws.{coming, same_on, byte_there}
use Rattle.feed.proofs.Feed.keep_read.Goals as goal

pub loop-next-preserved : goal.loop-next-preserved
loop-next-preserved g c =
    let l = c.loop-next in
    let f = c.args.self.now in
    let k = c.keep-n in
    let p = g.R.Read.remaining in
    let b = byte_there p f l.next c.loop-next-test.true f.in_bounds in (
      omega arith,
      keep_length l.line l.n _ k.result k.new.line (omega arith) k.ensures ∙ l.invariant.1,
      omega (arith, keep_fits l.line l.n _ k.result k.new.line (omega arith) k.ensures),
      same_on _ _ _ _ _ _ _ _ _ _ l.invariant.3 (subst (λ (a : ℕ). TakesByte (coming p f a) (coming p f (l.next + 1)) (Some (get_or f.given l.next 0))) (sym l.invariant.0) b)
          (omega arith) (omega arith) (omega arith) k.ensures,
    )

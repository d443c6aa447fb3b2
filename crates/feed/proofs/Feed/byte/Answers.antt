-- The first byte of what is read.
-- Assumes nothing.
use Rattle.std.proofs.Common.{List, [], ℕ, if◌then◌else◌, arith}
use Rattle.feed.proofs.Laws.{byte_taken}
use Rattle.feed.proofs.Feed.byte.Goals as goal

pub returns : goal.returns
returns g c =
    let f = c.fill.new.self in
    byte_taken f.given f.at f.end (λ (l : List ℕ). if f.over then [] else l) _ _ (omega arith) f.in_bounds c.in_ok-fill.ensures.same

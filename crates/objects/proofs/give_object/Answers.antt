-- The object goes out behind its head.
-- Assumes nothing.
use Rattle.std.proofs.Common.{◌≡◌, List, ℕ, ◌∷◌, ◌++◌, length, take, ap, sym, ◌∙◌}
use Rattle.rules.specs.Ber.{tlv, ber_length}
use Rattle.rules.specs.Session.{state}
use Rattle.rules.specs.Held.{send}
use Rattle.rules.specs.Objects.{object_tag, give_object}
use Rattle.rules.specs.Calls.{delivered}
use Rattle.rules.proofs.Tests.{off}
use Rattle.saying.proofs.Laws.{replies, delivers}
use Rattle.table.specs.Slots.{index_of}
use Rattle.objects.proofs.give_object.Goals as goal

pub returns : goal.returns
unfolding give_object tlv
returns c = λ m.
    let a = c.args in
    let st = state m a.work.now a.s in
    let head : take c.write_head-n.result c.write_head-n.new.dst ≡ object_tag (index_of a.slot) ∷ ber_length (length a.v.now) =
    c.write_head-n.ensures.prefix ∙ ap (λ (t : ℕ). t ∷ ber_length (length a.v.now)) c.object_tag.ensures in
    replies m c.told.ensures
    ∙ c.send-sent.ensures a.s m
    ∙ ap (λ (l : List ℕ). (delivered a.resp.now (send st a.le (l ++ a.v.now))).outcome) head
    ∙ delivers a.resp.now (off _ _ _ (sym c.is_empty.ensures ∙ c.if-is_empty.false))

-- The template that is sent is 01's.
-- Assumes nothing.
use Rattle.std.proofs.Common.{not, ap, sym, ◌∙◌}
use Rattle.std.specs.Int.Count.{count_leading_zeros}
use Rattle.rules.specs.Bytes.{iff}
use Rattle.rules.specs.Ber.{bits, length_bytes, length_form, ber_length, tlv}
use Rattle.rules.specs.Objects.{template, select}
use Rattle.rules.proofs.Tests.{off, both_on}
use Rattle.saying.proofs.Laws.{replies, delivers}
use Rattle.card.proofs.answers.select.Goals as goal

pub returns : goal.returns
unfolding select template tlv ber_length length_form length_bytes bits count_leading_zeros iff
returns c = λ m.
    let a = c.args in
    replies m c.told.ensures
    ∙ c.send-sent.ensures a.s m
    ∙ delivers a.resp.now (off _ _ _ (both_on a.h.p1 a.h.p2 0x04 0x00 c.if-h-ne4.false c.if-h-ne0.false) ∙ off _ _ _ (ap not (sym c.ours.ensures ∙ c.if-not-ours.false)))

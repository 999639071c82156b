use Rattle.std.proofs.Common.{◌+◌, ◌∷◌, [], sym, ap, ◌∙◌, codes, arith}
use Rattle.std.proofs.lemmas.List.{length-append}
use Rattle.ark_work.proofs.Counting.{one_more, as_many}
use Rattle.ark_work.proofs.tally.Tally.count.Goals as goal

pub returns-then-eq-2-clause-counted : goal.returns-then-eq-2-clause-counted
returns-then-eq-2-clause-counted c replies t = record {
  ok = t.ok ∙ as_many (codes "ok") replies c.args.reply.now (rw (sym c.first_word_of-word.ensures, sym c.as_slice.ensures) (sym c.if-eq.ensures));
  refused = ap (λ n. n + 1) t.refused ∙ one_more (codes "refused") replies c.args.reply.now (rw (sym c.first_word_of-word.ensures, sym c.as_slice-else-eq.ensures) (sym c.if-eq-2.ensures));
  all = rw (length-append replies (c.args.reply.now ∷ []), sym t.all) (omega arith);
}

pub returns-else-eq-2-clause-counted : goal.returns-else-eq-2-clause-counted
returns-else-eq-2-clause-counted c replies t = record {
  ok = t.ok ∙ as_many (codes "ok") replies c.args.reply.now (rw (sym c.first_word_of-word.ensures, sym c.as_slice.ensures) (sym c.if-eq.ensures));
  refused = t.refused ∙ as_many (codes "refused") replies c.args.reply.now (rw (sym c.first_word_of-word.ensures, sym c.as_slice-else-eq.ensures) (sym c.if-eq-2.ensures));
  all = rw (length-append replies (c.args.reply.now ∷ []), sym t.all) (omega arith);
}

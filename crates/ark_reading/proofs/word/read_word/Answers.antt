use Rattle.std.proofs.Common.{◌≡◌, rules, arith, refl, codes}
use Rattle.std.proofs.lemmas.Slice.Eq.{text_from_reads}
use Rattle.ark_reading.specs.Word.{word_at}
use Rattle.ark_reading.proofs.word.read_word.Goals as goal

pub returns-in-watch : goal.returns-in-watch
unfolding word_at
returns-in-watch c = let same : c.args.word.now ≡ codes "watch" = text_from_reads _ (codes "watch") (omega arith) (search rules) in rw same refl

pub returns-in-flush : goal.returns-in-flush
unfolding word_at
returns-in-flush c = let same : c.args.word.now ≡ codes "flush" = text_from_reads _ (codes "flush") (omega arith) (search rules) in rw same refl

pub returns-in-queue : goal.returns-in-queue
unfolding word_at
returns-in-queue c = let same : c.args.word.now ≡ codes "queue" = text_from_reads _ (codes "queue") (omega arith) (search rules) in rw same refl

pub returns-in-close : goal.returns-in-close
unfolding word_at
returns-in-close c = let same : c.args.word.now ≡ codes "close" = text_from_reads _ (codes "close") (omega arith) (search rules) in rw same refl

pub returns-in-unbind : goal.returns-in-unbind
unfolding word_at
returns-in-unbind c = let same : c.args.word.now ≡ codes "unbind" = text_from_reads _ (codes "unbind") (omega arith) (search rules) in rw same refl

pub returns-in-filter : goal.returns-in-filter
unfolding word_at
returns-in-filter c = let same : c.args.word.now ≡ codes "filter" = text_from_reads _ (codes "filter") (omega arith) (search rules) in rw same refl

pub returns-in-sendto : goal.returns-in-sendto
unfolding word_at
returns-in-sendto c = let same : c.args.word.now ≡ codes "sendto" = text_from_reads _ (codes "sendto") (omega arith) (search rules) in rw same refl

pub returns-in-settle : goal.returns-in-settle
unfolding word_at
returns-in-settle c = let same : c.args.word.now ≡ codes "settle" = text_from_reads _ (codes "settle") (omega arith) (search rules) in rw same refl

pub returns-in-append : goal.returns-in-append
unfolding word_at
returns-in-append c = let same : c.args.word.now ≡ codes "append" = text_from_reads _ (codes "append") (omega arith) (search rules) in rw same refl

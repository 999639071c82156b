use Rattle.std.proofs.Common.{◌+◌, ◌%◌, ◌∙◌, sym, ap, arith}
use Rattle.ark_chain.proofs.Heads.{no_fields, head_is, not_head}
use Rattle.ark_chain.proofs.next.head_len.Goals as goal

pub returns-in_err-head-clause-none : goal.returns-in_err-head-clause-none
returns-in_err-head-clause-none c _ = no_fields c.args.from.now.room c.args.from.now.start c.args.used c.args.number c.args.block.now c.in_err-head.ensures.head

pub returns-then-head-next-clause-head : goal.returns-then-head-next-clause-head
returns-then-head-next-clause-head c =
    head_is c.args.from.now.room c.args.from.now.start c.args.used c.args.number c.args.block.now c.in_ok-head.head c.in_ok-head.ensures.fields c.in_ok-head.ensures.head c.if-head-number.false
    (omega (arith, c.if-blocks-from.false, c.entry_blocks-blocks.ensures, c.requires.within))
    (c.if-head-next.true ∙ c.index-next.ensures ∙ ap (λ b. (c.args.from.now.start + (c.args.used + b)) % c.args.from.now.room) c.entry_blocks-blocks.ensures)

pub returns-else-head-next-clause-none : goal.returns-else-head-next-clause-none
returns-else-head-next-clause-none c _ =
    not_head c.args.from.now.room c.args.from.now.start c.args.used c.args.number c.args.block.now c.in_ok-head.head c.in_ok-head.ensures.fields c.in_ok-head.ensures.head
    (λ _ _ next. c.if-head-next.false (next ∙ sym (c.index-next.ensures ∙ ap (λ b. (c.args.from.now.start + (c.args.used + b)) % c.args.from.now.room) c.entry_blocks-blocks.ensures)))

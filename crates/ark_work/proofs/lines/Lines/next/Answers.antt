use Rattle.std.proofs.Common.{◌∷◌, ◌++◌, ◌+◌, ◌-◌, sym, ap, ◌∙◌, drop}
use Rattle.ark_work.specs.Generated.{prelude, lines_from, line_of, next, drawn}
use Rattle.ark_work.proofs.Remaining.{at_place, behind, first_drawn}
use Rattle.ark_work.proofs.lines.Lines.next.Goals as goal

pub returns-in-Some-clause-line : goal.returns-in-Some-clause-line
returns-in-Some-clause-line c =
    sym c.self.view_is
    ∙ at_place prelude (lines_from c.self.inside.draws.state c.self.inside.left) c.self.inside.place c.in-Some.line.now (sym c.in-Some.ensures.line)
    ∙ ap (λ line. line ∷ (drop (c.self.inside.place + 1) prelude ++ lines_from c.self.inside.draws.state c.self.inside.left)) (sym c.put.ensures.written)

pub returns-clause-line : goal.returns-clause-line
returns-clause-line c =
    sym c.self.view_is
    ∙ behind prelude (lines_from c.self.inside.draws.state c.self.inside.left) c.self.inside.place (sym c.in_default.ensures.line)
    ∙ rw (c.put_line.ensures.written, c.draw-drawn.ensures.drawn, c.draw-word.ensures.drawn, c.draw-whose.ensures.drawn, c.draw-drawn.ensures.state, c.draw-word.ensures.state, c.draw-whose.ensures.state)
    (first_drawn c.self.inside.draws.state c.self.inside.left c.if-self-eq0.false
    ∙ ap (λ rest. line_of (drawn (next c.self.inside.draws.state)) (drawn (next (next c.self.inside.draws.state))) (drawn (next (next (next c.self.inside.draws.state)))) ∷ rest)
    (sym (behind prelude (lines_from (next (next (next c.self.inside.draws.state))) (c.self.inside.left - 1)) c.self.inside.place (sym c.in_default.ensures.line))))

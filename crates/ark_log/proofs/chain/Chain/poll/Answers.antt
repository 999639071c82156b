use Rattle.std.proofs.Common.{refl, sym, ◌∙◌, subst}
use Rattle.std.specs.Prelude.{IfSome, IsSome}
use Rattle.ark_log.specs.Closed.{HasBuffersIn}
use Rattle.ark_log.specs.Stages.{IsOfStage, IsWhole}
use Rattle.ark_log.proofs.Ended.{ended_whole, ended_lies}
use Rattle.ark_log.proofs.chain.Chain.poll.Goals as goal

pub end-requires-clause-stage : goal.end-requires-clause-stage
end-requires-clause-stage c =
    let may = c.requires.may c.in-Some.ending (sym c.reap.ensures.value ∙ c.in-Some.is) in
    subst (λ o. IsSome o) (sym may.is) refl

pub end-requires-clause-its : goal.end-requires-clause-its
end-requires-clause-its c =
    let may = c.requires.may c.in-Some.ending (sym c.reap.ensures.value ∙ c.in-Some.is) in
    subst (λ o. IfSome o (λ s. IsOfStage c.args.self.now s c.in-Some.ending.buf)) (sym may.is) may.its

pub go_on-requires-in-Ok-clause-whole : goal.go_on-requires-in-Ok-clause-whole
go_on-requires-in-Ok-clause-whole c =
    let may = c.requires.may c.in-Some.ending (sym c.reap.ensures.value ∙ c.in-Some.is) in
    subst IsWhole (sym c.in-Ok.ensures.ok) (ended_whole c.args.self.now c.args.region.now.taken c.in-Some.ending.buf may)

pub go_on-requires-in-Ok-clause-lies : goal.go_on-requires-in-Ok-clause-lies
go_on-requires-in-Ok-clause-lies c =
    let may = c.requires.may c.in-Some.ending (sym c.reap.ensures.value ∙ c.in-Some.is) in
    subst (HasBuffersIn c.args.region.now.taken) (sym c.in-Ok.ensures.ok) (ended_lies c.args.self.now c.args.region.now.taken c.in-Some.ending.buf may)

use Rattle.std.proofs.Common.{[], sym, subst}
use Rattle.ark_script.specs.Text.{IsSaid}
use Rattle.ark_script.specs.declared.said.Said.TheVariants as said
use Rattle.ark_base.specs.declared.refusal.Refusal.{Refusal}
use Rattle.ark_machine.specs.System.{nic_turn}
use Rattle.ark_plane.specs.declared.plane.Plane.{Plane}
use Rattle.ark_host.specs.Inside.{IsInside}
use Rattle.ark_host.specs.Stands.{TurnDone}
use Rattle.ark_host.proofs.Addresses.{given_before, given_now}
use Rattle.ark_host.proofs.host.Host.nic.Goals as goal

pub returns-in-Err-clause-turned : goal.returns-in-Err-clause-turned
returns-in-Err-clause-turned c = λ size h s st.
    subst (λ (p : Plane). TurnDone (record c.args.self.now { plane = p }) size h (nic_turn s c.args.own.now s.plane.own) (said.Refused c.in-Err.refusal) []) (sym c.in-Err.ensures.kept)
    (subst (λ (e : Refusal). TurnDone c.args.self.now size h (nic_turn s c.args.own.now s.plane.own) (said.Refused e) []) (sym c.in-Err.ensures.named) (given_before s c.args.self.now size h c.args.own.now st c.in-Err.ensures.taken))

pub returns-in-Err-clause-said : goal.returns-in-Err-clause-said
returns-in-Err-clause-said c = subst (λ (e : Refusal). IsSaid (said.Refused e)) (sym c.in-Err.ensures.named) tt

pub returns-in-Err-clause-inside : goal.returns-in-Err-clause-inside
returns-in-Err-clause-inside c = λ size inside. subst (λ (p : Plane). IsInside size (record c.args.self.now { plane = p })) (sym c.in-Err.ensures.kept) inside

pub returns-in-Ok-clause-turned : goal.returns-in-Ok-clause-turned
returns-in-Ok-clause-turned c = λ size h s st.
    subst (λ (p : Plane). TurnDone (record c.args.self.now { plane = p }) size h (nic_turn s c.args.own.now s.plane.own) said.Ok []) (sym c.in-Ok.ensures.given)
    (given_now s c.args.self.now size h c.args.own.now st c.in-Ok.ensures.first)

pub returns-in-Ok-clause-inside : goal.returns-in-Ok-clause-inside
returns-in-Ok-clause-inside c = λ size inside. subst (λ (p : Plane). IsInside size (record c.args.self.now { plane = p })) (sym c.in-Ok.ensures.given) inside

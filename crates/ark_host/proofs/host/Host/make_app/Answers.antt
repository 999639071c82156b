use Rattle.std.proofs.Common.{refl, rules, sym, ◌∙◌, ap, subst, ℕ, List, replicate, take, false}
use Rattle.ark_region.specs.Frames.{Space}
use Rattle.std.specs.Prelude.{position, is_some, bytes_eq}
use Rattle.ark_held.specs.declared.app.App.{App}
use Rattle.ark_host.specs.Given.{HasGiven}
use Rattle.ark_host.proofs.Apps.{app_taken, app_limited, app_lacking, app_made}
use Rattle.ark_host.proofs.InDevice.{app_inside}
use Rattle.ark_plane.proofs.LoadedShared.{shared_inside}
use Rattle.ark_host.proofs.host.Host.make_app.Goals as goal

pub returns-then-is_some-clause-turned : goal.returns-then-is_some-clause-turned
returns-then-is_some-clause-turned c = λ size h s st. app_taken s c.args.self.now size h c.args.name.now c.args.frames st (search rules)

pub returns-then-len-ge-MAX_APPS-clause-turned : goal.returns-then-len-ge-MAX_APPS-clause-turned
returns-then-len-ge-MAX_APPS-clause-turned c = λ size h s st. app_limited s c.args.self.now size h c.args.name.now c.args.frames st (search rules) (search rules)

pub returns-in_default-clause-turned : goal.returns-in_default-clause-turned
returns-in_default-clause-turned c = λ size h s st. app_lacking s c.args.self.now size h c.args.name.now c.args.frames st (search rules) (search rules) c.args.self.now refl refl refl refl refl refl refl

pub returns-in_default-push-clause-turned : goal.returns-in_default-push-clause-turned
returns-in_default-push-clause-turned c =
    let new = sym (c.is_some.ensures ∙ ap is_some (c.place_of.ensures.place ∙ ap (λ (l : List App). position (λ x. bytes_eq c.args.name.now x.name) l) c.deref.ensures.value)) ∙ c.if-is_some.false in
    λ size h s st. app_lacking s c.args.self.now size h c.args.name.now c.args.frames st new (search rules) _ (search rules) refl refl refl refl refl refl

pub returns-clause-turned : goal.returns-clause-turned
returns-clause-turned c =
    let new = sym (c.is_some.ensures ∙ ap is_some (c.place_of.ensures.place ∙ ap (λ (l : List App). position (λ x. bytes_eq c.args.name.now x.name) l) c.deref.ensures.value)) ∙ c.if-is_some.false in
    λ size h s st. app_made s c.args.self.now size h c.args.name.now c.args.frames st new (search rules) _ c.give_stored.new.app (search rules) refl refl refl refl refl refl (c.give_stored.ensures.name ∙ c.in-Ok.ensures.name)
    (subst (λ (n : List ℕ). HasGiven n (take 128 c.args.self.now.plane.table) c.give_stored.new.app) c.in-Ok.ensures.name c.give_stored.ensures.given)
    (ap (λ (m : Space). m.taken) (c.give_stored.ensures.region ∙ c.in-Ok.ensures.region) ∙ ap (λ n. replicate n false) c.unwrap_or-frames.ensures)

pub returns-clause-inside : goal.returns-clause-inside
returns-clause-inside c = λ size inside. (
  inside.0,
  inside.1,
  app_inside size c.args.self.now.apps.items c.push.new.self.items c.give_stored.new.app c.in-Ok-push.ensures.items inside.2
      (c.give_stored.ensures.inside size (shared_inside size c.args.self.now.plane.table c.args.self.now.plane.free c.args.self.now.plane.failed inside.4)),
  inside.3,
  inside.4,
)

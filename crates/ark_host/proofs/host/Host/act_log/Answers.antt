use Rattle.std.proofs.Common.{[], List, sym, ◌∙◌, ap, refl, rules}
use Rattle.std.specs.Prelude.{position, bytes_eq}
use Rattle.ark_held.specs.declared.app.App.{App}
use Rattle.ark_script.specs.Line.{line_of}
use Rattle.ark_logs.proofs.Lines as lines
use Rattle.ark_host.proofs.Lifting.{absent_answered, acted, does_in, quiet_steps}
use Rattle.ark_host.proofs.host.Host.act_log.Goals as goal

pub returns-in_default-clause-answers : goal.returns-in_default-clause-answers
returns-in_default-clause-answers g c =
    let told = g.D.Disk.told c.args.disk.now in
    let none = sym (c.place_of.ensures.place ∙ ap (λ (l : List App). position (λ x. bytes_eq c.args.name.now x.name) l) c.deref.ensures.value) ∙ c.in_default.is in
    record {
      events = [];
      goes_on = g.met.D.Disk.goes_none c.args.disk.now;
      does = quiet_steps c.args.self.now c.args.self.now told _ _ _ _ c.say.ensures.said c.say.ensures.none
          (λ s h st. absent_answered c.args.self.now told.blocks h s c.args.name.now (line_of c.args.step.now) st c.requires.owner (lines.own (line_of c.args.step.now) c.requires.logs) (λ m g made. lines.unmade_row (line_of c.args.step.now) m g c.requires.logs made) (search rules));
    }

pub returns-clause-answers : goal.returns-clause-answers
returns-clause-answers g c =
    let t = c.act.ensures.acts in
    record {
      events = t.events;
      goes_on = t.goes_on;
      does = acted c.args.self.now _ (g.D.Disk.told c.act.new.disk) c.args.name.now (line_of c.args.step.now) c.in-Some.place c.index_mut.result.now c.act.new.app t.events _ _
          c.requires.owner (lines.own (line_of c.args.step.now) c.requires.logs) (λ m g none lacks. lines.quiet_row (line_of c.args.step.now) m g c.requires.logs none lacks) (search rules) (sym c.index_mut.ensures.value) c.act.ensures.enough refl refl refl refl refl refl refl (t.does c.args.self.now.grants c.args.self.now.clock).devices
          (does_in c.args.self.now _ c.index_mut.result.now c.act.new.app _ t.events _ _ (t.does c.args.self.now.grants c.args.self.now.clock));
    }

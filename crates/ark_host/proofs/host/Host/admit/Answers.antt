use Rattle.std.proofs.Common.{rules, sym}
use Rattle.ark_host.proofs.Stepping.{early_room, early_no_room, named_no_room, refused_unmade, refused_app, refused_full, refused_room}
use Rattle.ark_host.proofs.host.Host.admit.Goals as goal

pub returns-in_default-clause-refused : goal.returns-in_default-clause-refused
returns-in_default-clause-refused c = refused_unmade c.args.self.now c.args.name.now c.args.label.now c.args.blocks (search rules)

pub returns-in-Some-refuses-clause-refused : goal.returns-in-Some-refuses-clause-refused
returns-in-Some-refuses-clause-refused c = refused_app c.args.self.now c.args.name.now c.args.label.now c.args.blocks c.in-Some.place c.index.result.now (search rules) (sym c.index.ensures) c.in-Some-refuses.refusal (search rules)

pub returns-in-Some-refuses-clause-early : goal.returns-in-Some-refuses-clause-early
returns-in-Some-refuses-clause-early c = early_room c.index.result.now.labels c.index.result.now.areas c.args.label.now c.in-Some-refuses.refusal (search rules)

pub returns-in_default-free_slot-clause-refused : goal.returns-in_default-free_slot-clause-refused
returns-in_default-free_slot-clause-refused c = refused_full c.args.self.now c.args.name.now c.args.label.now c.args.blocks c.in-Some.place c.index.result.now (search rules) (sym c.index.ensures) (search rules) (search rules)

pub returns-in-Err-clause-refused : goal.returns-in-Err-clause-refused
returns-in-Err-clause-refused c =
    refused_room c.args.self.now c.args.name.now c.args.label.now c.args.blocks c.in-Some.place c.index.result.now (search rules) (sym c.index.ensures) (search rules) c.in-Some-free_slot.slot (search rules) c.in-Err.refusal c.in-Err.ensures.none

pub returns-in-Err-clause-early : goal.returns-in-Err-clause-early
returns-in-Err-clause-early c = early_no_room c.args.self.now.plane c.args.blocks c.in-Err.refusal c.in-Err.ensures.none

pub returns-in-Err-clause-named : goal.returns-in-Err-clause-named
returns-in-Err-clause-named c = named_no_room c.args.self.now.plane c.args.blocks c.in-Err.refusal c.in-Err.ensures.none

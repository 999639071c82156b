use Rattle.std.proofs.Common.{◌≡◌, [], length, refl, sym, ap, ◌∙◌, arith}
use Rattle.std.proofs.lemmas.Grind.{common_steps}
use Rattle.std.specs.Prelude.{is_ok}
use Rattle.ark_media.proofs.Composing.{goes_none}
use Rattle.ark_cli.proofs.FedLines.{feeds_last_none, feeds_last_line, none_of_length}
use Rattle.ark_cli.proofs.script.finish.Goals as goal

pub returns-then-is_empty-clause-feeds_last : goal.returns-then-is_empty-clause-feeds_last
returns-then-is_empty-clause-feeds_last g c =
    let told = g.W.Disk.told c.args.world.now in
    let beside = g.W.Outside.beside c.args.world.now in
    let none : length c.bytes.result.now ≡ 0 = grind (arith, common_steps, c.if-is_empty.true, c.if-is_empty.ensures, c.is_empty.ensures) in
    record {
      events = [];
      goes = goes_none told told beside beside refl refl;
      does = λ first fed added f. feeds_last_none first fed added c.args.host.now told c.args.line.now f (sym c.bytes.ensures.same ∙ none_of_length c.bytes.result.now none);
    }

pub returns-clause-feeds_last : goal.returns-clause-feeds_last
returns-clause-feeds_last g c =
    let a = c.answer_line.ensures.puts in
    record {
      events = a.events;
      goes = a.goes;
      does = λ first fed added f.
          feeds_last_line first fed added c.args.host.now c.answer_line.new.host (g.W.Disk.told c.args.world.now) (g.W.Disk.told c.answer_line.new.world) c.args.line.now a.events (is_ok c.answer_line.result) a.goes.tells f
          (λ e. let none : length c.bytes.result.now ≡ 0 = ap length (c.bytes.ensures.same ∙ e) in grind (arith, common_steps, none, c.if-is_empty.false, c.is_empty.ensures))
          (a.does f.tail (c.bytes-2.ensures.same ∙ f.held));
    }

use Rattle.std.proofs.Common.{subst}
use Rattle.std.specs.Prelude.{map, string_bytes}
use Rattle.ark_base.specs.declared.status.Status.{Status}
use Rattle.ark_cli.specs.Ending.{IsCause}
use Rattle.ark_cli.proofs.ClosingLines.{does, cause_closed, usage_only, usage_where}
use Rattle.ark_cli.proofs.Completeness.{complete}
use Rattle.ark_cli.proofs.DamagedDevices.{damaged_only}
use Rattle.ark_cli.proofs.NoneFailed.{no_fault}
use Rattle.ark_cli.proofs.command.arrakis.Goals as goal

-- what it does, told once for all clauses
pub returns-clause-does : goal.returns-clause-does
returns-clause-does g c =
    let w0 = c.args.world.now in
    let w1 = c.command-status.new.world in
    let w2 = c.close.new.world in
    let k = c.close.ensures.closes in
    does (map string_bytes c.args.words.now) (g.W.Disk.told w0) (g.W.Disk.told w1) (g.W.Disk.told w2) (g.W.Outside.beside w0) (g.W.Outside.beside w1) (g.W.Outside.beside w2)
    c.command-status.result k.0 k.1 k.2 c.command-status.ensures.runs

pub returns-clause-usage : goal.returns-clause-usage
returns-clause-usage g c = usage_only (map string_bytes c.args.words.now) _ _ _ _ c.command-status.result (returns-clause-does g c)

pub returns-clause-no_command : goal.returns-clause-no_command
returns-clause-no_command g c = usage_where (map string_bytes c.args.words.now) _ _ _ _ c.command-status.result (returns-clause-does g c)

pub returns-clause-damaged : goal.returns-clause-damaged
returns-clause-damaged g c = λ block is size device command. damaged_only (map string_bytes c.args.words.now) _ _ _ _ c.command-status.result block is size device command (returns-clause-does g c)

pub returns-clause-complete : goal.returns-clause-complete
returns-clause-complete g c = λ blocks device run short quiet.
    let w0 = c.args.world.now in
    let w1 = c.command-status.new.world in
    let w2 = c.close.new.world in
    let k = c.close.ensures.closes in
    let status = c.command-status.result in
    let why = cause_closed (g.W.Disk.told w0) (g.W.Disk.told w1) (g.W.Disk.told w2) (g.W.Outside.beside w0) (g.W.Outside.beside w1) (g.W.Outside.beside w2) status k.0 c.close.ensures.unfailed k.2 c.command-status.ensures.cause in
    complete (map string_bytes c.args.words.now) blocks device run (g.W.Disk.told w0) (g.W.Disk.told w2) (g.W.Outside.beside w0) (g.W.Outside.beside w2) short quiet status (returns-clause-does g c) why

pub returns-clause-done : goal.returns-clause-done
returns-clause-done g c = λ done.
    let w0 = c.args.world.now in
    let w1 = c.command-status.new.world in
    let w2 = c.close.new.world in
    let k = c.close.ensures.closes in
    subst (λ (e : Status). IsCause (g.W.Disk.told w0) (g.W.Disk.told w2) (g.W.Outside.beside w0) (g.W.Outside.beside w2) e) done
    (cause_closed (g.W.Disk.told w0) (g.W.Disk.told w1) (g.W.Disk.told w2) (g.W.Outside.beside w0) (g.W.Outside.beside w1) (g.W.Outside.beside w2) c.command-status.result k.0 c.close.ensures.unfailed k.2 c.command-status.ensures.cause)

pub returns-clause-unfailed : goal.returns-clause-unfailed
returns-clause-unfailed g c = λ done still. no_fault (map string_bytes c.args.words.now) _ _ _ _ still c.command-status.result done (returns-clause-does g c)

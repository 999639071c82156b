use Rattle.std.proofs.Common.{◌≡◌, rules}
use Rattle.std.specs.Process.{exit_status}
use Rattle.ark_base.specs.Status.{code_of}
use Rattle.ark_file.proofs.starting.run_words.Goals as goal

pub returns : goal.returns
returns c =
    let code : exit_status c.from.result ≡ code_of c.run-status.result = search rules in
    record {
      status = c.run-status.result;
      code = code;
      does = c.run-status.ensures.does;
      ended = c.run-status.ensures.ended;
      done = c.run-status.ensures.done;
    }

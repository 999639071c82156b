use Rattle.std.proofs.Common.{refl, sym, arith, ◌<◌, ◌^◌}
use Rattle.ark_running.specs.Opened.{newly_opened}
use Rattle.ark_running.proofs.Opens.{opens}
use Rattle.ark_running.proofs.opening.opening_laws.Goals as goal

pub returns : goal.returns
returns c = record {
  opens = λ h blocks space ring v r g card right new empty stands repair start kind room is full.
      let few : v.room < 2 ^ 32 = omega (arith, right.few) in
      opens h blocks space ring v r g card right new empty stands repair start kind room is full
      (c.repair_laws.ensures.opens v.kind v.room blocks r h few repair g (newly_opened card v) (sym kind) room is refl refl refl);
}

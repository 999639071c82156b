use Rattle.std.proofs.Common.{[], ◌∷◌}
use Rattle.ark_packet.proofs.Heads.{twelve_before}
use Rattle.ark_packet.proofs.write.link_header.Goals as goal

pub returns-clause-octets : goal.returns-clause-octets
returns-clause-octets c = twelve_before c.args.gateway.now c.args.mac.now (8 ∷ (0 ∷ [])) c.told-gateway c.told-mac

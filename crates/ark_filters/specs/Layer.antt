-- What a filter looks for, by what its services are numbers of.
use Rattle.std.specs.Prelude.{◌≤◌}
use Rattle.ark_filters.specs.declared.filter.Proto.{Proto}
use Rattle.ark_filters.specs.declared.filter.Proto.TheVariants.{Eth, Ip, Udp, Tcp}
use Rattle.ark_filters.specs.declared.layer.Layer.{Layer}
use Rattle.ark_filters.specs.declared.layer.Layer.TheVariants.{Types, Protocols, Ports}

-- UDP and TCP by their numbers as protocols of IPv4, and by how many bytes their headers have at least
abbrev pub layer_of : Proto → Layer
layer_of Eth = Types
layer_of Ip = Protocols
layer_of Udp = Ports 17 8
layer_of Tcp = Ports 6 20

-- both ports stand in the header
abbrev pub HasPorts : Layer → Type 0
HasPorts Types = Unit {0}
HasPorts Protocols = Unit {0}
HasPorts (Ports number least) = 4 ≤ least

-- What a word gives when it is read as one of the two lists of a filter.
use Rattle.std.specs.Prelude.{ℕ, zero, suc, bytes_eq, if◌then◌else◌, List, [], ◌∷◌, ◌++◌, codes, Option, Some, None}
use Rattle.std.specs.Option.{option_map, option_or}
use Rattle.ark_filters.specs.declared.filter.Peers.{Peers}
use Rattle.ark_filters.specs.declared.filter.Services.{Services}
use Rattle.ark_filters.specs.declared.filter.Proto.{Proto}
use Rattle.ark_filters.specs.declared.filter.Proto.TheVariants as proto
use Rattle.ark_script.specs.Lists.{peers_are, services_are}
use Rattle.ark_forms.specs.Reading.{◌>>=◌, number_of, hex_of, type_of, ip_of, one_of, two_of}
use Rattle.ark_script.specs.Words.{parts_of}

-- each word as an item, where there is room for so many
abbrev pub each_of : {A : Type 0} → (List ℕ → Option A) → ℕ → List (List ℕ) → Option (List A)
each_of f room [] = Some []
each_of f zero (word ∷ words) = None
each_of f (suc room) (word ∷ words) = f word >>= λ x. each_of f room words >>= λ xs. Some (x ∷ xs)

unfoldable pub peer_of : Proto → List ℕ → Option (List ℕ)
peer_of proto.Eth word = hex_of 6 6 word
peer_of proto.Ip word = ip_of word >>= λ ip. Some (ip ++ (0 ∷ (0 ∷ [])))
peer_of proto.Udp word = ip_of word >>= λ ip. Some (ip ++ (0 ∷ (0 ∷ [])))
peer_of proto.Tcp word = ip_of word >>= λ ip. Some (ip ++ (0 ∷ (0 ∷ [])))

unfoldable pub peers_of : Proto → List ℕ → Option Peers
peers_of p word =
    if bytes_eq word (codes "*") then Some (peers_are [])
    else option_map peers_are (each_of (peer_of p) 8 (parts_of 44 word))

-- one port
unfoldable pub port_of : List ℕ → Option (ℕ × ℕ)
port_of word = one_of (parts_of 45 word) >>= λ part. number_of 0 65535 part >>= λ n. Some (n, n)

-- a first and a last port
unfoldable pub range_of : List ℕ → Option (ℕ × ℕ)
range_of word = two_of (parts_of 45 word) >>= λ p. number_of 0 65535 p.0 >>= λ first. number_of first 65535 p.1 >>= λ last. Some (first, last)

unfoldable pub service_of : Proto → List ℕ → Option (ℕ × ℕ)
service_of proto.Eth word = type_of word >>= λ n. Some (n, n)
service_of proto.Ip word = number_of 0 255 word >>= λ n. Some (n, n)
service_of proto.Udp word = option_or (port_of word) (range_of word)
service_of proto.Tcp word = option_or (port_of word) (range_of word)

unfoldable pub services_of : Proto → List ℕ → Option Services
services_of p word =
    if bytes_eq word (codes "*") then Some (services_are [])
    else option_map services_are (each_of (service_of p) 8 (parts_of 44 word))

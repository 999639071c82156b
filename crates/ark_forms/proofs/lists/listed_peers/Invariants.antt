use Rattle.std.proofs.Common.{◌≡◌, length}
use Rattle.ark_script.specs.Lists.{no_peer}
use Rattle.ark_forms.specs.Listed.{peer_of}
use Rattle.ark_script.specs.Words.{parts_of}
use Rattle.ark_forms.proofs.Listing.{Read}
use Rattle.ark_forms.proofs.lists.listed_peers.Given as goal

abbrev pub invariant-loop-part : goal.invariant-loop-part
invariant-loop-part l =
    record {
      can : (goal.iterator-loop-part).can_next l.part-iterator;
      finite : (goal.iterator-loop-part).is_finite l.part-iterator;
      counted : l.count ≡ length l.yielded;
      read : Read (peer_of l.proto) 8 (parts_of 44 l.word) no_peer l.count l.items;
    }

-- Live buffers once those of a ring are given back.
use Rattle.std.proofs.Common.{◌≡◌, Bool, List, [], ◌∷◌, ◌++◌, Option, Some, None, refl}
use Rattle.ark_region.specs.Frames.{Piece, AreFramesOf}
use Rattle.ark_region.proofs.Living.{stands_less}
use Rattle.ark_vic.specs.declared.descriptor.Completion.{Completion}
use Rattle.ark_udp.specs.Sent.{given_back, all_given_back, in_front, buffers_of}

one_less : (taken : List Bool) (o : Option Piece) (rest before after : List Piece) → AreFramesOf taken (before ++ (in_front o rest ++ after)) → AreFramesOf (given_back taken o) (before ++ (rest ++ after))
one_less taken None rest before after st = st
one_less taken (Some b) rest before after st = stands_less taken b before (rest ++ after) st (given_back taken (Some b)) refl

pub stands : (taken : List Bool) (done : List Completion) (before after : List Piece) → AreFramesOf taken (before ++ (buffers_of done ++ after)) → AreFramesOf (all_given_back taken done) (before ++ after)
stands taken [] before after st = st
stands taken (c ∷ cs) before after st = stands (given_back taken c.buf) cs before after (one_less taken c.buf (buffers_of cs) before after st)

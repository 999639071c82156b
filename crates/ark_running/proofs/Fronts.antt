-- What holds at each front of device events.
use Rattle.std.proofs.Common.{◌≡◌, inl, inr, ℕ, Bool, true, false, List, [], ◌∷◌, ◌++◌, refl, sym, ◌∙◌, subst}
use Rattle.std.specs.List.{AllByRecursion}
use Rattle.ark_media.specs.Journal.{Event, History}
use Rattle.ark_media.specs.Calls.{Call, Reads, Comes, Makes}
use Rattle.ark_media.specs.Standing.{after}
use Rattle.ark_caladan.specs.Views.{OnDisk, Elsewhere}
use Rattle.ark_caladan.specs.Listed.{SameAt}
use Rattle.ark_caladan.proofs.Listing.{elsewhere_same}
use Rattle.ark_chain.specs.Survey.{reads}
use Rattle.ark_running.specs.Opening.{AtFronts}

module _ (Holds : History → Type 0) where
  pub front_none : (h : History) → Holds h → AtFronts Holds h []
  front_none h here [] back is = here
  front_none h here (f ∷ front) back is = absurd (cc (is))

  pub front_more : (h : History) (e : Event) (es : List Event) → Holds h → AtFronts Holds (after h (e ∷ [])) es → AtFronts Holds h (e ∷ es)
  front_more h e es here rest [] back is = here
  front_more h e es here rest (f ∷ front) back is =
      let same : e ≡ f = cc (is) in
      let more : es ≡ front ++ back = cc (is) in
      subst (λ (x : Event). Holds (after h (x ∷ front))) same (rest front back more)

  -- the last event
  pub front_last : (h : History) (e : Event) (es : List Event) → es ≡ [] → Holds h → Holds (after h (e ∷ [])) → AtFronts Holds h (e ∷ es)
  front_last h e es none here there = subst (λ (x : List Event). AtFronts Holds h (e ∷ x)) (sym none) (front_more h e [] here (front_none (after h (e ∷ [])) there))

-- what stays the same twice stays the same
pub same_then : (a b c : History) (blocks : List ℕ) → SameAt a b blocks → SameAt b c blocks → SameAt a c blocks
same_then a b c blocks first next k lt = ((next k lt).0 ∙ (first k lt).0, λ content may. (first k lt).1 content ((next k lt).1 content may))

pub same_none : (h : History) (blocks : List ℕ) → SameAt h h blocks
same_none h blocks k lt = (refl, λ content may. may)

-- a read leaves all blocks what they were
pub read_same : (h : History) (blocks : List ℕ) (n : ℕ) (ok : Bool) (e : Event) → Comes (Reads n) ok e → SameAt h (after h (e ∷ [])) blocks
read_same h blocks n ok e came = subst (λ (x : Event). SameAt h (after h (x ∷ [])) blocks) (sym came) (same_none h blocks)

module _ (g : History) (blocks : List ℕ) where
  abbrev Same : History → Type 0
  Same h = SameAt g h blocks

  -- and so do reads
  pub reads_fronts : (ns : List ℕ) (ok : Bool) (es : List Event) (h : History) → SameAt g h blocks → Makes (reads ns) ok es → AtFronts Same h es
  reads_fronts [] ok [] h same makes = front_none Same h same
  reads_fronts [] ok (e ∷ es) h same makes = absurd makes
  reads_fronts (n ∷ ns) ok [] h same makes = absurd makes
  reads_fronts (n ∷ ns) ok (e ∷ es) h same (inl m) = front_more Same h e es same
      (reads_fronts ns ok es (after h (e ∷ [])) (same_then g h (after h (e ∷ [])) blocks same (read_same h blocks n true e m.0)) m.1)
  reads_fronts (n ∷ ns) ok (e ∷ es) h same (inr m) = front_last Same h e es m.2 same (same_then g h (after h (e ∷ [])) blocks same (read_same h blocks n false e m.0))

  -- calls elsewhere leave these blocks what they were
  pub elsewhere_fronts : (cs : List Call) → AllByRecursion (Elsewhere blocks) cs → (ok : Bool) (es : List Event) (h : History) → OnDisk blocks h.base → SameAt g h blocks → Makes cs ok es → AtFronts Same h es
  elsewhere_fronts [] away ok [] h on_disk same makes = front_none Same h same
  elsewhere_fronts [] away ok (e ∷ es) h on_disk same makes = absurd makes
  elsewhere_fronts (c ∷ cs) away ok [] h on_disk same makes = absurd makes
  elsewhere_fronts (c ∷ cs) away ok (e ∷ es) h on_disk same (inl m) = front_more Same h e es same
      (elsewhere_fronts cs away.1 ok es (after h (e ∷ [])) on_disk (same_then g h (after h (e ∷ [])) blocks same (elsewhere_same h blocks on_disk c true e away.0 m.0)) m.1)
  elsewhere_fronts (c ∷ cs) away ok (e ∷ es) h on_disk same (inr m) = front_last Same h e es m.2 same
      (same_then g h (after h (e ∷ [])) blocks same (elsewhere_same h blocks on_disk c false e away.0 m.0))

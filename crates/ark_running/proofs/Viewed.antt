-- Calls and events of a view of an area, as its disk's, and what the view shows.
use Rattle.std.proofs.Common.{◌≡◌, inl, inr, ℕ, ◌<◌, List, [], ◌∷◌, ◌++◌, Bool, true, false, length, get_or, map, refl, sym, ◌∙◌, ap, subst}
use Rattle.std.specs.List.{AllByRecursion}
use Rattle.std.proofs.lemmas.List.{ext_get_or, length-map}
use Rattle.ark_media.specs.Journal.{Event, Read, History, block, current, onto, zero_block}
use Rattle.ark_media.specs.Calls.{Call, Reads, Writes, Syncs, Comes, Makes}
use Rattle.ark_media.specs.Stops.{Whole}
use Rattle.ark_media.proofs.Stopping.{length-current, now_may}
use Rattle.ark_extents.specs.Views.{AreWithin, outer, view_events, view_image}
use Rattle.ark_extents.proofs.ViewImages.{view_current}
use Rattle.ark_entry.specs.Entry.{AreWhole}
use Rattle.ark_caladan.specs.Listed.{AreFull}
use Rattle.ark_caladan.specs.Views.{OnDisk, contents_at}
use Rattle.ark_caladan.proofs.Places.{ring_at}
use Rattle.ark_chain.specs.Repair.{clears, header_calls}
use Rattle.ark_chain.specs.Survey.{reads}
use Rattle.ark_running.specs.Opening.{blocks_of}

module _ (blocks : List ℕ) where
  -- a call of the view, as its disk's
  abbrev outer_call : Call → Call
  outer_call (Reads k) = Reads (get_or blocks k 0)
  outer_call (Writes k content) = Writes (get_or blocks k 0) content
  outer_call Syncs = Syncs

  comes_outer : (c : Call) (ok : Bool) (e : Event) → Comes c ok e → Comes (outer_call c) ok (outer blocks e)
  comes_outer (Reads k) ok e came = ap (outer blocks) came
  comes_outer (Writes k content) ok e came = (came.0, came.1, ap (outer blocks) came.2)
  comes_outer Syncs ok e came = ap (outer blocks) came

  makes_outer : (cs : List Call) (ok : Bool) (es : List Event) → Makes cs ok es → Makes (map outer_call cs) ok (map (outer blocks) es)
  makes_outer [] ok [] makes = makes
  makes_outer [] ok (e ∷ es) makes = absurd makes
  makes_outer (c ∷ cs) ok [] makes = absurd makes
  makes_outer (c ∷ cs) ok (e ∷ es) (inl m) = inl (comes_outer c true e m.0, makes_outer cs ok es m.1)
  makes_outer (c ∷ cs) ok (e ∷ es) (inr m) = inr (comes_outer c false e m.0, m.1, ap (λ (l : List Event). map (outer blocks) l) m.2)

  reads_are : (ks : List ℕ) → map outer_call (reads ks) ≡ reads (blocks_of blocks ks)
  reads_are [] = refl
  reads_are (k ∷ ks) = ap (λ (cs : List Call). Reads (get_or blocks k 0) ∷ cs) (reads_are ks)

  writes_are : (noted header : List ℕ) → map outer_call (clears noted ++ header_calls header) ≡ clears (blocks_of blocks noted) ++ Writes (get_or blocks 0 0) header ∷ Syncs ∷ []
  writes_are [] header = refl
  writes_are (k ∷ noted) header = ap (λ (cs : List Call). outer_call (Writes k zero_block) ∷ cs) (writes_are noted header)

  -- reads of the view, and its repair
  pub reads_outer : (ks : List ℕ) (ok : Bool) (es : List Event) → Makes (reads ks) ok es → Makes (reads (blocks_of blocks ks)) ok (map (outer blocks) es)
  reads_outer ks ok es makes = subst (λ (cs : List Call). Makes cs ok (map (outer blocks) es)) (reads_are ks) (makes_outer (reads ks) ok es makes)

  pub repair_outer : (noted header : List ℕ) (ok : Bool) (es : List Event) → Makes (Syncs ∷ (clears noted ++ header_calls header)) ok es
      → Makes (Syncs ∷ (clears (blocks_of blocks noted) ++ Writes (get_or blocks 0 0) header ∷ Syncs ∷ [])) ok (map (outer blocks) es)
  repair_outer noted header ok es makes = subst (λ (cs : List Call). Makes (Syncs ∷ cs) ok (map (outer blocks) es)) (writes_are noted header) (makes_outer (Syncs ∷ (clears noted ++ header_calls header)) ok es makes)

-- the places that were read are in the view
pub places_read : (size : ℕ) (ns : List ℕ) (ok : Bool) (es : List Event) → Makes (reads ns) ok es → AreWithin size es → (ks : List ℕ) × AllByRecursion (λ k. k < size) ks × Makes (reads ks) ok es
places_read size [] ok [] makes within = ([], tt, makes)
places_read size [] ok (e ∷ es) makes within = absurd makes
places_read size (n ∷ ns) ok [] makes within = absurd makes
places_read size (n ∷ ns) ok (e ∷ es) (inl m) within =
    let here : AreWithin size (Read n true ∷ es) = subst (λ (x : Event). AreWithin size (x ∷ es)) m.0 within in
    let more = places_read size ns ok es m.1 here.1 in
    (n ∷ more.0, (here.0, more.1), inl (m.0, more.2))
places_read size (n ∷ ns) ok (e ∷ es) (inr m) within =
    let here : AreWithin size (Read n false ∷ es) = subst (λ (x : Event). AreWithin size (x ∷ es)) m.0 within in
    (n ∷ [], (here.0, tt), inr m)

-- journals that become the same were the same
pub onto_same : (es a b : List Event) → onto es a ≡ onto es b → a ≡ b
onto_same [] a b same = same
onto_same (e ∷ es) a b same = let one : e ∷ a ≡ e ∷ b = onto_same es (e ∷ a) (e ∷ b) same in cc (one)

module _ (h : History) (blocks : List ℕ) (on_disk : OnDisk blocks h.base) where
  -- the view shows the blocks of its disk's image
  pub view_shows : current (view_image blocks h.base) (view_events blocks h.journal) ≡ contents_at (current h.base h.journal) blocks
  view_shows =
      let shown : length (current (view_image blocks h.base) (view_events blocks h.journal)) ≡ length blocks = length-current (view_image blocks h.base) (view_events blocks h.journal) ∙ length-map blocks (λ n. block h.base n) in
      ext_get_or [] _ _ (shown ∙ sym (length-map blocks (λ n. block (current h.base h.journal) n)))
      (λ k lt.
      let here : k < length blocks = subst (λ m. k < m) shown lt in
      view_current h.base blocks on_disk.apart on_disk.inside h.journal k here ∙ sym (ring_at (current h.base h.journal) blocks k here))

  -- and full blocks are whole in it
  pub area_whole : AreFull h blocks → AreWhole (contents_at (current h.base h.journal) blocks)
  area_whole full u lt =
      let here : u < length blocks = subst (λ m. u < m) (length-map blocks (λ n. block (current h.base h.journal) n)) lt in
      ap (λ (c : List ℕ). length c) (ring_at (current h.base h.journal) blocks u here)
      ∙ full u here (block (current h.base h.journal) (get_or blocks u 0)) (now_may Whole (λ c. refl) h.base h.journal (get_or blocks u 0) (on_disk.inside u here))

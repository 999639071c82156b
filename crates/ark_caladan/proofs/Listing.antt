-- What is found in a log's blocks, of a log that makes no calls.
use Rattle.std.proofs.Common.{◌≡◌, ⊎_elim, ℕ, suc, ◌<◌, Bool, List, [], Option, None, ◌∷◌, length, get_or, sym, ◌∙◌, ap, subst, arith, refl}
use Rattle.std.specs.Prelude.{Contains}
use Rattle.std.proofs.lemmas.List.{ext_get_or, length-map}
use Rattle.ark_base.specs.declared.kind.Kind.{Kind}
use Rattle.ark_media.specs.Journal.{Event, History, Out, block, current}
use Rattle.ark_media.specs.Calls.{Call, Reads, Writes, Syncs, Comes}
use Rattle.ark_media.specs.Stops.{MayLeave, Whole}
use Rattle.ark_media.specs.Standing.{after, MayStand}
use Rattle.ark_media.proofs.Stopping.{sync_narrows}
use Rattle.ark_entry.specs.Found.{Found, found, damaged, found_of}
use Rattle.ark_caladan.specs.Chain.{Command, Log, Opened, pending, in_progress, stored_after, list_choices}
use Rattle.ark_caladan.specs.Views.{OnDisk, Elsewhere, contents_at}
use Rattle.ark_caladan.specs.Listed.{IsFoundIn, IsListed, AreFull, WritesFull, SameAt}
use Rattle.ark_caladan.proofs.Events.{left_elsewhere, stays}
use Rattle.ark_caladan.proofs.Places.{ring_at}

-- images that have the same at these blocks have the same contents there
same_contents : (a b : List (List ℕ)) (ns : List ℕ) → ((k : ℕ) → k < length ns → block a (get_or ns k 0) ≡ block b (get_or ns k 0)) → contents_at a ns ≡ contents_at b ns
same_contents a b [] same = refl
same_contents a b (n ∷ ns) same =
    ap (λ (c : List ℕ). c ∷ contents_at a ns) (same 0 (omega arith)) ∙ ap (λ (cs : List (List ℕ)). block b n ∷ cs) (same_contents a b ns (λ k lt. same (suc k) (omega (arith, lt))))

-- Where an area's blocks have what they had, what is found in them stays,
pub found_shown : (kind : Kind) (before later : History) (blocks : List ℕ) (x : Found) (choices : List Found) → SameAt before later blocks
    → IsFoundIn kind before blocks x choices → IsFoundIn kind later blocks x choices
found_shown kind before later blocks x choices same kept = record {
  now = ap (found_of kind) (same_contents (current later.base later.journal) (current before.base before.journal) blocks (λ k lt. (same k lt).0)) ∙ kept.now;
  left = λ contents show. kept.left contents (record { size = show.size; each = λ k lt. (same k lt).1 (block contents k) (show.each k lt) });
}

-- and so it does by an event elsewhere, and by bytes put out.
pub elsewhere_same : (history : History) (blocks : List ℕ) → OnDisk blocks history.base → (call : Call) (ok : Bool) (e : Event) → Elsewhere blocks call → Comes call ok e
    → SameAt history (after history (e ∷ [])) blocks
elsewhere_same history blocks on_disk call ok e off came k lt = (stays history blocks on_disk call ok e off came k lt, left_elsewhere history blocks on_disk call ok e off came k lt)

pub output_same : (history : History) (blocks : List ℕ) (bytes : List ℕ) → SameAt history (after history (Out bytes ∷ [])) blocks
output_same history blocks bytes k lt = (refl, λ c left. left)

-- blocks of 512 bytes stay so
pub full_kept : (history : History) (blocks : List ℕ) → OnDisk blocks history.base → (call : Call) (ok : Bool) (e : Event) → WritesFull call → Comes call ok e → AreFull history blocks → AreFull (after history (e ∷ [])) blocks
full_kept history blocks on_disk (Reads m) ok e is came full k lt c left = full k lt c (subst (λ (ev : Event). MayStand (after history (ev ∷ [])) (get_or blocks k 0) c) came left)
full_kept history blocks on_disk (Writes m content) ok e is came full k lt c left =
    ⊎_elim (λ here. ap (λ (x : List ℕ). length x) here.1 ∙ is) (λ before. full k lt c before) (subst (λ (ev : Event). MayStand (after history (ev ∷ [])) (get_or blocks k 0) c) came.2 left)
full_kept history blocks on_disk Syncs ok e is came full k lt c left =
    full k lt c (sync_narrows Whole (λ x. refl) history.base history.journal ok (get_or blocks k 0) (on_disk.inside k lt) c (subst (λ (ev : Event). MayStand (after history (ev ∷ [])) (get_or blocks k 0) c) came left))

-- Where no write since the last sync may change the area, as at the start of a run or behind the sync of a new area, what stands
-- is what a stop leaves, whatever is found in it.
settled_kept : (kind : Kind) (history : History) (blocks : List ℕ) → OnDisk blocks history.base
    → ((k : ℕ) → k < length blocks → (c : List ℕ) → MayStand history (get_or blocks k 0) c → c ≡ block (current history.base history.journal) (get_or blocks k 0))
    → IsFoundIn kind history blocks (found_of kind (contents_at (current history.base history.journal) blocks)) (found_of kind (contents_at (current history.base history.journal) blocks) ∷ [])
settled_kept kind history blocks on_disk alone = record {
  now = refl;
  left = λ contents show.
      let same : contents ≡ contents_at (current history.base history.journal) blocks = ext_get_or [] contents (contents_at (current history.base history.journal) blocks) (show.size ∙ sym (length-map blocks (λ n. block (current history.base history.journal) n)))
      (λ k lt. let low : k < length blocks = omega (arith, lt, show.size) in alone k low (block contents k) (show.each k low) ∙ sym (ring_at (current history.base history.journal) blocks k low)) in
      (0, omega arith, ap (found_of kind) (sym same));
}

-- what no command changes
resting_lists : (x : Found) → (stored_after x None ≡ x) × (list_choices x None ≡ x ∷ [])
resting_lists (found l) = (refl, refl)
resting_lists (damaged n) = (refl, refl)

-- A log that is not open there is listed, where no command was left over and its list is the one that is found.
pub settled_listed : (history : History) (blocks : List ℕ) (g : Log) → OnDisk blocks history.base
    → ((k : ℕ) → k < length blocks → (c : List ℕ) → MayStand history (get_or blocks k 0) c → c ≡ block (current history.base history.journal) (get_or blocks k 0))
    → g.list ≡ found_of g.kind (contents_at (current history.base history.journal) blocks) → g.opened ≡ None → g.left ≡ None → IsListed history blocks g
settled_listed history blocks g on_disk alone is closed whole =
    subst (λ (c : Option (Command × Bool)). IsFoundIn g.kind history blocks (stored_after g.list c) (list_choices g.list c)) (sym none)
    (subst (λ (x : Found). IsFoundIn g.kind history blocks x (list_choices g.list None)) (sym (resting_lists g.list).0)
    (subst (λ (xs : List Found). IsFoundIn g.kind history blocks g.list xs) (sym (resting_lists g.list).1)
    (subst (λ (x : Found). IsFoundIn g.kind history blocks x (x ∷ [])) (sym is) (settled_kept g.kind history blocks on_disk alone))))
  where
    none : in_progress g ≡ None
    none = ap (λ (o : Option Opened). pending o g.left) closed ∙ whole

-- What is found in the area of an image that a stop may leave is one of the lists.
pub left_found : (kind : Kind) (history : History) (blocks : List ℕ) (x : Found) (choices : List Found) → OnDisk blocks history.base → IsFoundIn kind history blocks x choices
    → (image : List (List ℕ)) → MayLeave Whole history.base history.journal image → Contains choices (found_of kind (contents_at image blocks))
left_found kind history blocks x choices on_disk in_it image leaves = in_it.left (contents_at image blocks) (record {
  size = length-map blocks (λ n. block image n);
  each = λ k lt. subst (λ (c : List ℕ). MayStand history (get_or blocks k 0) c) (sym (ring_at image blocks k lt)) (leaves.each (get_or blocks k 0) (on_disk.inside k lt));
})

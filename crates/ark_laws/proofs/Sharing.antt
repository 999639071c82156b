-- A filter that shares a frame with a live one is refused, and no other is refused so.
use Rattle.std.proofs.Common.{◌≡◌, ◌↔◌, ℕ, Bool, true, false, ◌&&◌, List, [], ◌∷◌, ◌++◌, refl, sym, ap, subst, ◌∙◌, cond}
use Rattle.std.specs.Prelude.{Option, Some, None, option_map, find}
use Rattle.std.specs.List.{All, AllByRecursion}
use Rattle.std.proofs.lemmas.Bool.{and_parts, and_from, false≢true}
use Rattle.std.proofs.lemmas.Option.{same_Some}
use Rattle.std.proofs.lemmas.List.Elements.{All-from_recursion, recursion_from_All}
use Rattle.ark_base.specs.Conditions.{Conditions, none, early, late}
use Rattle.ark_base.specs.declared.refusal.Refusal.TheVariants as r
use Rattle.ark_packet.specs.declared.own.Own.{Own}
use Rattle.ark_filters.specs.Overlap.{meets}
use Rattle.ark_filters.specs.Rule.{IsRule, IsOwn}
use Rattle.ark_filters.specs.declared.filter.Direction.{Direction}
use Rattle.ark_filters.specs.declared.filter.Direction.TheVariants as direction
use Rattle.ark_filters.specs.declared.filter.Filter.{Filter}
use Rattle.ark_filters.proofs.Overlapping.{meets_overlap}
use Rattle.ark_filters.proofs.Together.{overlap_meets}
use Rattle.ark_script.specs.Line as w
use Rattle.ark_script.specs.declared.said.Said.TheVariants as said
use Rattle.ark_machine.specs.Machine.{Machine}
use Rattle.ark_machine.specs.Row.{Row, Ended, says, answer, unless_refused}
use Rattle.ark_machine.specs.Plane.{LiveFilter, is_receive, is_overlapped, overlapped}
use Rattle.ark_machine.specs.Step.{step}
use Rattle.ark_machine.specs.System.{System, line_turn}
use Rattle.ark_machine.specs.Filters.{SharesFrame, IsFirstSharing, HasRules, without_filters}

-- Two filters.

receives : (d : Direction) → is_receive d ≡ true → d ≡ direction.Rx
receives direction.Rx h = refl
receives direction.Tx h = absurd (false≢true h)

module _ (own : Own) (is_own : IsOwn own) (rule : Filter) (is_rule : IsRule rule) where
  shares : (f : LiveFilter) → IsRule f.rule → is_overlapped rule f ≡ true → SharesFrame own rule f
  shares f is h =
      let parts = and_parts (is_receive rule.direction) (is_receive f.rule.direction && meets rule f.rule) h in
      let both = and_parts (is_receive f.rule.direction) (meets rule f.rule) parts.1 in
      let one : rule.direction ≡ direction.Rx = receives rule.direction parts.0 in
      let two : f.rule.direction ≡ direction.Rx = receives f.rule.direction both.0 in
      record { receives = one; live_receives = two; frame = meets_overlap rule f.rule own one two is_rule is is_own both.1 }

  overlaps : (f : LiveFilter) → SharesFrame own rule f → is_overlapped rule f ≡ true
  overlaps f h =
      and_from (is_receive rule.direction) (is_receive f.rule.direction && meets rule f.rule) (ap is_receive h.receives)
      (and_from (is_receive f.rule.direction) (meets rule f.rule) (ap is_receive h.live_receives) (overlap_meets rule f.rule own h.receives h.live_receives h.frame))

  -- The earliest of a list.

  abbrev names : Option LiveFilter → Option (List ℕ × List ℕ)
  names o = option_map (λ x. (x.owner, x.label)) o

  abbrev Apart : LiveFilter → Type 0
  Apart f = SharesFrame own rule f → ⊥

  abbrev Rules : List LiveFilter → Type 0
  Rules fs = AllByRecursion (λ f. IsRule f.rule) fs

  record Found (fs : List LiveFilter) (b g : List ℕ) : Type 0 where
    before : List LiveFilter
    live : LiveFilter
    after : List LiveFilter
    list : fs ≡ before ++ live ∷ after
    owned : live.owner ≡ b
    labelled : live.label ≡ g
    shares : SharesFrame own rule live
    earliest : AllByRecursion Apart before

  found : (fs : List LiveFilter) (b g : List ℕ) → Rules fs → names (find (is_overlapped rule) fs) ≡ Some (b, g) → Found fs b g
  found [] b g is h = absurd cc
  found (x ∷ xs) b g is h = by (is_overlapped rule x) refl h (λ k. found xs b g is.1 k)
    where
      by : (t : Bool) → is_overlapped rule x ≡ t → names (cond t (Some x) (find (is_overlapped rule) xs)) ≡ Some (b, g)
          → (names (find (is_overlapped rule) xs) ≡ Some (b, g) → Found xs b g) → Found (x ∷ xs) b g
      by true e k next =
          let same = same_Some (x.owner, x.label) (b, g) k in
          record { before = []; live = x; after = xs; list = refl; owned = ap (λ (p : List ℕ × List ℕ). p.0) same; labelled = ap (λ (p : List ℕ × List ℕ). p.1) same; shares = shares x is.0 e; earliest = tt }
      by false e k next =
          let f = next k in
          record {
            before = x ∷ f.before;
            live = f.live;
            after = f.after;
            list = ap (λ t. x ∷ t) f.list;
            owned = f.owned;
            labelled = f.labelled;
            shares = f.shares;
            earliest = (λ s. false≢true (sym e ∙ overlaps x s), f.earliest);
          }

  first_found : (before after : List LiveFilter) (live : LiveFilter) → Rules (before ++ live ∷ after) → AllByRecursion Apart before → SharesFrame own rule live
      → find (is_overlapped rule) (before ++ live ∷ after) ≡ Some live
  first_found [] after live is apart s = rw (overlaps live s) refl
  first_found (x ∷ xs) after live is apart s = by (is_overlapped rule x) refl (first_found xs after live is.1 apart.1 s)
    where
      by : (t : Bool) → is_overlapped rule x ≡ t → find (is_overlapped rule) (xs ++ live ∷ after) ≡ Some live
          → cond t (Some x) (find (is_overlapped rule) (xs ++ live ∷ after)) ≡ Some live
      by true e next = absurd (apart.0 (shares x is.0 e))
      by false e next = next

  first_sharing : (fs : List LiveFilter) (b g : List ℕ) → All (λ f. IsRule f.rule) fs → names (find (is_overlapped rule) fs) ≡ Some (b, g) → IsFirstSharing own rule fs b g
  first_sharing fs b g is h =
      let f = found fs b g (recursion_from_All (λ f. IsRule f.rule) fs is) h in
      record {
        before = f.before;
        live = f.live;
        after = f.after;
        list = f.list;
        owned = f.owned;
        labelled = f.labelled;
        shares = f.shares;
        earliest = All-from_recursion Apart f.before f.earliest;
      }

  sharing_first : (fs : List LiveFilter) (b g : List ℕ) → All (λ f. IsRule f.rule) fs → IsFirstSharing own rule fs b g → names (find (is_overlapped rule) fs) ≡ Some (b, g)
  sharing_first fs b g is h =
      let rules : Rules (h.before ++ h.live ∷ h.after) = subst Rules h.list (recursion_from_All (λ f. IsRule f.rule) fs is) in
      ap (λ l. names (find (is_overlapped rule) l)) h.list
      ∙ ap names (first_found h.before h.after h.live rules (recursion_from_All Apart h.before h.earliest) h.shares)
      ∙ ap (λ o. Some (o, h.live.label)) h.owned ∙ ap (λ l. Some (b, l)) h.labelled

-- The row.

-- the conditions of `filter`, in their order
abbrev conditions : Bool → Bool → Bool → Bool → Option (List ℕ × List ℕ) → Bool → Conditions
conditions unmade taken limit no_nic overlap no_memory =
    record none { no_application = unmade; name_taken = taken; limit = limit; no_nic = no_nic; overlap = overlap; no_memory = no_memory }

abbrev row : Machine → Machine → Conditions → Row
row m n c = unless_refused (early c) (late c) m (says n said.Ok)

same_names : (x : List ℕ × List ℕ) (b g : List ℕ) → said.Refused (r.Overlap x.0 x.1) ≡ said.Refused (r.Overlap b g) → ◌≡◌ {A = Option (List ℕ × List ℕ)} (Some x) (Some (b, g))
same_names (x, y) b g h = let one : x ≡ b = cc in let two : y ≡ g = cc in rw (one, two) refl

overlap_only : (m n : Machine) (u t l c : Bool) (o : Option (List ℕ × List ℕ)) (memory : Bool) (b g : List ℕ) → (row m n (conditions u t l c o memory)).said ≡ said.Refused (r.Overlap b g)
    → ((row m n (conditions u t l c None false)).said ≡ said.Ok) × (o ≡ Some (b, g))
overlap_only m n true t l c o memory b g h = absurd cc
overlap_only m n false true l c o memory b g h = absurd cc
overlap_only m n false false true c o memory b g h = absurd cc
overlap_only m n false false false true o memory b g h = absurd cc
overlap_only m n false false false false None true b g h = absurd cc
overlap_only m n false false false false None false b g h = absurd cc
overlap_only m n false false false false (Some x) memory b g h = (refl, same_names x b g h)

only_overlap : (m n : Machine) (u t l c : Bool) (o : Option (List ℕ × List ℕ)) (memory : Bool) (b g : List ℕ)
    → (row m n (conditions u t l c None false)).said ≡ said.Ok → o ≡ Some (b, g) → (row m n (conditions u t l c o memory)).said ≡ said.Refused (r.Overlap b g)
only_overlap m n true t l c o memory b g h e = absurd cc
only_overlap m n false true l c o memory b g h e = absurd cc
only_overlap m n false false true c o memory b g h e = absurd cc
only_overlap m n false false false true o memory b g h e = absurd cc
only_overlap m n false false false false o memory b g h e = rw e refl

pub refused_sharing : (s : System) (own : Own) (a f b g : List ℕ) (rule : Filter) (ends : List Ended) (memory : Bool) → IsOwn own → IsRule rule → HasRules s.plane
    → ((line_turn s (w.filter a f rule) ends memory).said ≡ said.Refused (r.Overlap b g))
    ↔ (((line_turn (without_filters s) (w.filter a f rule) [] false).said ≡ said.Ok) × IsFirstSharing own rule s.plane.filters b g)
unfolding step answer
refused_sharing s own a f b g rule ends memory is_own is_rule each = (there, back)
  where
    there : (line_turn s (w.filter a f rule) ends memory).said ≡ said.Refused (r.Overlap b g)
        → ((line_turn (without_filters s) (w.filter a f rule) [] false).said ≡ said.Ok) × IsFirstSharing own rule s.plane.filters b g
    there h =
        let only = overlap_only _ _ _ _ _ _ (overlapped s.plane (w.filter a f rule)) memory b g h in
        (only.0, first_sharing own is_own rule is_rule s.plane.filters b g each only.1)

    back : ((line_turn (without_filters s) (w.filter a f rule) [] false).said ≡ said.Ok) × IsFirstSharing own rule s.plane.filters b g
        → (line_turn s (w.filter a f rule) ends memory).said ≡ said.Refused (r.Overlap b g)
    back h = only_overlap _ _ _ _ _ _ (overlapped s.plane (w.filter a f rule)) memory b g h.0 (sharing_first own is_own rule is_rule s.plane.filters b g each h.1)

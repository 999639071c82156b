-- The earliest live filter that overlaps a new one, by lists and by frames.
use Rattle.std.proofs.Common.{◌≡◌, ℕ, List, [], ◌∷◌, ◌++◌, Bool, true, false, ◌&&◌, cond, Some, None, refl, ap, subst}
use Rattle.std.specs.Option.{option_map}
use Rattle.std.specs.List.{All, AllByRecursion, find}
use Rattle.std.proofs.lemmas.Bool.{and_parts, and_from, both_ways}
use Rattle.std.proofs.lemmas.List.Elements.{All-from_recursion, recursion_from_All}
use Rattle.ark_packet.specs.declared.own.Own.{Own}
use Rattle.ark_filters.specs.declared.filter.Filter.{Filter}
use Rattle.ark_filters.specs.declared.filter.Direction.{Direction}
use Rattle.ark_filters.specs.declared.filter.Direction.TheVariants.{Rx, Tx}
use Rattle.ark_filters.specs.declared.live.Live.{Live}
use Rattle.ark_filters.specs.Overlap.{meets}
use Rattle.ark_filters.specs.Rule.{IsReceive, IsRule, IsOwn}
use Rattle.ark_filters.specs.Rules.{is_rx, clashes, first_clash, OverlapsLive, IsEarliest}
use Rattle.ark_filters.proofs.Overlapping.{meets_overlap}
use Rattle.ark_filters.proofs.Together.{overlap_meets}

pub receives : (d : Direction) → is_rx d ≡ true → d ≡ Rx
receives Rx h = refl
receives Tx h = cc

clash_overlaps : (new : Filter) (own : Own) (live : Live) → IsOwn own → IsRule new → IsRule live.filter → clashes new live ≡ true → OverlapsLive new own live
clash_overlaps new own live is hn hl h =
    let parts = and_parts (is_rx new.direction) (is_rx live.filter.direction && meets new live.filter) h in
    let both = and_parts (is_rx live.filter.direction) (meets new live.filter) parts.1 in
    record {
      direction = receives live.filter.direction both.0;
      frame = meets_overlap new live.filter own (receives new.direction parts.0) (receives live.filter.direction both.0) hn hl is both.1;
    }

overlap_clashes : (new : Filter) (own : Own) (live : Live) → IsReceive new → OverlapsLive new own live → clashes new live ≡ true
overlap_clashes new own live rx h =
    and_from (is_rx new.direction) (is_rx live.filter.direction && meets new live.filter) (ap is_rx rx)
    (and_from (is_rx live.filter.direction) (meets new live.filter) (ap is_rx h.direction) (overlap_meets new live.filter own rx h.direction h.frame))

-- the one that was found, and those before it
record Found (new : Filter) (rules : List Live) (grant : ℕ) : Type 0 where
  before : List Live
  live : Live
  after : List Live
  list : rules ≡ before ++ live ∷ after
  granted : live.grant ≡ grant
  clash : clashes new live ≡ true
  none : AllByRecursion (λ other. clashes new other ≡ false) before

found : (new : Filter) (rules : List Live) (grant : ℕ) → first_clash new rules ≡ Some grant → Found new rules grant
found new [] grant h = cc
found new (x ∷ rest) grant h = by (clashes new x) refl h (λ k. found new rest grant k)
  where
    by : (b : Bool) → clashes new x ≡ b → option_map (λ (y : Live). y.grant) (cond b (Some x) (find (clashes new) rest)) ≡ Some grant
        → (first_clash new rest ≡ Some grant → Found new rest grant) → Found new (x ∷ rest) grant
    by true is k after = record { before = []; live = x; after = rest; list = refl; granted = cc; clash = is; none = tt }
    by false is k after =
        let f = after k in
        record { before = x ∷ f.before; live = f.live; after = f.after; list = ap (λ t. x ∷ t) f.list; granted = f.granted; clash = f.clash; none = (is, f.none) }

none_found : (new : Filter) (rules : List Live) → first_clash new rules ≡ None → AllByRecursion (λ other. clashes new other ≡ false) rules
none_found new [] h = tt
none_found new (x ∷ rest) h = by (clashes new x) refl h (λ k. none_found new rest k)
  where
    by : (b : Bool) → clashes new x ≡ b → option_map (λ (y : Live). y.grant) (cond b (Some x) (find (clashes new) rest)) ≡ None
        → (first_clash new rest ≡ None → AllByRecursion (λ other. clashes new other ≡ false) rest) → AllByRecursion (λ other. clashes new other ≡ false) (x ∷ rest)
    by true is k after = cc
    by false is k after = (is, after k)

none_overlap : (new : Filter) (own : Own) (rules : List Live) → IsReceive new → AllByRecursion (λ other. clashes new other ≡ false) rules
    → AllByRecursion (λ other. OverlapsLive new own other → ⊥) rules
none_overlap new own [] rx h = tt
none_overlap new own (x ∷ rest) rx h = (λ o. both_ways (clashes new x) h.0 (overlap_clashes new own x rx o), none_overlap new own rest rx h.1)

rule_at : (before after : List Live) (live : Live) → AllByRecursion (λ x. IsRule x.filter) (before ++ live ∷ after) → IsRule live.filter
rule_at [] after live h = h.0
rule_at (x ∷ rest) after live h = rule_at rest after live h.1

pub earliest : (new : Filter) (own : Own) (rules : List Live) (grant : ℕ) → IsOwn own → IsRule new → All (λ live. IsRule live.filter) rules
    → first_clash new rules ≡ Some grant → IsEarliest new own rules grant
earliest new own rules grant is hn each h =
    let f = found new rules grant h in
    let rx : IsReceive new = receives new.direction (and_parts (is_rx new.direction) (is_rx f.live.filter.direction && meets new f.live.filter) f.clash).0 in
    let rule : IsRule f.live.filter = rule_at f.before f.after f.live (subst (AllByRecursion (λ x. IsRule x.filter)) f.list (recursion_from_All (λ x. IsRule x.filter) rules each)) in
    record {
      before = f.before;
      live = f.live;
      after = f.after;
      list = f.list;
      granted = f.granted;
      overlaps = clash_overlaps new own f.live is hn rule f.clash;
      first = All-from_recursion (λ other. OverlapsLive new own other → ⊥) f.before (none_overlap new own f.before rx f.none);
    }

pub none_overlaps : (new : Filter) (own : Own) (rules : List Live) → IsReceive new → first_clash new rules ≡ None → All (λ other. OverlapsLive new own other → ⊥) rules
none_overlaps new own rules rx h =
    All-from_recursion (λ other. OverlapsLive new own other → ⊥) rules (none_overlap new own rules rx (none_found new rules h))

-- What holds of the live filters at all times, after each change.
use Rattle.std.proofs.Common.{◌≡◌, ℕ, ◌<◌, List, [], ◌∷◌, ◌++◌, map, Bool, true, false, cond, not, nat_eq, Some, None, refl, sym, subst}
use Rattle.std.specs.Option.{option_map}
use Rattle.std.specs.List.{All, AllByRecursion, filter, find}
use Rattle.std.proofs.lemmas.List.Elements.{All-nil, All-push, All-map, All-filter, recursion_from_All}
use Rattle.ark_filters.specs.declared.live.Live.{Live}
use Rattle.ark_filters.specs.Rule.{IsRule}
use Rattle.ark_filters.specs.Rules.{assigned, unassigned, without, clashes, first_clash, Precedes, InOrder, AreRules}

pub no_rules : AreRules []
no_rules = record { each = All-nil (λ live. IsRule live.filter); in_order = tt }

-- where the new one is granted after all and overlaps none
all_precede : (new : Live) (rules : List Live) → AllByRecursion (λ live. live.grant < new.grant) rules → first_clash new.filter rules ≡ None → AllByRecursion (λ live. Precedes live new) rules
all_precede new [] h e = tt
all_precede new (live ∷ rest) h e = by (clashes new.filter live) refl e (λ k. all_precede new rest h.1 k)
  where
    by : (b : Bool) → clashes new.filter live ≡ b → option_map (λ (x : Live). x.grant) (cond b (Some live) (find (clashes new.filter) rest)) ≡ None
        → (first_clash new.filter rest ≡ None → AllByRecursion (λ x. Precedes x new) rest) → AllByRecursion (λ x. Precedes x new) (live ∷ rest)
    by true is k after = cc
    by false is k after = (record { earlier = h.0; apart = is }, after k)

each_push : (P : Live → Type 0) (rules : List Live) (new : Live) → AllByRecursion P rules → P new → AllByRecursion P (rules ++ new ∷ [])
each_push P [] new h n = (n, tt)
each_push P (live ∷ rest) new h n = (h.0, each_push P rest new h.1 n)

order_push : (rules : List Live) (new : Live) → InOrder rules → AllByRecursion (λ live. Precedes live new) rules → InOrder (rules ++ new ∷ [])
order_push [] new h n = (tt, tt)
order_push (live ∷ rest) new h n = (each_push (Precedes live) rest new h.0 n.0, order_push rest new h.1 n.1)

pub rules_added : (rules : List Live) (new : Live) → AreRules rules → IsRule new.filter → All (λ live. live.grant < new.grant) rules → first_clash new.filter rules ≡ None
    → AreRules (rules ++ new ∷ [])
rules_added rules new h rule later none = record {
  each = All-push (λ live. IsRule live.filter) rules new h.each rule;
  in_order = order_push rules new h.in_order (all_precede new rules (recursion_from_All (λ live. live.grant < new.grant) rules later) none);
}

-- a change of each that leaves grants and filters
each_map : (g : Live → Live) → ((x y : Live) → Precedes x y → Precedes (g x) (g y)) → (live : Live) (rules : List Live) → AllByRecursion (Precedes live) rules
    → AllByRecursion (Precedes (g live)) (map g rules)
each_map g keeps live [] h = tt
each_map g keeps live (x ∷ rest) h = (keeps live x h.0, each_map g keeps live rest h.1)

order_map : (g : Live → Live) → ((x y : Live) → Precedes x y → Precedes (g x) (g y)) → (rules : List Live) → InOrder rules → InOrder (map g rules)
order_map g keeps [] h = tt
order_map g keeps (x ∷ rest) h = (each_map g keeps x rest h.0, order_map g keeps rest h.1)

pub rules_assigned : (rules : List Live) (grant vnic : ℕ) → AreRules rules → AreRules (map (assigned grant vnic) rules)
rules_assigned rules grant vnic h = record {
  each = All-map (λ live. IsRule live.filter) (assigned grant vnic) rules h.each;
  in_order = order_map (assigned grant vnic) (λ x y p. record { earlier = p.earlier; apart = p.apart }) rules h.in_order;
}

pub rules_unassigned : (rules : List Live) (vnic : ℕ) → AreRules rules → AreRules (map (unassigned vnic) rules)
rules_unassigned rules vnic h = record {
  each = All-map (λ live. IsRule live.filter) (unassigned vnic) rules h.each;
  in_order = order_map (unassigned vnic) (λ x y p. record { earlier = p.earlier; apart = p.apart }) rules h.in_order;
}

each_filter : (test : Live → Bool) (P : Live → Type 0) (rules : List Live) → AllByRecursion P rules → AllByRecursion P (filter test rules)
each_filter test P [] h = tt
each_filter test P (x ∷ rest) h = by (test x) (each_filter test P rest h.1)
  where
    by : (b : Bool) → AllByRecursion P (filter test rest) → AllByRecursion P (cond b (x ∷ filter test rest) (filter test rest))
    by true after = (h.0, after)
    by false after = after

order_filter : (test : Live → Bool) (rules : List Live) → InOrder rules → InOrder (filter test rules)
order_filter test [] h = tt
order_filter test (x ∷ rest) h = by (test x) (order_filter test rest h.1)
  where
    by : (b : Bool) → InOrder (filter test rest) → InOrder (cond b (x ∷ filter test rest) (filter test rest))
    by true after = (each_filter test (Precedes x) rest h.0, after)
    by false after = after

pub rules_without : (rules : List Live) (grant : ℕ) → AreRules rules → AreRules (without grant rules)
rules_without rules grant h = record {
  each = All-filter (λ live. not (nat_eq live.grant grant)) (λ live. IsRule live.filter) rules h.each;
  in_order = order_filter (λ live. not (nat_eq live.grant grant)) rules h.in_order;
}

-- whether there was memory or not
pub rules_pushed : (rules after : List Live) (new : Live) (pushed : Bool) → AreRules rules → IsRule new.filter → All (λ live. live.grant < new.grant) rules
    → first_clash new.filter rules ≡ None → after ≡ cond pushed (rules ++ new ∷ []) rules → AreRules after
rules_pushed rules after new true h rule later none e = subst AreRules (sym e) (rules_added rules new h rule later none)
rules_pushed rules after new false h rule later none e = subst AreRules (sym e) h

-- `Region::two` meets its contract: a walk over its four calls.
use Rattle.std.proofs.Common.{◌≡◌, ◌≤◌, ◌<◌, ◌+◌, ◌*◌, ℕ, List, [], ◌∷◌, length, refl, sym, ap, ◌∙◌, arith, MutBor, slice_range}
use Rattle.std.proofs.raw_atomic.Walks.{proved}
use Rattle.std.specs.Prelude.{◌⊎◌}
use mir.Syntax.{named}
use mir.Val.{Val}
use base.Logic.{emp, id⊢}
use base.Fml.{Fml, ftrue, flft}
use contract.Monad.{fact, fact_i}
use contract.Running.{tables}
use types.Kit.{‵, raw, ◌⊛◌, some, later, ◌$◌, ◌∵◌, !, qed, move, keep, use0, use1, use2, drop, split, split3, join, fjoin, await, pick, group, rewrite, suffices, frame, done}
use types.Part.{whole, sub, agg}
use types.Run.{stop, fld, addr, hop, from, and_then, no_more, returns, enter}
use types.ByLocal.{alloc_all, pass_all, free_all, look_at, look_in_at, get, get_in, through, sets, lands_as}
use denote.Exit.{yes, no}
use denote.RattleType.{RattleType}
use denote.Laws.{Is, shows}
use denote.Ref.{MutRef, ShrRef, mut_vals, mut_Tells, shr_vals, shr_Tells, NamedLft}
use denote.Slice.{MutSlice, mut_slice_vals, mut_slice_Tells}
use denote.Array.{Array}
use denote.Builtin.{u8, RefOf}
use denote.Signature.{plain, mut_ref_to}
use denote.Steps.{nothing, heard, only, peeks}
use denote.Follow.{follows, follows_both}
use denote.Struct.Tuple.{Tuple, tuple_laws}
use denote.Struct.Field.{mut_slice_field, u8-field}
use denote.Struct.Laws.{mut_slice_laws, u8-copy}
use denote.Param.Laws.{of_field}
use denote.Param.Shared.{copy_shared, mut_slice_shared}
use denote.Triple.Call.{calls_at}
use denote.Triple.Clauses.{lasts}
use denote.Triple.Spec.{triple_of}
use denote.Triple.Table.{framed}
use denote.Triple.Walked.{says, Stays, stay_dropped, walk_of, ends_at, Goes-dropped, Goes-spent_ref}
use Rattle.ark_region.specs.contracts.region.Region.two as f
use Rattle.ark_region.proofs.region.Region.two.Statement.{statement}
use Rattle.ark_region.proofs.region.Region.two.Code as code
use Rattle.ark_region.specs.contracts.buf.Buf.place as g
use Rattle.ark_region.proofs.buf.Buf.place.Met.{met as place_met}
use Rattle.ark_region.specs.contracts.region.Region.whole_mut as h
use Rattle.ark_region.proofs.region.Region.whole_mut.Met.{met as whole_met}
use Rattle.ark_region.specs.contracts.two.two_of as k
use Rattle.ark_region.proofs.two.two_of.Met.{met as both_met}
use Rattle.ark_region.specs.contracts.region.Region.{the_row as Rg}
use Rattle.ark_region.specs.contracts.buf.Buf.{the_row as Bf}
use Rattle.ark_region.specs.contracts.buf.Place.{the_row as Pl}
use Rattle.ark_region.specs.declared.buf.Place.{Place}
use Rattle.ark_region.proofs.buf.Place.TheLaws.{the_row_laws as place_laws}
use Rattle.ark_region.specs.Frames.{Apart, LiesInRegion, fitted, put}
use Rattle.ark_region.proofs.Sharing.{apart_at, inside_bytes, same_range}
use Rattle.ark_region.proofs.Following.{follows_on}

abbrev stayed : Stays f.ended.signature.params f.ended.kept
stayed = (
  stay_dropped (mut_ref_to (0 ∷ []) tt (plain (λ _. Rg))) no,
  (stay_dropped (RefOf (1 ∷ []) tt (plain (λ _. Bf)) (λ _. tt)) yes, (stay_dropped (RefOf (2 ∷ []) tt (plain (λ _. Bf)) (λ _. tt)) yes, tt)),
)

pub two_spec : {M : Type 1} → statement M
two_spec 𝓤 𝓛 𝓜 𝓡 wired =
    let c = f.clauses 𝓛 𝓜.mem 𝓡.returns in let W = walk_of 𝓛 f.ended stayed c in let 𝓣 = tables 𝓤 𝓛.H 𝓜 𝓡 𝓡.env in
    proved 𝓛 f.ended stayed c 𝓜 𝓡
    (Goes-spent_ref 𝓛 3 (0 ∷ []) tt (plain (λ _. Rg)), (Goes-dropped 𝓛 3 (RefOf (1 ∷ []) tt (plain (λ _. Bf)) (λ _. tt)) yes (λ κs x w. refl), (Goes-dropped 𝓛 3 (RefOf (2 ∷ []) tt (plain (λ _. Bf)) (λ _. tt)) yes (λ κs x w. refl), tt)))
    f.Key.name code.function (code.unfolded 𝓤 𝓛.H 𝓜 𝓡 wired)
    (λ κs. (mut_vals, (shr_vals, (shr_vals, tt)))) (λ κs. (mut_Tells (named 0) κs.0 Rg, (shr_Tells (named 1) κs.1.0 Bf, (shr_Tells (named 2) κs.1.1.0 Bf, tt)))) (λ κs qs bounds a _ are.
    let self = a.0 in let x = a.1.0 in let y = a.1.1.0 in
    let vs = mut_vals self in let va = shr_vals x in let vb = shr_vals y in
    let yy : W.Ghost = ((κs, qs, bounds, a, (vs, (va, (vb, tt)))), tt) in
    qed 𝓛 (((‵ (flft κs.0 qs.0) ⊛ ‵ (flft κs.1.0 qs.1.0) ⊛ ‵ (flft κs.1.1.0 qs.1.1.0) ⊛ ‵ ftrue) ⊛ ‵ ((MutRef (named 0) κs.0 Rg).own_val self vs) ⊛ ‵ ((ShrRef (named 1) κs.1.0 Bf).own_val x va) ⊛ ‵ ((ShrRef (named 2) κs.1.1.0 Bf).own_val y vb) ⊛ ‵ ftrue)
    ∷ (raw (fact 𝓤 (Apart x.now y.now)) ⊛ raw (fact 𝓤 (LiesInRegion self.now.taken x.now)) ⊛ raw (fact 𝓤 (LiesInRegion self.now.taken y.now))) ∷ []) ∵
    move ! (1 ∷ []) $ split3 ! $ heard ! _ (λ apart. heard ! _ (λ lx. heard ! _ (λ ly.
    split ! $ move ! (1 ∷ []) $ split3 ! $ move ! (2 ∷ []) $ split ! $ move ! (4 ∷ []) $ split3 ! $ move ! (2 ∷ []) $ split ! $
    keep ! (2 ∷ 3 ∷ 0 ∷ 6 ∷ 7 ∷ 4 ∷ []) $
    enter ! _ _ _ _ _ $ alloc_all ! (λ l. pass_all ! refl ((tt, tt), ((tt, tt), ((tt, tt), tt))) $
    -- [t0; t1; t2; self; x; y]
    let G = triple_of 𝓛 g.signature (g.spec 𝓛 𝓜.mem 𝓡.returns) in
    let z₁ : G.Ghost = (((κs.1.0, tt), (qs.1.0, tt), tt, (x, tt), (va, tt)), tt) in
    nothing ! $ move ! (5 ∷ 0 ∷ []) $ join ! $ nothing ! $ move ! (3 ∷ 0 ∷ []) $ join ! $ join ! $
    nothing ! $ move ! (1 ∷ 0 ∷ []) $ use2 𝓛 (raw (G.pre z₁)) (id⊢ 𝓤 _) $
    calls_at ! (framed 𝓤 𝓛.H 𝓜 𝓣) G (place_met 𝓤 𝓛 𝓜 𝓡 (code.calls-ark_region::buf::Buf::place 𝓡.env wired)) z₁
    (and_then ! (get ! refl) (no_more !)) (λ v₁.
    use1 𝓛 (later (some (λ (p : Place). ((‵ (flft κs.1.0 qs.1.0) ⊛ ‵ ftrue) ⊛ ‵ (Pl.own_val p (v₁ ∷ []))) ⊛
    some (λ (ws : Unit {0} × Unit {0}). ‵ (lasts g.ended z₁.0.0 z₁.0.3 ws) ⊛ raw (fact 𝓤 (p.at ≡ 512 * x.now.start)) ⊛ raw (fact 𝓤 (p.len ≡ x.now.len)) ⊛ raw (fact 𝓤 (0 < x.now.len)))))) (id⊢ 𝓤 _) $
    await ! tt $ pick ! (λ p. split ! $ split ! $ split ! $ move ! (3 ∷ []) $ pick ! (λ ws. split ! $ drop ! $ split3 ! $
    heard ! _ (λ pa. heard ! _ (λ pn. heard ! _ (λ px.
    move ! (2 ∷ []) $ peeks ! Pl (Is Pl) (shows 𝓛 Pl) p (v₁ ∷ []) (λ isp.
    lands_as ! refl refl ((place_laws.lawful 𝓛).typed p (v₁ ∷ []) isp).0 $
    -- [p; t1; nothing; t0; t2; self; y]
    let z₂ : G.Ghost = (((κs.1.1.0, tt), (qs.1.1.0, tt), tt, (y, tt), (vb, tt)), tt) in
    nothing ! $ move ! (7 ∷ 0 ∷ []) $ join ! $ nothing ! $ move ! (6 ∷ 0 ∷ []) $ join ! $ join ! $
    nothing ! $ move ! (1 ∷ 0 ∷ []) $ use2 𝓛 (raw (G.pre z₂)) (id⊢ 𝓤 _) $
    calls_at ! (framed 𝓤 𝓛.H 𝓜 𝓣) G (place_met 𝓤 𝓛 𝓜 𝓡 (code.calls-ark_region::buf::Buf::place 𝓡.env wired)) z₂
    (and_then ! (get ! refl) (no_more !)) (λ v₂.
    use1 𝓛 (later (some (λ (q : Place). ((‵ (flft κs.1.1.0 qs.1.1.0) ⊛ ‵ ftrue) ⊛ ‵ (Pl.own_val q (v₂ ∷ []))) ⊛
    some (λ (ws : Unit {0} × Unit {0}). ‵ (lasts g.ended z₂.0.0 z₂.0.3 ws) ⊛ raw (fact 𝓤 (q.at ≡ 512 * y.now.start)) ⊛ raw (fact 𝓤 (q.len ≡ y.now.len)) ⊛ raw (fact 𝓤 (0 < y.now.len)))))) (id⊢ 𝓤 _) $
    await ! tt $ pick ! (λ q. split ! $ split ! $ split ! $ move ! (3 ∷ []) $ pick ! (λ ws₂. split ! $ drop ! $ split3 ! $
    heard ! _ (λ qa. heard ! _ (λ qn. heard ! _ (λ qx.
    move ! (2 ∷ []) $ peeks ! Pl (Is Pl) (shows 𝓛 Pl) q (v₂ ∷ []) (λ isq.
    lands_as ! refl refl ((place_laws.lawful 𝓛).typed q (v₂ ∷ []) isq).0 $
    -- [q; t2; nothing; p; t1; nothing; t0; self]
    sets ! (addr ! (through ! refl (stop !))) refl (tt, tt) $
    -- [q; t2; nothing; p; t1; nothing; t0; self]
    let Hh = triple_of 𝓛 h.signature (h.spec 𝓛 𝓜.mem 𝓡.returns) in
    let z₃ : Hh.Ghost = (((κs.0, tt), (qs.0, tt), tt, (self, tt), (vs, tt)), tt) in
    let Slice = MutSlice (named 0) κs.0 u8 in
    nothing ! $ move ! (8 ∷ 0 ∷ []) $ join ! $ nothing ! $ move ! (8 ∷ 0 ∷ []) $ join ! $ join ! $
    nothing ! $ move ! (1 ∷ 0 ∷ []) $ use2 𝓛 (raw (Hh.pre z₃)) (id⊢ 𝓤 _) $
    calls_at ! (framed 𝓤 𝓛.H 𝓜 𝓣) Hh (whole_met 𝓤 𝓛 𝓜 𝓡 (code.calls-ark_region::region::Region::whole_mut 𝓡.env wired)) z₃
    (and_then ! (get ! refl) (no_more !)) (λ v₃.
    use1 𝓛 (later (some (λ (r : MutBor (List ℕ)). ((‵ (flft κs.0 qs.0) ⊛ ‵ ftrue) ⊛ ‵ (Slice.own_val r (v₃ ∷ []))) ⊛
    some (λ (ws : Unit {0} × Unit {0}). ‵ (lasts h.ended z₃.0.0 z₃.0.3 ws) ⊛ ‵ (follows Rg (Array u8 0) self.ghost_name r.ghost_name (λ w. record self.now { bytes = fitted self.now.bytes w }))
    ⊛ raw (fact 𝓤 (r.now ≡ self.now.bytes)) ⊛ raw (fact 𝓤 (length r.now ≡ 512 * length self.now.taken)))))) (id⊢ 𝓤 _) $
    await ! tt $ pick ! (λ r. split ! $ split ! $ split ! $ move ! (3 ∷ []) $ pick ! (λ ws₃. split ! $ drop ! $ split3 ! $
    move ! (1 ∷ []) $ heard ! _ (λ rb. move ! (1 ∷ []) $ heard ! _ (λ rl.
    -- [the follow; t0; nothing; r; q; t2; nothing; p; t1; nothing]
    move ! (3 ∷ []) $ peeks ! Slice (Is Slice) (shows 𝓛 Slice) r (v₃ ∷ []) (λ isr.
    let er = mut_slice_Tells (named 0) κs.0 u8 r (v₃ ∷ []) isr in
    lands_as ! (ap only er) refl (tt, (tt, (record { fits = isr.0.1.0 }, tt))) $
    rewrite ! 0 (λ (us : List Val). ‵ (Slice.own_val r us)) er refl $
    sets ! (addr ! (from ! (fld ! refl (hop ! (look_in_at ! 6 (sub ! 0 refl (whole !))) (stop !))))) refl (tt, tt) $
    sets ! (agg ! (and_then ! (get ! refl) (and_then ! (get_in ! (fld ! refl (stop !)) (sub ! 1 refl (whole !))) (no_more !)))) refl (tt, (tt, (record { fits = isr.0.1.0 }, tt))) $
    let K = triple_of 𝓛 k.signature (k.spec 𝓛 𝓜.mem 𝓡.returns) in
    let z₄ : K.Ghost = (((κs.0, tt), (qs.0, tt), tt, (r, (p, (q, tt))), (mut_slice_vals r, (v₁ ∷ [], (v₂ ∷ [], tt)))), tt) in
    let long : length self.now.bytes ≡ 512 * length self.now.taken = ap (λ (z : List ℕ). length z) (sym rb) ∙ rl in
    let same : length r.now ≡ length self.now.bytes = ap (λ (z : List ℕ). length z) rb in
    let ix = inside_bytes self.now x.now long lx in let iy = inside_bytes self.now y.now long ly in
    nothing ! $ move ! (5 ∷ 0 ∷ []) $ join ! $ move ! (7 ∷ 0 ∷ []) $ join ! $ move ! (1 ∷ 0 ∷ []) $ join ! $
    nothing ! $ move ! (3 ∷ 0 ∷ []) $ join ! $ join ! $
    use0 𝓛 (raw (fact 𝓤 (q.at + q.len ≤ length r.now))) (fact_i 𝓤 _ (emp 𝓤) (omega (arith, iy, qa, qn, same))) $
    use0 𝓛 (raw (fact 𝓤 (p.at + p.len ≤ length r.now))) (fact_i 𝓤 _ (emp 𝓤) (omega (arith, ix, pa, pn, same))) $
    use0 𝓛 (raw (fact 𝓤 ((p.at + p.len ≤ q.at) ⊎ (q.at + q.len ≤ p.at)))) (fact_i 𝓤 _ (emp 𝓤) (apart_at x.now y.now p.at p.len q.at q.len pa pn qa qn px qx apart)) $ group ! 3 $
    move ! (1 ∷ 0 ∷ []) $ use2 𝓛 (raw (K.pre z₄)) (id⊢ 𝓤 _) $
    calls_at ! (framed 𝓤 𝓛.H 𝓜 𝓣) K (both_met 𝓤 𝓛 𝓜 𝓡 (code.calls-ark_region::two::two_of 𝓡.env wired)) z₄
    (and_then ! (get ! refl) (and_then ! (get ! refl) (and_then ! (get ! refl) (no_more !)))) (λ v₄.
    let Halves : List RattleType = Slice ∷ Slice ∷ [] in
    use1 𝓛 (later (some (λ (s : MutBor (List ℕ) × MutBor (List ℕ)). ((‵ (flft κs.0 qs.0) ⊛ ‵ ftrue) ⊛ ‵ ((Tuple Halves).own_val s (v₄ ∷ []))) ⊛
    some (λ (ws : Unit {0} × (Unit {0} × (Unit {0} × Unit {0}))). ‵ (lasts k.ended z₄.0.0 z₄.0.3 ws)
    ⊛ ‵ (follows_both (Array u8 0) (Array u8 0) (Array u8 0) r.ghost_name s.0.ghost_name s.1.ghost_name (λ v w. put (put r.now p.at v) q.at w))
    ⊛ raw (fact 𝓤 (s.0.now ≡ slice_range r.now p.at (p.at + p.len))) ⊛ raw (fact 𝓤 (length s.0.now ≡ p.len))
    ⊛ raw (fact 𝓤 (s.1.now ≡ slice_range r.now q.at (q.at + q.len))) ⊛ raw (fact 𝓤 (length s.1.now ≡ q.len)))))) (id⊢ 𝓤 _) $
    await ! tt $ pick ! (λ s. split ! $ split ! $ split ! $ move ! (3 ∷ []) $ pick ! (λ ws₄. split ! $ drop ! $ split3 ! $
    move ! (1 ∷ []) $ heard ! _ (λ s₁. move ! (1 ∷ []) $ split3 ! $ drop ! $ heard ! _ (λ s₂. drop ! $
    -- [the follow of both; t0; nothing; s; the follow; nothing; t2; nothing; t1; nothing]
    move ! (3 ∷ []) $ peeks ! (Tuple Halves) (Is (Tuple Halves)) (shows 𝓛 (Tuple Halves)) s (v₄ ∷ []) (λ iss.
    let a' : NamedLft = record { mir = named 0; lft = κs.0 } in
    let laws = of_field (mut_slice_field a' u8 tt) (mut_slice_laws a' u8 tt) refl (mut_slice_shared a' u8 tt (copy_shared u8-field u8-copy)) in
    lands_as ! refl refl (((tuple_laws Halves (laws, (laws, tt))).lawful 𝓛).typed s (v₄ ∷ []) iss).0 $
    returns ! (look_at ! 0 refl) $ free_all ! refl $
    keep ! (4 ∷ 1 ∷ 0 ∷ 2 ∷ 8 ∷ 6 ∷ []) $
    let Both : List ℕ → ℕ → ℕ → Fml = λ z i j. follows_both Rg (Array u8 0) (Array u8 0) self.ghost_name s.0.ghost_name s.1.ghost_name (λ v w. record self.now { bytes = fitted self.now.bytes (put (put z i v) j w) }) in
    use2 𝓛 (‵ (Both r.now p.at q.at)) (follows_on 𝓛 Rg self.ghost_name r.ghost_name s.0.ghost_name s.1.ghost_name (λ w. record self.now { bytes = fitted self.now.bytes w }) (λ v w. put (put r.now p.at v) q.at w)) $
    rewrite ! 0 (λ (z : List ℕ). ‵ (Both z p.at q.at)) rb refl $ rewrite ! 0 (λ (i : ℕ). ‵ (Both self.now.bytes i q.at)) pa refl $ rewrite ! 0 (λ (j : ℕ). ‵ (Both self.now.bytes (512 * x.now.start) j)) qa refl $
    suffices ! _ (ends_at 𝓛 f.ended stayed c yy v₄ s (tt, (tt, (tt, tt))) (tt, (tt, (tt, tt)))) $
    move ! (1 ∷ []) $ nothing ! $ nothing ! $ fjoin ! $ nothing ! $ fjoin ! $ nothing ! $ fjoin ! $ join ! $
    nothing ! $ move ! (5 ∷ 0 ∷ []) $ join ! $ move ! (4 ∷ 0 ∷ []) $ join ! $ move ! (3 ∷ 0 ∷ []) $ join ! $ join ! $ frame ! $
    says ! (s₁ ∙ same_range r.now self.now.bytes p.at p.len (512 * x.now.start) x.now.len rb pa pn, s₂ ∙ same_range r.now self.now.bytes q.at q.len (512 * y.now.start) y.now.len rb qa qn) $ done !)))))))))))))))))))))))))))))))

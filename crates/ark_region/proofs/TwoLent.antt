-- Two parts of a slice of bytes are lent at once, and the slice follows them.
use Rattle.std.proofs.Common.{◌≡◌, ◌≤◌, ◌+◌, ◌-◌, ◌++◌, ℕ, List, [], ◌∷◌, length, take, drop, refl, sym, ap, ◌∙◌, arith, slice_range, inl, inr}
use Rattle.std.specs.Prelude.{◌⊎◌}
use seplogic.Ra.Ura.{Ura}
use mir.Syntax.{Lifetime}
use mir.Val.{Val}
use base.Logic.{SProp, ent, sep, ex}
use base.Stored.{coded_list}
use base.Fml.{Lft, GName, Share, flft, fobs, fbor}
use types.Logic.{Logic, sem}
use types.Kit.{‵, raw, ◌⊛◌, some, later, ◌$◌, ◌∵◌, !, qed, by, move, drop as drop_entry, use1, use2, split, split3, join, group, pick, rewrite, fsplit, fsplit3, fjoin, feq_l, feq_i, show, await, updating, now, done}
use types.SemTy.{SemTy, cells, Arr, Body}
use types.Mut.{open_ref}
use types.Follow.{after₂, takes_two}
use denote.Memory.{mem}
use denote.Slice.{MutSlice, Room, slice_val}
use denote.Builtin.{u8}
use denote.FollowSlice.{heres_id, slice_of}
use borrow.Table.Elements.{at, at_byte, cut_app, join_app}
use Rattle.ark_region.specs.Frames.{put}
use Rattle.std.proofs.lemmas.List.{length-take-le}
use Rattle.ark_region.proofs.Cuts.{second_first, fourth_first, five, range_long, put_long}

module _ {M : Type 1} {𝓤 : Ura M} (𝓛 : Logic 𝓤) where
  open 𝓛 use {H, A}

  abbrev B : SemTy
  B = mem u8

  pub cut : (xs ys : List ℕ) (b o p : ℕ) → length xs + o ≡ p → ent 𝓤 (sem 𝓛 (cells B (xs ++ ys) b o)) (sep 𝓤 (sem 𝓛 (cells B xs b o)) (sem 𝓛 (cells B ys b p)))
  cut xs ys b o p e =
      qed 𝓛 (‵ (cells B (xs ++ ys) b o) ∷ []) ∵
      use1 𝓛 (‵ (cells B xs b o) ⊛ ‵ (cells B ys b (at o B.size (length xs)))) (cut_app 𝓛 B xs ys b o) $ split ! $
      rewrite ! 1 (λ (k : ℕ). ‵ (cells B ys b k)) (at_byte o (length xs) ∙ e) refl $ join ! $ done !

  glue : (xs ys : List ℕ) (b o p : ℕ) → length xs + o ≡ p → ent 𝓤 (sep 𝓤 (sem 𝓛 (cells B xs b o)) (sem 𝓛 (cells B ys b p))) (sem 𝓛 (cells B (xs ++ ys) b o))
  glue xs ys b o p e =
      qed 𝓛 (‵ (cells B xs b o) ∷ ‵ (cells B ys b p) ∷ []) ∵
      rewrite ! 1 (λ (k : ℕ). ‵ (cells B ys b k)) (sym (at_byte o (length xs) ∙ e)) refl $ by ! (join_app 𝓛 B xs ys b o)

  -- five parts, of which the second and the fourth are taken out and put back
  module _ (a x f y c : List ℕ) (b o : ℕ) where
    abbrev ox : ℕ
    ox = length a + o

    abbrev of : ℕ
    of = length x + (length a + o)

    abbrev oy : ℕ
    oy = length f + (length x + (length a + o))

    abbrev oc : ℕ
    oc = length y + (length f + (length x + (length a + o)))

    abbrev Others : SProp 𝓤
    Others = sep 𝓤 (sem 𝓛 (cells B a b o)) (sep 𝓤 (sem 𝓛 (cells B f b of)) (sem 𝓛 (cells B c b oc)))

    taken : ent 𝓤 (sem 𝓛 (cells B (a ++ (x ++ (f ++ (y ++ c)))) b o)) (sep 𝓤 (sem 𝓛 (cells B x b ox)) (sep 𝓤 (sem 𝓛 (cells B y b oy)) Others))
    taken =
        qed 𝓛 (‵ (cells B (a ++ (x ++ (f ++ (y ++ c)))) b o) ∷ []) ∵
        use1 𝓛 (‵ (cells B a b o) ⊛ ‵ (cells B (x ++ (f ++ (y ++ c))) b ox)) (cut a (x ++ (f ++ (y ++ c))) b o ox refl) $ split ! $ move ! (1 ∷ []) $
        use1 𝓛 (‵ (cells B x b ox) ⊛ ‵ (cells B (f ++ (y ++ c)) b of)) (cut x (f ++ (y ++ c)) b ox of refl) $ split ! $ move ! (1 ∷ []) $
        use1 𝓛 (‵ (cells B f b of) ⊛ ‵ (cells B (y ++ c) b oy)) (cut f (y ++ c) b of oy refl) $ split ! $ move ! (1 ∷ []) $
        use1 𝓛 (‵ (cells B y b oy) ⊛ ‵ (cells B c b oc)) (cut y c b oy oc refl) $ split ! $
        move ! (3 ∷ 0 ∷ 4 ∷ 2 ∷ 1 ∷ []) $ group ! 5 $ done !

    put_back : (v w : List ℕ) → length v ≡ length x → length w ≡ length y
        → ent 𝓤 (sep 𝓤 (sem 𝓛 (cells B v b ox)) (sep 𝓤 (sem 𝓛 (cells B w b oy)) Others)) (sem 𝓛 (cells B (a ++ (v ++ (f ++ (w ++ c)))) b o))
    put_back v w e g =
        qed 𝓛 (‵ (cells B v b ox) ∷ ‵ (cells B w b oy) ∷ ‵ (cells B a b o) ∷ ‵ (cells B f b of) ∷ ‵ (cells B c b oc) ∷ []) ∵
        move ! (1 ∷ 4 ∷ []) $ use2 𝓛 (‵ (cells B (w ++ c) b oy)) (glue w c b oy oc (ap (λ (k : ℕ). k + oy) g)) $
        move ! (3 ∷ 0 ∷ []) $ use2 𝓛 (‵ (cells B (f ++ (w ++ c)) b of)) (glue f (w ++ c) b of oy refl) $
        move ! (1 ∷ 0 ∷ []) $ use2 𝓛 (‵ (cells B (v ++ (f ++ (w ++ c))) b ox)) (glue v (f ++ (w ++ c)) b ox of (ap (λ (k : ℕ). k + ox) e)) $
        move ! (1 ∷ 0 ∷ []) $ by ! (glue a (v ++ (f ++ (w ++ c))) b o ox refl)

  -- the parts of n bytes from i on and of m bytes from j on, of which none is in both
  module _ (xs : List ℕ) (i n j m b o : ℕ) (fi : i + n ≤ length xs) (fj : j + m ≤ length xs) where
    abbrev pub first : List ℕ
    first = slice_range xs i (i + n)

    abbrev pub second : List ℕ
    second = slice_range xs j (j + m)

    abbrev pub ends : List ℕ → List ℕ → List ℕ
    ends v w = put (put xs i v) j w

    pub first_long : length first ≡ n
    first_long = let e = range_long xs i (i + n) (omega arith) fi in omega (arith, e)

    pub second_long : length second ≡ m
    second_long = let e = range_long xs j (j + m) (omega arith) fj in omega (arith, e)

    -- what is left of the slice beside the two parts, and how they come out and go back
    pub record Apart : Type 2 where
      pub Rest : SProp 𝓤
      pub out : ent 𝓤 (sem 𝓛 (cells B xs b o)) (sep 𝓤 (sem 𝓛 (cells B first b (i + o))) (sep 𝓤 (sem 𝓛 (cells B second b (j + o))) Rest))
      pub back : (v w : List ℕ) → length v ≡ length first → length w ≡ length second
          → ent 𝓤 (sep 𝓤 (sem 𝓛 (cells B v b (i + o))) (sep 𝓤 (sem 𝓛 (cells B w b (j + o))) Rest)) (sem 𝓛 (cells B (ends v w) b o))

    in_order : i + n ≤ j → Apart
    in_order h =
        let a = take i xs in let f = slice_range xs (i + n) j in let c = drop (j + m) xs in
        let whole = five xs i n j m h in
        let la : length a ≡ i = length-take-le i xs (omega arith) in
        let lf : length f ≡ j - (i + n) = range_long xs (i + n) j h (omega arith) in
        let ex : length a + o ≡ i + o = omega (arith, la) in
        let ey : length f + (length first + (length a + o)) ≡ j + o = (let l = first_long in omega (arith, la, lf, l)) in
        record {
          Rest = Others a first f second c b o;
          out =
              qed 𝓛 (‵ (cells B xs b o) ∷ []) ∵ rewrite ! 0 (λ (l : List ℕ). ‵ (cells B l b o)) whole refl $
              use1 𝓛 (‵ (cells B first b (ox a first f second c b o)) ⊛ ‵ (cells B second b (oy a first f second c b o)) ⊛ raw (Others a first f second c b o)) (taken a first f second c b o) $ split3 ! $
              rewrite ! 0 (λ (k : ℕ). ‵ (cells B first b k)) ex refl $ rewrite ! 1 (λ (k : ℕ). ‵ (cells B second b k)) ey refl $ group ! 3 $ done !;
          back = λ v w lv lw.
              qed 𝓛 (‵ (cells B v b (i + o)) ∷ ‵ (cells B w b (j + o)) ∷ raw (Others a first f second c b o) ∷ []) ∵
              rewrite ! 0 (λ (k : ℕ). ‵ (cells B v b k)) (sym ex) refl $ rewrite ! 1 (λ (k : ℕ). ‵ (cells B w b k)) (sym ey) refl $ group ! 3 $
              use1 𝓛 (‵ (cells B (a ++ (v ++ (f ++ (w ++ c)))) b o)) (put_back a first f second c b o v w lv lw) $
              rewrite ! 0 (λ (l : List ℕ). ‵ (cells B l b o)) (sym (ap (λ z. put (put z i v) j w) whole ∙ second_first a first f second c v w i j la (let l = first_long in omega (arith, la, lf, l)) lv lw)) refl $ done !;
        }

    turned : j + m ≤ i → Apart
    turned h =
        let a = take j xs in let f = slice_range xs (j + m) i in let c = drop (i + n) xs in
        let whole = five xs j m i n h in
        let la : length a ≡ j = length-take-le j xs (omega arith) in
        let lf : length f ≡ i - (j + m) = range_long xs (j + m) i h (omega arith) in
        let ex : length a + o ≡ j + o = omega (arith, la) in
        let ey : length f + (length second + (length a + o)) ≡ i + o = (let l = second_long in omega (arith, la, lf, l)) in
        record {
          Rest = Others a second f first c b o;
          out =
              qed 𝓛 (‵ (cells B xs b o) ∷ []) ∵ rewrite ! 0 (λ (l : List ℕ). ‵ (cells B l b o)) whole refl $
              use1 𝓛 (‵ (cells B second b (ox a second f first c b o)) ⊛ ‵ (cells B first b (oy a second f first c b o)) ⊛ raw (Others a second f first c b o)) (taken a second f first c b o) $ split3 ! $
              rewrite ! 0 (λ (k : ℕ). ‵ (cells B second b k)) ex refl $ rewrite ! 1 (λ (k : ℕ). ‵ (cells B first b k)) ey refl $ move ! (1 ∷ 0 ∷ 2 ∷ []) $ group ! 3 $ done !;
          back = λ v w lv lw.
              qed 𝓛 (‵ (cells B v b (i + o)) ∷ ‵ (cells B w b (j + o)) ∷ raw (Others a second f first c b o) ∷ []) ∵
              rewrite ! 0 (λ (k : ℕ). ‵ (cells B v b k)) (sym ey) refl $ rewrite ! 1 (λ (k : ℕ). ‵ (cells B w b k)) (sym ex) refl $ move ! (1 ∷ 0 ∷ 2 ∷ []) $ group ! 3 $
              use1 𝓛 (‵ (cells B (a ++ (w ++ (f ++ (v ++ c)))) b o)) (put_back a second f first c b o w v lw lv) $
              rewrite ! 0 (λ (l : List ℕ). ‵ (cells B l b o)) (sym (ap (λ z. put (put z i v) j w) whole ∙ fourth_first a second f first c w v j i la (let l = second_long in omega (arith, la, lf, l)) lw lv)) refl $ done !;
        }

    pub apart_in : (i + n ≤ j) ⊎ (j + m ≤ i) → Apart
    apart_in (inl h) = in_order h
    apart_in (inr h) = turned h

    ends_long : (v w : List ℕ) → length v ≡ length first → length w ≡ length second → length (ends v w) ≡ length xs
    ends_long v w lv lw =
        let l = first_long in let r = second_long in
        let e = put_long xs v i (omega (arith, lv, l)) in
        put_long (put xs i v) w j (omega (arith, lw, r, e)) ∙ e

    -- a slice lends both
    module _ (p : Apart) (ℓ : Lifetime) (κ : Lft) (q : Share) (γ : GName) (room : Room u8 (length xs)) where
      abbrev L : ℕ → SemTy
      L k = Arr B k

      back_whole : (v w : List ℕ) → ent 𝓤 (sep 𝓤 (sem 𝓛 ((L (length first)).own_at v b (i + o))) (sep 𝓤 (sem 𝓛 ((L (length second)).own_at w b (j + o))) p.Rest)) (sem 𝓛 ((L (length xs)).own_at (ends v w) b o))
      back_whole v w =
          qed 𝓛 (‵ ((L (length first)).own_at v b (i + o)) ∷ ‵ ((L (length second)).own_at w b (j + o)) ∷ raw p.Rest ∷ []) ∵
          fsplit ! $ feq_l ! (λ e. move ! (1 ∷ []) $ fsplit ! $ feq_l ! (λ f. move ! (1 ∷ 0 ∷ 2 ∷ []) $ group ! 3 $
          use1 𝓛 (‵ (cells B (ends v w) b o)) (p.back v w e f) $
          feq_i ! ℕ (length (ends v w)) (length xs) (ends_long v w e f) $ fjoin ! $ done !))

      abbrev pub Two : GName × GName → SProp 𝓤
      Two γs = sep 𝓤 (sem 𝓛 ((MutSlice ℓ κ u8).own_val (record { ref_ptr = (b, i + o); ghost_name = γs.0; now = first }) (slice_val (b, i + o) (length first) ∷ [])))
          (sep 𝓤 (sem 𝓛 ((MutSlice ℓ κ u8).own_val (record { ref_ptr = (b, j + o); ghost_name = γs.1; now = second }) (slice_val (b, j + o) (length second) ∷ []))) (sep 𝓤 (A.lft κ q) (sem 𝓛 (after₂ (L 0) (L 0) (L 0) γ γs.0 γs.1 ends))))

      pub lends_both : (vs : List Val) → ent 𝓤 (sep 𝓤 (sem 𝓛 ((MutSlice ℓ κ u8).own_val (record { ref_ptr = (b, o); ghost_name = γ; now = xs }) vs)) (A.lft κ q)) (H.⇛ (ex 𝓤 Two))
      lends_both vs =
          let l = first_long in let r = second_long in
          let r₁ : Room u8 (length first) = (omega (arith, room, l), omega (arith, room, l)) in
          let r₂ : Room u8 (length second) = (omega (arith, room, r), omega (arith, room, r)) in
          qed 𝓛 (‵ ((MutSlice ℓ κ u8).own_val (record { ref_ptr = (b, o); ghost_name = γ; now = xs }) vs) ∷ ‵ (flft κ q) ∷ []) ∵ updating ! $ fsplit3 ! $ drop_entry ! $
          rewrite ! 0 (λ (l : List ℕ). ‵ (fobs γ ((coded_list u8.coded).code l))) (heres_id u8 xs) refl $ open_ref ! tt (L (length xs)) {b = b} {o = o} $ fsplit ! $ drop_entry ! $
          use1 𝓛 (‵ (cells B first b (i + o)) ⊛ ‵ (cells B second b (j + o)) ⊛ raw p.Rest) p.out $ split3 ! $
          feq_i ! ℕ (length first) (length first) refl $ fjoin ! $ move ! (1 ∷ []) $ feq_i ! ℕ (length second) (length second) refl $ fjoin ! $ move ! (3 ∷ 4 ∷ 5 ∷ 1 ∷ 0 ∷ 2 ∷ []) $ group ! 6 $
          use1 𝓛 (later (some (λ (γs : GName × GName). (‵ (fobs γs.0 ((coded_list u8.coded).code first)) ⊛ ‵ (fbor κ (Body (L (length first)) b (i + o) γs.0))) ⊛ (‵ (fobs γs.1 ((coded_list u8.coded).code second)) ⊛ ‵ (fbor κ (Body (L (length second)) b (j + o) γs.1)))
          ⊛ ‵ (flft κ q) ⊛ ‵ (after₂ (L 0) (L 0) (L 0) γ γs.0 γs.1 ends))))
          (takes_two 𝓛 (L (length xs)) (L (length first)) (L (length second)) ends κ q b o b (i + o) b (j + o) γ p.Rest back_whole ((coded_list u8.coded).code xs) ((coded_list u8.coded).code xs) first second) $ await ! tt $ pick ! (λ γs. split3 ! $
          use1 𝓛 (‵ ((MutSlice ℓ κ u8).own_val (record { ref_ptr = (b, i + o); ghost_name = γs.0; now = first }) (slice_val (b, i + o) (length first) ∷ []))) (slice_of 𝓛 u8 ℓ κ b (i + o) γs.0 first r₁) $ move ! (1 ∷ []) $
          use1 𝓛 (‵ ((MutSlice ℓ κ u8).own_val (record { ref_ptr = (b, j + o); ghost_name = γs.1; now = second }) (slice_val (b, j + o) (length second) ∷ []))) (slice_of 𝓛 u8 ℓ κ b (j + o) γs.1 second r₂) $ move ! (1 ∷ 0 ∷ []) $ now ! $ show ! Two γs $ done !)

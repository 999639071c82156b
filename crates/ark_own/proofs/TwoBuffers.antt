-- Two buffers, as words on the bytes of both come to their rows.
use Rattle.std.proofs.Common.{◌≡◌, ℕ, ◌<◌, ◌≤◌, true, not, nat_lt, List, [], ◌∷◌, length, refl, sym, ◌∙◌, ap, subst}
use Rattle.std.specs.Prelude.{Some, None, Result, Ok, Err, is_none, ◌||◌}
use Rattle.ark_base.specs.Conditions.{Conditions, none, early}
use Rattle.ark_base.specs.declared.refusal.Refusal.{Refusal}
use Rattle.ark_base.specs.declared.refusal.Refusal.TheVariants as r
use Rattle.ark_media.specs.Calls.{Told}
use Rattle.ark_script.specs.declared.said.Said.TheVariants as said
use Rattle.ark_region.specs.Frames.{Piece}
use Rattle.ark_objects.specs.Held.{at as slot}
use Rattle.ark_machine.specs.Machine.{Machine, buffer_at, bytes_at, missing}
use Rattle.ark_machine.specs.Buffers.{is_lent}
use Rattle.ark_machine.specs.Row.{Row, Given, answer}
use Rattle.ark_held.specs.Around.{Around}
use Rattle.ark_held.specs.Held.{Holds}
use Rattle.ark_held.specs.Beyond.{Beyond, around}
use Rattle.ark_held.specs.Does.{Acts}
use Rattle.ark_held.specs.declared.app.App.{App}
use Rattle.ark_held.specs.declared.buffer.Buffer as kept
use Rattle.ark_held.proofs.Lists.{lt_true, lt_false}
use Rattle.ark_held.proofs.Doing.{refused_first, refuses}
use Rattle.ark_own.specs.Keys.{buffer_key, both_keys}
use Rattle.ark_own.proofs.Looked.{each_key}
use Rattle.ark_own.proofs.OfBuffers.{FoundAs, found_buffer, its, never_gone, len_same, lent_same}

-- the conditions of a word on the first buffer's bytes up to `near`, and the second one's up to `far`
abbrev pub conditions : Machine → List ℕ → List ℕ → ℕ → ℕ → Conditions
conditions m b c near far = record none {
  no_application = not m.made;
  no_grant = missing m (b ∷ c ∷ []);
  wrong_kind = is_none (buffer_at m b) || is_none (buffer_at m c);
  out_of_range = nat_lt (length (bytes_at m b)) near || nat_lt (length (bytes_at m c)) far;
  lent = is_lent m b || is_lent m c;
}

-- why there are not both buffers
abbrev Refuses : Machine → List ℕ → List ℕ → ℕ → ℕ → Result (ℕ × ℕ) Refusal → Type 0
Refuses m b c near far (Ok keys) = Unit {0}
Refuses m b c near far (Err e) = early (conditions m b c near far) ≡ Some e

why : (x : Around) (b c : List ℕ) (near far : ℕ) → x.machine.made ≡ true → (p q : Result ℕ Refusal) → FoundAs x b p → FoundAs x c q → Refuses x.machine b c near far (both_keys p q)
why x b c near far made (Ok k) (Ok j) p q = tt
why x b c near far made (Ok k) (Err (r.NoGrant l)) p q = rw (q.0, made, p.there, q.1) refl
why x b c near far made (Ok k) (Err r.WrongKind) p q = rw (made, p.there, q.1, p.object, q.2) refl
why x b c near far made (Ok k) (Err _) p q = absurd q
why x b c near far made (Err (r.NoGrant l)) (Ok j) p q = rw (p.0, made, p.1) refl
why x b c near far made (Err (r.NoGrant l)) (Err f) p q = rw (p.0, made, p.1) refl
why x b c near far made (Err r.WrongKind) (Ok j) p q = rw (made, p.1, q.there, p.2) refl
why x b c near far made (Err r.WrongKind) (Err (r.NoGrant l)) p q = rw (q.0, made, p.1, q.1) refl
why x b c near far made (Err r.WrongKind) (Err r.WrongKind) p q = rw (made, p.1, q.1, p.2) refl
why x b c near far made (Err r.WrongKind) (Err _) p q = absurd q
why x b c near far made (Err _) q p s = absurd p

-- A word with these conditions.
module _ (t : Told) (app : App) (b c : List ℕ) (near far : ℕ) (row rest : Machine → Given → Row) (is_row : (m : Machine) (g : Given) → row m g ≡ answer m (conditions m b c near far) (rest m g)) where
  refused : (e : Refusal) → ((y : Beyond) → Holds (around y app) → early (conditions y.machine b c near far) ≡ Some e) → Acts t app app row [] (said.Refused e) []
  refused e first = refuses t app row e (λ y g sited h. is_row y.machine g ∙ refused_first y.machine (conditions y.machine b c near far) (rest y.machine g) e (first y h))

  pub no_keys : (e : Refusal) → Err e ≡ both_keys (buffer_key app.labels b) (buffer_key app.labels c) → Acts t app app row [] (said.Refused e) []
  no_keys e is = refused e (λ y h.
      subst (λ (z : Result (ℕ × ℕ) Refusal). Refuses y.machine b c near far z) (sym is)
      (why (around y app) b c near far h.made (buffer_key app.labels b) (buffer_key app.labels c) (found_buffer (around y app) b h _ refl) (found_buffer (around y app) c h _ refl)))

  module _ (j k : ℕ) (keys : Ok (j, k) ≡ both_keys (buffer_key app.labels b) (buffer_key app.labels c)) where
    pub first_is : Ok j ≡ buffer_key app.labels b
    first_is = (each_key j k _ _ keys).0

    pub second_is : Ok k ≡ buffer_key app.labels c
    second_is = (each_key j k _ _ keys).1

    pub no_first : (e : Refusal) → slot app.store.buffers j ≡ None → Acts t app app row [] (said.Refused e) []
    no_first e gone = refused e (λ y h. absurd (never_gone app b j first_is y h gone))

    pub no_second : (e : Refusal) → slot app.store.buffers k ≡ None → Acts t app app row [] (said.Refused e) []
    no_second e gone = refused e (λ y h. absurd (never_gone app c k second_is y h gone))

    module _ (one two : kept.Buffer) (here : slot app.store.buffers j ≡ Some one) (there : slot app.store.buffers k ≡ Some two) where
      -- its conditions, by what the table keeps
      kept_conditions : (y : Beyond) → Holds (around y app)
          → conditions y.machine b c near far ≡ record none { out_of_range = nat_lt one.len near || nat_lt two.len far; lent = is_none one.buf || is_none two.buf }
      kept_conditions y h =
          let p = its app b j first_is y h in
          let q = its app c k second_is y h in
          let len = len_same app b j first_is one here y p in
          let size = len_same app c k second_is two there y q in
          let lent = lent_same app b j first_is one here y p in
          let away = lent_same app c k second_is two there y q in
          rw (h.made, p.there, q.there, p.object, q.object, len, size, lent, away) refl

      pub past_first : one.len < near → Acts t app app row [] (said.Refused r.OutOfRange) []
      past_first short = refused r.OutOfRange (λ y h. let past = lt_true one.len near short in ap early (kept_conditions y h) ∙ rw past refl)

      module _ (enough : near ≤ one.len) where
        pub past_second : two.len < far → Acts t app app row [] (said.Refused r.OutOfRange) []
        past_second short = refused r.OutOfRange (λ y h.
            let within = lt_false one.len near enough in
            let past = lt_true two.len far short in
            ap early (kept_conditions y h) ∙ rw (within, past) refl)

        module _ (fits : far ≤ two.len) where
          -- inside both, what is lent decides
          both_inside : (y : Beyond) → Holds (around y app) → early (conditions y.machine b c near far) ≡ early (record none { lent = is_none one.buf || is_none two.buf })
          both_inside y h =
              let within = lt_false one.len near enough in
              let too = lt_false two.len far fits in
              ap early (kept_conditions y h) ∙ rw (within, too) refl

          pub first_away : one.buf ≡ None → Acts t app app row [] (said.Refused r.Lent) []
          first_away gone = refused r.Lent (λ y h. both_inside y h ∙ rw gone refl)

          module _ (piece : Piece) (right : one.buf ≡ Some piece) where
            pub second_away : two.buf ≡ None → Acts t app app row [] (said.Refused r.Lent) []
            second_away gone = refused r.Lent (λ y h. both_inside y h ∙ rw (right, gone) refl)

            -- nothing refuses it
            pub done : (y : Beyond) (g : Given) → Holds (around y app) → (other : Piece) → two.buf ≡ Some other → row y.machine g ≡ rest y.machine g
            unfolding answer
            done y g h other its_right =
                let none : early (conditions y.machine b c near far) ≡ None = both_inside y h ∙ rw (right, its_right) refl in
                is_row y.machine g ∙ rw none refl

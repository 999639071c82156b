-- Where in its area the blocks of a descriptor lie.
use Rattle.std.specs.Prelude.{ℕ, Bool, zero, suc, ◌+◌, ◌-◌, ◌%◌, ◌==◌, ◌&&◌, not, nat_lt, nat_le, if◌then◌else◌}

-- The place behind place p in an area of n blocks. Behind the last comes `wrap`, unless that is 0.
abbrev pub next_place : ℕ → ℕ → ℕ → ℕ
next_place n wrap p = if p + 1 == n && not (wrap == 0) then wrap else p + 1

-- the place of block k, from one to the next
abbrev pub place_after : ℕ → ℕ → ℕ → ℕ → ℕ
place_after n wrap first zero = first
place_after n wrap first (suc k) = next_place n wrap (place_after n wrap first k)

-- whether block k lies behind the area's last block, where those behind it wrap
abbrev pub is_wrapped : ℕ → ℕ → ℕ → ℕ → Bool
is_wrapped n wrap first k = nat_lt first n && (nat_le n (first + k) && not (wrap == 0))

-- the same in closed form: what passes the last block goes round in those from `wrap` on
abbrev pub place_of : ℕ → ℕ → ℕ → ℕ → ℕ
place_of n wrap first k = if is_wrapped n wrap first k then wrap + (first + k - n) % (n - wrap) else first + k

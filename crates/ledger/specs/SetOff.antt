-- Initial margins of one series and their set-off: r is the rate, vs are the net volumes of the members by seat.
use Rattle.std.specs.Prelude.{ℕ, ◌-◌, ◌*◌, Bool, cond, not, ◌&&◌, List, map, length, get_or, ℤ, pos, ◌==◌, nat_lt, slice_index, slice_index_or, unsigned_abs}
use Rattle.std.specs.Int.Signed.{non_neg}
use Rattle.sharing.specs.Lists.{total, made}
use Rattle.sharing.specs.Sharing.{shares}
use Rattle.ledger.specs.Sums.{total_ℤ}

-- margin before set-off, in units
abbrev pub margin_before : ℕ → ℤ → ℕ
margin_before r v = 5 * (r * unsigned_abs v)

-- the minor side: where the group's net volume g is not negative, the members with negative volumes; else the others
abbrev pub minor : ℤ → ℤ → Bool
minor g v = cond (non_neg g) (not (non_neg v)) (non_neg v)

-- the volume of a member on the minor side, and of one on the major side
abbrev pub minor_volume : ℤ → ℤ → ℕ
minor_volume g v = cond (minor g v) (unsigned_abs v) 0

abbrev pub major_volume : ℤ → ℤ → ℕ
major_volume g v = cond (minor g v) 0 (unsigned_abs v)

-- a minor member's surplus is four fifths of his margin
abbrev pub minor_surplus : ℕ → ℤ → ℤ → ℕ
minor_surplus r g v = cond (minor g v) (4 * (r * unsigned_abs v)) 0

-- the surplus of the whole minor side
abbrev pub spared : ℕ → List ℤ → ℕ
spared r vs = total (map (minor_surplus r (total_ℤ vs)) vs)

-- the major members share it by their volumes; a minor member weighs nothing, and so gets nothing
abbrev pub weights : List ℤ → List ℕ
weights vs = map (major_volume (total_ℤ vs)) vs

unfoldable pub major_share : ℕ → List ℤ → ℕ → ℕ
major_share r vs k = slice_index (shares (weights vs) (spared r vs)) k

-- what set-off takes off a member's margin: his surplus or his share
abbrev pub relief : ℕ → List ℤ → ℕ → ℕ
relief r vs k = let v = get_or vs k (pos 0) in cond (minor (total_ℤ vs) v) (minor_surplus r (total_ℤ vs) v) (major_share r vs k)

-- margin after set-off
abbrev pub margin_after : ℕ → List ℤ → ℕ → ℕ
margin_after r vs k = margin_before r (slice_index_or vs k (pos 0)) - relief r vs k

abbrev pub margins_after : ℕ → List ℤ → List ℕ
margins_after r vs = made (length vs) (margin_after r vs)

-- the sum of the margins before, and the margin of the group's net volume
abbrev pub gross_margin : ℕ → List ℤ → ℕ
gross_margin r vs = total (map (margin_before r) vs)

abbrev pub net_margin : ℕ → List ℤ → ℕ
net_margin r vs = margin_before r (total_ℤ vs)

-- a surplus to share, and no volume on the major side
abbrev pub no_volume : ℕ → List ℤ → Bool
no_volume r vs = nat_lt 0 (spared r vs) && total (weights vs) == 0

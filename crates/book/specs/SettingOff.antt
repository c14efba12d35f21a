-- The margins of one series as the book works them out: n is the number of members, k the place of one, seat k + 1.
use Rattle.std.specs.Prelude.{◌≡◌, ℕ, ◌+◌, ◌-◌, ◌*◌, true, false, cond, List, map, length, take, ℤ, pos, Ok, Err, Result, nat_lt, slice_index_or}
use Rattle.sharing.specs.declared.refusal.Refusal.{Refusal}
use Rattle.sharing.specs.declared.refusal.Refusal.TheVariants.{NoVolume}
use Rattle.sharing.specs.declared.claims.Claim.{Claim}
use Rattle.sharing.specs.declared.claims.Mwh.{Mwh}
use Rattle.sharing.specs.Lists.{made}
use Rattle.sharing.specs.Sharing.{shares}
use Rattle.ledger.specs.declared.lines.SetOffLine.{SetOffLine}
use Rattle.ledger.specs.Limits.{most_price, most_risk, most_volume}
use Rattle.ledger.specs.Sums.{total_ℤ}
use Rattle.ledger.specs.Ledger.{Row}
use Rattle.ledger.specs.SetOff.{margin_before, minor, minor_surplus, major_volume, spared, weights, margin_after, no_volume}
use Rattle.ledger.specs.Margins.{rate_of, volumes}
use Rattle.book.specs.declared.state.Position.{Position}
use Rattle.book.specs.declared.set_off.Margin.{Margin}

-- the rate of an MWh at most, in units, and a fifth of a member's margin
abbrev pub most_rate : ℕ
most_rate = most_price * most_risk

abbrev pub most_fifth : ℕ
most_fifth = most_rate * most_volume

-- what the margins in a series come from: the rate of an MWh, and the net volumes of the members by seat
pub record Terms : Type 0 where
  pub rate : ℕ
  pub volumes : List ℤ

abbrev pub terms_of : ℕ → Row → Terms
terms_of n s = record { rate = rate_of s; volumes = volumes n s }

abbrev pub volumes_held : List Position → List ℤ
volumes_held ps = map (λ p. p.volume) ps

-- a member's margin, before and after set-off
abbrev pub margin_of : Terms → ℕ → Margin
margin_of t k = record { before = margin_before t.rate (slice_index_or t.volumes k (pos 0)); after = margin_after t.rate t.volumes k }

abbrev pub no_margin : Margin
no_margin = record { before = 0; after = 0 }

-- the margins by seat; a seat with no member has none
abbrev pub seat_margin : Terms → ℕ → Margin
seat_margin t k = cond (nat_lt k (length t.volumes)) (margin_of t k) no_margin

abbrev pub margins_in : Terms → List Margin
margins_in t = made 8 (seat_margin t)

-- refused where there is a surplus to share and no volume on the major side
abbrev pub margins_by : Terms → Result (List Margin) Refusal
margins_by t = cond (no_volume t.rate t.volumes) (Err NoVolume) (Ok (margins_in t))

abbrev pub margins_found : ℕ → Row → Result (List Margin) Refusal
margins_found n s = margins_by (terms_of n s)

-- what a member holds on the major side, with nothing shared to it yet; net is the group's net volume
abbrev pub holding_with : ℤ → ℤ → ℕ → Claim Mwh
holding_with net volume k = record { seat = k + 1; weight = major_volume net volume; share = 0; unit = record {} }

abbrev pub holding_of : Terms → ℕ → Claim Mwh
holding_of t k = holding_with (total_ℤ t.volumes) (slice_index_or t.volumes k (pos 0)) k

-- the surplus is shared to the holdings of the members,
abbrev pub HoldShares : Terms → List (Claim Mwh) → Type 0
HoldShares t hs = map (λ h. h.share) (take (length t.volumes) hs) ≡ shares (weights t.volumes) (spared t.rate t.volumes)

-- or it is refused where there is no volume to share it by
abbrev pub SharesOut : Terms → Result (List (Claim Mwh)) Refusal → Type 0
SharesOut t (Ok hs) = (no_volume t.rate t.volumes ≡ false) × HoldShares t hs
SharesOut t (Err e) = (no_volume t.rate t.volumes ≡ true) × (e ≡ NoVolume)

-- what set-off takes off a margin, and the margin before and after it; share is what is shared to the member
abbrev pub relief_of : Terms → ℤ → ℕ → ℕ
relief_of t volume share = cond (minor (total_ℤ t.volumes) volume) (minor_surplus t.rate (total_ℤ t.volumes) volume) share

abbrev pub margin_with : Terms → ℤ → ℕ → Margin
margin_with t volume share = record { before = margin_before t.rate volume; after = margin_before t.rate volume - relief_of t volume share }

-- the line of a member
abbrev pub line_of : List Margin → ℕ → SetOffLine
line_of ms k = record { seat = k + 1; before = (slice_index_or ms k no_margin).before; after = (slice_index_or ms k no_margin).after }

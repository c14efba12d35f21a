-- How much a deal within its limits can move.
use Rattle.std.proofs.Common.{ℕ, ◌*◌, ◌≤◌, mul-le-mul}

pub volume_within : (lots size : ℕ) → lots ≤ 2000000 → size ≤ 8784 → lots * size ≤ 17568000000
volume_within lots size h k = mul-le-mul h k

pub cost_within : (volume price : ℕ) → volume ≤ 17568000000 → price ≤ 400000 → volume * price ≤ 7027200000000000
cost_within volume price h k = mul-le-mul h k

pub ruleset trade_limits = (volume_within, cost_within)

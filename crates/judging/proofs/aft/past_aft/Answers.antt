use Rattle.std.proofs.Common.{◌≡◌, ℕ, ◌+◌, ◌-◌, ◌<◌, [], reverse, length, Some, None, Option, MatchOption, IsSomeAnd, sym, ap, ◌∙◌, arith, rules}
use Rattle.std.specs.Option.{option_map}
use Rattle.std.proofs.lemmas.List.{length-reverse}
use Rattle.std.proofs.lemmas.Iterator.Adapters.{YieldsList-from_rev_slice}
use Rattle.kinds.specs.declared.house.House.{House}
use Rattle.kinds.specs.Direct.{aft_margin}
use Rattle.kinds.specs.Houses.{house_at}
use Rattle.kinds.specs.Tests.{below_zero}
use Rattle.kinds.proofs.Rows.{summary}
use Rattle.judging.specs.Spots.{spots, aft_kept}
use Rattle.judging.proofs.Passing.{Passes, all_last}
use Rattle.judging.proofs.Placing.{from_partings}
use Rattle.judging.proofs.Scanning.{past_within, tail_scan}
use Rattle.judging.proofs.Summing.{above_margin, least_above}
use Rattle.judging.proofs.aft.past_aft.Goals as goal

-- counted from the nose
turned : (n : ℕ) (o r : Option ℕ) (Q : ℕ → ℕ → Type 0) → ((k j : ℕ) → Q k j → j + k + 1 ≡ n) → MatchOption o (r ≡ None) (λ k. IsSomeAnd r (Q k)) → r ≡ option_map (λ k. n - k - 1) o
turned n None r Q says h = h
turned n (Some k) None Q says h = absurd h
turned n (Some k) (Some j) Q says h = let e = says k j h in let p : j ≡ n - k - 1 = omega arith in ap Some p

pub map-requires : goal.map-requires
map-requires c k is =
    let ss = c.args.stations.now in
    let past = c.first_past-past.ensures (λ s. s.aft) (reverse ss) (YieldsList-from_rev_slice ss cc).runs (λ x m called. search rules) in
    let within : k < length ss = omega (arith, past_within (λ s. s.aft) 0 0 k (reverse ss) (sym past ∙ is), length-reverse ss) in
    search rules

pub returns-then-is_broken : goal.returns-then-is_broken
returns-then-is_broken c whole =
    let ss = c.args.stations.now in
    let past = c.first_past-past.ensures (λ s. s.aft) (reverse ss) (YieldsList-from_rev_slice ss cc).runs (λ x m called. search rules) in
    turned (length ss) c.first_past-past.result c.map.result _ (λ k j q. search rules) c.map.ensures.cases
    ∙ ap (λ (o : Option ℕ). option_map (λ k. length ss - k - 1) o) past
    ∙ tail_scan ss whole.lawful whole.few

-- no aft margin is below 0
pub returns-else-is_broken : goal.returns-else-is_broken
returns-else-is_broken c whole =
    let ss = c.args.stations.now in
    let none = sym (c.if-is_broken.ensures ∙ ap (λ (h : House). below_zero h.load.aft) whole.sums) in
    sym (all_last aft_kept 0 (spots ss)
    (from_partings (Passes aft_kept) [] ss
    (λ f s b e. above_margin (aft_margin f s b) (least_above aft_margin ss (house_at 0 ss).load.aft (summary 0 ss).aft none f s b e))))

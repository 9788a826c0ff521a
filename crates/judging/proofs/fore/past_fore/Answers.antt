use Rattle.std.proofs.Common.{[], sym, ap, ◌∙◌, rules}
use Rattle.std.proofs.lemmas.Iterator.{YieldsList-from_slice}
use Rattle.kinds.specs.declared.house.House.{House}
use Rattle.kinds.specs.Direct.{fore_margin}
use Rattle.kinds.specs.Houses.{house_at}
use Rattle.kinds.specs.Tests.{below_zero}
use Rattle.kinds.proofs.Rows.{summary}
use Rattle.judging.specs.Spots.{spots, fore_kept}
use Rattle.judging.proofs.Passing.{Passes, all_first}
use Rattle.judging.proofs.Placing.{from_partings}
use Rattle.judging.proofs.Scanning.{nose_scan}
use Rattle.judging.proofs.Summing.{above_margin, least_above}
use Rattle.judging.proofs.fore.past_fore.Goals as goal

pub returns-then-is_broken : goal.returns-then-is_broken
returns-then-is_broken c whole =
    let ss = c.args.stations.now in
    c.first_past.ensures (λ s. s.fore) ss (YieldsList-from_slice ss cc).runs (λ x m called. search rules) ∙ nose_scan ss whole.lawful whole.few

-- no fore margin is below 0
pub returns-else-is_broken : goal.returns-else-is_broken
returns-else-is_broken c whole =
    let ss = c.args.stations.now in
    let none = sym (c.if-is_broken.ensures ∙ ap (λ (h : House). below_zero h.load.fore) whole.sums) in
    sym (all_first fore_kept 0 (spots ss)
    (from_partings (Passes fore_kept) [] ss
    (λ f s b e. above_margin (fore_margin f s b) (least_above fore_margin ss (house_at 0 ss).load.fore (summary 0 ss).fore none f s b e))))
